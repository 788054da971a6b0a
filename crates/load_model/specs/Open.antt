-- The open pages of a loader, from the top level down to the leaf, as one list of steps: what stands on them, in order.
-- They are walked as if all of it stood on one page. That page has no number yet, so the rows on it count as rows of page 0.
use Rattle.std.specs.Prelude.{ℕ, zero, suc, List, [], ◌∷◌, ◌++◌}
use Rattle.btree_page.specs.declared.kind.Family.{Family}
use Rattle.db_format.specs.Pages.{Pages, nothing}
use Rattle.btree_model.specs.Finding.{Finding, place, leaf, entry, key, fault, refused}
use Rattle.btree_page.specs.Step.{Step}
use Rattle.btree_model.specs.Walk.{step, walk}

-- a step, and how many pages a path has at most from its child on
pub record Open : Type 0 where
  pub height : ℕ
  pub leads : Step

-- this many pages more
abbrev pub raise : ℕ → ℕ → ℕ
raise slack zero = slack
raise slack (suc h) = suc (raise slack h)

-- what a walk over these steps meets, where a path may have `slack` pages more than it has
abbrev pub open_found : Pages → Family → ℕ → List Finding → List Open → List Finding
open_found pages family slack met [] = []
open_found pages family slack met (o ∷ rest) =
    let found = step pages nothing (walk pages family nothing (raise slack o.height)) met 0 o.leads in
    found ++ open_found pages family slack (met ++ found) rest

-- steps of one page, at this height
abbrev pub at_height : ℕ → List Step → List Open
at_height h [] = []
at_height h (s ∷ rest) = record { height = h; leads = s } ∷ at_height h rest

-- findings, where it is not looked at on which page a row stands
abbrev pub plain : List Finding → List Finding
plain [] = []
plain (place n ∷ rest) = place n ∷ plain rest
plain (leaf n ∷ rest) = leaf n ∷ plain rest
plain (entry row ∷ rest) = entry (record { rowid = row.rowid; payload = row.payload; page = 0 }) ∷ plain rest
plain (key k ∷ rest) = key k ∷ plain rest
plain (fault d ∷ rest) = fault d ∷ plain rest
plain (refused n ∷ rest) = refused n ∷ plain rest
