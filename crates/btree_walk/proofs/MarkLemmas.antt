-- Marks that are kept.
use Rattle.std.proofs.Common.{◌≡◌, ◌||◌, ◌==◌, ◌∙◌, Bool, true, false, IsTrue, ℕ, List, ap, refl}
use Rattle.std.specs.List.{list_any}
use Rattle.db_format.specs.Pages.{Test, also}
use Rattle.btree_walk.specs.Marks.{KeepsMarks}

or_last : (a b : Bool) → IsTrue b → IsTrue (a || b)
or_last true b h = refl
or_last false b h = h

pub keeps_also : (ns : List ℕ) (old new : Test) → new ≡ also ns old → KeepsMarks old new
keeps_also ns old new is n h = ap (λ t. t n) is ∙ or_last (list_any (λ m. m == n) ns) (old n) h
