-- Where a cursor is, as its callers see it.
use Rattle.std.proofs.Common.{◌≡◌, ◌+◌, ◌-◌, ◌≤◌, ℕ, Bool, true, false, List, [], ◌∷◌, ◌++◌, length, Option, Some, Result, Ok, Err, MatchResult, IfOk, arith, refl, ap, sym, subst, ◌∙◌}
use Rattle.std.proofs.lemmas.List.{append_assoc}
use Rattle.db_format.specs.Pages.{Pages, Test, also}
use Rattle.db_format.specs.Source.{no_pins}
use Rattle.btree_page.specs.declared.kind.Family.{Family}
use Rattle.btree_model.specs.Finding.{Row, Finding, places, entries, is_sound}
use Rattle.btree_model.specs.Rest.{rest, RestStands}
use Rattle.btree_model.specs.Tree.{root_family, tree, tree_walk}
use Rattle.btree_model.proofs.FindingLemmas.{entries-append}
use Rattle.btree_model.proofs.RestLemmas.{Stands-end, Stands-places}
use Rattle.btree_walk.specs.declared.cursor.Cursor.{Cursor}
use Rattle.btree_walk.specs.declared.cursor.Stage.TheVariants.{Inside}
use Rattle.btree_walk.specs.declared.error.WalkError.{WalkError}
use Rattle.btree_walk.specs.Causes.{IsAmong}
use Rattle.btree_walk.specs.Cursor.{IsAdvanced, IsCursorAt, IsAtStage, IsCursorBegun, IsEnd, IsCursorMade, IsNext, IsCursorReady, IsSameTree, IsSameWalk, IsWalking, family_or, given_then, row_of, walked, walked_family}
use Rattle.std.proofs.lemmas.List.Elements.{All-nil}
use Rattle.btree_walk.specs.Pins.{path_pins}
use Rattle.btree_walk.specs.Turn.{path_of}

-- ---- a cursor that was made

module _ (root : ℕ) (asked : Option Family) (cursor : Cursor) (made : IsCursorMade root asked cursor) where
  -- it is ready for a source without pins that has its root
  pub ready_made : (count : ℕ) (pins : ℕ → ℕ) (seen : List Bool) → 1 ≤ root → root ≤ count → length seen ≡ count + 1 → pins ≡ no_pins
      → IsCursorReady count pins seen cursor
  ready_made count pins seen low high marks unpinned =
      record {
        low = rw made.root_is low;
        high = rw made.root_is high;
        marks = marks;
        short = rw made.path (omega arith);
        pinned = unpinned ∙ ap path_pins (sym made.path);
        inside = rw made.path (All-nil _);
        begun = λ new. made.path;
        covered = rw made.last tt;
      }

  -- and before the first entry, whichever pages are marked
  pub at_made : (pages : Pages) (taken : Test) → IsCursorAt pages taken [] cursor taken
  at_made pages taken =
      subst (λ s. IsAtStage s pages taken [] cursor taken) (sym made.stage)
      (record { path = made.path; floor = made.floor; last = made.last; gave = refl; marks = refl })

-- ---- the walk goes on

module _ (pages : Pages) (taken : Test) (given : List Row) (cursor : Cursor) (seen : Test) (begun : IsCursorBegun pages taken given cursor seen) where
  pub of_family : walked pages taken cursor ≡ tree_walk pages cursor.family taken cursor.root
  of_family = ap (λ f. tree_walk pages f taken cursor.root) (sym begun.family)

  -- the entries of the walk are those that were given, and more
  pub given_first : (more : List Row) × (entries (walked pages taken cursor) ≡ given ++ more)
  given_first =
      let left : List Finding = rest pages cursor.family taken begun.walking.met (path_of pages cursor.family 20 [] cursor.path) in (
        entries left,
        ap entries (of_family ∙ begun.walking.stands.whole taken begun.walking.unmarked) ∙ entries-append begun.walking.met left
            ∙ ap (λ l. l ++ entries left) begun.walking.gave,
      )

  pub at_inside : cursor.stage ≡ Inside → IsCursorAt pages taken given cursor seen
  at_inside inside = subst (λ s. IsAtStage s pages taken given cursor seen) (sym inside) begun

  -- nothing is left
  pub at_end : cursor.stage ≡ Inside → cursor.path ≡ [] → IsEnd pages taken given cursor seen
  at_end inside done =
      let stands : RestStands pages cursor.family cursor.root begun.walking.met [] =
      subst (λ p. RestStands pages cursor.family cursor.root begun.walking.met (path_of pages cursor.family 20 [] p)) done begun.walking.stands
      in
      let all : walked pages taken cursor ≡ begun.walking.met =
      of_family ∙ Stands-places pages cursor.family cursor.root begun.walking.met taken stands begun.walking.unmarked
      in
      record {
        at = at_inside inside;
        sound = ap is_sound all ∙ stands.sound;
        whole = ap entries all ∙ begun.walking.gave;
        list =
            ap (λ f. tree pages f cursor.root) (sym begun.family) ∙ Stands-end pages cursor.family cursor.root begun.walking.met stands
            ∙ ap Some begun.walking.gave;
        marks = begun.walking.marks ∙ ap (λ l. also (places l) taken) (sym all);
      }

-- the next entry was given
pub at_next : (pages : Pages) (taken : Test) (given : List Row) (cursor : Cursor) (seen : Test) (row : Row)
    → IsCursorBegun pages taken (given ++ row ∷ []) cursor seen → cursor.stage ≡ Inside → IsNext pages taken given cursor seen row
at_next pages taken given cursor seen row begun inside =
    let first : (more : List Row) × (entries (walked pages taken cursor) ≡ (given ++ row ∷ []) ++ more) = given_first pages taken (given ++ row ∷ []) cursor seen begun in
    record {
      at = at_inside pages taken (given ++ row ∷ []) cursor seen begun inside;
      more = first.0;
      order = first.1 ∙ append_assoc given (row ∷ []) first.0;
    }

pub walked_same : (pages : Pages) (taken : Test) (old new : Cursor) → IsSameTree old new → walked pages taken new ≡ walked pages taken old
walked_same pages taken old new same =
    ap (λ r. tree_walk pages (family_or new.asked (root_family r (pages.page r))) taken r) same.root
    ∙ ap (λ a. tree_walk pages (family_or a (root_family old.root (pages.page old.root))) taken old.root) same.asked

-- what a walk came to is what its cursor came to
module _ {R : Type 0} (refuses : Pages → ℕ → R → Type 0) (pages : Pages) (taken : Test) (given : List Row) (old new : Cursor) (seen later : Test)
    (same : IsSameWalk old new) (inside : old.stage ≡ Inside) (begun : IsCursorBegun pages taken given old seen) where
  still_inside : new.stage ≡ Inside
  still_inside = same.stage ∙ inside

  same_tree : walked_family pages new ≡ walked_family pages old
  same_tree = ap (λ r. family_or new.asked (root_family r (pages.page r))) same.root ∙ ap (λ a. family_or a (root_family old.root (pages.page old.root))) same.asked

  still_begun : (rows : List Row) → IsWalking pages taken rows new later → IsCursorBegun pages taken rows new later
  still_begun rows walking = record { family = same.family ∙ begun.family ∙ sym same_tree; walking = walking }

  same_walk : tree_walk pages old.family taken old.root ≡ walked pages taken new
  same_walk =
      ap (λ f. tree_walk pages f taken old.root) (begun.family ∙ sym same_tree)
      ∙ ap (λ r. tree_walk pages (walked_family pages new) taken r) (sym same.root)

  pub advanced : (result : Result Bool (WalkError R))
      → MatchResult result (λ more. IsWalking pages taken (given_then given (row_of new) more) new later) (IsAmong refuses pages (tree_walk pages old.family taken old.root))
      → IfOk result (λ more. more ≡ false → new.path ≡ []) → IsAdvanced refuses pages taken given new later result
  advanced (Ok true) walking end = at_next pages taken given new later (row_of new) (still_begun (given ++ row_of new ∷ []) walking) still_inside
  advanced (Ok false) walking end = at_end pages taken given new later (still_begun given walking) still_inside (end refl)
  advanced (Err error) among end = subst (λ l. IsAmong refuses pages l error) same_walk among

-- ---- how much is left
