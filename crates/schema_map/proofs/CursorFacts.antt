-- The marks of a cursor, and what it walks.
use Rattle.std.proofs.Common.{◌≡◌, ℕ, suc, ◌+◌, ◌*◌, ◌^◌, ◌≤◌, Bool, true, false, if◌then◌else◌, List, [], ◌∷◌, Option, length, arith, refl, ap, sym, ◌∙◌}
use Rattle.std.proofs.lemmas.List.Sums.{sum_by-cons}
use Rattle.db_format.specs.Pages.{Pages, Test, also}
use Rattle.db_format.specs.Seen.{marked, open_count}
use Rattle.btree_page.specs.declared.kind.Family.{Family}
use Rattle.btree_model.specs.Finding.{Row, places}
use Rattle.btree_model.specs.Tree.{root_family, tree_walk}
use Rattle.btree_walk.specs.declared.cursor.Cursor.{Cursor}
use Rattle.btree_walk.specs.declared.cursor.Stage.{Stage}
use Rattle.btree_walk.specs.declared.cursor.Stage.TheVariants.{New, Inside, Stopped}
use Rattle.btree_walk.specs.Cursor.{IsCursorMade, IsCursorAt, IsAtStage, family_or, walked}
use Rattle.btree_walk.specs.Turn.{work}
use Rattle.btree_walk.specs.Causes.{IsMarked}
use Rattle.btree_model.proofs.FindingLemmas.{places-append}
use Rattle.space_map.proofs.TrunkLemmas.{also_front, marked_met}

pub work_made : (seen : List Bool) (root : ℕ) (asked : Option Family) (cursor : Cursor) → IsCursorMade root asked cursor → work seen cursor.path ≡ 2 ^ 21 * open_count seen
work_made seen root asked cursor made = ap (work seen) made.path ∙ (omega arith)

-- what a cursor walks
pub walked_is : (pages : Pages) (taken : Test) (cursor : Cursor) (root : ℕ) (asked : Option Family) → cursor.root ≡ root → cursor.asked ≡ asked
    → walked pages taken cursor ≡ tree_walk pages (family_or asked (root_family root (pages.page root))) taken root
walked_is pages taken cursor root asked same_root same_asked =
    ap (λ n. tree_walk pages (family_or cursor.asked (root_family n (pages.page n))) taken n) same_root
    ∙ ap (λ a. tree_walk pages (family_or a (root_family root (pages.page root))) taken root) same_asked

-- the pages that are marked
marked_by : (stage : Stage) (pages : Pages) (taken : Test) (given : List Row) (cursor : Cursor) (seen : Test) → IsAtStage stage pages taken given cursor seen
    → IsMarked (walked pages taken cursor) taken seen
marked_by New pages taken given cursor seen at = record { found = []; more = walked pages taken cursor; whole = refl; marks = at.marks }
marked_by Inside pages taken given cursor seen at =
    marked_met (walked pages taken cursor) at.walking.met _ taken seen
    (ap (λ family. tree_walk pages family taken cursor.root) (sym at.family) ∙ at.walking.stands.whole taken at.walking.unmarked) at.walking.marks
marked_by (Stopped d) pages taken given cursor seen at = at.1

pub at_marked : (pages : Pages) (taken : Test) (given : List Row) (cursor : Cursor) (seen : Test) → IsCursorAt pages taken given cursor seen → IsMarked (walked pages taken cursor) taken seen
at_marked pages taken given cursor seen at = marked_by cursor.stage pages taken given cursor seen at

-- marks that stay: no more pages are open
pub open_falls : (old new : List Bool) → length new ≡ length old → ((n : ℕ) → marked old n ≡ true → marked new n ≡ true) → open_count new ≤ open_count old
open_falls [] [] same kept = omega arith
open_falls [] (c ∷ new) same kept = absurd (omega arith)
open_falls (b ∷ old) [] same kept = absurd (omega arith)
open_falls (b ∷ old) (true ∷ new) same kept =
    let rest : open_count new ≤ open_count old = open_falls old new (omega arith) (λ n h. kept (suc n) h) in
    let e : open_count (true ∷ new) ≡ 0 + open_count new = sum_by-cons _ true new in
    let f : open_count (b ∷ old) ≡ (if b then 0 else 1) + open_count old = sum_by-cons _ b old in
    omega arith
open_falls (true ∷ old) (false ∷ new) same kept = let no : false ≡ true = kept 0 refl in cc
open_falls (false ∷ old) (false ∷ new) same kept =
    let rest : open_count new ≤ open_count old = open_falls old new (omega arith) (λ n h. kept (suc n) h) in
    let e : open_count (false ∷ new) ≡ 1 + open_count new = sum_by-cons _ false new in
    let f : open_count (false ∷ old) ≡ 1 + open_count old = sum_by-cons _ false old in
    omega arith

-- the last step of a walk opens no page again
pub passed_on : (pages : Pages) (taken : Test) (given : List Row) (cursor : Cursor) (seen later : List Bool) → IsCursorAt pages taken given cursor (marked seen)
    → marked later ≡ also (places (walked pages taken cursor)) taken → length later ≡ length seen → open_count later ≤ open_count seen
passed_on pages taken given cursor seen later at marks same =
    let is : IsMarked (walked pages taken cursor) taken (marked seen) = at_marked pages taken given cursor (marked seen) at in
    open_falls seen later same (λ n h.
    ap (λ t. t n) (marks ∙ ap (λ l. also l taken) (ap places is.whole ∙ places-append is.found is.more))
    ∙ also_front (places is.found) (places is.more) taken n (sym (ap (λ t. t n) is.marks) ∙ h))

pub first_falls : (b c : Bool) → (b ≡ true → c ≡ true) → (if c then 0 else 1) ≤ (if b then 0 else 1)
first_falls true true kept = omega arith
first_falls true false kept = let no : false ≡ true = kept refl in cc
first_falls false true kept = omega arith
first_falls false false kept = omega arith
