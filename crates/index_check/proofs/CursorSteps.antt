-- What a cursor walks, and how long.
use Rattle.std.proofs.Common.{◌≡◌, ℕ, ◌+◌, ◌*◌, ◌^◌, ◌≤◌, Bool, true, false, List, [], ◌∷◌, Option, length, arith, ap, ◌∙◌}
use Rattle.std.proofs.lemmas.List.Sums.{sum_by-cons}
use Rattle.db_format.specs.Pages.{Pages, Test}
use Rattle.db_format.specs.Seen.{open_count}
use Rattle.btree_page.specs.declared.kind.Family.{Family}
use Rattle.btree_model.specs.Tree.{root_family, tree_walk}
use Rattle.btree_walk.specs.declared.cursor.Cursor.{Cursor}
use Rattle.btree_walk.specs.Cursor.{IsCursorMade, family_or, walked}
use Rattle.btree_walk.specs.Turn.{work}

pub walked_is : (pages : Pages) (taken : Test) (cursor : Cursor) (root : ℕ) (asked : Option Family) → cursor.root ≡ root → cursor.asked ≡ asked
    → walked pages taken cursor ≡ tree_walk pages (family_or asked (root_family root (pages.page root))) taken root
walked_is pages taken cursor root asked same_root same_asked =
    ap (λ n. tree_walk pages (family_or cursor.asked (root_family n (pages.page n))) taken n) same_root
    ∙ ap (λ a. tree_walk pages (family_or a (root_family root (pages.page root))) taken root) same_asked

open_most : (marks : List Bool) → open_count marks ≤ length marks
open_most [] = omega arith
open_most (true ∷ marks) =
    let m : open_count marks ≤ length marks = open_most marks in
    let e : open_count (true ∷ marks) ≡ 0 + open_count marks = sum_by-cons _ true marks in
    omega arith
open_most (false ∷ marks) =
    let m : open_count marks ≤ length marks = open_most marks in
    let e : open_count (false ∷ marks) ≡ 1 + open_count marks = sum_by-cons _ false marks in
    omega arith

-- what is left of a walk that has not begun
pub work_first : (seen : List Bool) (root : ℕ) (asked : Option Family) (cursor : Cursor) → IsCursorMade root asked cursor → length seen ≤ 2 ^ 32
    → work seen cursor.path ≤ 2 ^ 53
work_first seen root asked cursor made short =
    let is : work seen cursor.path ≡ 2 ^ 21 * open_count seen = ap (work seen) made.path ∙ (omega arith) in
    let most : open_count seen ≤ length seen = open_most seen in
    omega arith
