-- A tree while its entries are copied.
use Rattle.std.proofs.Common.{◌≡◌, ◌≤◌, ◌++◌, ◌∷◌, ℕ, Bool, true, false, List, [], map, Some, Result, Ok, Err, OnOk, arith, ap, refl, sym, subst, ◌∙◌}
use Rattle.std.proofs.lemmas.List.{map-append}
use Rattle.edge_model.specs.Causes.{Rose}
use Rattle.edge_model.specs.Files.{Files, main_of}
use Rattle.fresh_disk.specs.OnlyFresh.{OnlyFresh}
use Rattle.db_format.specs.Pages.{Pages, Test}
use Rattle.page_codec.specs.Page.{FileKeys}
use Rattle.btree_model.specs.Content.{Entry, entry_of}
use Rattle.std.specs.List.{Contains}
use Rattle.btree_page.specs.declared.kind.Family.{Family}
use Rattle.btree_model.specs.Finding.{Finding, Row, is_sound, refusals}
use Rattle.btree_walk.specs.declared.cursor.Cursor.{Cursor}
use Rattle.btree_walk.specs.Cursor.{IsCursorAt, IsSameTree, family_or, walked, walked_family}
use Rattle.btree_walk.specs.Causes.{IsRefused}
use Rattle.btree_model.specs.Tree.{root_family, tree_walk}
use Rattle.edge_model.specs.Files.{bytes_of}
use Rattle.pager.specs.Pages.{opened_pages}
use Rattle.std.specs.Prelude.{IsTrue, unwrap_or}
use Rattle.pager.specs.Causes.{MayRefuse}
use Rattle.pager.specs.declared.fill.PageError.{PageError}
use Rattle.pager.specs.declared.fill.PageError.TheVariants.{OutOfRange, TagRefused, DiskFault as NotRead, EntropyFault as NotSealed, AllPinned}
use Rattle.schema_map.proofs.SoundParts.{none_contained, sound_faults, sound_refusals}
use Rattle.migrate_job.specs.declared.error.MigrateError.{MigrateError}
use Rattle.migrate_job.specs.declared.error.MigrateError.TheVariants.{PageTag, Defect, TooManyPages, DiskFault, EntropyFault, OutOfMemory}
use Rattle.migrate_job.specs.Copying.{IsOfWalk, migrate_page_error}
use Rattle.migrate_job.specs.Stops.{is_early_stop}

-- these entries were given by the cursor, and this is so of them
pub record IsSoFar (before : Pages) (taken : Test) (cursor : Cursor) (seen : Test) (pushed : List Entry → Type 0) : Type 0 where
  pub given : List Row
  pub at : IsCursorAt before taken given cursor seen
  pub loaded : pushed (map entry_of given)

-- the old pages stay while only Fresh changes
pub before_same : (keys keys' : FileKeys) (files files' : Files) (count count' : ℕ) → keys' ≡ keys → OnlyFresh files files' → count' ≡ count
    → opened_pages keys' (main_of files') count' ≡ opened_pages keys (main_of files) count
before_same keys keys' files files' count count' same_keys only same_count =
    ap (λ k. opened_pages k (main_of files') count') same_keys
    ∙ ap (λ file. opened_pages keys (unwrap_or (bytes_of file) []) count') only.main
    ∙ ap (opened_pages keys (main_of files)) same_count

pub family_same : (pages : Pages) (old new : Cursor) → IsSameTree old new → walked_family pages new ≡ walked_family pages old
family_same pages old new same =
    ap (λ r. family_or new.asked (root_family r (pages.page r))) same.root ∙ ap (λ a. family_or a (root_family old.root (pages.page old.root))) same.asked

pub entries_then : (given : List Row) (row : Row) → map entry_of given ++ entry_of row ∷ [] ≡ map entry_of (given ++ row ∷ [])
entries_then given row = sym (map-append entry_of given (row ∷ []))

-- a count that rose after a later state rose after the first one too
pub rose_since : (before middle now : ℕ) → before ≤ middle → Rose middle now → Rose before now
rose_since before middle now less rose = omega arith

-- the same error of two calls that differ in what their Ok holds
pub err_again : {A B E : Type 0} (error is : E) → ◌≡◌ {A = Result A E} (Err error) (Err is) → ◌≡◌ {A = Result B E} (Err error) (Err is)
err_again error is same = ap Err (err_is error is same)
  where
    err_is : {A E : Type 0} (e k : E) → ◌≡◌ {A = Result A E} (Err e) (Err k) → e ≡ k
    err_is e k h = cc

-- ---- the tree that is walked, and why a copy of it stops

-- a cursor that was made for a family walks the tree of that family
pub walked_of : (pages : Pages) (taken : Test) (cursor : Cursor) (root : ℕ) (family : Family) → cursor.root ≡ root → cursor.asked ≡ Some family
    → walked pages taken cursor ≡ tree_walk pages family taken root
walked_of pages taken cursor root family same_root same_asked =
    ap (λ n. tree_walk pages (family_or cursor.asked (root_family n (pages.page n))) taken n) same_root
    ∙ ap (λ a. tree_walk pages (family_or a (root_family root (pages.page root))) taken root) same_asked

pub family_of_asked : (pages : Pages) (cursor : Cursor) (family : Family) → cursor.asked ≡ Some family → walked_family pages cursor ≡ family
family_of_asked pages cursor family asked = ap (λ a. family_or a (root_family cursor.root (pages.page cursor.root))) asked

-- a page that was refused at its place in the walk
pub refused_of_walk : (tells : Bool) (pages : Pages) (all : List Finding) (refusal : PageError) → IsTrue tells → IsRefused (MayRefuse tells) pages all refusal
    → IsOfWalk all (migrate_page_error refusal)
refused_of_walk tells pages all OutOfRange told at = tt
refused_of_walk tells pages all (TagRefused n) told at = subst (λ k. Contains (refusals all) k) (sym at.refused.1) (at.listed (at.refused.2 told))
refused_of_walk tells pages all NotRead told at = tt
refused_of_walk tells pages all NotSealed told at = tt
refused_of_walk tells pages all AllPinned told at = tt

-- a sound walk has neither
pub sound_late : (all : List Finding) (error : MigrateError) → is_sound all ≡ true → IsOfWalk all error → is_early_stop error ≡ false
sound_late all (PageTag n) sound of = absurd (none_contained n (subst (λ l. Contains l n) (sound_refusals all sound) of))
sound_late all (Defect d) sound of = absurd (none_contained d (subst (λ l. Contains l d) (sound_faults all sound) of))
sound_late all (TooManyPages limit) sound of = refl
sound_late all DiskFault sound of = refl
sound_late all EntropyFault sound of = refl
sound_late all OutOfMemory sound of = refl

-- ---- what holds after Ok

pub on_ok : {A E : Type 0} (result : Result A E) (P : Type 0) → P → OnOk result P
on_ok (Ok value) P holds = holds
on_ok (Err error) P holds = tt

pub on_ok_map : {A E : Type 0} {P Q : Type 0} (result : Result A E) → (P → Q) → OnOk result P → OnOk result Q
on_ok_map (Ok value) more holds = more holds
on_ok_map (Err error) more holds = tt
