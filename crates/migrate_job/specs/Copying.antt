-- A tree of the old file, loaded into the new one.
use Rattle.std.specs.Prelude.{ℕ, Bool, true, false, List, [], ◌∷◌, ◌++◌, Option, Some, None, ⊤}
use Rattle.std.specs.List.{Contains}
use Rattle.edge_model.specs.Files.{Files, bytes_of}
use Rattle.db_format.specs.Pages.{Pages}
use Rattle.btree_model.specs.Content.{Entry, entry_of}
use Rattle.btree_model.specs.Finding.{Finding, Row, faults, refusals}
use Rattle.btree_walk.specs.declared.error.WalkError.{WalkError}
use Rattle.btree_walk.specs.declared.error.WalkError.TheVariants.{Defect as Found, Source, OutOfMemory as NoRoomToWalk}
use Rattle.bulk_load.specs.declared.error.LoadError.{LoadError}
use Rattle.bulk_load.specs.declared.error.LoadError.TheVariants.{RowidOrder, Out, OutOfMemory as NoRoomToLoad, TooDeep}
use Rattle.bulk_load.specs.declared.out.OutError.TheVariants.{TooManyPages as NoNumber, DiskFault as NotWritten, EntropyFault as NotDrawn}
use Rattle.bulk_load.specs.Out.{Faults, Follows, KeepsPages}
use Rattle.fresh_file.specs.declared.state.FreshState.{FreshState}
use Rattle.fresh_file.specs.State.{IsWellAs, fresh_pages}
use Rattle.migrate_job.specs.declared.error.MigrateError.{MigrateError}
use Rattle.migrate_job.specs.declared.error.MigrateError.TheVariants.{PageTag, Defect, TooManyPages, DiskFault, EntropyFault, OutOfMemory}
use Rattle.pager.specs.declared.fill.PageError.{PageError}
use Rattle.pager.specs.declared.fill.PageError.TheVariants.{OutOfRange, TagRefused, DiskFault as NotRead, EntropyFault as NotSealed, AllPinned}

-- ---- why a copy stops

-- how a page that is not given stops it; a walk asks for pages of the file alone, and pins fewer than there are frames
abbrev pub migrate_page_error : PageError → MigrateError
migrate_page_error OutOfRange = OutOfMemory
migrate_page_error (TagRefused n) = PageTag n
migrate_page_error NotRead = DiskFault
migrate_page_error NotSealed = OutOfMemory
migrate_page_error AllPinned = OutOfMemory

abbrev pub migrate_walk_error : WalkError PageError → MigrateError
migrate_walk_error (Found defect) = Defect defect
migrate_walk_error (Source refusal) = migrate_page_error refusal
migrate_walk_error NoRoomToWalk = OutOfMemory

-- How an entry that is not loaded stops it. Its rowid is above all before it, and a tree that is too deep has more pages than a file may
-- have: so neither of these stops it.
abbrev pub migrate_load_error : LoadError → Option MigrateError
migrate_load_error RowidOrder = None
migrate_load_error (Out (NoNumber limit)) = Some (TooManyPages limit)
migrate_load_error (Out NotWritten) = Some DiskFault
migrate_load_error (Out NotDrawn) = Some EntropyFault
migrate_load_error NoRoomToLoad = Some OutOfMemory
migrate_load_error TooDeep = None

-- where it speaks of the old pages, it is a defect or a refused page of this walk
abbrev pub IsOfWalk : List Finding → MigrateError → Type 0
IsOfWalk all (PageTag n) = Contains (refusals all) n
IsOfWalk all (Defect defect) = Contains (faults all) defect
IsOfWalk all (TooManyPages limit) = ⊤
IsOfWalk all DiskFault = ⊤
IsOfWalk all EntropyFault = ⊤
IsOfWalk all OutOfMemory = ⊤

-- how many pages more were asked for than there may be
abbrev pub asked_by : MigrateError → ℕ
asked_by (PageTag n) = 0
asked_by (Defect defect) = 0
asked_by (TooManyPages limit) = 1
asked_by DiskFault = 0
asked_by EntropyFault = 0
asked_by OutOfMemory = 0

-- ---- the new file

-- a new file, and what it is written through
pub record Target (T : Type 0) : Type 0 where
  pub state : FreshState
  pub side : T

abbrev pub target_pages : {T : Type 0} → (T → Option (List ℕ)) → Target T → Pages
target_pages fresh target = fresh_pages target.state (fresh target.side)

abbrev pub target_limit : {T : Type 0} → Target T → ℕ
target_limit target = target.state.limit

abbrev pub target_faults : {T : Type 0} → (T → ℕ) → (T → ℕ) → Target T → Faults
target_faults disk_faults draw_faults target = record { disk = disk_faults target.side; entropy = draw_faults target.side }

-- Fresh stands as the last call left it
abbrev pub IsTargetWell : {T : Type 0} → Bool → Bool → (T → Option (List ℕ)) → (T → List ℕ) → ℕ → Target T → Type 0
IsTargetWell tells draws_tell fresh drawn start target = IsWellAs target.state start tells draws_tell (fresh target.side) (drawn target.side)

-- whatever was answered: what was put stays, and only numbers that were taken in between were put
abbrev pub KeepsTarget : {T : Type 0} → Bool → Bool → (T → Option (List ℕ)) → (T → List ℕ) → (T → ℕ) → (T → ℕ) → Target T → Target T → Type 0
KeepsTarget tells draws_tell fresh drawn disk_faults draw_faults old new =
    KeepsPages (target_pages fresh) target_limit (target_faults disk_faults draw_faults) (IsTargetWell tells draws_tell fresh drawn) false old new

-- after Ok besides: each of those was put
abbrev pub FollowsTarget : {T : Type 0} → Bool → Bool → (T → Option (List ℕ)) → (T → List ℕ) → (T → ℕ) → (T → ℕ) → Target T → Target T → Type 0
FollowsTarget tells draws_tell fresh drawn disk_faults draw_faults old new =
    Follows (target_pages fresh) target_limit (target_faults disk_faults draw_faults) (IsTargetWell tells draws_tell fresh drawn) false old new

-- a disk, and an entropy
pub record Outside (D E : Type 0) : Type 0 where
  pub disk : D
  pub entropy : E

-- a new file beside Main
abbrev pub beside_main : {D E : Type 0} → FreshState → D → E → Target (Outside D E)
beside_main state disk entropy = record { state = state; side = record { disk = disk; entropy = entropy } }

abbrev pub KeepsBeside : {D E : Type 0} → Bool → Bool → (D → Files) → (E → List ℕ) → (D → ℕ) → (E → ℕ) → Target (Outside D E) → Target (Outside D E) → Type 0
KeepsBeside tells draws_tell reads drawn disk_faults draw_faults old new =
    KeepsTarget tells draws_tell (λ out. bytes_of (reads out.disk).fresh) (λ out. drawn out.entropy) (λ out. disk_faults out.disk) (λ out. draw_faults out.entropy) old new

abbrev pub FollowsBeside : {D E : Type 0} → Bool → Bool → (D → Files) → (E → List ℕ) → (D → ℕ) → (E → ℕ) → Target (Outside D E) → Target (Outside D E) → Type 0
FollowsBeside tells draws_tell reads drawn disk_faults draw_faults old new =
    FollowsTarget tells draws_tell (λ out. bytes_of (reads out.disk).fresh) (λ out. drawn out.entropy) (λ out. disk_faults out.disk) (λ out. draw_faults out.entropy) old new

-- ---- what is pushed

-- with the entry of an answer that there is one
abbrev pub pushed_then : List Entry → Row → Bool → List Entry
pushed_then pushed row true = pushed ++ entry_of row ∷ []
pushed_then pushed row false = pushed
