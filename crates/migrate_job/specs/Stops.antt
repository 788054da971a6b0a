-- Why a file is not migrated.
use Rattle.std.specs.Prelude.{◌≡◌, ◌<◌, Bool, true, false, ⊤}
use Rattle.std.specs.List.{Contains}
use Rattle.btree_model.specs.Content.{content}
use Rattle.btree_model.specs.Parts.{first_faults, first_refusals, is_database, parts}
use Rattle.btree_walk.specs.declared.error.WalkError.{WalkError}
use Rattle.btree_walk.specs.declared.error.WalkError.TheVariants.{Defect as WalkDefect, Source, OutOfMemory as WalkMemory}
use Rattle.cipher_profile.specs.Profile.{usable}
use Rattle.cipher_profile.specs.declared.profile.Profile.{Profile}
use Rattle.db_format.specs.Pages.{Pages}
use Rattle.fresh_file.specs.State.{most_pages}
use Rattle.migrate_job.specs.Bound.{pages_at_most}
use Rattle.migrate_job.specs.declared.error.MigrateError.{MigrateError}
use Rattle.migrate_job.specs.declared.error.MigrateError.TheVariants.{PageTag, Defect, TooManyPages, DiskFault, EntropyFault, OutOfMemory}
use Rattle.pager.specs.declared.fill.PageError.{PageError}
use Rattle.pager.specs.declared.fill.PageError.TheVariants.{OutOfRange, TagRefused, DiskFault as PageFault, EntropyFault as DrawFault, AllPinned}

-- These pages show this error: a defect or a refused page of the earliest part that has one; or none has one, and the new file may have
-- more pages than it may. What else stops a migration they do not show.
abbrev pub IsMigrateShown : Profile → Pages → MigrateError → Type 0
IsMigrateShown profile pages (PageTag n) = Contains (first_refusals (parts pages)) n
IsMigrateShown profile pages (Defect d) = Contains (first_faults (parts pages)) d
IsMigrateShown profile pages (TooManyPages limit) =
    (is_database pages ≡ true) × (most_pages profile < pages_at_most (usable profile) (most_pages profile) (content pages))
IsMigrateShown profile pages DiskFault = ⊤
IsMigrateShown profile pages EntropyFault = ⊤
IsMigrateShown profile pages OutOfMemory = ⊤

-- it is found before anything is drawn or written
abbrev pub is_early_stop : MigrateError → Bool
is_early_stop (PageTag n) = true
is_early_stop (Defect d) = true
is_early_stop (TooManyPages limit) = false
is_early_stop DiskFault = false
is_early_stop EntropyFault = false
is_early_stop OutOfMemory = false

-- a check of the whole of these pages may stop at it
abbrev pub IsFoundEarly : Pages → MigrateError → Type 0
IsFoundEarly pages (PageTag n) = Contains (first_refusals (parts pages)) n
IsFoundEarly pages (Defect d) = Contains (first_faults (parts pages)) d
IsFoundEarly pages (TooManyPages limit) = ⊥
IsFoundEarly pages DiskFault = ⊤
IsFoundEarly pages EntropyFault = ⊥
IsFoundEarly pages OutOfMemory = ⊤
