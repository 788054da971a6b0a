-- What stops a check of the whole database.
use Rattle.std.proofs.Common.{ℕ, Bool, sym, subst}
use Rattle.std.specs.Prelude.{IsTrue}
use Rattle.std.specs.List.{Contains}
use Rattle.btree_model.specs.Parts.{first_refusals, parts}
use Rattle.btree_walk.specs.declared.error.WalkError.{WalkError}
use Rattle.btree_walk.specs.declared.error.WalkError.TheVariants.{Defect, Source, OutOfMemory}
use Rattle.db_format.specs.Pages.{Pages}
use Rattle.migrate_job.specs.Copying.{migrate_walk_error}
use Rattle.cipher_profile.specs.declared.profile.Profile.{Profile}
use Rattle.migrate_job.specs.Stops.{IsFoundEarly, IsMigrateShown}
use Rattle.migrate_job.specs.declared.error.MigrateError.{MigrateError}
use Rattle.migrate_job.specs.declared.error.MigrateError.TheVariants as stop
use Rattle.pager.specs.Causes.{MayRefuse}
use Rattle.pager.specs.declared.fill.PageError.{PageError}
use Rattle.pager.specs.declared.fill.PageError.TheVariants.{OutOfRange, TagRefused, DiskFault, EntropyFault, AllPinned}
use Rattle.schema_map.specs.Parts.{IsEarliest}

-- a defect or a refused page of the earliest part that has one
pub found_early : (tells : Bool) (pages : Pages) (error : WalkError PageError) → IsTrue tells → IsEarliest (MayRefuse tells) pages (parts pages) error
    → IsFoundEarly pages (migrate_walk_error error)
found_early tells pages (Defect d) told found = found
found_early tells pages OutOfMemory told found = tt
found_early tells pages (Source (TagRefused n)) told found =
    subst (λ (k : ℕ). Contains (first_refusals (parts pages)) k) (sym found.refused.1) (found.listed (found.refused.2 told))
found_early tells pages (Source OutOfRange) told found = tt
found_early tells pages (Source DiskFault) told found = tt
found_early tells pages (Source EntropyFault) told found = tt
found_early tells pages (Source AllPinned) told found = tt

-- the pages show it
pub found_shown : (profile : Profile) (pages : Pages) (e : MigrateError) → IsFoundEarly pages e → IsMigrateShown profile pages e
found_shown profile pages (stop.PageTag n) found = found
found_shown profile pages (stop.Defect d) found = found
found_shown profile pages (stop.TooManyPages limit) found = absurd found
found_shown profile pages stop.DiskFault found = found
found_shown profile pages stop.EntropyFault found = absurd found
found_shown profile pages stop.OutOfMemory found = found
