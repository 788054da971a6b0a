-- What `migrate` answers, and what the new file is to the old one. A defect or a refused page of the earliest part that has one is
-- answered; else how many pages the new file has, or that it has too many.
use Rattle.std.specs.Prelude.{◌≡◌, nat_lt, ℕ, List, [], ◌∷◌, Ok, if◌then◌else◌}
use Rattle.btree_model.specs.Content.{Content, content}
use Rattle.btree_model.specs.Plain.{with_zeros}
use Rattle.cipher_profile.specs.Profile.{usable}
use Rattle.cipher_profile.specs.declared.keys.Secret.{Secret}
use Rattle.cipher_profile.specs.declared.profile.Profile.{Profile}
use Rattle.db_format.specs.Pages.{Pages}
use Rattle.fresh_file.specs.State.{most_pages}
use Rattle.migrate_job.specs.Bound.{pages_at_most}
use Rattle.migrate_job.specs.Migrated.{IsMigratedUnder}
use Rattle.migrate_job.specs.declared.error.MigrateError.{MigrateError}
use Rattle.migrate_job.specs.declared.error.MigrateError.TheVariants.{PageTag as MigrateTag, Defect as MigrateDefect, TooManyPages as PagesEnd, DiskFault as DiskFails, EntropyFault as DrawFails, OutOfMemory as MemoryEnds}
use Rattle.page_codec.specs.Page.{FileKeys, keys_of}
use Rattle.pager.specs.Opening.{Opened, file_opened}
use Rattle.pager.specs.Pages.{opened_pages}
use Rattle.sqlcipher_tool.specs.Answer.{Answer, done, refused}
use Rattle.sqlcipher_tool.specs.Opening.{opened_with}
use Rattle.sqlcipher_tool.specs.Plain.{Opens}
use Rattle.sqlcipher_tool.specs.Text.{migrated_report}
use Rattle.sqlcipher_tool.specs.Verify.{else_answers, opened_answers, stop_answers}
use Rattle.sqlcipher_tool.specs.declared.opening.ChangeError.{ChangeError}
use Rattle.sqlcipher_tool.specs.declared.opening.ChangeError.TheVariants.{Stopped, EntropyFault}
use Rattle.sqlcipher_tool.specs.declared.opening.Stop.TheVariants.{Refused as StopRefused, DiskFault as StopDisk, OutOfMemory as StopMemory}
use Rattle.sqlcipher_tool.specs.declared.status.Refusal.TheVariants.{Defect as RefusedDefect, PageTag, TooManyPages}
use Rattle.btree_model.specs.Parts.{first_faults, first_refusals, parts}

-- that a file of this content has too many pages, where it may have more than the profile's limit
abbrev pub too_many : Profile → Content → List Answer
too_many new held =
    if nat_lt (most_pages new) (pages_at_most (usable new) (most_pages new) held) then refused (TooManyPages (most_pages new)) ∷ [] else []

-- the answers on these pages, to a new file of so many
abbrev pub migrate_due : Profile → ℕ → Pages → List Answer
migrate_due new count pages =
    else_answers (stop_answers (first_faults (parts pages)) (first_refusals (parts pages)))
    (done (migrated_report count) ∷ too_many new (content (with_zeros pages)))

-- the answers to `migrate` on this file with its secret, to a new file of so many pages
abbrev pub migrate_answers : Profile → Secret → Profile → ℕ → List ℕ → List Answer
migrate_answers old secret new count file =
    opened_answers (opened_with old secret file) (λ n. migrate_due new count (opened_pages (keys_of old secret file) file n))

-- how a migration that does not come to its end stops the command
abbrev pub migrate_error : MigrateError → ChangeError
migrate_error (MigrateTag page) = Stopped (StopRefused (PageTag page))
migrate_error (MigrateDefect defect) = Stopped (StopRefused (RefusedDefect defect))
migrate_error (PagesEnd limit) = Stopped (StopRefused (TooManyPages limit))
migrate_error DiskFails = Stopped StopDisk
migrate_error DrawFails = EntropyFault
migrate_error MemoryEnds = Stopped StopMemory

-- Both files open, each under its own keys, to one content. The new one has a header of its own with the kept fields of the old one's,
-- and is a whole number of pages, each accepted, none of them free and none unused.
pub record IsMigratedSo (old_keys new_keys : FileKeys) (before after : List ℕ) : Type 0 where
  pub held : Content
  pub was : Opens old_keys before held
  pub is : Opens new_keys after held
  pub opened : Opened
  pub opens : file_opened old_keys before ≡ Ok opened
  pub whole : IsMigratedUnder new_keys opened.header (opened_pages old_keys before opened.count) after
