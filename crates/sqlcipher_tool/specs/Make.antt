-- What `make` answers: that a file is in the way, else how much was made, or, where the bound on its pages is above the limit, that it has too many.
use Rattle.std.specs.Prelude.{ℕ, ◌||◌, Bool, is_some, nat_lt, List, [], ◌∷◌, if◌then◌else◌}
use Rattle.cipher_profile.specs.declared.profile.Profile.{Profile}
use Rattle.cipher_profile.specs.Profile.{usable}
use Rattle.db_maker.specs.Pages.{made_pages}
use Rattle.db_maker.specs.Rows.{total_len}
use Rattle.edge_model.specs.Files.{Files}
use Rattle.fresh_file.specs.State.{most_pages}
use Rattle.make_job.specs.declared.error.MakeError.{MakeError}
use Rattle.make_job.specs.declared.error.MakeError.TheVariants.{FileThere as MainStands, JournalThere as JournalStands, TooManyPages as PagesEnd, DiskFault as DiskFails, EntropyFault as DrawFails, OutOfMemory as MemoryEnds}
use Rattle.sqlcipher_tool.specs.Answer.{Answer, done, refused}
use Rattle.sqlcipher_tool.specs.Text.{made_report}
use Rattle.sqlcipher_tool.specs.declared.opening.ChangeError.{ChangeError}
use Rattle.sqlcipher_tool.specs.declared.opening.ChangeError.TheVariants.{Stopped, EntropyFault}
use Rattle.sqlcipher_tool.specs.declared.opening.Stop.TheVariants.{Refused as StopRefused, DiskFault as StopDisk, OutOfMemory as StopMemory}
use Rattle.sqlcipher_tool.specs.declared.status.Refusal.TheVariants.{FileThere, JournalThere, TooManyPages}

-- a Main or a Journal is there
abbrev pub has_main_or_journal : Files → Bool
has_main_or_journal files = is_some files.main || is_some files.journal

-- the answers where neither is
abbrev pub made_answers : Profile → ℕ → List Answer
made_answers profile rows =
    done (made_report rows (total_len rows))
    ∷ (if nat_lt (most_pages profile) (made_pages (usable profile) rows) then refused (TooManyPages (most_pages profile)) ∷ [] else [])

-- the answers to `make` on these files
abbrev pub make_answers : Profile → ℕ → Files → List Answer
make_answers profile rows files =
    if is_some files.main then refused FileThere ∷ []
    else (if is_some files.journal then refused JournalThere ∷ [] else made_answers profile rows)

-- how a database that was not made stops the command
abbrev pub make_error : MakeError → ChangeError
make_error MainStands = Stopped (StopRefused FileThere)
make_error JournalStands = Stopped (StopRefused JournalThere)
make_error (PagesEnd limit) = Stopped (StopRefused (TooManyPages limit))
make_error DiskFails = Stopped StopDisk
make_error DrawFails = EntropyFault
make_error MemoryEnds = Stopped StopMemory
