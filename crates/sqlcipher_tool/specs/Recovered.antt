-- The file to which the files as they read recover, and the answer where there is none.
use Rattle.std.specs.Prelude.{ℕ, List, [], ◌∷◌, Option, Some, None, Result, Ok, Err}
use Rattle.edge_model.specs.Files.{Files, bytes_of, main_of}
use Rattle.cipher_profile.specs.declared.profile.Profile.{Profile}
use Rattle.rollback_journal.specs.declared.recovery.Recovery.{Recovery}
use Rattle.rollback_journal.specs.declared.recovery.RecoverError.{RecoverError}
use Rattle.rollback_journal.specs.declared.recovery.RecoverError.TheVariants.{JournalPageSize as PageSizeDiffers, SuperJournal as NamesSuper, DiskFault as DiskFails, OutOfMemory as MemoryEnds}
use Rattle.rollback_journal.specs.Recovery.{recovered, answer_to}
use Rattle.sqlcipher_tool.specs.Answer.{Answer, done, refused}
use Rattle.sqlcipher_tool.specs.declared.status.Refusal.TheVariants.{JournalPageSize, SuperJournal}
use Rattle.sqlcipher_tool.specs.declared.status.Status.TheVariants.{DiskFault, OutOfMemory}
use Rattle.sqlcipher_tool.specs.Text.{recovery_line}

-- Main with the images of a hot journal laid, where bytes that no image gives are zeros
abbrev pub recovered_main : Profile → Files → List ℕ
recovered_main profile files = recovered profile.page_size (main_of files) (bytes_of files.journal)

-- what a recovery of these files answers
abbrev pub recovery_of : Profile → Files → Result Recovery RecoverError
recovery_of profile files = answer_to profile.page_size files

-- the answer to `recover`; the last two are never due to files
abbrev pub recovery_answer : Result Recovery RecoverError → Answer
recovery_answer (Ok recovery) = done (recovery_line recovery)
recovery_answer (Err (PageSizeDiffers found)) = refused (JournalPageSize found)
recovery_answer (Err NamesSuper) = refused SuperJournal
recovery_answer (Err DiskFails) = record { status = DiskFault; text = []; begun = [] }
recovery_answer (Err MemoryEnds) = record { status = OutOfMemory; text = []; begun = [] }

-- the answer to a recovery that is refused, none where it is not
abbrev pub refused_answer : Result Recovery RecoverError → Option Answer
refused_answer (Ok recovery) = None
refused_answer (Err error) = Some (recovery_answer (Err error))

-- the answers on the recovered file, or that to a recovery that is refused
abbrev pub answers_after : Result Recovery RecoverError → List Answer → List Answer
answers_after (Ok recovery) answers = answers
answers_after (Err error) answers = recovery_answer (Err error) ∷ []

-- what may be answered by a command that reads the recovered file
abbrev pub recovered_answers : Profile → Files → (List ℕ → List Answer) → List Answer
recovered_answers profile files answers = answers_after (recovery_of profile files) (answers (recovered_main profile files))
