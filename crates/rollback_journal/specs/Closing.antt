-- The end of a recovery.
use Rattle.std.specs.Prelude.{ℕ, ◌≡◌, ◌≢◌, ◌⊎◌, true, false, Some, None, Err}
use Rattle.edge_model.specs.Files.{Files, bytes_of, main_of}
use Rattle.journal_format.specs.Header.{has_header}
use Rattle.journal_format.specs.Segments.{is_hot}
use Rattle.rollback_journal.specs.Recovery.{Recovers, HasByte, answer_of}
use Rattle.rollback_journal.specs.Playing.{journal_of, IsPlayedHot, IsJournalReading, IsReadingOf}
use Rattle.rollback_journal.specs.declared.recovery.RecoverError.TheVariants.{DiskFault, OutOfMemory}
use Rattle.rollback_journal.specs.declared.looking.Found.{Found}
use Rattle.rollback_journal.specs.declared.looking.Found.TheVariants.{Nothing, Cold, Refused, Hot}

-- Main is what the files recover to, beside a journal with a header
pub record IsLaidBack (size : ℕ) (files : Files) : Type 0 where
  pub main : bytes_of files.main ≡ Some (main_of files)
  pub journal : bytes_of files.journal ≡ Some (journal_of files)
  pub header : has_header 0 (journal_of files) ≡ true
  pub same : Recovers size files (main_of files)

-- both are there, and the journal is not hot
pub record IsCold (files : Files) : Type 0 where
  pub main : bytes_of files.main ≡ Some (main_of files)
  pub journal : bytes_of files.journal ≡ Some (journal_of files)
  pub cold : is_hot (main_of files) (journal_of files) ≡ false

-- what was found of Main and Journal
abbrev pub IsJournalFound : ℕ → Files → Found → Type 0
IsJournalFound size files Nothing = (HasByte (bytes_of files.main) → ⊥) ⊎ (files.journal ≡ None)
IsJournalFound size files Cold = HasByte (bytes_of files.main) × IsCold files
IsJournalFound size files (Refused why) = answer_of size (bytes_of files.main) (bytes_of files.journal) ≡ Err why
IsJournalFound size files (Hot reading) = IsPlayedHot size files × IsReadingOf reading (journal_of files)

-- whether a disk tells or not: a refusal is one of two, and the numbers of a journal that is read are in their ranges
abbrev pub IsRefusable : ℕ → Found → Type 0
IsRefusable size Nothing = Unit {0}
IsRefusable size Cold = Unit {0}
IsRefusable size (Refused why) = (why ≢ DiskFault) × (why ≢ OutOfMemory)
IsRefusable size (Hot reading) = IsJournalReading reading × (reading.page_size ≡ size)
