-- What a journal plays, and what a call of its writer leaves of that.
use Rattle.std.specs.Prelude.{ℕ, ◌≡◌, ◌⊎◌, ◌<◌, true, false, List, length, Option, Some, None, IsFalse}
use Rattle.edge_model.specs.Files.{Files, bytes_of}
use Rattle.journal_format.specs.Header.{initial_at, page_size_at}
use Rattle.journal_format.specs.Records.{Record}
use Rattle.journal_format.specs.Segments.{is_hot, names_super, played}
use Rattle.rollback_journal.specs.Recovery.{KeepsRecovered}

-- a journal that plays these records, beside any Main with a byte
pub record Plays (size initial : ℕ) (records : List Record) (journal : Option (List ℕ)) : Type 0 where
  pub bytes : List ℕ
  pub there : journal ≡ Some bytes
  pub hot : (main : List ℕ) → 0 < length main → is_hot main bytes ≡ true
  pub pages : initial_at 0 bytes ≡ initial
  pub page_size : page_size_at 0 bytes ≡ size
  pub no_super : IsFalse (names_super bytes)
  pub plays : played size bytes ≡ records

-- a journal that is cold beside every Main, or none
abbrev pub PlaysNone : Option (List ℕ) → Type 0
PlaysNone None = Unit {0}
PlaysNone (Some journal) = (main : List ℕ) → is_hot main journal ≡ false

-- Main and Fresh are as they were
pub record SameOthers (old new : Files) : Type 0 where
  pub main : new.main ≡ old.main
  pub fresh : new.fresh ≡ old.fresh

-- and the image recovers as before
pub record PlaysAsBefore (size : ℕ) (old new : Files) : Type 0 where
  pub same : SameOthers old new
  pub recovers : KeepsRecovered size old new

-- while a gate is opened: as before, or all records of all segments so far
pub record PlaysAsBeforeOrAll (size initial : ℕ) (records : List Record) (old new : Files) : Type 0 where
  pub same : SameOthers old new
  pub plays : KeepsRecovered size old new ⊎ Plays size initial records (bytes_of new.journal)

-- while the journal is closed: as before, or nothing
pub record PlaysAsBeforeOrNone (size : ℕ) (old new : Files) : Type 0 where
  pub same : SameOthers old new
  pub plays : KeepsRecovered size old new ⊎ PlaysNone (bytes_of new.journal)
