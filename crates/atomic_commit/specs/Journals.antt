-- What a journal plays, and what a writer says of its journal.
use Rattle.std.specs.Prelude.{ℕ, ◌≡◌, ◌⊎◌, List, [], ◌++◌, Option}
use Rattle.edge_model.specs.Files.{Files}
use Rattle.journal_format.specs.Records.{Record}
use Rattle.rollback_journal.specs.Playing.{journal_of}
use Rattle.rollback_journal.specs.Plays.{Plays, PlaysNone}

-- it plays these records and no others; where there are none it may be cold
abbrev pub PlaysJust : ℕ → ℕ → List Record → Option (List ℕ) → Type 0
PlaysJust size pages records journal = Plays size pages records journal ⊎ ((records ≡ []) × PlaysNone journal)

-- what a writer says of its journal holds of what is read and of each image
abbrev pub AsLeft : (Files → Type 0) → (Files → Files → Type 0) → Files → (Files → Type 0) → Type 0
AsLeft left beside now images = left now × ((c : Files) → images c → beside now c)

-- the records of the journal as it reads: those behind open gates, and those that wait behind the closed one
abbrev pub records_in : (List ℕ → List Record) → (List ℕ → List Record) → Files → List Record
records_in safe waiting now = safe (journal_of now) ++ waiting (journal_of now)
