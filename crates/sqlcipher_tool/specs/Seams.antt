-- FILE, FILE-journal and FILE-wal together, and the three runs by which `settle` makes one file of them.
--
-- | run | Journal is   | keeps                                       |
-- | 0   | FILE-journal | what Main and FILE-journal recover to       |
-- | 1   | FILE-wal     | what Main and FILE-wal open to              |
-- | 2   | FILE-journal | the old database or the new one, as a change |
--
-- In runs 0 and 2 FILE-wal is no file of the disk: in run 0 it stays as it is, in run 2 there is none. In run 1 there is no FILE-journal. Each run begins
-- with what the one before it leaves (`Joins`).
use Rattle.std.specs.Prelude.{◌≡◌, ℕ, Bool, IsTrue, List, Option, Some, None}
use Rattle.edge_model.specs.Files.{Files, bytes_of}
use Rattle.edge_model.specs.Images.{Each, From}
use Rattle.log_recovery.specs.Opened.{IsLogDone, KeepsOpened, OpensTo}
use Rattle.pager.specs.Database.{database}
use Rattle.rollback_journal.specs.Recovery.{KeepsRecovered, RecoversTo}
use Rattle.sqlcipher_tool.specs.Crash.{StaysOrRenews}
use Rattle.sqlcipher_tool.specs.Holding.{DiskRun, Held, HoldsOnly}
use Rattle.sqlcipher_tool.specs.declared.status.Status.{Status}

-- the bytes of the three, where they are there
pub record Trio : Type 0 where
  pub main : Option (List ℕ)
  pub journal : Option (List ℕ)
  pub log : Option (List ℕ)

-- an image of a disk of which Journal is FILE-journal, beside this log
abbrev pub by_journal : Option (List ℕ) → Files → Trio
by_journal log image = record { main = bytes_of image.main; journal = bytes_of image.journal; log = log }

-- an image of a disk of which Journal is FILE-wal
abbrev pub by_log : Files → Trio
by_log image = record { main = bytes_of image.main; journal = None; log = bytes_of image.journal }

-- What the three open to: the journal is played back first, then the log is laid.
pub record OpensAs (size : ℕ) (trio : Trio) (file : List ℕ) : Type 0 where
  pub middle : List ℕ
  pub recovers : RecoversTo size trio.main trio.journal middle
  pub opens : OpensTo size (Some middle) trio.log file

-- they open to some file, and each such file has this database
pub record HoldsTogether (held : Held) (trio : Trio) : Type 0 where
  pub some : (file : List ℕ) × OpensAs held.keys.profile.page_size trio file
  pub only : (file : List ℕ) → OpensAs held.keys.profile.page_size trio file → database held.keys file ≡ held.stored

-- no log of these is refused: beside any Main it leads to a file
abbrev pub AreTaken : ℕ → (Option (List ℕ) → Bool) → Type 0
AreTaken size logs = (log : Option (List ℕ)) → IsTrue (logs log) → (main : List ℕ) → (file : List ℕ) × OpensTo size (Some main) log file

-- Each image at the start of run 2 has a Main that run 1 left, no FILE-journal and no log.
abbrev pub BeginsBehind : (Files → Type 0) → (Files → Type 0) → Type 0
BeginsBehind exit start = Each start (λ c. (d : Files) × exit d × (bytes_of c.main ≡ bytes_of d.main) × (c.journal ≡ None) × (d.journal ≡ None))

-- Run 1 left nothing but the file to which these files, Main and the log, open.
abbrev pub IsLaid : ℕ → Files → (Files → Type 0) → Type 0
IsLaid size files exit = Each exit (IsLogDone size (bytes_of files.main) (bytes_of files.journal))

-- How the runs follow one another. `logs` is what a crash may leave of FILE-wal before it is laid.
pub record Joins (logs : Option (List ℕ) → Bool) (zero one two : DiskRun) : Type 0 where
  -- an image at the end of a run is one of its moments
  pub zero_exit : Each zero.at_exit zero.ever
  pub one_exit : Each one.at_exit one.ever
  -- run 1 begins with a Main that run 0 left, no FILE-journal, and the log
  pub first : Each one.at_start (λ c. (d : Files) × zero.at_exit d × (bytes_of c.main ≡ bytes_of d.main) × (d.journal ≡ None) × IsTrue (logs (bytes_of c.journal)))
  -- run 2 begins with a Main that run 1 left, no FILE-journal and no log
  pub second : BeginsBehind one.at_exit two.at_start

-- what each run is known to keep, by its own clauses
pub record AreKept (status : Status) (old : Held) (new_file : List ℕ → Type 0) (new : List ℕ → Held) (zero one two : DiskRun) : Type 0 where
  pub zero_keeps : Each zero.ever (From (KeepsRecovered old.keys.profile.page_size) zero.at_start)
  pub one_keeps : Each one.ever (From (KeepsOpened old.keys.profile.page_size) one.at_start)
  pub two_renews : Each two.at_start (HoldsOnly old) → StaysOrRenews status new_file (HoldsOnly old) (λ file. HoldsOnly (new file)) two

-- At every moment of all three runs the files hold the old database together; in run 2 FILE alone holds it, or the new one.
pub record HoldsThroughout (status : Status) (old : Held) (new_file : List ℕ → Type 0) (new : List ℕ → Held) (logs : Option (List ℕ) → Bool) (zero one two : DiskRun) : Type 0 where
  pub zero_holds : Each zero.ever (λ c. (log : Option (List ℕ)) → IsTrue (logs log) → HoldsTogether old (by_journal log c))
  pub one_holds : Each one.ever (λ c. HoldsTogether old (by_log c))
  pub two_holds : StaysOrRenews status new_file (HoldsOnly old) (λ file. HoldsOnly (new file)) two

-- the same in the words of the runs: the files hold the old database at the start, whatever a crash left of them
abbrev pub HoldAtFirst : Held → (Option (List ℕ) → Bool) → DiskRun → Type 0
HoldAtFirst old logs zero = Each zero.at_start (λ c. (log : Option (List ℕ)) → IsTrue (logs log) → HoldsTogether old (by_journal log c))
