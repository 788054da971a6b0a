-- The runs of `settle` keep together what each keeps by itself.
use Rattle.std.proofs.Common.{◌≡◌, ℕ, Bool, IsTrue, List, Option, Some, None, refl, sym, subst}
use Rattle.edge_model.specs.Files.{File, Files, bytes_of}
use Rattle.edge_model.specs.Images.{Each}
use Rattle.log_recovery.specs.Opened.{KeepsOpened, OpensTo}
use Rattle.rollback_journal.specs.Recovery.{KeepsRecovered, RecoversTo}
use Rattle.sqlcipher_tool.specs.Holding.{DiskRun, Held, HoldsOnly}
use Rattle.sqlcipher_tool.specs.Seams.{AreKept, AreTaken, HoldAtFirst, HoldsThroughout, HoldsTogether, Joins, OpensAs, by_journal, by_log}
use Rattle.sqlcipher_tool.specs.declared.status.Status.{Status}

-- without a journal the log is laid on Main
to_log : (size : ℕ) (main log : Option (List ℕ)) (file : List ℕ) → OpensAs size (record { main = main; journal = None; log = log }) file → OpensTo size main log file
to_log size None log file opens = absurd opens.recovers
to_log size (Some main) log file opens = subst (λ (middle : List ℕ). OpensTo size (Some middle) log file) opens.recovers opens.opens

of_log : (size : ℕ) (main log : Option (List ℕ)) (file : List ℕ) → OpensTo size main log file → OpensAs size (record { main = main; journal = None; log = log }) file
of_log size None log file opens = absurd opens
of_log size (Some main) log file opens = record { middle = main; recovers = refl; opens = opens }

-- without a log the file is what is recovered
to_file : (size : ℕ) (main journal : Option (List ℕ)) (file : List ℕ) → OpensAs size (record { main = main; journal = journal; log = None }) file → RecoversTo size main journal file
to_file size main journal file opens = subst (λ (f : List ℕ). RecoversTo size main journal f) (sym opens.opens) opens.recovers

of_file : (size : ℕ) (main journal : Option (List ℕ)) (file : List ℕ) → RecoversTo size main journal file → OpensAs size (record { main = main; journal = journal; log = None }) file
of_file size main journal file recovers = record { middle = file; recovers = recovers; opens = refl }

module _ (old : Held) where
  abbrev size : ℕ
  size = old.keys.profile.page_size

  -- a step of run 0
  by_recovery : (logs : Option (List ℕ) → Bool) → AreTaken size logs → (b c : Files) (log : Option (List ℕ)) → IsTrue (logs log) → KeepsRecovered size b c
      → HoldsTogether old (by_journal log b) → HoldsTogether old (by_journal log c)
  by_recovery logs taken b c log is keeps holds =
      let other = keeps.still holds.some.1.middle holds.some.1.recovers in
      let file = taken log is other.0 in record {
        some = (file.0, record { middle = other.0; recovers = other.1; opens = file.1 });
        only = λ file opens. holds.only file (record { middle = opens.middle; recovers = keeps.no_other opens.middle opens.recovers; opens = opens.opens });
      }

  -- a step of run 1
  by_laying : (b c : Files) → KeepsOpened size b c → HoldsTogether old (by_log b) → HoldsTogether old (by_log c)
  by_laying b c keeps holds =
      let other = keeps.still holds.some.0 (to_log size (bytes_of b.main) (bytes_of b.journal) holds.some.0 holds.some.1) in record {
        some = (other.0, of_log size (bytes_of c.main) (bytes_of c.journal) other.0 other.1);
        only = λ file opens.
            holds.only file (of_log size (bytes_of b.main) (bytes_of b.journal) file (keeps.no_other file (to_log size (bytes_of c.main) (bytes_of c.journal) file opens)));
      }

  -- the seam of runs 0 and 1
  first_seam : (c d : Files) → bytes_of c.main ≡ bytes_of d.main → d.journal ≡ None → HoldsTogether old (by_journal (bytes_of c.journal) d) → HoldsTogether old (by_log c)
  first_seam c d main none holds =
      subst (λ (m : Option (List ℕ)). HoldsTogether old (record { main = m; journal = None; log = bytes_of c.journal })) (sym main)
      (subst (λ (j : Option File). HoldsTogether old (record { main = bytes_of d.main; journal = bytes_of j; log = bytes_of c.journal })) none holds)

  -- and of runs 1 and 2
  second_seam : (c d : Files) → bytes_of c.main ≡ bytes_of d.main → c.journal ≡ None → d.journal ≡ None → HoldsTogether old (by_log d) → HoldsOnly old c
  second_seam c d main none gone holds =
      let alone : HoldsTogether old (record { main = bytes_of c.main; journal = bytes_of c.journal; log = None }) =
      subst (λ (m : Option (List ℕ)). HoldsTogether old (record { main = m; journal = bytes_of c.journal; log = None })) (sym main)
      (subst (λ (j : Option File). HoldsTogether old (record { main = bytes_of d.main; journal = bytes_of j; log = None })) (sym none)
      (subst (λ (j : Option File). HoldsTogether old (record { main = bytes_of d.main; journal = None; log = bytes_of j })) gone holds)) in record {
        some = (alone.some.0, to_file size (bytes_of c.main) (bytes_of c.journal) alone.some.0 alone.some.1);
        only = λ file recovers. alone.only file (of_file size (bytes_of c.main) (bytes_of c.journal) file recovers);
      }

pub seams_hold : (status : Status) (old : Held) (new_file : List ℕ → Type 0) (new : List ℕ → Held) (logs : Option (List ℕ) → Bool) (zero one two : DiskRun)
    → AreTaken old.keys.profile.page_size logs → AreKept status old new_file new zero one two → Joins logs zero one two
    → HoldAtFirst old logs zero → HoldsThroughout status old new_file new logs zero one two
seams_hold status old new_file new logs zero one two taken kept joins start = record { zero_holds = in_zero; one_holds = in_one; two_holds = kept.two_renews at_two }
  where
    in_zero : Each zero.ever (λ c. (log : Option (List ℕ)) → IsTrue (logs log) → HoldsTogether old (by_journal log c))
    in_zero c ever log is =
        let from = kept.zero_keeps c ever in
        by_recovery old logs taken from.0 c log is from.2 (start from.0 from.1 log is)

    at_one : Each one.at_start (λ c. HoldsTogether old (by_log c))
    at_one c now =
        let d = joins.first c now in
        first_seam old c d.0 d.2 d.3 (in_zero d.0 (joins.zero_exit d.0 d.1) (bytes_of c.journal) d.4)

    in_one : Each one.ever (λ c. HoldsTogether old (by_log c))
    in_one c ever = let from = kept.one_keeps c ever in by_laying old from.0 c from.2 (at_one from.0 from.1)

    at_two : Each two.at_start (HoldsOnly old)
    at_two c now =
        let d = joins.second c now in
        second_seam old c d.0 d.2 d.3 d.4 (in_one d.0 (joins.one_exit d.0 d.1))
