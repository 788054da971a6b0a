-- The end of a run over a log.
use Rattle.std.proofs.Common.{◌≡◌, ◌≢◌, ◌⊎◌, inl, inr, ℕ, ◌<◌, Bool, true, not, ◌==◌, if◌then◌else◌, List, length, take, Option, Some, None, Ok, Err, refl, sym, ◌∙◌, ap, subst, arith}
use Rattle.std.proofs.lemmas.Bool.Decides.{nat_tests}
use Rattle.edge_model.specs.Files.{File, Files, bytes_of, main_of}
use Rattle.log_format.specs.Header.{log_page_size, log_version}
use Rattle.log_format.specs.Logs.{committed_frames, logged}
use Rattle.rollback_journal.specs.Laying.{laid}
use Rattle.rollback_journal.specs.Recovery.{HasByte, IsSettled}
use Rattle.log_recovery.specs.declared.settling.LogLaid.TheVariants.{Nothing, Empty, Laid}
use Rattle.log_recovery.specs.declared.settling.LogError.TheVariants.{LogVersion, LogPageSize}
use Rattle.log_recovery.specs.declared.looking.LogFound.TheVariants.{Nothing as NothingFound}
use Rattle.log_recovery.specs.declared.laying.LogReading.{LogReading}
use Rattle.log_recovery.specs.Opened.{IsLogDone, OpensTo, is_over, log_answer_of, log_answer_to, log_end}
use Rattle.log_recovery.specs.Laying.{log_of, IsReadingOfLog, IsSpent, IsTaken}
use Rattle.log_recovery.specs.Finding.{IsEmptyLog, IsLogFound}
use Rattle.log_recovery.proofs.Kept.{to_empty}
use Rattle.rollback_journal.proofs.Looks.{has_not_none}
use Rattle.rollback_journal.proofs.MainSteps.{has_byte}
use Rattle.log_recovery.proofs.Kept.{over_is}
use Rattle.log_recovery.proofs.MainSteps.{log_taken}
use Rattle.log_recovery.proofs.Looks.{answer_empty, answer_laid}

zero_is : (n : ℕ) → (0 < n → ⊥) → (n == 0) ≡ true
zero_is n none = grind (arith, nat_tests)

pub settled_as : (old now image : Files) → now ≡ old → IsSettled old image → IsSettled now image
settled_as old now image same is = subst (λ (x : Files). IsSettled x image) (sym same) is

nothing_of : (size : ℕ) (m j : Option File) → (HasByte (bytes_of m) → ⊥) ⊎ (j ≡ None) → log_answer_of size (bytes_of m) (bytes_of j) ≡ Ok Nothing
nothing_of size None j is = refl
nothing_of size (Some f) None is = refl
nothing_of size (Some f) (Some l) (inr e) = absurd (let x = e in cc)
nothing_of size (Some f) (Some l) (inl none) =
    ap
    (λ (b : Bool). if b then Ok Nothing else if not (is_over f.bytes l.bytes) then Ok Empty else if not (log_version l.bytes == 3007000) then Err (LogVersion (log_version l.bytes)) else if not (log_page_size l.bytes == size) then Err (LogPageSize (log_page_size l.bytes)) else Ok (Laid (committed_frames size l.bytes)))
    (zero_is (length f.bytes) none)

pub nothing_answer : (size : ℕ) (old mid : Files) → mid ≡ old → IsLogFound size mid NothingFound → log_answer_to size old ≡ Ok Nothing
nothing_answer size old mid same found =
    ap (λ (x : Files). log_answer_to size x) (sym same) ∙ nothing_of size mid.main mid.journal found

done_none : (size : ℕ) (m : Option File) (image : Files) → HasByte (bytes_of m) → image.main ≡ m → image.journal ≡ None
    → IsLogDone size (bytes_of m) None image
done_none size None image some main gone = absurd some
done_none size (Some f) image some main gone = (ap bytes_of main, gone)

pub nothing_done : (size : ℕ) (old mid image : Files) → mid ≡ old → IsLogFound size mid NothingFound → HasByte (bytes_of old.main)
    → IsSettled old image → IsLogDone size (bytes_of old.main) (bytes_of old.journal) image
nothing_done size old mid image same found some settled =
    go (subst (λ (x : Files). IsLogFound size x NothingFound) same found)
  where
    go : (HasByte (bytes_of old.main) → ⊥) ⊎ (old.journal ≡ None) → IsLogDone size (bytes_of old.main) (bytes_of old.journal) image
    go (inl none) = absurd (none some)
    go (inr none) = subst (λ (j : Option (List ℕ)). IsLogDone size (bytes_of old.main) j image) (sym (ap bytes_of none))
        (done_none size old.main image some settled.main (settled.journal ∙ none))

pub empty_spent : (size : ℕ) (files : Files) → IsEmptyLog files → IsSpent size files
empty_spent size files is = record {
  main = is.main;
  log = is.log;
  same = subst (λ (x : Option (List ℕ)). OpensTo size x (bytes_of files.journal) (main_of files)) (sym is.main)
      (subst (λ (x : Option (List ℕ)). OpensTo size (Some (main_of files)) x (main_of files)) (sym is.log) (to_empty size (main_of files) (log_of files) (main_of files) is.none refl));
}

not_none : (file : Option File) (bytes : List ℕ) → bytes_of file ≡ Some bytes → file ≢ None
not_none None bytes is = λ e. let x = is in cc
not_none (Some f) bytes is = λ e. cc

pub empty_answer : (size : ℕ) (old mid : Files) → mid ≡ old → HasByte (bytes_of mid.main) × IsEmptyLog mid → log_answer_to size old ≡ Ok Empty
empty_answer size old mid same found =
    ap (λ (x : Files). log_answer_to size x) (sym same)
    ∙ answer_empty size mid found.0 (not_none mid.journal (log_of mid) found.1.log) found.1.none

pub empty_done : (size : ℕ) (old mid image : Files) → mid ≡ old → IsEmptyLog old → image.main ≡ mid.main → image.journal ≡ None
    → IsLogDone size (bytes_of old.main) (bytes_of old.journal) image
empty_done size old mid image same is main gone =
    subst (λ (m : Option (List ℕ)). IsLogDone size m (bytes_of old.journal) image) (sym is.main)
    (subst (λ (j : Option (List ℕ)). IsLogDone size (Some (main_of old)) j image) (sym is.log) (
      ap bytes_of main ∙ ap (λ (x : Files). bytes_of x.main) same ∙ is.main
          ∙ ap
          (λ (b : Bool). Some (if b then take (log_end size (log_of old)) (laid size (logged size (log_of old)) (main_of old)) else main_of old))
          (sym is.none),
      gone,
    ))

pub laid_answer : (size : ℕ) (old mid : Files) (reading : LogReading) → mid ≡ old → reading.page_size ≡ size → IsTaken size mid
    → IsReadingOfLog reading (log_of mid) → log_answer_to size old ≡ Ok (Laid reading.frames)
laid_answer size old mid reading same size_is at read =
    ap (λ (x : Files). log_answer_to size x) (sym same)
    ∙ answer_laid size mid at.main (has_not_none mid.journal at.log) (over_is size (main_of mid) (log_of mid) (log_taken size mid at) (has_byte mid.main at.main)) at.version at.page_size
    ∙ ap (λ (k : ℕ). Ok (Laid (committed_frames k (log_of mid)))) (sym size_is)
    ∙ ap (λ (k : ℕ). Ok (Laid k)) (sym read.frames)

pub done_size : (n size : ℕ) (old mid image : Files) → n ≡ size → mid ≡ old → IsLogDone n (bytes_of mid.main) (bytes_of mid.journal) image
    → IsLogDone size (bytes_of old.main) (bytes_of old.journal) image
done_size n size old mid image is same done =
    subst (λ (k : ℕ). IsLogDone k (bytes_of old.main) (bytes_of old.journal) image) is
    (subst (λ (x : Files). IsLogDone n (bytes_of x.main) (bytes_of x.journal) image) same done)
