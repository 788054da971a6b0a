-- Pairs of files that are read as one, and those that are not.
use Rattle.std.proofs.Common.{arith, ◌≡◌, inl, inr, ℕ, ◌<◌, ◌≤◌, ◌^◌, Result, Ok, Err, refl, sym, subst}
use Rattle.std.specs.Prelude.{IsOk}
use Rattle.edge_model.specs.Files.{Files}
use Rattle.log_recovery.specs.Finding.{IsLogFound}
use Rattle.log_recovery.specs.Laying.{log_of, IsReadingOfLog, IsTaken}
use Rattle.log_recovery.specs.Opened.{log_answer_to}
use Rattle.log_recovery.specs.declared.laying.LogReading.{LogReading}
use Rattle.log_recovery.specs.declared.looking.LogFound.TheVariants.{Empty}
use Rattle.log_recovery.specs.declared.settling.LogError.{LogError}
use Rattle.log_recovery.specs.declared.settling.LogLaid.{LogLaid}
use Rattle.log_recovery.proofs.Settled.{empty_answer, laid_answer}
use Rattle.log_view.specs.Refused.{IsOutside, IsViewRefused, IsViewTaken}
use Rattle.log_view.specs.View.{ReachesEnd}
use Rattle.log_view.specs.declared.opening.ViewError.{ViewError}
use Rattle.log_view.specs.declared.opening.ViewError.TheVariants.{Log, TooLarge, TooLong, Short, LogCut, DiskFault, OutOfMemory}
use Rattle.log_view.proofs.Indexed.{empty_not_taken}

ok_is : (r : Result LogLaid LogError) (laid : LogLaid) → r ≡ Ok laid → IsOk r
ok_is r laid is = subst (λ (x : Result LogLaid LogError). IsOk x) (sym is) refl

pub empty_taken : (size most : ℕ) (files : Files) → IsLogFound size files Empty → IsViewTaken size most files
empty_taken size most files found = record {
  answer = ok_is (log_answer_to size files) _ (empty_answer size files files refl found);
  pages = λ taken. absurd (empty_not_taken size files found.1 taken);
  frames = λ taken. absurd (empty_not_taken size files found.1 taken);
  end = λ taken. absurd (empty_not_taken size files found.1 taken);
}

pub live_taken : (most : ℕ) (reading : LogReading) (files : Files) → IsTaken reading.page_size files → IsReadingOfLog reading (log_of files)
    → reading.pages ≤ most → reading.frames < 2 ^ 32 → ReachesEnd reading.page_size files → IsViewTaken reading.page_size most files
live_taken most reading files taken read pages frames end = record {
  answer = ok_is (log_answer_to reading.page_size files) _ (laid_answer reading.page_size files files reading refl refl taken read);
  pages = λ is. omega (arith, read.pages, pages);
  frames = λ is. omega (arith, read.frames, frames);
  end = λ is. end;
}

-- a refusal of a pair that is to be read as one is due to no file
not_ok : (r : Result LogLaid LogError) (why : LogError) → IsOk r → r ≡ Err why → ⊥
not_ok (Ok laid) why ok is = cc is
not_ok (Err other) why ok is = cc ok

pub only_outside : (size most : ℕ) (files : Files) (why : ViewError) → IsViewTaken size most files → IsViewRefused size most files why → IsOutside why
only_outside size most files (Log why) taken due = absurd (not_ok (log_answer_to size files) why taken.answer due)
only_outside size most files (TooLarge pages) taken due = absurd (omega (arith, taken.pages due.0, due.1, due.2))
only_outside size most files (TooLong frames) taken due = absurd (omega (arith, taken.frames due.0, due.1, due.2))
only_outside size most files (Short pages) taken due = absurd (due.2 (taken.end due.0))
only_outside size most files LogCut taken due = absurd due
only_outside size most files DiskFault taken due = inl refl
only_outside size most files OutOfMemory taken due = inr refl
