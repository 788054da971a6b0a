-- How a change of the file ends: what is answered, which counts rose, and what its last line changes of what the disk shows.
use Rattle.std.proofs.Common.{◌≡◌, ◌⊎◌, ⊎_elim, inl, inr, ◌≤◌, ◌<◌, ℕ, Bool, true, List, [], ◌∷◌, length, Option, Some, None, Result, Ok, Err, refl, sym, subst, ◌∙◌, arith}
use Rattle.std.specs.Prelude.{unwrap_or, IfErr}
use Rattle.std.specs.List.{Contains}
use Rattle.fresh_disk.specs.Published.{IsAlone}
use Rattle.edge_model.specs.Causes.{Rose}
use Rattle.edge_model.specs.Files.{Files}
use Rattle.rollback_journal.specs.Recovery.{IsPlaybackDone, recovered}
use Rattle.sqlcipher_tool.specs.Answer.{Answer, HasDrawnCauses, IsAnswer, IsEarly, IsFault, IsStopStatus, done}
use Rattle.sqlcipher_tool.specs.Change.{IsLateChange, change_answer, change_status, stop_status}
use Rattle.sqlcipher_tool.specs.Promises.{AnswersOne, PutsSo}
use Rattle.sqlcipher_tool.specs.Stop.{IsLateStop, stop_answer}
use Rattle.sqlcipher_tool.specs.declared.opening.ChangeError.{ChangeError}
use Rattle.sqlcipher_tool.specs.declared.opening.ChangeError.TheVariants.{Stopped, EntropyFault as EntropyFails}
use Rattle.sqlcipher_tool.specs.declared.opening.Stop.{Stop}
use Rattle.sqlcipher_tool.specs.declared.opening.Stop.TheVariants.{Refused as StopRefused, KeyRefused as StopKey, DiskFault as StopDisk, OutOfMemory as StopMemory}
use Rattle.sqlcipher_tool.specs.declared.status.Status.{Status}
use Rattle.sqlcipher_tool.specs.declared.status.Status.TheVariants.{Done, Usage, Refused, KeyRefused, DiskFault, OutputFault, InputFault, EntropyFault, OutOfMemory}
use Rattle.sqlcipher_tool.proofs.Answered.{first_due}
use Rattle.sqlcipher_tool.proofs.Conclusions.{no_part}
use Rattle.sqlcipher_tool.proofs.Stamping.{rose_from}
use Rattle.sqlcipher_tool.proofs.Changing.{stop_not_done}

-- ---- what is answered

-- a fault has no answer
pub fault_none : (r : Result (List ℕ) ChangeError) (answer : Answer) → IsFault (change_status r) → change_answer r ≡ Some answer → ⊥
fault_none (Ok report) answer fault is = fault
fault_none (Err (Stopped (StopRefused refusal))) answer fault is = fault
fault_none (Err (Stopped StopKey)) answer fault is = fault
fault_none (Err (Stopped StopDisk)) answer fault is = cc
fault_none (Err (Stopped StopMemory)) answer fault is = cc
fault_none (Err EntropyFails) answer fault is = cc

pub the_only : (due answer : Answer) → due ≡ answer → Contains (due ∷ []) answer
the_only due answer is = (0, omega arith, is)

silent_puts : (status : Status) (due : Answer) (before after : List ℕ) → IsFault status → after ≡ before → PutsSo status due before after
silent_puts Done due before after fault same = absurd fault
silent_puts Usage due before after fault same = absurd fault
silent_puts (Refused refusal) due before after fault same = absurd fault
silent_puts KeyRefused due before after fault same = absurd fault
silent_puts DiskFault due before after fault same = no_part due.begun before after same
silent_puts OutputFault due before after fault same = no_part due.text before after same
silent_puts InputFault due before after fault same = no_part due.begun before after same
silent_puts EntropyFault due before after fault same = no_part due.begun before after same
silent_puts OutOfMemory due before after fault same = no_part due.begun before after same

-- a fault, and nothing was printed
pub silent_one : (answers : List Answer) (status : Status) (tells : Bool) (before after : List ℕ) → 0 < length answers → IsFault status → after ≡ before → AnswersOne answers status tells before after
silent_one answers status tells before after some fault same =
    let due = first_due answers some in
    record { answer = due.0; is_due = due.1; answered = inr fault; puts = λ printed. silent_puts status due.0 before after fault same }

-- ---- the last line

-- the status of a stop, or the output failed
pub stop_last : (stop : Stop) (last : Status) → ((answer : Answer) → stop_answer stop ≡ Some answer → (last ≡ answer.status) ⊎ (last ≡ OutputFault))
    → (stop ≡ StopDisk → last ≡ DiskFault) → (stop ≡ StopMemory → last ≡ OutOfMemory)
    → (last ≡ stop_status stop) ⊎ ((last ≡ OutputFault) × IsAnswer (stop_status stop))
stop_last (StopRefused refusal) last answered failed starved = ⊎_elim (λ same. inl same) (λ out. inr (out, tt)) (answered _ refl)
stop_last StopKey last answered failed starved = ⊎_elim (λ same. inl same) (λ out. inr (out, tt)) (answered _ refl)
stop_last StopDisk last answered failed starved = inl (failed refl)
stop_last StopMemory last answered failed starved = inl (starved refl)

pub last_not_done : (stop : Stop) (last : Status) → (last ≡ stop_status stop) ⊎ ((last ≡ OutputFault) × IsAnswer (stop_status stop)) → last ≡ Done → ⊥
last_not_done stop last is done = ⊎_elim (λ same. stop_not_done stop (sym same ∙ done)) (λ out. output_not_done (sym out.0 ∙ done)) is
  where
    output_not_done : OutputFault ≡ Done → ⊥
    output_not_done is = cc

-- ---- the counts

pub causes_printed : (last : Status) (a b d e f g : ℕ) → (last ≡ Done) ⊎ (last ≡ OutputFault) → (last ≡ OutputFault → Rose d e) → a ≤ b → d ≤ e → f ≤ g
    → HasDrawnCauses last true a b d e f g
causes_printed last a b d e f g is rose one two three = ⊎_elim
    (λ (same : last ≡ Done). subst (λ (s : Status). HasDrawnCauses s true a b d e f g) (sym same) (record {
      disk = λ no. absurd (done_disk no);
      output = λ no. absurd (done_output no);
      entropy = λ no. absurd (done_entropy no);
      input = λ no. done_input no;
      usage = λ no. done_usage no;
      late = λ no. no;
      disk_later = one;
      output_later = two;
      entropy_later = three;
    }))
    (λ (out : last ≡ OutputFault). subst (λ (s : Status). HasDrawnCauses s true a b d e f g) (sym out) (record {
      disk = λ no. absurd (output_disk no);
      output = λ no. rose out;
      entropy = λ no. absurd (output_entropy no);
      input = λ no. output_input no;
      usage = λ no. output_usage no;
      late = λ no. no;
      disk_later = one;
      output_later = two;
      entropy_later = three;
    })) is
  where
    done_disk : Done ≡ DiskFault → ⊥
    done_disk is = cc

    done_output : Done ≡ OutputFault → ⊥
    done_output is = cc

    done_entropy : Done ≡ EntropyFault → ⊥
    done_entropy is = cc

    done_input : Done ≡ InputFault → ⊥
    done_input is = cc

    done_usage : Done ≡ Usage → ⊥
    done_usage is = cc

    output_disk : OutputFault ≡ DiskFault → ⊥
    output_disk is = cc

    output_entropy : OutputFault ≡ EntropyFault → ⊥
    output_entropy is = cc

    output_input : OutputFault ≡ InputFault → ⊥
    output_input is = cc

    output_usage : OutputFault ≡ Usage → ⊥
    output_usage is = cc

pub causes_stopped : (stop : Stop) (last : Status) (a b d e f g : ℕ) → (last ≡ DiskFault → stop ≡ StopDisk) → (stop ≡ StopDisk → Rose a b) → (last ≡ OutputFault → Rose d e)
    → IsStopStatus last → (IsEarly last → ⊥) → a ≤ b → d ≤ e → f ≤ g → HasDrawnCauses last true a b d e f g
causes_stopped stop last a b d e f g failed rose out other late one two three = record {
  disk = λ is. rose (failed is);
  output = out;
  entropy = λ is. absurd (subst IsStopStatus is other);
  input = λ is. subst IsStopStatus is other;
  usage = λ is. subst IsStopStatus is other;
  late = late;
  disk_later = one;
  output_later = two;
  entropy_later = three;
}

pub causes_undrawn : (a b d f g : ℕ) → Rose f g → a ≤ b → f ≤ g → HasDrawnCauses EntropyFault true a b d d f g
causes_undrawn a b d f g rose one three = record {
  disk = λ no. absurd (entropy_disk no);
  output = λ no. absurd (entropy_output no);
  entropy = λ is. (rose, refl);
  input = λ no. entropy_input no;
  usage = λ no. entropy_usage no;
  late = λ no. no;
  disk_later = one;
  output_later = omega arith;
  entropy_later = three;
}
  where
    entropy_disk : EntropyFault ≡ DiskFault → ⊥
    entropy_disk is = cc

    entropy_output : EntropyFault ≡ OutputFault → ⊥
    entropy_output is = cc

    entropy_input : EntropyFault ≡ InputFault → ⊥
    entropy_input is = cc

    entropy_usage : EntropyFault ≡ Usage → ⊥
    entropy_usage is = cc

-- a run before it
pub causes_after : (status : Status) (before a b d e f g : ℕ) → before ≤ a → HasDrawnCauses status true a b d e f g → HasDrawnCauses status true before b d e f g
causes_after status before a b d e f g le causes = record {
  disk = λ is. rose_from before a b le (causes.disk is);
  output = causes.output;
  entropy = causes.entropy;
  input = causes.input;
  usage = causes.usage;
  late = causes.late;
  disk_later = omega (arith, le, causes.disk_later);
  output_later = causes.output_later;
  entropy_later = causes.entropy_later;
}

pub late_stop : {T : Type 0} (r : Result T ChangeError) (stop : Stop) → r ≡ Err (Stopped stop) → IfErr r IsLateChange → IsLateStop stop
late_stop {T} r stop is late = subst (λ (o : Result T ChangeError). IfErr o IsLateChange) is late

-- ---- the recovery before it

pub done_alone : (size : ℕ) (main journal : Option (List ℕ)) (image : Files) → IsPlaybackDone size main journal image → IsAlone (recovered size (unwrap_or main []) journal) image
done_alone size None journal image done = absurd done
done_alone size (Some main) journal image done = record { main = done.0; journal = done.1 }
