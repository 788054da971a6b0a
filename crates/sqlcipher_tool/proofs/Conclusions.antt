-- What is printed where a command stops.
use Rattle.std.proofs.Common.{◌≡◌, ◌⊎◌, ⊎_elim, inl, inr, ℕ, List, [], Option, Some, Result, Ok, Err, unwrap_or, refl, sym, ap, ◌∙◌, subst, append-nil}
use Rattle.rollback_journal.specs.declared.recovery.Recovery.{Recovery}
use Rattle.rollback_journal.specs.declared.recovery.RecoverError.{RecoverError}
use Rattle.text_lines.specs.Text.{PutsPart}
use Rattle.sqlcipher_tool.specs.Answer.{Answer, IsAnswered, IsFault, Puts, refused, key_refused}
use Rattle.sqlcipher_tool.specs.declared.opening.Stop.{Stop}
use Rattle.sqlcipher_tool.specs.declared.opening.Stop.TheVariants.{Refused as StopRefused, KeyRefused as StopKey, DiskFault as StopDisk, OutOfMemory as StopMemory}
use Rattle.sqlcipher_tool.specs.declared.status.Status.{Status}
use Rattle.sqlcipher_tool.specs.declared.status.Status.TheVariants.{DiskFault, OutputFault, OutOfMemory}
use Rattle.sqlcipher_tool.specs.Recovered.{recovery_answer, refused_answer}
use Rattle.sqlcipher_tool.specs.Stop.{IsOutside, stop_answer, outcome_answer}

-- where nothing was put, that is a part of any text
pub no_part : (text before after : List ℕ) → after ≡ before → PutsPart text before after
no_part text before after same = record { put = []; rest = text; whole = refl; appended = same ∙ sym (append-nil before) }

-- where the disk failed and nothing was put, nothing is a part of what is due
pub nothing_put : (text before after : List ℕ) (status : Status) → (status ≡ DiskFault) × (after ≡ before) → Puts status text before after
nothing_put text before after status failed = subst (λ (s : Status). Puts s text before after) (sym failed.0) (no_part text before after failed.1)

-- and the same where memory ran out
pub nothing_fed : (text before after : List ℕ) (status : Status) → (status ≡ OutOfMemory) × (after ≡ before) → Puts status text before after
nothing_fed text before after status failed = subst (λ (s : Status). Puts s text before after) (sym failed.0) (no_part text before after failed.1)

-- the answer of a stop is the one that is due
pub stop_text : (stop : Stop) (due : Option Answer) (otherwise : Answer) (status : Status) (before after : List ℕ)
    → (stop ≡ StopDisk) ⊎ (due ≡ stop_answer stop)
    → ((answer : Answer) → stop_answer stop ≡ Some answer → Puts status answer.text before after)
    → (stop ≡ StopDisk → (status ≡ DiskFault) × (after ≡ before))
    → (stop ≡ StopMemory → (status ≡ OutOfMemory) × (after ≡ before))
    → Puts status (unwrap_or due otherwise).text before after
stop_text StopDisk due otherwise status before after is text failed starved =
    nothing_put (unwrap_or due otherwise).text before after status (failed refl)
stop_text StopMemory due otherwise status before after is text failed starved =
    nothing_fed (unwrap_or due otherwise).text before after status (starved refl)
stop_text StopKey due otherwise status before after is text failed starved =
    ⊎_elim (λ (disk : StopKey ≡ StopDisk). cc)
    (λ (same : due ≡ Some key_refused).
    subst (λ (d : Option Answer). Puts status (unwrap_or d otherwise).text before after) (sym same) (text key_refused refl)) is
stop_text (StopRefused refusal) due otherwise status before after is text failed starved =
    ⊎_elim (λ (disk : StopRefused refusal ≡ StopDisk). cc)
    (λ (same : due ≡ Some (refused refusal)).
    subst (λ (d : Option Answer). Puts status (unwrap_or d otherwise).text before after) (sym same) (text (refused refusal) refl)) is

-- the answer of an outcome is the one that is due
pub outcome_text : (outcome : Result (List ℕ) Stop) (due : Answer) (status : Status) (before after : List ℕ)
    → (outcome ≡ Err StopDisk) ⊎ ((outcome ≡ Err StopMemory) ⊎ (outcome_answer outcome ≡ Some due))
    → ((answer : Answer) → outcome_answer outcome ≡ Some answer → Puts status answer.text before after)
    → (outcome ≡ Err StopDisk → (status ≡ DiskFault) × (after ≡ before))
    → (outcome ≡ Err StopMemory → (status ≡ OutOfMemory) × (after ≡ before))
    → Puts status due.text before after
outcome_text outcome due status before after is text failed starved =
    ⊎_elim (λ (disk : outcome ≡ Err StopDisk). nothing_put due.text before after status (failed disk))
    (λ rest. ⊎_elim (λ (memory : outcome ≡ Err StopMemory). nothing_fed due.text before after status (starved memory))
    (λ (same : outcome_answer outcome ≡ Some due). text due same) rest) is

-- and its status
pub outcome_status : (outcome : Result (List ℕ) Stop) (due : Answer) (status : Status)
    → (outcome ≡ Err StopDisk) ⊎ ((outcome ≡ Err StopMemory) ⊎ (outcome_answer outcome ≡ Some due))
    → ((answer : Answer) → outcome_answer outcome ≡ Some answer → (status ≡ answer.status) ⊎ (status ≡ OutputFault))
    → (outcome ≡ Err StopDisk → status ≡ DiskFault)
    → (outcome ≡ Err StopMemory → status ≡ OutOfMemory)
    → IsAnswered status due
outcome_status outcome due status is answers failed starved =
    ⊎_elim (λ (disk : outcome ≡ Err StopDisk). inr (subst IsFault (sym (failed disk)) tt))
    (λ rest. ⊎_elim (λ (memory : outcome ≡ Err StopMemory). inr (subst IsFault (sym (starved memory)) tt))
    (λ (same : outcome_answer outcome ≡ Some due). ⊎_elim (λ (is : status ≡ due.status). inl is) (λ (out : status ≡ OutputFault). inr (subst IsFault (sym out) tt)) (answers due same)) rest) is

-- what a recovery that stops comes to
pub stop_told : (stop : Stop) (r : Result Recovery RecoverError) → IsOutside stop ⊎ (stop_answer stop ≡ refused_answer r)
    → (stop ≡ StopDisk) ⊎ ((stop ≡ StopMemory) ⊎ (stop_answer stop ≡ Some (recovery_answer r)))
stop_told StopDisk r is = inl refl
stop_told StopMemory r is = inr (inl refl)
stop_told StopKey (Ok did) is = ⊎_elim (λ outside. ⊎_elim (λ (disk : StopKey ≡ StopDisk). cc) (λ (memory : StopKey ≡ StopMemory). cc) outside) (λ same. cc) is
stop_told StopKey (Err error) is =
    ⊎_elim (λ outside. ⊎_elim (λ (disk : StopKey ≡ StopDisk). cc) (λ (memory : StopKey ≡ StopMemory). cc) outside) (λ same. inr (inr same)) is
stop_told (StopRefused refusal) (Ok did) is =
    ⊎_elim (λ outside. ⊎_elim (λ (disk : StopRefused refusal ≡ StopDisk). cc) (λ (memory : StopRefused refusal ≡ StopMemory). cc) outside)
    (λ same. cc) is
stop_told (StopRefused refusal) (Err error) is =
    ⊎_elim (λ outside. ⊎_elim (λ (disk : StopRefused refusal ≡ StopDisk). cc) (λ (memory : StopRefused refusal ≡ StopMemory). cc) outside)
    (λ same. inr (inr same)) is

-- the outcome of a recovery that stops
abbrev stopped : Stop → Result (List ℕ) Stop
stopped stop = Err stop

pub outcome_told : (stop : Stop) (r : Result Recovery RecoverError) → IsOutside stop ⊎ (stop_answer stop ≡ refused_answer r)
    → (stopped stop ≡ Err StopDisk) ⊎ ((stopped stop ≡ Err StopMemory) ⊎ (outcome_answer (stopped stop) ≡ Some (recovery_answer r)))
outcome_told stop r is =
    ⊎_elim (λ disk. inl (ap stopped disk)) (λ rest. ⊎_elim (λ memory. inr (inl (ap stopped memory))) (λ same. inr (inr same)) rest) (stop_told stop r is)
