-- What a file that is opened comes to.
use Rattle.std.proofs.Common.{◌≡◌, ◌⊎◌, ⊎_elim, inl, inr, ℕ, List, Some, Result, Ok, Err, refl, sym, ap, ◌∙◌}
use Rattle.pager.specs.Opening.{Opened, IsRefusedBy}
use Rattle.pager.specs.declared.opening.OpenError.{OpenError}
use Rattle.pager.specs.declared.opening.OpenError.TheVariants.{Empty, Short, KeyRefused as NoKey, HeaderFault, WalMode, AutoVacuum, Ragged, TooLarge, DiskFault as DiskFails, OutOfMemory as MemoryEnds}
use Rattle.sqlcipher_tool.specs.Header.{opened_answer}
use Rattle.sqlcipher_tool.specs.Opening.{open_answer, unopened_answer}
use Rattle.sqlcipher_tool.specs.Stop.{IsOutside, outcome_answer, stop_answer, stop_of}
use Rattle.sqlcipher_tool.specs.declared.opening.Stop.{Stop}
use Rattle.sqlcipher_tool.specs.declared.opening.Stop.TheVariants.{Refused as StopRefused, KeyRefused as StopKey, DiskFault as StopDisk, OutOfMemory as StopMemory}

-- a file that does not open has this answer, or something outside stopped the command
answered : (error : OpenError) → IsOutside (stop_of error) ⊎ (stop_answer (stop_of error) ≡ Some (open_answer error))
answered Empty = inr refl
answered (Short len) = inr refl
answered NoKey = inr refl
answered (HeaderFault offset found) = inr refl
answered WalMode = inr refl
answered AutoVacuum = inr refl
answered (Ragged len) = inr refl
answered (TooLarge pages) = inr refl
answered DiskFails = inl (inl refl)
answered MemoryEnds = inl (inr refl)

stopped_by : (error : OpenError) (opened : Result Opened OpenError) → opened ≡ Err error → IsOutside (stop_of error) ⊎ (stop_answer (stop_of error) ≡ unopened_answer opened)
stopped_by error opened is =
    ⊎_elim (λ outside. inl outside) (λ same. inr (same ∙ sym (ap (λ (r : Result Opened OpenError). unopened_answer r) is))) (answered error)

-- a file that does not open
pub open_stop : (opened : Result Opened OpenError) (error : OpenError) → IsRefusedBy opened error
    → IsOutside (stop_of error) ⊎ (stop_answer (stop_of error) ≡ unopened_answer opened)
open_stop opened error is =
    ⊎_elim (λ (failed : error ≡ DiskFails). inl (inl (ap stop_of failed)))
    (λ rest. ⊎_elim (λ starved. inl (inr (ap stop_of starved.0))) (λ (same : opened ≡ Err error). stopped_by error opened same) rest) is

abbrev stopped : Stop → Result (List ℕ) Stop
stopped stop = Err stop

-- the outcome where it does not
pub unopened_told : (stop : Stop) (opened : Result Opened OpenError) → IsOutside stop ⊎ (stop_answer stop ≡ unopened_answer opened)
    → (stopped stop ≡ Err StopDisk) ⊎ ((stopped stop ≡ Err StopMemory) ⊎ (outcome_answer (stopped stop) ≡ Some (opened_answer opened)))
unopened_told StopDisk opened is = inl refl
unopened_told StopMemory opened is = inr (inl refl)
unopened_told StopKey (Ok opened) is = ⊎_elim (λ outside. ⊎_elim (λ (disk : StopKey ≡ StopDisk). cc) (λ (memory : StopKey ≡ StopMemory). cc) outside) (λ same. cc) is
unopened_told StopKey (Err error) is =
    ⊎_elim (λ outside. ⊎_elim (λ (disk : StopKey ≡ StopDisk). cc) (λ (memory : StopKey ≡ StopMemory). cc) outside) (λ same. inr (inr same)) is
unopened_told (StopRefused refusal) (Ok opened) is =
    ⊎_elim (λ outside. ⊎_elim (λ (disk : StopRefused refusal ≡ StopDisk). cc) (λ (memory : StopRefused refusal ≡ StopMemory). cc) outside) (λ same. cc) is
unopened_told (StopRefused refusal) (Err error) is =
    ⊎_elim (λ outside. ⊎_elim (λ (disk : StopRefused refusal ≡ StopDisk). cc) (λ (memory : StopRefused refusal ≡ StopMemory). cc) outside)
    (λ same. inr (inr same)) is
