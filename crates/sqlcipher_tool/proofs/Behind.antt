-- Behind a recovery the disk was only read, as the status says.
use Rattle.std.proofs.Common.{◌≡◌, ◌⊎◌, inl, inr, ⊎_elim, ℕ, Bool, true, false, List, Option, Some, None, Result, Ok, Err, if◌then◌else◌, refl, sym, ap, subst, ◌∙◌}
use Rattle.std.specs.Prelude.{◌≢◌, IfErr, OnOk}
use Rattle.cipher_profile.specs.declared.key_line.KeyError.{KeyError}
use Rattle.cipher_profile.specs.declared.key_line.KeyError.TheVariants.{KeyMissing, KeyEmpty, KeyTooLong, KeyForm, KeyUnsalted, KeyNotHex, SourceFault}
use Rattle.cipher_profile.specs.declared.profile.Profile.{Profile}
use Rattle.fresh_disk.specs.OnlyFresh.{IsOld, OnlyFresh, only_fresh_stays}
use Rattle.edge_model.specs.Files.{Files, bytes_of}
use Rattle.edge_model.specs.Images.{Each}
use Rattle.edge_model.specs.OnlyRead.{OnlyRead}
use Rattle.migrate_job.specs.declared.error.MigrateError.{MigrateError}
use Rattle.migrate_job.specs.declared.error.MigrateError.TheVariants.{DiskFault as DiskFails}
use Rattle.rekey_job.specs.Stops.{is_unwritten}
use Rattle.rekey_job.specs.declared.error.RekeyError.{RekeyError}
use Rattle.rekey_job.specs.declared.error.RekeyError.TheVariants.{LayoutDiffers as LayoutsDiffer, PageTag as RekeyTag, Defect as RekeyDefect, DiskFault as RekeyDisk, EntropyFault as RekeyEntropy, OutOfMemory as RekeyMemory}
use Rattle.rollback_journal.specs.Recovery.{IsPlaybackDone}
use Rattle.sqlcipher_tool.specs.Answer.{Answer, IsAnswer, IsFault, is_early_refusal}
use Rattle.sqlcipher_tool.specs.Behind.{HasOnlyRead, IsOfRecovery, IsRefusal, IsRefusedChange, LeavesRecovered}
use Rattle.sqlcipher_tool.specs.Change.{change_status, rekey_error, stop_status}
use Rattle.sqlcipher_tool.specs.Due.{key_answer, word_refusal}
use Rattle.sqlcipher_tool.specs.Holding.{DiskRun}
use Rattle.sqlcipher_tool.specs.Migrate.{migrate_error}
use Rattle.sqlcipher_tool.specs.Stop.{outcome_answer}
use Rattle.sqlcipher_tool.specs.Untouched.{IsUnwritten}
use Rattle.sqlcipher_tool.specs.Words.{is_only_read, lacks_tags, layouts_differ}
use Rattle.sqlcipher_tool.specs.declared.command.Command.{Command}
use Rattle.sqlcipher_tool.specs.declared.opening.ChangeError.{ChangeError}
use Rattle.sqlcipher_tool.specs.declared.opening.ChangeError.TheVariants.{Stopped, EntropyFault as EntropyFails}
use Rattle.sqlcipher_tool.specs.declared.opening.Stop.{Stop}
use Rattle.sqlcipher_tool.specs.declared.opening.Stop.TheVariants.{Refused as StopRefused, KeyRefused as StopKey, DiskFault as StopDisk, OutOfMemory as StopMemory}
use Rattle.sqlcipher_tool.specs.declared.status.Refusal.{Refusal}
use Rattle.sqlcipher_tool.specs.declared.status.Refusal.TheVariants.{NoTags, LayoutDiffers, OnlyRead as ReadAlone, KeyMissing as NoLine, KeyEmpty as EmptyLine, KeyTooLong as LongLine, KeyForm as BadLine, KeyUnsalted as BareLine, KeyNotHex as OtherLine}
use Rattle.sqlcipher_tool.specs.declared.status.Status.{Status}
use Rattle.sqlcipher_tool.specs.declared.status.Status.TheVariants.{Done, Refused, DiskFault, OutputFault, InputFault, OutOfMemory}
use Rattle.sqlcipher_tool.proofs.Changed.{stop_last}

-- ---- the files

-- what was only read has Main and Journal as before in each image
pub read_stays : {D : Type 0} {reads : D → Files} {images : D → Files → Type 0} {moment : D → ℕ} {since : D → ℕ → Files → Type 0} {old new : D}
    → OnlyRead reads images moment since old new → Each (images new) (IsOld (images old))
read_stays read = λ c now. (c, read.same_images.no_more c now, only_fresh_stays c)

-- and is recovered, where it was
pub old_done : (size : ℕ) (main journal : Option (List ℕ)) (was image : Files) → OnlyFresh was image → IsPlaybackDone size main journal was → IsPlaybackDone size main journal image
old_done size None journal was image same done = done
old_done size (Some main) journal was image same done = (ap bytes_of same.main ∙ done.0, same.journal ∙ done.1)

-- the same after a run that only read
pub after_read : {T E : Type 0} (A : E → Type 0) {B : Type 0} {start mid : Files → Type 0} (now : Files → Type 0) (r : Result T E) → (B → (c : Files) → mid c → start c)
    → IfErr r (λ e. A e → B → Each now (IsOld mid)) → IfErr r (λ e. A e → B → Each now (IsOld start))
after_read A now (Ok x) less stays = tt
after_read A now (Err e) less stays = λ refused told c here. let from = stays refused told c here in (from.0, less told from.0 from.1, from.2)

-- ---- the status

abbrev pub IsLast : Stop → Status → Type 0
IsLast stop last = (last ≡ stop_status stop) ⊎ ((last ≡ OutputFault) × IsAnswer (stop_status stop))

-- a stop of the recovery says nothing of what is behind it
pub recovery_last : (drawing : Bool) (stop : Stop) (last : Status) → IsOfRecovery stop → IsLast stop last → HasOnlyRead drawing last → ⊥
recovery_last drawing stop last of is has = ⊎_elim (λ same. by_stop stop of (subst (λ (s : Status). HasOnlyRead drawing s) same has))
    (λ out. subst (λ (s : Status). HasOnlyRead drawing s) out.0 has) is
  where
    by_stop : (stop : Stop) → IsOfRecovery stop → HasOnlyRead drawing (stop_status stop) → ⊥
    by_stop (StopRefused refusal) of has = has.1 of
    by_stop StopKey of has = of
    by_stop StopDisk of has = has
    by_stop StopMemory of has = has

-- a change that only read was refused
pub refusal_last : (stop : Stop) (last : Status) → IsLast stop last → HasOnlyRead true last → IsRefusal stop
refusal_last stop last is has = ⊎_elim (λ same. by_stop stop (subst (λ (s : Status). HasOnlyRead true s) same has))
    (λ out. absurd (subst (λ (s : Status). HasOnlyRead true s) out.0 has)) is
  where
    by_stop : (stop : Stop) → HasOnlyRead true (stop_status stop) → IsRefusal stop
    by_stop (StopRefused refusal) has = tt
    by_stop StopKey has = tt
    by_stop StopDisk has = has
    by_stop StopMemory has = has

-- one that was done did more
pub done_last : (last : Status) → (last ≡ Done) ⊎ (last ≡ OutputFault) → HasOnlyRead true last → ⊥
done_last last is has = ⊎_elim (λ same. no_more (subst (λ (s : Status). HasOnlyRead true s) same has))
    (λ out. subst (λ (s : Status). HasOnlyRead true s) out has) is
  where
    no_more : true ≡ false → ⊥
    no_more is = cc

-- the outcome of a recovery whose status says that it was done
pub outcome_done : {P : Type 0} (outcome : Result (List ℕ) Stop) (last : Status) → IfErr outcome IsOfRecovery
    → ((answer : Answer) → outcome_answer outcome ≡ Some answer → (last ≡ answer.status) ⊎ (last ≡ OutputFault))
    → (outcome ≡ Err StopDisk → last ≡ DiskFault) → (outcome ≡ Err StopMemory → last ≡ OutOfMemory)
    → OnOk outcome P → HasOnlyRead false last → P
outcome_done (Ok report) last of answered failed starved done has = done
outcome_done (Err stop) last of answered failed starved done has =
    absurd (recovery_last false stop last of (stop_last stop last answered (λ is. failed (ap Err is)) (λ is. starved (ap Err is))) has)

abbrev given : Refusal → Option Refusal
given refusal = Some refusal

-- what the words or a key line refuse comes before the recovery
early_last : (drawing : Bool) (refusal : Refusal) (last : Status) → is_early_refusal refusal ≡ true → (last ≡ Refused refusal) ⊎ (last ≡ OutputFault) → HasOnlyRead drawing last → ⊥
early_last drawing refusal last early is has = ⊎_elim
    (λ (same : last ≡ Refused refusal).
    let late : HasOnlyRead drawing (Refused refusal) = subst (λ (s : Status). HasOnlyRead drawing s) same has in
    let never : true ≡ false = sym early ∙ late.0 in cc)
    (λ (out : last ≡ OutputFault). subst (λ (s : Status). HasOnlyRead drawing s) out has) is

pub key_last : (drawing : Bool) (error : KeyError) (last : Status) → (error ≢ SourceFault → (last ≡ (key_answer error).status) ⊎ (last ≡ OutputFault))
    → (error ≡ SourceFault → last ≡ InputFault) → HasOnlyRead drawing last → ⊥
key_last drawing KeyMissing last refused failed has = early_last drawing NoLine last refl (refused (λ is. cc)) has
key_last drawing KeyEmpty last refused failed has = early_last drawing EmptyLine last refl (refused (λ is. cc)) has
key_last drawing KeyTooLong last refused failed has = early_last drawing LongLine last refl (refused (λ is. cc)) has
key_last drawing KeyForm last refused failed has = early_last drawing BadLine last refl (refused (λ is. cc)) has
key_last drawing KeyUnsalted last refused failed has = early_last drawing BareLine last refl (refused (λ is. cc)) has
key_last drawing KeyNotHex last refused failed has = early_last drawing OtherLine last refl (refused (λ is. cc)) has
key_last drawing SourceFault last refused failed has = subst (λ (s : Status). HasOnlyRead drawing s) (failed refl) has

pub word_last : (drawing : Bool) (command : Command) (refusal : Refusal) (last : Status) → word_refusal command ≡ Some refusal
    → (last ≡ Refused refusal) ⊎ (last ≡ OutputFault) → HasOnlyRead drawing last → ⊥
word_last drawing command refusal last is refused has = early_last drawing refusal last (early (is_only_read command) (lacks_tags command) (layouts_differ command) is) refused has
  where
    some_is : (a b : Refusal) → given a ≡ given b → a ≡ b
    some_is a b same = cc

    early : (read a b : Bool) → (if read then Some ReadAlone else (if a then Some NoTags else (if b then Some LayoutDiffers else None))) ≡ Some refusal
        → is_early_refusal refusal ≡ true
    early true a b is = subst (λ (r : Refusal). is_early_refusal r ≡ true) (some_is ReadAlone refusal is) refl
    early false true b is = subst (λ (r : Refusal). is_early_refusal r ≡ true) (some_is NoTags refusal is) refl
    early false false true is = subst (λ (r : Refusal). is_early_refusal r ≡ true) (some_is LayoutDiffers refusal is) refl
    early false false false is = cc

-- then nothing is said
pub unread : (status : Status) (alters : Bool) (profile : Option Profile) (run : DiskRun) → (HasOnlyRead alters status → ⊥) → IsUnwritten run → LeavesRecovered status alters profile run
unread status alters None run never still = tt
unread status alters (Some profile) run never still = (λ has. absurd (never has), λ reads no_fault. inr still)

-- a command that changes the file is not one that only reads
pub no_reading : {P : Type 0} → true ≡ false → P
no_reading is = absurd (differ is)
  where
    differ : true ≡ false → ⊥
    differ e = cc

-- a report on the recovery, which was done, or was stopped before a write
pub outcome_left : {P Q Told : Type 0} (outcome : Result (List ℕ) Stop) (last : Status) → OnOk outcome (Told → P) → IfErr outcome (λ stop. Told → stop ≢ StopDisk → Q)
    → (outcome ≡ Err StopDisk → last ≡ DiskFault) → Told → last ≢ DiskFault → P ⊎ Q
outcome_left (Ok report) last done stopped failed told no_fault = inl (done told)
outcome_left (Err (StopRefused refusal)) last done stopped failed told no_fault = inr (stopped told (λ is. cc))
outcome_left (Err StopKey) last done stopped failed told no_fault = inr (stopped told (λ is. cc))
outcome_left (Err StopDisk) last done stopped failed told no_fault = absurd (no_fault (failed refl))
outcome_left (Err StopMemory) last done stopped failed told no_fault = inr (stopped told (λ is. cc))

-- ---- the changes

-- behind the opening nothing refuses a stamp
pub unrefused : {told : Type 0} (P : Type 0) (r : Result (List ℕ) ChangeError) (report : List ℕ) → (told → IsFault (change_status r) ⊎ (r ≡ Ok report))
    → IfErr r (λ e. IsRefusedChange e → told → P)
unrefused P (Ok x) report shown = tt
unrefused P (Err (Stopped (StopRefused refusal))) report shown = λ refused told. ⊎_elim (λ fault. absurd fault) (λ is. cc) (shown told)
unrefused P (Err (Stopped StopKey)) report shown = λ refused told. ⊎_elim (λ fault. absurd fault) (λ is. cc) (shown told)
unrefused P (Err (Stopped StopDisk)) report shown = λ refused told. absurd refused
unrefused P (Err (Stopped StopMemory)) report shown = λ refused told. absurd refused
unrefused P (Err EntropyFails) report shown = λ refused told. absurd refused

-- a rekey that is refused wrote nothing
pub rekey_read : (error : RekeyError) → IsRefusedChange (rekey_error error) → is_unwritten error ≡ true
rekey_read LayoutsDiffer refused = refl
rekey_read (RekeyTag page) refused = refl
rekey_read (RekeyDefect defect) refused = refl
rekey_read RekeyDisk refused = absurd refused
rekey_read RekeyEntropy refused = absurd refused
rekey_read RekeyMemory refused = refl

-- a migration that is refused met no fault of the disk
pub migrate_undisturbed : (error : MigrateError) → IsRefusedChange (migrate_error error) → error ≡ DiskFails → ⊥
migrate_undisturbed error refused is = subst (λ (e : MigrateError). IsRefusedChange (migrate_error e)) is refused
