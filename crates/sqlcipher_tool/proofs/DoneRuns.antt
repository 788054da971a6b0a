-- What a run that is done says of the recovered file.
use Rattle.std.proofs.Common.{◌≡◌, ⊎_elim, ℕ, Bool, List, ◌∷◌, Option, Some, None, Result, Ok, Err, refl, sym, ap, subst, ◌∙◌}
use Rattle.std.specs.List.{Contains}
use Rattle.cipher_profile.specs.declared.key_line.KeyError.{KeyError}
use Rattle.cipher_profile.specs.declared.keys.Secret.{Secret}
use Rattle.cipher_profile.specs.declared.profile.Profile.{Profile}
use Rattle.edge_model.specs.Files.{Files}
use Rattle.page_codec.specs.Page.{keys_of}
use Rattle.rollback_journal.specs.declared.recovery.Recovery.{Recovery}
use Rattle.rollback_journal.specs.declared.recovery.RecoverError.{RecoverError}
use Rattle.rollback_journal.specs.declared.recovery.RecoverError.TheVariants.{JournalPageSize, SuperJournal, DiskFault, OutOfMemory}
use Rattle.sqlcipher_tool.specs.Answer.{Answer}
use Rattle.sqlcipher_tool.specs.Due.{asked_answers, command_answers, due, key_lines, keyed_answers, secret_answers, word_refusal}
use Rattle.sqlcipher_tool.specs.Reading.{job_answers}
use Rattle.sqlcipher_tool.specs.Promises.{AnswersOne}
use Rattle.sqlcipher_tool.specs.Recovered.{answers_after, recovered_answers, recovered_main, recovery_answer, recovery_of}
use Rattle.sqlcipher_tool.specs.Reported.{IsAgreed, IsExported, IsVerified, Reports}
use Rattle.sqlcipher_tool.specs.Words.{asked_keys, form, plays_with_log}
use Rattle.sqlcipher_tool.specs.declared.command.Command.{Command}
use Rattle.sqlcipher_tool.specs.declared.command.Command.TheVariants.{Read}
use Rattle.sqlcipher_tool.specs.declared.reading.Reading.TheVariants.{OnPages}
use Rattle.sqlcipher_tool.specs.declared.reading.Job.{Job}
use Rattle.sqlcipher_tool.specs.declared.reading.Job.TheVariants.{Agree as AgreePages, Export as ExportPages, Verify as VerifyPages}
use Rattle.sqlcipher_tool.specs.declared.status.Refusal.{Refusal}
use Rattle.sqlcipher_tool.specs.declared.status.Status.TheVariants.{Done}
use Rattle.sqlcipher_tool.proofs.Completeness.{one_is}
use Rattle.sqlcipher_tool.proofs.DueReports.{done_agrees, done_exports, done_verifies}

-- what is due to a command with its secrets
one_due : (words : List (List ℕ)) (left : List ℕ) (files after : Files) (command : Command) (secret : Secret) (rest : List Secret) → word_refusal command ≡ None → form words ≡ Some command
    → key_lines (asked_keys command) left ≡ Ok (secret ∷ rest) → due words left files after ≡ secret_answers command (secret ∷ rest) files after
one_due words left files after command secret rest unrefused is gave =
    ap (λ (c : Option Command). command_answers (plays_with_log words) c left files after) is
    ∙ ap (λ (r : Option Refusal). asked_answers r command left files after) unrefused
    ∙ ap (λ (lines : Result (List Secret) KeyError). keyed_answers command lines files after) gave

-- a recovery that is refused is not Done
not_recovered : (error : RecoverError) → (recovery_answer (Err error)).status ≡ Done → ⊥
not_recovered (JournalPageSize found) is = cc
not_recovered SuperJournal is = cc
not_recovered DiskFault is = cc
not_recovered OutOfMemory is = cc

recovered_done : (r : Result Recovery RecoverError) (answers : List Answer) (answer : Answer) → Contains (answers_after r answers) answer → answer.status ≡ Done → Contains answers answer
recovered_done (Ok did) answers answer h is = h
recovered_done (Err error) answers answer h is =
    absurd (not_recovered error (ap (λ (a : Answer). a.status) (one_is (recovery_answer (Err error)) answer h) ∙ is))

-- a job that was done, of which each answer that is Done says this
job_done : (job : Job) (profile : Profile) (secret : Secret) (says : List ℕ → List ℕ → Type 0)
    → ((file : List ℕ) (answer : Answer) → Contains (job_answers job profile secret file) answer → answer.status ≡ Done → says file answer.text)
    → (files : Files) (tells : Bool) (before after : List ℕ) → AnswersOne (recovered_answers profile files (job_answers job profile secret)) Done tells before after
    → Reports profile files says tells before after
job_done job profile secret says holds files tells before after one =
    let file = recovered_main profile files in
    let done : one.answer.status ≡ Done = ⊎_elim (λ same. sym same) (λ fault. absurd fault) one.answered in
    let due_so = recovered_done (recovery_of profile files) (job_answers job profile secret file) one.answer one.is_due done in
    (one.answer.text, holds file one.answer due_so done, λ printed. one.puts printed)

pub verify_done_run : (words : List (List ℕ)) (left : List ℕ) (files after : Files) (profile : Profile) (secret : Secret) (rest : List Secret) (tells : Bool) (was now : List ℕ)
    → form words ≡ Some (Read profile (OnPages VerifyPages)) → key_lines (asked_keys (Read profile (OnPages VerifyPages))) left ≡ Ok (secret ∷ rest) → AnswersOne (due words left files after) Done tells was now
    → Reports profile files (λ file text. IsVerified (keys_of profile secret file) file text) tells was now
verify_done_run words left files after profile secret rest tells was now is gave one =
    job_done VerifyPages profile secret (λ file text. IsVerified (keys_of profile secret file) file text) (done_verifies profile secret) files tells was now
    (subst (λ (l : List Answer). AnswersOne l Done tells was now) (one_due words left files after (Read profile (OnPages VerifyPages)) secret rest refl is gave) one)

pub export_done_run : (words : List (List ℕ)) (left : List ℕ) (files after : Files) (profile : Profile) (secret : Secret) (rest : List Secret) (tells : Bool) (was now : List ℕ)
    → form words ≡ Some (Read profile (OnPages ExportPages)) → key_lines (asked_keys (Read profile (OnPages ExportPages))) left ≡ Ok (secret ∷ rest) → AnswersOne (due words left files after) Done tells was now
    → Reports profile files (λ file text. IsExported (keys_of profile secret file) file text) tells was now
export_done_run words left files after profile secret rest tells was now is gave one =
    job_done ExportPages profile secret (λ file text. IsExported (keys_of profile secret file) file text) (done_exports profile secret) files tells was now
    (subst (λ (l : List Answer). AnswersOne l Done tells was now) (one_due words left files after (Read profile (OnPages ExportPages)) secret rest refl is gave) one)

pub agree_done_run : (words : List (List ℕ)) (left : List ℕ) (files after : Files) (profile : Profile) (secret : Secret) (rest : List Secret) (tells : Bool) (was now : List ℕ)
    → form words ≡ Some (Read profile (OnPages AgreePages)) → key_lines (asked_keys (Read profile (OnPages AgreePages))) left ≡ Ok (secret ∷ rest) → AnswersOne (due words left files after) Done tells was now
    → Reports profile files (IsAgreed profile secret) tells was now
agree_done_run words left files after profile secret rest tells was now is gave one =
    job_done AgreePages profile secret (IsAgreed profile secret) (done_agrees profile secret) files tells was now
    (subst (λ (l : List Answer). AnswersOne l Done tells was now) (one_due words left files after (Read profile (OnPages AgreePages)) secret rest refl is gave) one)
