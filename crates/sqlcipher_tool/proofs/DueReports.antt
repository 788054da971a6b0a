-- What a report that is due says of the file.
use Rattle.std.proofs.Common.{◌≡◌, ℕ, zero, suc, ◌==◌, ◌&&◌, Bool, true, false, List, [], ◌∷◌, Result, Ok, Err, if◌then◌else◌, refl, sym, ap, ◌∙◌, arith}
use Rattle.std.specs.List.{Contains, list_all}
use Rattle.btree_model.specs.Finding.{Finding, place, leaf, entry, key, fault, refused as unread, faults, is_sound, refusals}
use Rattle.btree_model.specs.Freelist.{freelist_walk}
use Rattle.btree_model.specs.Parts.{counts, first_faults, first_refusals, is_database, parts}
use Rattle.cipher_profile.specs.declared.keys.Secret.{Secret}
use Rattle.cipher_profile.specs.declared.profile.Profile.{Profile}
use Rattle.db_format.specs.Pages.{Pages, nothing}
use Rattle.db_format.specs.declared.defect.Defect.{Defect}
use Rattle.export_rows.specs.Report.{export_report}
use Rattle.page_codec.specs.Page.{FileKeys, keys_of}
use Rattle.pager.specs.Opening.{Opened, file_opened}
use Rattle.pager.specs.Pages.{opened_pages}
use Rattle.pager.specs.declared.opening.OpenError.{OpenError}
use Rattle.pager.specs.declared.opening.OpenError.TheVariants.{Empty, Short, KeyRefused as NoKey, HeaderFault, WalMode, AutoVacuum, Ragged, TooLarge, DiskFault as DiskFails, OutOfMemory as MemoryEnds}
use Rattle.index_report.specs.Report.{index_summary}
use Rattle.sqlcipher_tool.specs.Agree.{agree_answer, agree_answers}
use Rattle.sqlcipher_tool.specs.Answer.{Answer, done, refused}
use Rattle.sqlcipher_tool.specs.Export.{content_answers}
use Rattle.sqlcipher_tool.specs.Reading.{job_answers}
use Rattle.sqlcipher_tool.specs.Migrate.{migrate_answers, migrate_due}
use Rattle.sqlcipher_tool.specs.Opening.{open_answer, opened_with}
use Rattle.sqlcipher_tool.specs.Plain.{IsClean, Opens, content_of, refused_in_use}
use Rattle.sqlcipher_tool.specs.Rekey.{rekey_answers, rekey_due}
use Rattle.sqlcipher_tool.specs.Reported.{CanBeMigrated, CanBeRekeyed, IsAgreed, IsExported, IsVerified}
use Rattle.sqlcipher_tool.specs.Tags.{tags_of}
use Rattle.sqlcipher_tool.specs.Text.{migrated_report, rekeyed_report, verify_report}
use Rattle.sqlcipher_tool.specs.Verify.{else_answers, opened_answers, pages_answers, rest_answers, stop_answers, tags_or}
use Rattle.sqlcipher_tool.specs.declared.reading.Job.TheVariants.{Verify, Export, Agree}
use Rattle.sqlcipher_tool.specs.declared.status.Refusal.{Refusal}
use Rattle.sqlcipher_tool.specs.declared.status.Refusal.TheVariants.{IndexesDiffer, PageTag, Defect as RefusedDefect, TooManyPages}
use Rattle.sqlcipher_tool.specs.declared.status.Status.TheVariants.{Done, Refused}
use Rattle.sqlcipher_tool.proofs.Completeness.{one_is}
use Rattle.sqlcipher_tool.proofs.OpenedParts.{open_count, open_parts}

-- ---- answers that are not Done

status_same : (given answer : Answer) → given ≡ answer → answer.status ≡ Done → given.status ≡ Done
status_same given answer same is = ap (λ (a : Answer). a.status) same ∙ is

not_refused : (refusal : Refusal) (answer : Answer) → refused refusal ≡ answer → answer.status ≡ Done → ⊥
not_refused refusal answer same is = let bad : Refused refusal ≡ Done = status_same (refused refusal) answer same is in cc

pub no_stop : (defects : List Defect) (pages : List ℕ) (answer : Answer) → Contains (stop_answers defects pages) answer → answer.status ≡ Done → ⊥
no_stop [] [] answer h is = absurd (omega (arith, h.1))
no_stop [] (page ∷ pages) answer (zero, within, same) is = not_refused (PageTag page) answer same is
no_stop [] (page ∷ pages) answer (suc k, within, same) is = no_stop [] pages answer (k, omega (arith, within), same) is
no_stop (defect ∷ defects) pages answer (zero, within, same) is = not_refused (RefusedDefect defect) answer same is
no_stop (defect ∷ defects) pages answer (suc k, within, same) is = no_stop defects pages answer (k, omega (arith, within), same) is

not_opened : (error : OpenError) → (open_answer error).status ≡ Done → ⊥
not_opened Empty is = cc
not_opened (Short len) is = cc
not_opened NoKey is = cc
not_opened (HeaderFault offset found) is = cc
not_opened WalMode is = cc
not_opened AutoVacuum is = cc
not_opened (Ragged len) is = cc
not_opened (TooLarge pages) is = cc
not_opened DiskFails is = cc
not_opened MemoryEnds is = cc

-- ---- so nothing stands before it

pub opened_done : (r : Result Opened OpenError) (job : ℕ → List Answer) (answer : Answer) → Contains (opened_answers r job) answer → answer.status ≡ Done
    → (x : Opened) × (r ≡ Ok x) × Contains (job x.count) answer
opened_done (Ok x) job answer h is = (x, refl, h)
opened_done (Err error) job answer h is = absurd (not_opened error (status_same (open_answer error) answer (one_is (open_answer error) answer h) is))

pub else_done : (first later : List Answer) (answer : Answer) → (Contains first answer → ⊥) → Contains (else_answers first later) answer → (first ≡ []) × Contains later answer
else_done [] later answer none h = (refl, h)
else_done (x ∷ xs) later answer none h = absurd (none h)

tags_done : (pages : List ℕ) (rest : List Answer) (answer : Answer) → Contains (tags_or pages rest) answer → answer.status ≡ Done → (pages ≡ []) × Contains rest answer
tags_done [] rest answer h is = (refl, h)
tags_done (page ∷ more) rest answer h is =
    let bad : Refused (PageTag page) ≡ Done = status_same (tags_of page more) answer (one_is (tags_of page more) answer h) is in cc

pub no_stops : (defects : List Defect) (pages : List ℕ) → stop_answers defects pages ≡ [] → (defects ≡ []) × (pages ≡ [])
no_stops [] [] is = (refl, refl)
no_stops [] (page ∷ pages) is = cc
no_stops (defect ∷ defects) pages is = cc

-- ---- parts without a defect

sound_part : (found : List Finding) → faults found ≡ [] → refusals found ≡ [] → is_sound found ≡ true
sound_part [] no_fault no_refusal = refl
sound_part (place n ∷ rest) no_fault no_refusal = sound_part rest no_fault no_refusal
sound_part (leaf n ∷ rest) no_fault no_refusal = sound_part rest no_fault no_refusal
sound_part (entry row ∷ rest) no_fault no_refusal = sound_part rest no_fault no_refusal
sound_part (key k ∷ rest) no_fault no_refusal = sound_part rest no_fault no_refusal
sound_part (fault d ∷ rest) no_fault no_refusal = cc
sound_part (unread n ∷ rest) no_fault no_refusal = cc

sound_next : (sound : Bool) (part : List Finding) (rest : List (List Finding)) → is_sound part ≡ sound
    → (if sound then first_faults rest else faults part) ≡ [] → (if sound then first_refusals rest else refusals part) ≡ []
    → (first_faults rest ≡ [] → first_refusals rest ≡ [] → list_all is_sound rest ≡ true) → (sound && list_all is_sound rest) ≡ true
sound_next true part rest is no_fault no_refusal later = later no_fault no_refusal
sound_next false part rest is no_fault no_refusal later = let yes = sound_part part no_fault no_refusal in cc

pub sound_parts : (parts : List (List Finding)) → first_faults parts ≡ [] → first_refusals parts ≡ [] → list_all is_sound parts ≡ true
sound_parts [] no_fault no_refusal = refl
sound_parts (part ∷ rest) no_fault no_refusal = sound_next (is_sound part) part rest refl no_fault no_refusal (sound_parts rest)

pub whole_if : (pages : Pages) (later : List Answer) (answer : Answer)
    → Contains (else_answers (stop_answers (first_faults (parts pages)) (first_refusals (parts pages))) later) answer → answer.status ≡ Done
    → (is_database pages ≡ true) × Contains later answer
whole_if pages later answer h is =
    let defects = first_faults (parts pages) in
    let unaccepted = first_refusals (parts pages) in
    let next = else_done (stop_answers defects unaccepted) later answer (λ stop. no_stop defects unaccepted answer stop is) h in
    let none = no_stops defects unaccepted next.0 in
    (sound_parts (parts pages) none.0 none.1, next.1)

verified_if : (pages : Pages) (answer : Answer) → Contains (pages_answers pages) answer → answer.status ≡ Done
    → (is_database pages ≡ true) × (refused_in_use pages ≡ []) × Contains (done (verify_report (counts pages)) ∷ []) answer
verified_if pages answer h is =
    let found = freelist_walk pages nothing in
    let next = else_done (stop_answers (faults found) (refusals found)) (tags_or (refused_in_use pages) (rest_answers pages)) answer
    (λ stop. no_stop (faults found) (refusals found) answer stop is) h in
    let tags = tags_done (refused_in_use pages) (rest_answers pages) answer next.1 is in
    let whole = whole_if pages (done (verify_report (counts pages)) ∷ []) answer tags.1 is in
    (whole.0, tags.0, whole.1)

pub text_is : (report : List ℕ) (answer : Answer) → Contains (done report ∷ []) answer → answer.text ≡ report
text_is report answer h = sym (ap (λ (a : Answer). a.text) (one_is (done report) answer h))

-- or that there are too many pages
report_first : (report : List ℕ) (limit : ℕ) (b : Bool) (answer : Answer) → Contains (done report ∷ (if b then refused (TooManyPages limit) ∷ [] else [])) answer
    → answer.status ≡ Done → answer.text ≡ report
report_first report limit false answer h is = text_is report answer h
report_first report limit true answer (zero, within, same) is = sym (ap (λ (a : Answer). a.text) same)
report_first report limit true answer (suc k, within, same) is = absurd (not_refused (TooManyPages limit) answer (one_is (refused (TooManyPages limit)) answer (k, omega (arith, within), same)) is)

-- ---- the file

pub opens_to : (keys : FileKeys) (file : List ℕ) (x : Opened) → file_opened keys file ≡ Ok x → is_database (opened_pages keys file x.count) ≡ true
    → Opens keys file (content_of keys file x.count)
opens_to keys file x is sound =
    let open_so = open_parts keys file x.header x.count is in record {
      fit = open_so.fit;
      count = x.count;
      is_count = open_count keys file x.header x.count open_so;
      sound = sound;
      is = refl;
    }

pub clean_to : (keys : FileKeys) (file : List ℕ) (x : Opened) → file_opened keys file ≡ Ok x → is_database (opened_pages keys file x.count) ≡ true
    → refused_in_use (opened_pages keys file x.count) ≡ [] → (clean : IsClean keys file) × (clean.opens.count ≡ x.count)
clean_to keys file x is sound accepted =
    let open_so = open_parts keys file x.header x.count is in (
      record {
        held = content_of keys file x.count;
        opens = record {
          fit = open_so.fit;
          count = x.count;
          is_count = open_count keys file x.header x.count open_so;
          sound = sound;
          is = refl;
        };
        accepted = accepted;
      },
      refl,
    )

pub done_verifies : (profile : Profile) (secret : Secret) (file : List ℕ) (answer : Answer) → Contains (job_answers Verify profile secret file) answer
    → answer.status ≡ Done → IsVerified (keys_of profile secret file) file answer.text
done_verifies profile secret file answer h is =
    let keys = keys_of profile secret file in
    let opens = opened_done (opened_with profile secret file) (λ count. pages_answers (opened_pages keys file count)) answer h is in
    let pages = opened_pages keys file opens.0.count in
    let found = verified_if pages answer opens.2 is in
    let clean = clean_to keys file opens.0 opens.1 found.0 found.1 in
    (clean.0, text_is (verify_report (counts pages)) answer found.2 ∙ ap (λ (n : ℕ). verify_report (counts (opened_pages keys file n))) (sym clean.1))

pub done_exports : (profile : Profile) (secret : Secret) (file : List ℕ) (answer : Answer) → Contains (job_answers Export profile secret file) answer
    → answer.status ≡ Done → IsExported (keys_of profile secret file) file answer.text
done_exports profile secret file answer h is =
    let keys = keys_of profile secret file in
    let opens = opened_done (opened_with profile secret file) (λ count. content_answers (opened_pages keys file count)) answer h is in
    let held = content_of keys file opens.0.count in
    let whole = whole_if (opened_pages keys file opens.0.count) (done (export_report held) ∷ []) answer opens.2 is in
    (held, opens_to keys file opens.0 opens.1 whole.0, text_is (export_report held) answer whole.1)

-- so the indexes agree, which is what the text says
agreeing_by : (agree : Bool) (refusal : Refusal) → (if agree then Done else Refused refusal) ≡ Done → agree ≡ true
agreeing_by true refusal is = refl
agreeing_by false refusal is = cc

pub done_agrees : (profile : Profile) (secret : Secret) (file : List ℕ) (answer : Answer) → Contains (job_answers Agree profile secret file) answer
    → answer.status ≡ Done → IsAgreed profile secret file answer.text
done_agrees profile secret file answer h is =
    let keys = keys_of profile secret file in
    let opens = opened_done (opened_with profile secret file) (λ count. agree_answers (opened_pages keys file count)) answer h is in
    let pages = opened_pages keys file opens.0.count in
    let found = index_summary pages in
    let whole = whole_if pages (agree_answer pages ∷ []) answer opens.2 is in
    let same : agree_answer pages ≡ answer = one_is (agree_answer pages) answer whole.1 in (
      record {
        opened = opens.0;
        opens = opens.1;
        sound = whole.0;
        agree = agreeing_by (found.differing == 0) (IndexesDiffer found.differing found.checked) (status_same (agree_answer pages) answer same is);
      },
      sym (ap (λ (a : Answer). a.text) same),
    )

pub done_rekeys : (profile : Profile) (secret : Secret) (file : List ℕ) (answer : Answer) → Contains (rekey_answers profile secret file) answer
    → answer.status ≡ Done → CanBeRekeyed (keys_of profile secret file) file answer.text
done_rekeys profile secret file answer h is =
    let keys = keys_of profile secret file in
    let opens = opened_done (opened_with profile secret file) (λ count. rekey_due (opened_pages keys file count)) answer h is in
    let pages = opened_pages keys file opens.0.count in
    let last : List Answer = done (rekeyed_report pages.count) ∷ [] in
    let unaccepted = refused_in_use pages in
    let whole = whole_if pages (else_answers (stop_answers [] unaccepted) last) answer opens.2 is in
    let next = else_done (stop_answers [] unaccepted) last answer (λ stop. no_stop [] unaccepted answer stop is) whole.1 in
    let clean = clean_to keys file opens.0 opens.1 whole.0 (no_stops [] unaccepted next.0).1 in
    (clean.0, text_is (rekeyed_report pages.count) answer next.1 ∙ ap (λ (n : ℕ). rekeyed_report n) (sym clean.1))

pub done_migrates : (old new : Profile) (secret : Secret) (count : ℕ) (file : List ℕ) (answer : Answer) → Contains (migrate_answers old secret new count file) answer
    → answer.status ≡ Done → CanBeMigrated (keys_of old secret file) file count answer.text
done_migrates old new secret count file answer h is =
    let keys = keys_of old secret file in
    let opens = opened_done (opened_with old secret file) (λ n. migrate_due new count (opened_pages keys file n)) answer h is in
    let held = content_of keys file opens.0.count in
    let whole = whole_if (opened_pages keys file opens.0.count) _ answer opens.2 is in
    (held, opens_to keys file opens.0 opens.1 whole.0, report_first (migrated_report count) _ _ answer whole.1 is)
