-- Some answer is due.
use Rattle.std.proofs.Common.{ℕ, ℤ, ◌<◌, Bool, true, false, is_some, if◌then◌else◌, List, [], ◌∷◌, length, Result, Ok, Err, arith}
use Rattle.db_format.specs.Pages.{Pages, nothing}
use Rattle.btree_model.specs.Finding.{faults, refusals}
use Rattle.btree_model.specs.Freelist.{freelist_walk}
use Rattle.btree_model.specs.Content.{content}
use Rattle.btree_model.specs.Plain.{with_zeros}
use Rattle.btree_model.specs.Schema.{schema_part}
use Rattle.rowid_find.specs.Table.{schema_rows, table_of}
use Rattle.btree_model.specs.Parts.{counts, first_faults, first_refusals, parts}
use Rattle.cipher_profile.specs.declared.keys.Secret.{Secret}
use Rattle.cipher_profile.specs.declared.profile.Profile.{Profile}
use Rattle.edge_model.specs.Files.{Files}
use Rattle.page_codec.specs.Page.{keys_of}
use Rattle.pager.specs.Opening.{Opened}
use Rattle.pager.specs.Pages.{opened_pages}
use Rattle.pager.specs.declared.opening.OpenError.{OpenError}
use Rattle.rollback_journal.specs.declared.recovery.Recovery.{Recovery}
use Rattle.rollback_journal.specs.declared.recovery.RecoverError.{RecoverError}
use Rattle.sqlcipher_tool.specs.Agree.{agree_answer}
use Rattle.sqlcipher_tool.specs.Answer.{Answer, done, refused}
use Rattle.export_rows.specs.Report.{export_report}
use Rattle.sqlcipher_tool.specs.Export.{content_answers}
use Rattle.sqlcipher_tool.specs.Find.{find_answers, table_answer}
use Rattle.sqlcipher_tool.specs.Reading.{job_due, reading_answers}
use Rattle.sqlcipher_tool.specs.Due.{change_answers}
use Rattle.sqlcipher_tool.specs.declared.change.Change.{Change}
use Rattle.sqlcipher_tool.specs.declared.change.Change.TheVariants.{Stamp, Settle, Rekey, Migrate}
use Rattle.sqlcipher_tool.specs.declared.reading.Job.{Job}
use Rattle.sqlcipher_tool.specs.declared.reading.Job.TheVariants.{Verify, Export, Agree, Find}
use Rattle.sqlcipher_tool.specs.declared.reading.Reading.{Reading}
use Rattle.sqlcipher_tool.specs.declared.reading.Reading.TheVariants.{Tags, Header, Salvage, OnPages}
use Rattle.sqlcipher_tool.specs.Make.{made_answers, make_answers}
use Rattle.sqlcipher_tool.specs.Migrate.{migrate_answers, migrate_due, too_many}
use Rattle.sqlcipher_tool.specs.Opening.{opened_with}
use Rattle.sqlcipher_tool.specs.Plain.{refused_in_use}
use Rattle.sqlcipher_tool.specs.Recovered.{answers_after}
use Rattle.sqlcipher_tool.specs.Renewal.{Renewal}
use Rattle.sqlcipher_tool.specs.Text.{migrated_report, rekeyed_report, verify_report}
use Rattle.sqlcipher_tool.specs.Rekey.{rekey_answers, rekey_due}
use Rattle.sqlcipher_tool.specs.declared.status.Refusal.TheVariants.{FileThere, JournalThere}
use Rattle.sqlcipher_tool.specs.Verify.{else_answers, opened_answers, pages_answers, parts_answers, rest_answers, stop_answers, tags_or}

else_some : (xs ys : List Answer) → 0 < length ys → 0 < length (else_answers xs ys)
else_some [] ys some = some
else_some (x ∷ xs) ys some = omega arith

tags_some : (pages : List ℕ) (answers : List Answer) → 0 < length answers → 0 < length (tags_or pages answers)
tags_some [] answers some = some
tags_some (page ∷ rest) answers some = omega arith

pub parts_some : (pages : Pages) (last : Answer) → 0 < length (parts_answers pages last)
parts_some pages last = else_some (stop_answers (first_faults (parts pages)) (first_refusals (parts pages))) (last ∷ []) (omega arith)

pub rest_some : (pages : Pages) → 0 < length (rest_answers pages)
rest_some pages = parts_some pages (done (verify_report (counts pages)))

pub pages_some : (pages : Pages) → 0 < length (pages_answers pages)
pages_some pages =
    let found = freelist_walk pages nothing in
    else_some (stop_answers (faults found) (refusals found)) (tags_or (refused_in_use pages) (rest_answers pages))
    (tags_some (refused_in_use pages) (rest_answers pages) (rest_some pages))

pub opened_some : (opened : Result Opened OpenError) (job : ℕ → List Answer) → ((n : ℕ) → 0 < length (job n)) → 0 < length (opened_answers opened job)
opened_some (Ok opened) job some = some opened.count
opened_some (Err error) job some = omega arith

pub after_some : (r : Result Recovery RecoverError) (answers : List Answer) → 0 < length answers → 0 < length (answers_after r answers)
after_some (Ok recovery) answers some = some
after_some (Err error) answers some = omega arith

-- to `export`
pub content_some : (pages : Pages) → 0 < length (content_answers pages)
content_some pages = parts_some pages (done (export_report (content (with_zeros pages))))

-- to `rekey`
pub rekey_some : (pages : Pages) → 0 < length (rekey_due pages)
rekey_some pages =
    else_some (stop_answers (first_faults (parts pages)) (first_refusals (parts pages))) _
    (else_some (stop_answers [] (refused_in_use pages)) (done (rekeyed_report pages.count) ∷ []) (omega arith))

-- to `find`
pub find_some : (pages : Pages) (name : List ℕ) (low high : ℤ) → 0 < length (find_answers pages name low high)
find_some pages name low high =
    let schema = schema_part pages nothing in
    else_some (stop_answers (faults schema) (refusals schema)) (table_answer pages low high (table_of pages name (schema_rows pages)) ∷ []) (omega arith)

-- to a job
pub job_some : (job : Job) (pages : Pages) → 0 < length (job_due job pages)
job_some Verify pages = pages_some pages
job_some Export pages = content_some pages
job_some Agree pages = parts_some pages (agree_answer pages)
job_some (Find name low high) pages = find_some pages name low high

-- to a reading
pub reading_some : (reading : Reading) (profile : Profile) (secret : Secret) (file : List ℕ) → 0 < length (reading_answers reading profile secret file)
reading_some Tags profile secret file = omega arith
reading_some Header profile secret file = omega arith
reading_some Salvage profile secret file = omega arith
reading_some (OnPages job) profile secret file =
    let keys = keys_of profile secret file in
    opened_some (opened_with profile secret file) (λ n. job_due job (opened_pages keys file n)) (λ n. job_some job (opened_pages keys file n))

pub rekeyed_some : (profile : Profile) (secret : Secret) (file : List ℕ) → 0 < length (rekey_answers profile secret file)
rekeyed_some profile secret file =
    let keys = keys_of profile secret file in
    opened_some (opened_with profile secret file) (λ n. rekey_due (opened_pages keys file n)) (λ n. rekey_some (opened_pages keys file n))

-- to `migrate`
migrate_some : (profile : Profile) (count : ℕ) (pages : Pages) → 0 < length (migrate_due profile count pages)
migrate_some profile count pages =
    else_some (stop_answers (first_faults (parts pages)) (first_refusals (parts pages))) (done (migrated_report count) ∷ too_many profile (content (with_zeros pages))) (omega arith)

pub migrated_some : (old : Profile) (secret : Secret) (new : Profile) (count : ℕ) (file : List ℕ) → 0 < length (migrate_answers old secret new count file)
migrated_some old secret new count file =
    let keys = keys_of old secret file in
    opened_some (opened_with old secret file) (λ n. migrate_due new count (opened_pages keys file n)) (λ n. migrate_some new count (opened_pages keys file n))

pub change_some : (change : Change) (renewal : Renewal) (file last : List ℕ) → 0 < length (change_answers change renewal file last)
change_some (Stamp field value) renewal file last = omega arith
change_some (Settle frames) renewal file last = omega arith
change_some (Rekey new) renewal file last = rekeyed_some renewal.old_profile renewal.old_secret file
change_some (Migrate new) renewal file last = migrated_some renewal.old_profile renewal.old_secret renewal.new_profile _ file

-- to `make`
pub make_some : (profile : Profile) (rows : ℕ) (files : Files) → 0 < length (make_answers profile rows files)
make_some profile rows files = by_files (is_some files.main) (is_some files.journal)
  where
    by_files : (m j : Bool) → 0 < length (if m then refused FileThere ∷ [] else (if j then refused JournalThere ∷ [] else made_answers profile rows))
    by_files true j = omega arith
    by_files false true = omega arith
    by_files false false = omega arith
