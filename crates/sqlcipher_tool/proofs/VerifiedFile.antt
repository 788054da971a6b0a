-- What `verify` answers of a file, from what it answers of its pages.
use Rattle.std.proofs.Common.{◌≡◌, ◌⊎◌, ⊎_elim, ℕ, ℤ, zero, suc, ◌≤◌, ◌<◌, ◌==◌, Bool, true, false, is_some, List, [], ◌∷◌, length, Some, None, Result, Ok, Err, if◌then◌else◌, sym, ap, ◌∙◌, subst, arith}
use Rattle.std.specs.Prelude.{nat_lt, slice_index_or}
use Rattle.std.specs.List.{Contains}
use Rattle.std.proofs.lemmas.Bool.{le-leb}
use Rattle.db_format.specs.Header.{header_fields, header_rules_as}
use Rattle.db_format.specs.Pages.{Pages, nothing}
use Rattle.db_format.specs.Rules.{Rule, unless_broken}
use Rattle.db_format.specs.declared.defect.Defect.{Defect}
use Rattle.db_format.specs.declared.header.Header.{Header}
use Rattle.btree_model.specs.Finding.{Finding, place, leaf, entry, key, fault, refused as refused_page, faults, refusals}
use Rattle.btree_model.specs.Freelist.{freelist_walk}
use Rattle.btree_model.specs.Parts.{counts, first_faults, first_refusals, parts}
use Rattle.page_codec.specs.Page.{FileKeys, keys_of, opened}
use Rattle.pager.specs.File.{first_page}
use Rattle.pager.specs.Opening.{Opened, file_header, file_opened, first_broken, key_rules, length_rules}
use Rattle.pager.specs.Pages.{opened_pages}
use Rattle.pager.specs.declared.opening.OpenError.{OpenError}
use Rattle.pager.specs.declared.opening.OpenError.TheVariants.{Empty, Short, KeyRefused as NoKey, HeaderFault, WalMode, AutoVacuum, Ragged, TooLarge, DiskFault as DiskFails, OutOfMemory as MemoryEnds}
use Rattle.rollback_journal.specs.declared.recovery.Recovery.{Recovery}
use Rattle.rollback_journal.specs.declared.recovery.RecoverError.{RecoverError}
use Rattle.edge_model.specs.Files.{Files}
use Rattle.sqlcipher_tool.specs.Agree.{agree_answer, agree_answers}
use Rattle.sqlcipher_tool.specs.Answer.{Answer, IsFault, done, refused}
use Rattle.db_maker.specs.Pages.{made_pages}
use Rattle.fresh_file.specs.State.{most_pages}
use Rattle.migrate_job.specs.Bound.{pages_at_most}
use Rattle.sqlcipher_tool.specs.Make.{made_answers, make_answers}
use Rattle.sqlcipher_tool.specs.Migrate.{migrate_due, too_many}
use Rattle.sqlcipher_tool.specs.Renewal.{Renewal}
use Rattle.sqlcipher_tool.specs.declared.status.Refusal.TheVariants.{FileThere, IndexesDiffer, JournalThere, TooManyPages}
use Rattle.sqlcipher_tool.specs.declared.status.Refusal.{Refusal}
use Rattle.sqlcipher_tool.specs.declared.status.Status.TheVariants.{Done, Refused}
use Rattle.index_report.specs.Report.{index_summary}
use Rattle.btree_model.specs.Content.{content}
use Rattle.btree_model.specs.Plain.{with_zeros}
use Rattle.btree_model.specs.Schema.{schema_part}
use Rattle.rowid_find.specs.Reach.{reach_all}
use Rattle.rowid_find.specs.Table.{Table, at_root, no_table, unaccepted, no_kind, schema_rows, table_of}
use Rattle.export_rows.specs.Report.{export_report}
use Rattle.sqlcipher_tool.specs.Export.{content_answers}
use Rattle.sqlcipher_tool.specs.Find.{before_stop, ended_answer, find_answers, first_stop, table_answer}
use Rattle.sqlcipher_tool.specs.Reading.{job_due}
use Rattle.sqlcipher_tool.specs.declared.reading.Job.{Job}
use Rattle.sqlcipher_tool.specs.declared.reading.Job.TheVariants.{Verify, Export, Agree, Find}
use Rattle.sqlcipher_tool.specs.Opening.{open_answer, unopened_answer}
use Rattle.sqlcipher_tool.specs.Plain.{refused_in_use}
use Rattle.sqlcipher_tool.specs.Promises.{AnswersOne, IsUnrecovered}
use Rattle.sqlcipher_tool.specs.Recovered.{answers_after, recovery_answer, refused_answer}
use Rattle.sqlcipher_tool.specs.Due.{change_answers}
use Rattle.sqlcipher_tool.specs.Rekey.{rekey_due}
use Rattle.map_pages.specs.Maps.{map_count}
use Rattle.sqlcipher_tool.specs.Maps.{first_plain}
use Rattle.sqlcipher_tool.specs.Settle.{marked_answer, marks_of, settled_answer}
use Rattle.sqlcipher_tool.specs.declared.settle.Marks.{Marks}
use Rattle.sqlcipher_tool.specs.declared.settle.Marks.TheVariants.{Rollback, Wal, Maps}
use Rattle.sqlcipher_tool.specs.Stamp.{stamped_answer}
use Rattle.sqlcipher_tool.specs.Opening.{opened_with}
use Rattle.sqlcipher_tool.specs.declared.change.Change.{Change}
use Rattle.sqlcipher_tool.specs.declared.change.Change.TheVariants.{Stamp, Settle, Rekey, Migrate}
use Rattle.cipher_profile.specs.Profile.{usable}
use Rattle.cipher_profile.specs.declared.profile.Profile.{Profile}
use Rattle.sqlcipher_tool.specs.Stop.{IsOutside, stop_answer}
use Rattle.sqlcipher_tool.specs.Text.{migrated_report, rekeyed_report, verify_report}
use Rattle.sqlcipher_tool.specs.Verify.{else_answers, opened_answers, pages_answers, rest_answers, stop_answers, tags_or}
use Rattle.sqlcipher_tool.specs.declared.opening.Stop.{Stop}
use Rattle.sqlcipher_tool.specs.declared.opening.Stop.TheVariants.{DiskFault as StopDisk, OutOfMemory as StopMemory}
use Rattle.sqlcipher_tool.specs.declared.status.Status.{Status}
use Rattle.sqlcipher_tool.proofs.Recoveries.{IsOfFile, fault_of_file}
use Rattle.sqlcipher_tool.proofs.Verified.{some_is}
use Rattle.sqlcipher_tool.proofs.OpenedParts.{past, with_both}

-- ---- the header of a file that opens

if_ok : {V E : Type 0} (broken : Bool) (refusal : E) (rest : Result V E) (v : V) → (if broken then Err refusal else rest) ≡ Ok v → rest ≡ Ok v
if_ok true refusal rest v is = cc
if_ok false refusal rest v is = is

unbroken : {V E : Type 0} (rules : List (Rule E)) (v w : V) → unless_broken rules v ≡ Ok w → v ≡ w
unbroken [] v w is = cc
unbroken ((broken, refusal) ∷ later) v w is = unbroken later v w (if_ok broken refusal (unless_broken later v) w is)

pub opened_fields : (keys : FileKeys) (file : List ℕ) (header : Header) (n : ℕ) → file_opened keys file ≡ Ok (record { header = header; count = n })
    → header_fields (opened keys 1 (first_page keys.profile file)) ≡ header
opened_fields keys file header n is =
    let x : Opened = record { header = header; count = n } in
    let inner = past (first_broken (length_rules keys.profile.page_size file)) _ x is in
    let last = past (first_broken (key_rules keys file)) _ x inner.1 in
    let read = (with_both (length file) (file_header keys file) x last.1).0 in
    let plain = opened keys 1 (first_page keys.profile file) in
    unbroken (header_rules_as keys.profile.reads_log plain keys.profile.page_size keys.profile.reserve) (header_fields plain) header read

first_is : (keys : FileKeys) (file : List ℕ) (n : ℕ) → 1 ≤ n → (opened_pages keys file n).page 1 ≡ opened keys 1 (first_page keys.profile file)
first_is keys file n some = ap (λ b. if b then opened keys 1 (first_page keys.profile file) else []) (le-leb 1 n some)

-- the fields are those of page 1
pub opened_header : (keys : FileKeys) (file : List ℕ) (header : Header) (n : ℕ) → file_opened keys file ≡ Ok (record { header = header; count = n }) → 1 ≤ n
    → header ≡ header_fields ((opened_pages keys file n).page 1)
opened_header keys file header n is some = sym (opened_fields keys file header n is) ∙ ap header_fields (sym (first_is keys file n some))

-- ---- which answers are due

pub outside_none : (stop : Stop) (answer : Answer) → IsOutside stop → stop_answer stop ≡ Some answer → ⊥
outside_none stop answer outside is =
    ⊎_elim (λ (disk : stop ≡ StopDisk). let none : None ≡ Some answer = sym (ap stop_answer disk) ∙ is in cc)
    (λ (memory : stop ≡ StopMemory). let none : None ≡ Some answer = sym (ap stop_answer memory) ∙ is in cc) outside

-- a file that does not open
unopened_by : (opened : Result Opened OpenError) (job : ℕ → List Answer) (answer : Answer) → Some answer ≡ unopened_answer opened
    → Contains (opened_answers opened job) answer
unopened_by (Ok opened) job answer is = cc
unopened_by (Err error) job answer is = (0, omega arith, some_is (open_answer error) answer (sym is))

pub unopened_due : (opened : Result Opened OpenError) (job : ℕ → List Answer) (stop : Stop) → IsOutside stop ⊎ (stop_answer stop ≡ unopened_answer opened)
    → (answer : Answer) → stop_answer stop ≡ Some answer → Contains (opened_answers opened job) answer
unopened_due opened job stop is answer same =
    ⊎_elim (λ outside. absurd (outside_none stop answer outside same)) (λ unopened. unopened_by opened job answer (sym same ∙ unopened)) is

-- the one answer to a stamp of it
pub unopened_stamp : (stop : Stop) (opened : Result Opened OpenError) (answer : Answer) → IsOutside stop ⊎ (stop_answer stop ≡ unopened_answer opened) → stop_answer stop ≡ Some answer
    → answer ≡ stamped_answer opened
unopened_stamp stop opened answer is same = ⊎_elim (λ outside. absurd (outside_none stop answer outside same)) (λ unopened. by_opened opened (sym unopened ∙ same)) is
  where
    by_opened : (opened : Result Opened OpenError) → unopened_answer opened ≡ Some answer → answer ≡ stamped_answer opened
    by_opened (Ok opened) is = cc
    by_opened (Err error) is = sym (some_is (open_answer error) answer is)

-- a recovery that is refused
refused_by : (r : Result Recovery RecoverError) (answers : List Answer) (answer : Answer) → Some answer ≡ refused_answer r → Contains (answers_after r answers) answer
refused_by (Ok recovery) answers answer is = cc
refused_by (Err error) answers answer is = (0, omega arith, some_is (recovery_answer (Err error)) answer (sym is))

pub refused_due : (r : Result Recovery RecoverError) (answers : List Answer) (stop : Stop) → IsOutside stop ⊎ (stop_answer stop ≡ refused_answer r)
    → (answer : Answer) → stop_answer stop ≡ Some answer → Contains (answers_after r answers) answer
refused_due r answers stop is answer same =
    ⊎_elim (λ outside. absurd (outside_none stop answer outside same)) (λ stopped. refused_by r answers answer (sym same ∙ stopped)) is

-- ---- no answer to a file is that to a recovery

abbrev pub AreOfFile : List Answer → Type 0
AreOfFile [] = Unit {0}
AreOfFile (answer ∷ rest) = IsOfFile answer × AreOfFile rest

of_file_at : (answers : List Answer) (answer : Answer) → AreOfFile answers → (k : ℕ) → k < length answers → slice_index_or answers k answer ≡ answer → IsOfFile answer
of_file_at [] answer all k within is = absurd (omega (arith, within))
of_file_at (first ∷ rest) answer all zero within is = subst IsOfFile is all.0
of_file_at (first ∷ rest) answer all (suc k) within is = of_file_at rest answer all.1 k (omega (arith, within)) is

defects_of_file : (defects : List Defect) (pages : List ℕ) → AreOfFile (stop_answers defects pages)
defects_of_file [] [] = tt
defects_of_file [] (page ∷ pages) = ((λ is. is), defects_of_file [] pages)
defects_of_file (d ∷ defects) pages = ((λ is. is), defects_of_file defects pages)

else_of_file : (xs ys : List Answer) → AreOfFile xs → AreOfFile ys → AreOfFile (else_answers xs ys)
else_of_file [] ys all other = other
else_of_file (x ∷ xs) ys all other = all

tags_of_file : (pages : List ℕ) (answers : List Answer) → AreOfFile answers → AreOfFile (tags_or pages answers)
tags_of_file [] answers all = all
tags_of_file (page ∷ rest) answers all = ((λ is. is), tt)

pages_of_file : (pages : Pages) → AreOfFile (pages_answers pages)
pages_of_file pages =
    let found = freelist_walk pages nothing in
    let report = done (verify_report (counts pages)) ∷ [] in
    else_of_file (stop_answers (faults found) (refusals found)) (tags_or (refused_in_use pages) (rest_answers pages)) (defects_of_file (faults found) (refusals found))
    (tags_of_file (refused_in_use pages) (rest_answers pages)
    (else_of_file (stop_answers (first_faults (parts pages)) (first_refusals (parts pages))) report
    (defects_of_file (first_faults (parts pages)) (first_refusals (parts pages))) ((λ is. is), tt)))

content_of_file : (pages : Pages) → AreOfFile (content_answers pages)
content_of_file pages =
    else_of_file (stop_answers (first_faults (parts pages)) (first_refusals (parts pages))) (done (export_report (content (with_zeros pages))) ∷ [])
    (defects_of_file (first_faults (parts pages)) (first_refusals (parts pages))) ((λ is. is), tt)

-- that indexes differ is no answer of a recovery
differ_of_file : (agree : Bool) (refusal : Refusal) → (IsUnrecovered (Refused refusal) → ⊥) → IsUnrecovered (if agree then Done else Refused refusal) → ⊥
differ_of_file true refusal other is = is
differ_of_file false refusal other is = other is

agree_of_file : (pages : Pages) → AreOfFile (agree_answers pages)
agree_of_file pages =
    let found = index_summary pages in
    else_of_file (stop_answers (first_faults (parts pages)) (first_refusals (parts pages))) (agree_answer pages ∷ [])
    (defects_of_file (first_faults (parts pages)) (first_refusals (parts pages)))
    (differ_of_file (found.differing == 0) (IndexesDiffer found.differing found.checked) (λ is. is), tt)

met_of_file : (all found : List Finding) → IsOfFile (ended_answer found (first_stop all))
met_of_file [] found is = is
met_of_file (place n ∷ rest) found is = met_of_file rest found is
met_of_file (leaf n ∷ rest) found is = met_of_file rest found is
met_of_file (entry row ∷ rest) found is = met_of_file rest found is
met_of_file (key k ∷ rest) found is = met_of_file rest found is
met_of_file (fault d ∷ rest) found is = is
met_of_file (refused_page n ∷ rest) found is = is

table_of_file : (pages : Pages) (low high : ℤ) (found : Table) → IsOfFile (table_answer pages low high found)
table_of_file pages low high (at_root root) = met_of_file (reach_all pages low high root) (before_stop (reach_all pages low high root))
table_of_file pages low high no_table = λ is. is
table_of_file pages low high (unaccepted root) = λ is. is
table_of_file pages low high (no_kind root) = λ is. is

find_of_file : (pages : Pages) (name : List ℕ) (low high : ℤ) → AreOfFile (find_answers pages name low high)
find_of_file pages name low high =
    let schema = schema_part pages nothing in
    else_of_file (stop_answers (faults schema) (refusals schema)) (table_answer pages low high (table_of pages name (schema_rows pages)) ∷ [])
    (defects_of_file (faults schema) (refusals schema)) (table_of_file pages low high (table_of pages name (schema_rows pages)), tt)

job_of_file : (job : Job) (pages : Pages) → AreOfFile (job_due job pages)
job_of_file Verify pages = pages_of_file pages
job_of_file Export pages = content_of_file pages
job_of_file Agree pages = agree_of_file pages
job_of_file (Find name low high) pages = find_of_file pages name low high

open_of_file : (error : OpenError) → IsOfFile (open_answer error)
open_of_file Empty is = is
open_of_file (Short len) is = is
open_of_file NoKey is = is
open_of_file (HeaderFault offset found) is = is
open_of_file WalMode is = is
open_of_file AutoVacuum is = is
open_of_file (Ragged len) is = is
open_of_file (TooLarge pages) is = is
open_of_file DiskFails is = is
open_of_file MemoryEnds is = is

pub opened_of_file : (job : Job) (opened : Result Opened OpenError) (pages : ℕ → Pages) → AreOfFile (opened_answers opened (λ n. job_due job (pages n)))
opened_of_file job (Ok opened) pages = job_of_file job (pages opened.count)
opened_of_file job (Err error) pages = (open_of_file error, tt)

rekey_of_file : (pages : Pages) → AreOfFile (rekey_due pages)
rekey_of_file pages =
    else_of_file (stop_answers (first_faults (parts pages)) (first_refusals (parts pages))) _ (defects_of_file (first_faults (parts pages)) (first_refusals (parts pages)))
    (else_of_file (stop_answers [] (refused_in_use pages)) (done (rekeyed_report pages.count) ∷ []) (defects_of_file [] (refused_in_use pages)) ((λ is. is), tt))

rekeyed_of_file : (opened : Result Opened OpenError) (pages : ℕ → Pages) → AreOfFile (opened_answers opened (λ n. rekey_due (pages n)))
rekeyed_of_file (Ok opened) pages = rekey_of_file (pages opened.count)
rekeyed_of_file (Err error) pages = (open_of_file error, tt)

stamped_of_file : (opened : Result Opened OpenError) → IsOfFile (stamped_answer opened)
stamped_of_file (Ok opened) is = is
stamped_of_file (Err error) is = open_of_file error is

marked_of_file : (frames maps : ℕ) (marks : Marks) → IsOfFile (marked_answer frames maps marks)
marked_of_file frames maps Rollback is = is
marked_of_file frames maps Wal is = is
marked_of_file frames maps Maps is = is

settled_of_file : (usable frames : ℕ) (first : List ℕ) (opened : Result Opened OpenError) → IsOfFile (settled_answer usable frames first opened)
settled_of_file usable frames first (Ok opened) is = marked_of_file frames (map_count usable opened.count) (marks_of first) is
settled_of_file usable frames first (Err error) is = open_of_file error is

-- that there are too many pages is no answer of a recovery
too_many_of_file : (limit : ℕ) (b : Bool) → AreOfFile (if b then refused (TooManyPages limit) ∷ [] else [])
too_many_of_file limit true = ((λ is. is), tt)
too_many_of_file limit false = tt

migrate_of_file : (profile : Profile) (count : ℕ) (pages : Pages) → AreOfFile (migrate_due profile count pages)
migrate_of_file profile count pages =
    else_of_file (stop_answers (first_faults (parts pages)) (first_refusals (parts pages))) (done (migrated_report count) ∷ too_many profile (content (with_zeros pages)))
    (defects_of_file (first_faults (parts pages)) (first_refusals (parts pages))) ((λ is. is), too_many_of_file (most_pages profile) (nat_lt (most_pages profile) (pages_at_most (usable profile) (most_pages profile) (content (with_zeros pages)))))

migrated_of_file : (profile : Profile) (count : ℕ) (opened : Result Opened OpenError) (pages : ℕ → Pages) → AreOfFile (opened_answers opened (λ n. migrate_due profile count (pages n)))
migrated_of_file profile count (Ok opened) pages = migrate_of_file profile count (pages opened.count)
migrated_of_file profile count (Err error) pages = (open_of_file error, tt)

pub change_of_file : (change : Change) (renewal : Renewal) (file last : List ℕ) → AreOfFile (change_answers change renewal file last)
change_of_file (Stamp field value) renewal file last = (stamped_of_file (opened_with renewal.old_profile renewal.old_secret file), tt)
change_of_file (Settle frames) renewal file last =
    let keys = keys_of renewal.old_profile renewal.old_secret file in
    (settled_of_file (usable renewal.old_profile) frames (first_plain keys file) (opened_with renewal.old_profile renewal.old_secret file), tt)
change_of_file (Rekey new) renewal file last =
    rekeyed_of_file (opened_with renewal.old_profile renewal.old_secret file) (λ n. opened_pages (keys_of renewal.old_profile renewal.old_secret file) file n)
change_of_file (Migrate new) renewal file last =
    migrated_of_file renewal.new_profile _ (opened_with renewal.old_profile renewal.old_secret file) (λ n. opened_pages (keys_of renewal.old_profile renewal.old_secret file) file n)

pub make_of_file : (profile : Profile) (rows : ℕ) (files : Files) → AreOfFile (make_answers profile rows files)
make_of_file profile rows files = by_files (is_some files.main) (is_some files.journal)
  where
    by_files : (m j : Bool) → AreOfFile (if m then refused FileThere ∷ [] else (if j then refused JournalThere ∷ [] else made_answers profile rows))
    by_files true j = ((λ is. is), tt)
    by_files false true = ((λ is. is), tt)
    by_files false false = ((λ is. is), too_many_of_file (most_pages profile) (nat_lt (most_pages profile) (made_pages (usable profile) rows)))

-- so no status that is answered to a file is
pub answers_recovered : (answers : List Answer) → AreOfFile answers → (status : Status) (tells : Bool) (before after : List ℕ) → AnswersOne answers status tells before after → IsUnrecovered status → ⊥
answers_recovered answers all status tells before after one is =
    ⊎_elim (λ (same : status ≡ one.answer.status). of_file_at answers one.answer all one.is_due.0 one.is_due.1 one.is_due.2 (subst IsUnrecovered same is))
    (λ (fault : IsFault status). fault_of_file status fault is) one.answered
