-- What `verify`, `rekey`, `migrate`, `export` and `agree` answer of a file in which nothing stands in the way.
use Rattle.std.proofs.Common.{◌≡◌, ◌≤◌, ℕ, Bool, true, false, List, [], ◌∷◌, Some, None, Result, Ok, Err, if◌then◌else◌, length, sym, ap, subst, refl, ◌∙◌}
use Rattle.std.specs.Prelude.{nat_lt}
use Rattle.cipher_profile.specs.declared.keys.Secret.{Secret}
use Rattle.cipher_profile.specs.declared.profile.Profile.{Profile}
use Rattle.db_format.specs.Count.{count_of_pages}
use Rattle.db_format.specs.Pages.{Pages, nothing}
use Rattle.db_format.specs.declared.count.CountRefusal.{CountRefusal}
use Rattle.db_format.specs.declared.header.Header.{Header}
use Rattle.db_format.specs.declared.header.HeaderRefusal.{HeaderRefusal}
use Rattle.btree_model.specs.Content.{Content, content}
use Rattle.btree_model.specs.Finding.{is_sound}
use Rattle.btree_model.specs.Freelist.{freelist_walk}
use Rattle.btree_model.specs.Parts.{counts, is_database}
use Rattle.btree_model.specs.Plain.{with_zeros}
use Rattle.btree_model.proofs.UnmarkedLemmas.{and_left}
use Rattle.export_rows.specs.Report.{export_report}
use Rattle.page_codec.specs.Page.{FileKeys, keys_of}
use Rattle.pager.specs.Database.{count_of, counted, ok_count}
use Rattle.pager.specs.Opening.{Opened, file_header, file_opened, first_broken, key_rules, length_rules, unless, with_count, with_header}
use Rattle.pager.specs.Pages.{opened_pages}
use Rattle.pager.specs.declared.opening.OpenError.{OpenError}
use Rattle.index_report.specs.Report.{index_summary, index_text}
use Rattle.sqlcipher_tool.specs.Agree.{agree_answer, agree_answers}
use Rattle.sqlcipher_tool.specs.Answer.{done, refused}
use Rattle.sqlcipher_tool.specs.declared.status.Refusal.TheVariants.{IndexesDiffer, TooManyPages}
use Rattle.sqlcipher_tool.specs.declared.status.Status.TheVariants.{Done, Refused}
use Rattle.sqlcipher_tool.specs.Servable.{HasAgreeingIndexes}
use Rattle.sqlcipher_tool.specs.Opening.{opened_with}
use Rattle.sqlcipher_tool.specs.Plain.{IsClean, Opens, refused_in_use}
use Rattle.sqlcipher_tool.specs.Migrate.{migrate_answers, migrate_due, too_many}
use Rattle.sqlcipher_tool.specs.Text.{made_report, migrated_report, rekeyed_report, verify_report}
use Rattle.cipher_profile.specs.Profile.{usable}
use Rattle.db_maker.specs.Pages.{made_pages}
use Rattle.db_maker.specs.Rows.{total_len}
use Rattle.sqlcipher_tool.specs.Make.{made_answers}
use Rattle.fresh_file.specs.State.{most_pages}
use Rattle.migrate_job.specs.Bound.{pages_at_most}
use Rattle.sqlcipher_tool.specs.Reading.{job_answers}
use Rattle.sqlcipher_tool.specs.Verify.{opened_answers, pages_answers, rest_answers, tags_or}
use Rattle.sqlcipher_tool.specs.Export.{content_answers}
use Rattle.sqlcipher_tool.specs.declared.reading.Job.TheVariants.{Verify, Export, Agree}
use Rattle.sqlcipher_tool.specs.Rekey.{rekey_answers, rekey_due}
use Rattle.sqlcipher_tool.proofs.Migrating.{whole_pages_due}
use Rattle.sqlcipher_tool.proofs.Rekeying.{report_alone}
use Rattle.sqlcipher_tool.proofs.Verified.{some_is, tags_next, whole_due}
use Rattle.sqlcipher_tool.proofs.Numbers.{no_more}
use Rattle.sqlcipher_tool.proofs.OpenedParts.{past}

-- ---- the count of a file that opens

long_enough : (empty short : Bool) (e e' : OpenError) (r : Result Opened OpenError) (x : Opened)
    → unless (first_broken ((empty, e) ∷ (short, e') ∷ [])) r ≡ Ok x → short ≡ false
long_enough true short e e' r x is = cc
long_enough false true e e' r x is = cc
long_enough false false e e' r x is = refl

count_kept : (header : Header) (c : Result ℕ CountRefusal) (x : Opened) → with_count header c ≡ Ok x → ok_count c ≡ Some x.count
count_kept header (Ok n) x is = cc
count_kept header (Err refusal) x is = cc

header_kept : (len : ℕ) (r : Result Header HeaderRefusal) (x : Opened) → with_header len r ≡ Ok x → counted len r ≡ Some x.count
header_kept len (Ok header) x is = count_kept header (count_of_pages header len) x is
header_kept len (Err refusal) x is = cc

opened_count : (keys : FileKeys) (file : List ℕ) (x : Opened) → file_opened keys file ≡ Ok x → count_of keys file ≡ Some x.count
opened_count keys file x is =
    let inner = past (first_broken (length_rules keys.profile.page_size file)) _ x is in
    let last = past (first_broken (key_rules keys file)) _ x inner.1 in
    ap (λ b. if b then None else counted (length file) (file_header keys file)) (long_enough _ (nat_lt (length file) keys.profile.page_size) _ _ _ x is)
    ∙ header_kept (length file) (file_header keys file) x last.1

-- ---- the answer

pages_clean : (pages : Pages) → is_database pages ≡ true → refused_in_use pages ≡ [] → pages_answers pages ≡ done (verify_report (counts pages)) ∷ []
pages_clean pages whole accepted =
    tags_next pages (and_left (is_sound (freelist_walk pages nothing)) _ whole)
    ∙ ap (λ l. tags_or l (rest_answers pages)) accepted
    ∙ whole_due pages (done (verify_report (counts pages))) whole

-- the counts alone are due to `verify`
pub verify_done : (profile : Profile) (secret : Secret) (file : List ℕ) (x : Opened) → opened_with profile secret file ≡ Ok x
    → IsClean (keys_of profile secret file) file
    → job_answers Verify profile secret file ≡ done (verify_report (counts (opened_pages (keys_of profile secret file) file x.count))) ∷ []
verify_done profile secret file x is clean =
    let keys = keys_of profile secret file in
    let same : clean.opens.count ≡ x.count = some_is clean.opens.count x.count (sym clean.opens.is_count ∙ opened_count keys file x is) in
    ap (λ o. opened_answers o (λ count. pages_answers (opened_pages keys file count))) is
    ∙ pages_clean (opened_pages keys file x.count)
    (subst (λ (n : ℕ). is_database (opened_pages keys file n) ≡ true) same clean.opens.sound)
    (subst (λ (n : ℕ). refused_in_use (opened_pages keys file n) ≡ []) same clean.accepted)

-- the count of pages alone is due to `rekey`
pub rekey_done : (profile : Profile) (secret : Secret) (file : List ℕ) (x : Opened) → opened_with profile secret file ≡ Ok x
    → IsClean (keys_of profile secret file) file → rekey_answers profile secret file ≡ done (rekeyed_report x.count) ∷ []
rekey_done profile secret file x is clean =
    let keys = keys_of profile secret file in
    let same : clean.opens.count ≡ x.count = some_is clean.opens.count x.count (sym clean.opens.is_count ∙ opened_count keys file x is) in
    ap (λ o. opened_answers o (λ count. rekey_due (opened_pages keys file count))) is
    ∙ report_alone (opened_pages keys file x.count)
    (subst (λ (n : ℕ). is_database (opened_pages keys file n) ≡ true) same clean.opens.sound)
    (subst (λ (n : ℕ). refused_in_use (opened_pages keys file n) ≡ []) same clean.accepted)

-- the text alone is due to `export`
pub export_done : (profile : Profile) (secret : Secret) (file : List ℕ) (x : Opened) (held : Content) → opened_with profile secret file ≡ Ok x
    → Opens (keys_of profile secret file) file held → job_answers Export profile secret file ≡ done (export_report held) ∷ []
export_done profile secret file x held is opens =
    let keys = keys_of profile secret file in
    let same : opens.count ≡ x.count = some_is opens.count x.count (sym opens.is_count ∙ opened_count keys file x is) in
    let pages = opened_pages keys file x.count in
    ap (λ o. opened_answers o (λ count. content_answers (opened_pages keys file count))) is
    ∙ whole_due pages (done (export_report (content (with_zeros pages)))) (subst (λ (n : ℕ). is_database (opened_pages keys file n) ≡ true) same opens.sound)
    ∙ ap (λ (c : Content). done (export_report c) ∷ []) (subst (λ (n : ℕ). content (with_zeros (opened_pages keys file n)) ≡ held) same opens.is)

-- the text alone is due to `agree`
pub agree_done : (profile : Profile) (secret : Secret) (file : List ℕ) (has : HasAgreeingIndexes profile secret file)
    → job_answers Agree profile secret file ≡ done (index_text (opened_pages (keys_of profile secret file) file has.opened.count)) ∷ []
agree_done profile secret file has =
    let pages = opened_pages (keys_of profile secret file) file has.opened.count in
    ap (λ o. opened_answers o (λ count. agree_answers (opened_pages (keys_of profile secret file) file count))) has.opens
    ∙ whole_due pages (agree_answer pages) has.sound
    ∙ ap (λ (b : Bool). record { status = if b then Done else Refused (IndexesDiffer (index_summary pages).differing (index_summary pages).checked); text = index_text pages; begun = index_text pages } ∷ []) has.agree

-- the count of the new file's pages is due to `migrate`, and where the bound is above the limit that there are too many
pub migrate_done : (old new : Profile) (secret : Secret) (count : ℕ) (file : List ℕ) (x : Opened) (held : Content) → opened_with old secret file ≡ Ok x
    → Opens (keys_of old secret file) file held → migrate_answers old secret new count file ≡ done (migrated_report count) ∷ too_many new held
migrate_done old new secret count file x held is opens =
    let keys = keys_of old secret file in
    let same : opens.count ≡ x.count = some_is opens.count x.count (sym opens.is_count ∙ opened_count keys file x is) in
    let pages = opened_pages keys file x.count in
    ap (λ o. opened_answers o (λ n. migrate_due new count (opened_pages keys file n))) is
    ∙ whole_pages_due new count pages (subst (λ (n : ℕ). is_database (opened_pages keys file n) ≡ true) same opens.sound)
    ∙ ap (λ (c : Content). done (migrated_report count) ∷ too_many new c) (subst (λ (n : ℕ). content (with_zeros (opened_pages keys file n)) ≡ held) same opens.is)

pub migrate_fits : (new : Profile) (held : Content) → pages_at_most (usable new) (most_pages new) held ≤ most_pages new → too_many new held ≡ []
migrate_fits new held fits = ap (λ (b : Bool). if b then refused (TooManyPages (most_pages new)) ∷ [] else []) (no_more (most_pages new) _ fits)

pub made_fits : (profile : Profile) (rows : ℕ) → made_pages (usable profile) rows ≤ most_pages profile → made_answers profile rows ≡ done (made_report rows (total_len rows)) ∷ []
made_fits profile rows fits =
    ap (λ (b : Bool). done (made_report rows (total_len rows)) ∷ (if b then refused (TooManyPages (most_pages profile)) ∷ [] else [])) (no_more (most_pages profile) _ fits)
