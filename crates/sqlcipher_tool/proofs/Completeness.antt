-- Where nothing stands in the way of a command, Done alone is due to it.
use Rattle.std.proofs.Common.{◌≡◌, ⊎_elim, inl, inr, ℕ, ℤ, zero, suc, ◌<◌, ◌≤◌, ◌+◌, ◌*◌, ◌/◌, ◌==◌, Bool, true, false, not, List, [], ◌∷◌, length, Option, Some, None, Result, Ok, Err, if◌then◌else◌, unwrap_or, refl, sym, ap, subst, ◌∙◌, rules, arith}
use Rattle.std.specs.List.{Contains}
use Rattle.std.proofs.lemmas.Nat.{div_below}
use Rattle.std.specs.Prelude.{IsOk, find, is_some, nat_le, nat_lt, slice_get}
use Rattle.btree_model.proofs.UnmarkedLemmas.{and_left}
use Rattle.btree_model.specs.Content.{Content}
use Rattle.btree_model.specs.Parts.{counts}
use Rattle.cipher_profile.specs.declared.key_line.KeyError.{KeyError}
use Rattle.cipher_profile.specs.declared.keys.Secret.{Secret}
use Rattle.cipher_profile.specs.declared.profile.Profile.{Profile}
use Rattle.cipher_profile.specs.Profile.{IsListed, usable, with_log}
use Rattle.profile_word.specs.Tried.{IsTried, probed_profiles}
use Rattle.db_format.specs.Count.{count_of_pages, largest_database}
use Rattle.db_format.specs.declared.count.CountRefusal.{CountRefusal}
use Rattle.db_format.specs.declared.header.Header.{Header as Fields}
use Rattle.db_format.specs.declared.header.HeaderRefusal.{HeaderRefusal}
use Rattle.db_maker.specs.Rows.{total_len}
use Rattle.edge_model.specs.Causes.{Rose}
use Rattle.edge_model.specs.Files.{Files, main_of}
use Rattle.export_rows.specs.Report.{export_report}
use Rattle.index_report.specs.Report.{index_text}
use Rattle.page_codec.specs.Page.{FileKeys, accepts, fits, keys_of, opened}
use Rattle.pager.proofs.TxnLemmas.{listed_large}
use Rattle.pager.specs.Database.{count_of, counted, ok_count}
use Rattle.pager.specs.File.{page_stored, whole_pages}
use Rattle.pager.specs.Opening.{Opened, file_header, file_opened, first_broken, unless, with_count, with_header}
use Rattle.pager.specs.Pages.{opened_pages}
use Rattle.pager.specs.declared.opening.OpenError.{OpenError}
use Rattle.pager.specs.declared.opening.OpenError.TheVariants.{Empty, Short, KeyRefused}
use Rattle.pager.proofs.BatchLemmas.{number_is}
use Rattle.rollback_journal.specs.declared.recovery.Recovery.{Recovery}
use Rattle.rowid_find.specs.Found.{found_rows}
use Rattle.rowid_find.specs.Lines.{found_report}
use Rattle.rollback_journal.specs.declared.recovery.RecoverError.{RecoverError}
use Rattle.salvage_scan.specs.Salvage.{salvage_lines}
use Rattle.salvage_scan.specs.Text.{salvage_report}
use Rattle.sqlcipher_tool.specs.Answer.{Answer, IsFault, done, first_answer, key_refused, refused}
use Rattle.sqlcipher_tool.specs.declared.command.Command.{Command}
use Rattle.sqlcipher_tool.specs.declared.command.Command.TheVariants.{Probe, Recover, Read, Change as ChangeFile, Make}
use Rattle.sqlcipher_tool.specs.declared.change.Change.{Change}
use Rattle.sqlcipher_tool.specs.declared.change.Change.TheVariants.{Stamp, Settle, Rekey, Migrate}
use Rattle.sqlcipher_tool.specs.declared.reading.Job.TheVariants.{Verify, Export, Agree, Find}
use Rattle.sqlcipher_tool.specs.declared.reading.Reading.{Reading}
use Rattle.sqlcipher_tool.specs.declared.reading.Reading.TheVariants.{Tags, Header, Salvage, OnPages}
use Rattle.sqlcipher_tool.specs.declared.status.Refusal.{Refusal}
use Rattle.sqlcipher_tool.specs.declared.status.Refusal.TheVariants.{FileThere, JournalThere}
use Rattle.sqlcipher_tool.specs.declared.status.Status.{Status}
use Rattle.sqlcipher_tool.specs.declared.status.Status.TheVariants.{Done, Usage, Refused, KeyRefused, DiskFault, OutputFault, InputFault, EntropyFault, OutOfMemory}
use Rattle.sqlcipher_tool.specs.Due.{asked_answers, change_answers, command_answers, due, keyed_answers, secret_answers, with_one, with_two}
use Rattle.sqlcipher_tool.specs.Find.{find_answers}
use Rattle.sqlcipher_tool.specs.Header.{opened_answer}
use Rattle.sqlcipher_tool.specs.Reading.{job_answers, reading_answers}
use Rattle.sqlcipher_tool.specs.Make.{made_answers, make_answers}
use Rattle.sqlcipher_tool.specs.Migrate.{migrate_answers}
use Rattle.sqlcipher_tool.specs.Opening.{opened_with}
use Rattle.sqlcipher_tool.specs.Plain.{IsClean, Opens}
use Rattle.sqlcipher_tool.proofs.Probing.{large_each}
use Rattle.sqlcipher_tool.specs.Probe.{first_fitting, found_answer, is_fitting, probe_answer}
use Rattle.sqlcipher_tool.specs.Promises.{AnswersOne}
use Rattle.sqlcipher_tool.specs.Recovered.{answers_after, recovered_answers, recovered_main, recovery_answer, recovery_of}
use Rattle.sqlcipher_tool.specs.Rekey.{rekey_answers}
use Rattle.sqlcipher_tool.specs.Renewal.{pages_under, renewed}
use Rattle.sqlcipher_tool.specs.Salvage.{file_pages, salvage_answer, salvage_causes, salvaged_answer}
use Rattle.sqlcipher_tool.specs.Servable.{AfterRecovery, CanBeServed, ForOne, ForTwo, HasAgreeingIndexes, HasFewPages, HasServablePages, HasTable, HasTags, IsChangeable, IsDoneAlone, IsDoneOrStarved, CanMake, IsProbed, IsReadable, IsServable, NoneRose}
use Rattle.map_pages.specs.Maps.{map_count}
use Rattle.sqlcipher_tool.specs.Maps.{first_plain}
use Rattle.sqlcipher_tool.specs.Settle.{marked_answer, marks_of, settled_answer}
use Rattle.sqlcipher_tool.specs.Stamp.{stamped_answer}
use Rattle.sqlcipher_tool.specs.declared.settle.Marks.{Marks}
use Rattle.sqlcipher_tool.specs.declared.settle.Marks.TheVariants.{Rollback, Wal, Maps}
use Rattle.sqlcipher_tool.specs.Tags.{file_answer, is_refused, pages_answer, refused_pages, tags_answer, tags_causes}
use Rattle.sqlcipher_tool.specs.Text.{header_report, made_report, migrated_report, probe_report, recovery_line, rekeyed_report, settled_report, stamped_report, tags_report, verify_report}
use Rattle.sqlcipher_tool.specs.Verify.{opened_answers}
use Rattle.sqlcipher_tool.specs.Words.{IsServed, plays_with_log}
use Rattle.sqlcipher_tool.proofs.DoneAnswers.{agree_done, export_done, made_fits, migrate_done, migrate_fits, rekey_done, verify_done}
use Rattle.sqlcipher_tool.proofs.FindAnswers.{find_done}
use Rattle.sqlcipher_tool.proofs.Numbers.{no_more, true_le}
use Rattle.sqlcipher_tool.proofs.Served.{form_served}
use Rattle.sqlcipher_tool.proofs.Verified.{none_where}

-- ---- a file that opens

count_opens : (header : Fields) (c : Result ℕ CountRefusal) (n : ℕ) → ok_count c ≡ Some n → IsOk (with_count header c)
count_opens header (Ok m) n is = refl
count_opens header (Err refusal) n is = cc

header_opens : (len : ℕ) (r : Result Fields HeaderRefusal) (n : ℕ) → counted len r ≡ Some n → IsOk (with_header len r)
header_opens len (Ok header) n is = count_opens header (count_of_pages header len) n is
header_opens len (Err refusal) n is = cc

not_short : (short : Bool) (counts : Option ℕ) (n : ℕ) → (if short then None else counts) ≡ Some n → (short ≡ false) × (counts ≡ Some n)
not_short true counts n is = cc
not_short false counts n is = (refl, is)

long_enough : (empty short : Bool) (x y : OpenError) (r : Result Opened OpenError) → empty ≡ false → short ≡ false → IsOk r
    → IsOk (unless (first_broken ((empty, x) ∷ (short, y) ∷ [])) r)
long_enough true short x y r one two ok = cc
long_enough false true x y r one two ok = cc
long_enough false false x y r one two ok = ok

key_fits : (fit : Bool) (x : OpenError) (r : Result Opened OpenError) → fit ≡ true → IsOk r → IsOk (unless (first_broken ((not fit, x) ∷ [])) r)
key_fits true x r is ok = ok
key_fits false x r is ok = cc

some_byte : (len size : ℕ) → 0 < size → nat_lt len size ≡ false → (len == 0) ≡ false
some_byte len size some long = let le : size ≤ len = search (rules, long) in search (rules, some, le)

-- a file opens whose key fits and whose pages are counted
counted_opens : (keys : FileKeys) (file : List ℕ) (n : ℕ) → 0 < keys.profile.page_size → fits keys (page_stored keys file 1) ≡ true → count_of keys file ≡ Some n
    → IsOk (file_opened keys file)
counted_opens keys file n some fit is =
    let size = keys.profile.page_size in
    let both = not_short (nat_lt (length file) size) (counted (length file) (file_header keys file)) n is in
    let inner = key_fits (fits keys (page_stored keys file 1)) KeyRefused (with_header (length file) (file_header keys file)) fit
    (header_opens (length file) (file_header keys file) n both.1) in
    long_enough (length file == 0) (nat_lt (length file) size) Empty (Short (length file)) _ (some_byte (length file) size some both.0) both.0 inner

ok_is : (r : Result Opened OpenError) → IsOk r → (opened : Opened) × (r ≡ Ok opened)
ok_is (Ok opened) ok = (opened, refl)
ok_is (Err error) ok = cc

pub listed_some : (profile : Profile) → IsListed profile → 0 < profile.page_size
listed_some profile listed = let large = listed_large profile listed in omega (arith, large)

opens_so : (profile : Profile) (secret : Secret) (file : List ℕ) (held : Content) → IsListed profile → Opens (keys_of profile secret file) file held
    → (opened : Opened) × (opened_with profile secret file ≡ Ok opened)
opens_so profile secret file held listed opens =
    ok_is (opened_with profile secret file) (counted_opens (keys_of profile secret file) file opens.count (listed_some profile listed) opens.fit opens.is_count)

-- ---- after the recovery

recovery_alone : (r : Result Recovery RecoverError) → IsOk r → IsDoneAlone (recovery_answer r ∷ [])
recovery_alone (Ok recovery) ok = (recovery_line recovery, refl)
recovery_alone (Err error) ok = cc

answers_alone : (r : Result Recovery RecoverError) (answers : List Answer) → IsOk r → IsDoneAlone answers → IsDoneAlone (answers_after r answers)
answers_alone (Ok recovery) answers ok is = is
answers_alone (Err error) answers ok is = cc

-- what is due on the recovered file is due to the files
all_alone : (profile : Profile) (files : Files) (P : List ℕ → Type 0) (answers : List ℕ → List Answer) → ((file : List ℕ) → P file → IsDoneAlone (answers file))
    → AfterRecovery profile files P → IsDoneAlone (recovered_answers profile files answers)
all_alone profile files P answers alone way =
    answers_alone (recovery_of profile files) (answers (recovered_main profile files)) way.recovers (alone (recovered_main profile files) way.holds)

-- ---- header, stamp

header_alone : (r : Result Opened OpenError) → IsOk r → IsDoneAlone (opened_answer r ∷ [])
header_alone (Ok opened) ok = (header_report opened.header opened.count, refl)
header_alone (Err error) ok = cc

stamp_alone : (r : Result Opened OpenError) → IsOk r → IsDoneAlone (stamped_answer r ∷ [])
stamp_alone (Ok opened) ok = (stamped_report, refl)
stamp_alone (Err error) ok = cc

-- ---- verify, export, agree, rekey, migrate

verify_alone : (profile : Profile) (secret : Secret) (file : List ℕ) → IsListed profile → IsClean (keys_of profile secret file) file
    → IsDoneAlone (job_answers Verify profile secret file)
verify_alone profile secret file listed clean =
    let opened = opens_so profile secret file clean.held listed clean.opens in
    (verify_report (counts (opened_pages (keys_of profile secret file) file opened.0.count)), verify_done profile secret file opened.0 opened.1 clean)

export_alone : (profile : Profile) (secret : Secret) (file : List ℕ) → IsListed profile → (held : Content) × Opens (keys_of profile secret file) file held
    → IsDoneAlone (job_answers Export profile secret file)
export_alone profile secret file listed has =
    let opened = opens_so profile secret file has.0 listed has.1 in
    (export_report has.0, export_done profile secret file opened.0 has.0 opened.1 has.1)

agree_alone : (profile : Profile) (secret : Secret) (file : List ℕ) → HasAgreeingIndexes profile secret file → IsDoneAlone (job_answers Agree profile secret file)
agree_alone profile secret file has = (index_text (opened_pages (keys_of profile secret file) file has.opened.count), agree_done profile secret file has)

pub find_due : (profile : Profile) (secret : Secret) (file name : List ℕ) (low high : ℤ) (has : HasTable profile secret name file)
    → job_answers (Find name low high) profile secret file
    ≡ done (found_report (found_rows (opened_pages (keys_of profile secret file) file has.opened.count) has.root low high)) ∷ []
find_due profile secret file name low high has =
    ap (λ (r : Result Opened OpenError). opened_answers r (λ n. find_answers (opened_pages (keys_of profile secret file) file n) name low high)) has.opens
    ∙ find_done (opened_pages (keys_of profile secret file) file has.opened.count) name has.root low high has.schema has.table has.tree

find_alone : (profile : Profile) (secret : Secret) (file name : List ℕ) (low high : ℤ) → HasTable profile secret name file
    → IsDoneAlone (job_answers (Find name low high) profile secret file)
find_alone profile secret file name low high has =
    (found_report (found_rows (opened_pages (keys_of profile secret file) file has.opened.count) has.root low high), find_due profile secret file name low high has)

rekey_alone : (profile : Profile) (secret : Secret) (file : List ℕ) → IsListed profile → IsClean (keys_of profile secret file) file
    → IsDoneAlone (rekey_answers profile secret file)
rekey_alone profile secret file listed clean =
    let opened = opens_so profile secret file clean.held listed clean.opens in
    (rekeyed_report opened.0.count, rekey_done profile secret file opened.0 opened.1 clean)

migrate_alone : (old new : Profile) (secret : Secret) (count : ℕ) (file : List ℕ) → IsListed old
    → (held : Content) × Opens (keys_of old secret file) file held × HasFewPages new held → IsDoneAlone (migrate_answers old secret new count file)
migrate_alone old new secret count file listed has =
    let opened = opens_so old secret file has.0 listed has.1 in (
      migrated_report count,
      migrate_done old new secret count file opened.0 has.0 opened.1 has.1
          ∙ ap (λ (more : List Answer). done (migrated_report count) ∷ more) (migrate_fits new has.0 has.2),
    )

-- ---- tags

none_of_four : (a b d e : Bool) (w x y z : Answer) → a ≡ false → b ≡ false → d ≡ false → e ≡ false
    → first_answer (record { holds = a; answer = w } ∷ record { holds = b; answer = x } ∷ record { holds = d; answer = y } ∷ record { holds = e; answer = z } ∷ []) ≡ None
none_of_four true b d e w x y z one two three four = cc
none_of_four false true d e w x y z one two three four = cc
none_of_four false false true e w x y z one two three four = cc
none_of_four false false false true w x y z one two three four = cc
none_of_four false false false false w x y z one two three four = refl

-- a file with a whole page is as long as one
whole_len : (len size : ℕ) → 0 < size → 0 < len / size → size ≤ len
whole_len len size some pages = by_length (nat_lt len size) refl
  where
    by_length : (short : Bool) → nat_lt len size ≡ short → size ≤ len
    by_length false long = search (rules, long)
    by_length true short =
        let less : len < size = search (rules, short) in
        let none = div_below len size 1 some (omega (arith, less)) in
        absurd (omega (arith, none, pages))

not_none : (a : ℕ) → 0 < a → (a == 0) ≡ false
not_none a some = search (rules, some)

not_of : (b : Bool) → b ≡ true → not b ≡ false
not_of b is = ap not is

tags_alone : (profile : Profile) (secret : Secret) (file : List ℕ) → IsListed profile → HasTags profile secret file → IsDoneAlone (tags_answer profile secret file ∷ [])
tags_alone profile secret file listed has =
    (tags_report count, ap (λ (o : Option Answer). unwrap_or o (file_answer keys file) ∷ []) none ∙ ap (λ (l : List ℕ). pages_answer count l ∷ []) accepted)
  where
    keys : FileKeys
    keys = keys_of profile secret file

    count : ℕ
    count = whole_pages profile file

    size : ℕ
    size = profile.page_size

    some : 0 < size
    some = listed_some profile listed

    long : size ≤ length file
    long = whole_len (length file) size some has.some

    none : first_answer (tags_causes profile secret file) ≡ None
    none =
        none_of_four (length file == 0) (nat_lt (length file) size) (nat_lt largest_database (count * size)) (not (fits keys (page_stored keys file 1))) _ _ _ _
        (not_none (length file) (omega (arith, some, long)))
        (no_more (length file) size long)
        (no_more largest_database (count * size) has.few)
        (not_of (fits keys (page_stored keys file 1)) has.fit)

    accepted : refused_pages keys file count ≡ []
    accepted = none_where (is_refused keys file) count (λ i within.
        not_of (accepts keys (1 + i) (page_stored keys file (1 + i))) (has.accepted (1 + i) (number_is count (1 + i) (omega arith) (omega (arith, within)))))

-- ---- salvage

salvage_alone : (profile : Profile) (secret : Secret) (file : List ℕ) → IsListed profile → HasServablePages profile secret file → IsDoneAlone (salvage_answer profile secret file ∷ [])
salvage_alone profile secret file listed has = (
  salvage_report (salvage_lines (file_pages keys file)),
  ap (λ (o : Option Answer). unwrap_or o (salvaged_answer keys file) ∷ []) none
      ∙ ap (λ (b : Bool). (if b then key_refused else done (salvage_report (salvage_lines (file_pages keys file)))) ∷ []) has.opens,
)
  where
    keys : FileKeys
    keys = keys_of profile secret file

    size : ℕ
    size = profile.page_size

    some : 0 < size
    some = listed_some profile listed

    long : size ≤ length file
    long = whole_len (length file) size some has.some

    none_of_three : (a b d : Bool) (w x y : Answer) → a ≡ false → b ≡ false → d ≡ false
        → first_answer (record { holds = a; answer = w } ∷ record { holds = b; answer = x } ∷ record { holds = d; answer = y } ∷ []) ≡ None
    none_of_three true b d w x y one two three = cc
    none_of_three false true d w x y one two three = cc
    none_of_three false false true w x y one two three = cc
    none_of_three false false false w x y one two three = refl

    none : first_answer (salvage_causes profile file) ≡ None
    none =
        none_of_three (length file == 0) (nat_lt (length file) size) (nat_lt largest_database (whole_pages profile file * size)) _ _ _
        (not_none (length file) (omega (arith, some, long)))
        (no_more (length file) size long)
        (no_more largest_database (whole_pages profile file * size) has.few)

-- ---- probe

found_alone : (o : Option Profile) → is_some o ≡ true → IsDoneAlone (found_answer o ∷ [])
found_alone (Some profile) some = (probe_report profile, refl)
found_alone None some = cc

-- a test finds an element of which it holds
module _ (test : Profile → Bool) where
  finds_later : (first : Bool) (profile : Profile) (later : Option Profile) → is_some later ≡ true → is_some (if first then Some profile else later) ≡ true
  finds_later true profile later some = refl
  finds_later false profile later some = some

  finds_here : (first : Bool) (profile : Profile) (later : Option Profile) → first ≡ true → is_some (if first then Some profile else later) ≡ true
  finds_here true profile later is = refl
  finds_here false profile later is = cc

  -- an element of a list that passes is found, or one before it
  found_at : (xs : List Profile) (k : ℕ) (profile : Profile) → slice_get xs k ≡ Some profile → test profile ≡ true → is_some (find test xs) ≡ true
  found_at [] k profile there is = cc
  found_at (first ∷ xs) zero profile there is = finds_here (test first) first (find test xs) (ap test (given first profile there) ∙ is)
    where
      given : (a b : Profile) → Some a ≡ Some b → a ≡ b
      given a b same = cc same
  found_at (first ∷ xs) (suc k) profile there is = finds_later (test first) first (find test xs) (found_at xs k profile there is)

  -- a profile that is tried is found, or one before it
  tried_found : (profile : Profile) → IsTried profile → test profile ≡ true → is_some (find test probed_profiles) ≡ true
  tried_found profile tried = found_at probed_profiles tried.place profile tried.there

none_of_two : (a b : Bool) (x y : Answer) → a ≡ false → b ≡ false
    → first_answer (record { holds = a; answer = x } ∷ record { holds = b; answer = y } ∷ []) ≡ None
none_of_two true b x y one two = cc
none_of_two false true x y one two = cc
none_of_two false false x y one two = refl

first_found : (secret : Secret) (file : List ℕ) (profile : Profile) → IsTried profile → is_fitting secret file profile ≡ true → is_some (first_fitting secret file) ≡ true
unfolding first_fitting
first_found secret file profile tried fit = tried_found (is_fitting secret file) profile tried fit

probe_alone : (secret : Secret) (files : Files) → IsProbed secret files → IsDoneAlone (probe_answer secret files ∷ [])
probe_alone secret files way = subst (λ (a : Answer). IsDoneAlone (a ∷ [])) (sym due_is) (found_alone found (first_found secret main way.profile way.tried way.fit))
  where
    main : List ℕ
    main = main_of files

    found : Option Profile
    found = first_fitting secret main

    some : 0 < length main
    some =
        let long = true_le way.profile.page_size (length main) (and_left (nat_le way.profile.page_size (length main)) _ way.fit) in
        let size = large_each way.tried.place way.profile way.tried.there in
        omega (arith, long, size)

    due_is : probe_answer secret files ≡ found_answer found
    due_is = ap (λ (o : Option Answer). unwrap_or o (found_answer found))
        (none_of_two (is_some files.journal) (length main == 0) _ _ (ap is_some way.no_journal) (not_none (length main) some))

-- ---- make

make_alone : (profile : Profile) (rows : ℕ) (files : Files) → CanMake profile rows files → IsDoneAlone (make_answers profile rows files)
make_alone profile rows files free = (made_report rows (total_len rows), none_there (is_some files.main) (is_some files.journal) (ap is_some free.no_main) (ap is_some free.no_journal) ∙ made_fits profile rows free.few)
  where
    none_there : (m j : Bool) → m ≡ false → j ≡ false
        → (if m then refused FileThere ∷ [] else (if j then refused JournalThere ∷ [] else made_answers profile rows)) ≡ made_answers profile rows
    none_there true j one two = cc
    none_there false true one two = cc
    none_there false false one two = refl

-- of a file that opens nothing else is due to `settle`
settle_alone : (usable frames : ℕ) (first : List ℕ) (opened : Result Opened OpenError) → IsOk opened → IsDoneAlone (settled_answer usable frames first opened ∷ [])
settle_alone usable frames first (Err error) opens = cc
settle_alone usable frames first (Ok found) opens = by_marks (marks_of first)
  where
    by_marks : (marks : Marks) → IsDoneAlone (marked_answer frames (map_count usable found.count) marks ∷ [])
    by_marks Maps = (settled_report frames (map_count usable found.count), refl)
    by_marks Rollback = (settled_report frames 0, refl)
    by_marks Wal = (settled_report frames 0, refl)

-- ---- each command

one_secret : (secrets : List Secret) (P : Secret → Type 0) (answers : Secret → List Answer) → ((secret : Secret) → P secret → IsDoneAlone (answers secret))
    → ForOne secrets P → IsDoneAlone (with_one secrets answers)
one_secret [] P answers alone way = absurd way
one_secret (secret ∷ rest) P answers alone way = alone secret way

both_secrets : (secrets : List Secret) (P : Secret → Secret → Type 0) (answers : Secret → Secret → List Answer)
    → ((first second : Secret) → P first second → IsDoneAlone (answers first second)) → ForTwo secrets P → IsDoneAlone (with_two secrets answers)
both_secrets [] P answers alone way = absurd way
both_secrets (first ∷ []) P answers alone way = absurd way
both_secrets (first ∷ second ∷ rest) P answers alone way = alone first second way

reading_alone : (reading : Reading) (profile : Profile) (secret : Secret) (file : List ℕ) → IsListed profile → IsReadable reading profile secret file
    → IsDoneAlone (reading_answers reading profile secret file)
reading_alone Tags profile secret file served way = tags_alone profile secret file served way
reading_alone Header profile secret file served way = header_alone (opened_with profile secret file) way
reading_alone Salvage profile secret file served way = salvage_alone profile secret file served way
reading_alone (OnPages Verify) profile secret file served way = verify_alone profile secret file served way
reading_alone (OnPages Export) profile secret file served way = export_alone profile secret file served way
reading_alone (OnPages Agree) profile secret file served way = agree_alone profile secret file way
reading_alone (OnPages (Find name low high)) profile secret file served way = find_alone profile secret file name low high way

change_alone : (change : Change) (profile : Profile) (first second : Secret) (file after : List ℕ) → IsListed profile → IsChangeable change profile first file
    → IsDoneAlone (change_answers change (renewed profile change first second) file after)
change_alone (Stamp field value) profile first second file after served way = stamp_alone (opened_with profile first file) way
change_alone (Settle frames) profile first second file after served way =
    settle_alone (usable profile) frames (first_plain (keys_of (with_log profile) first file) file) (opened_with (with_log profile) first file) way
change_alone (Rekey new) profile first second file after served way = rekey_alone profile first file served way
change_alone (Migrate new) profile first second file after served way =
    migrate_alone profile new first (pages_under new second after) file served way

-- Done alone is due to a command with its secrets
pub servable_done : (command : Command) (secrets : List Secret) (files after : Files) → IsServed command → IsServable command secrets files
    → IsDoneAlone (secret_answers command secrets files after)
servable_done Probe secrets files after served = one_secret secrets _ _ (λ secret. probe_alone secret files)
servable_done (Recover profile) secrets files after served = recovery_alone (recovery_of profile files)
servable_done (Read profile reading) secrets files after served =
    one_secret secrets _ _ (λ secret. all_alone profile files _ (reading_answers reading profile secret) (λ file. reading_alone reading profile secret file served))
servable_done (ChangeFile profile change) secrets files after served =
    both_secrets secrets _ _ (λ first second. all_alone profile files _ (λ file. change_answers change (renewed profile change first second) file (main_of after))
    (λ file. change_alone change profile first second file (main_of after) served.0))
servable_done (Make profile rows) secrets files after served = one_secret secrets _ _ (λ secret. make_alone profile rows files)

-- Done alone is due to the words
pub complete : (words : List (List ℕ)) (left : List ℕ) (files after : Files) → CanBeServed words left files → IsDoneAlone (due words left files after)
complete words left files after can =
    let served : IsServed can.command = form_served words can.command can.is_form in
    subst (λ (command : Option Command). IsDoneAlone (command_answers (plays_with_log words) command left files after)) (sym can.is_form)
    (subst (λ (refusal : Option Refusal). IsDoneAlone (asked_answers refusal can.command left files after)) (sym can.no_refusal)
    (subst (λ (lines : Result (List Secret) KeyError). IsDoneAlone (keyed_answers can.command lines files after)) (sym can.gave)
    (servable_done can.command can.secrets files after served can.servable)))

-- ---- the status

-- a fault that no count shows is want of memory
pub faulted : (status : Status) (a b d e f g h i : ℕ) → IsFault status → (status ≡ InputFault → Rose a b) → (status ≡ OutputFault → Rose d e) → (status ≡ EntropyFault → Rose f g)
    → (status ≡ DiskFault → Rose h i) → NoneRose ((a, b) ∷ (d, e) ∷ (f, g) ∷ (h, i) ∷ []) → IsDoneOrStarved status
faulted Done a b d e f g h i fault input output entropy disk none = inl refl
faulted Usage a b d e f g h i fault input output entropy disk none = absurd fault
faulted (Refused refusal) a b d e f g h i fault input output entropy disk none = absurd fault
faulted KeyRefused a b d e f g h i fault input output entropy disk none = absurd fault
faulted DiskFault a b d e f g h i fault input output entropy disk none = absurd (none.1.1.1.0 (disk refl))
faulted OutputFault a b d e f g h i fault input output entropy disk none = absurd (none.1.0 (output refl))
faulted InputFault a b d e f g h i fault input output entropy disk none = absurd (none.0 (input refl))
faulted EntropyFault a b d e f g h i fault input output entropy disk none = absurd (none.1.1.0 (entropy refl))
faulted OutOfMemory a b d e f g h i fault input output entropy disk none = inr refl

pub one_is : (x y : Answer) → Contains (x ∷ []) y → x ≡ y
one_is x y (zero, within, is) = is
one_is x y (suc k, within, is) = absurd (omega (arith, within))

-- where Done alone is due, and no count rose, the status is Done or want of memory
pub done_or_starved : (answers : List Answer) (status : Status) (tells : Bool) (before after : List ℕ) (a b d e f g h i : ℕ)
    → AnswersOne answers status tells before after → IsDoneAlone answers → (status ≡ InputFault → Rose a b) → (status ≡ OutputFault → Rose d e) → (status ≡ EntropyFault → Rose f g)
    → (status ≡ DiskFault → Rose h i) → NoneRose ((a, b) ∷ (d, e) ∷ (f, g) ∷ (h, i) ∷ []) → IsDoneOrStarved status
done_or_starved answers status tells before after a b d e f g h i one alone input output entropy disk none =
    let same : done alone.0 ≡ one.answer = one_is (done alone.0) one.answer (subst (λ (l : List Answer). Contains l one.answer) alone.1 one.is_due) in
    ⊎_elim (λ answered. inl (answered ∙ sym (ap (λ (answer : Answer). answer.status) same)))
    (λ fault. faulted status a b d e f g h i fault input output entropy disk none) one.answered
