-- What `verify` answers, by what its walk came to and which tags hold.
use Rattle.std.proofs.Common.{◌≡◌, ◌⊎◌, ⊎_elim, inl, inr, ℕ, zero, suc, ◌+◌, ◌<◌, ◌&&◌, not, Bool, true, false, IsTrue, List, [], ◌∷◌, ◌++◌, length, map, Option, Some, None, Result, Ok, Err, unwrap_or, if◌then◌else◌, refl, sym, ap, ◌∙◌, subst, arith, append-nil}
use Rattle.std.specs.Prelude.{filter, slice_get, slice_index_or}
use Rattle.std.specs.Option.{option_or}
use Rattle.std.specs.List.{Contains, list_all}
use Rattle.std.proofs.lemmas.List.Elements.{filter-append}
use Rattle.std.proofs.Math.Path.{fun_ext}
use Rattle.std.proofs.Math.Bool.{or-false}
use Rattle.std.proofs.lemmas.List.Elements.{Contains-append_left, Contains-append_right}
use Rattle.db_format.specs.Pages.{Pages, Test, nothing, also}
use Rattle.db_format.specs.Seen.{marked}
use Rattle.db_format.specs.declared.defect.Defect.{Defect}
use Rattle.btree_model.specs.Finding.{Finding, faults, is_sound, leaves, refusals}
use Rattle.btree_model.specs.Freelist.{freelist_walk}
use Rattle.btree_model.specs.Parts.{Counts, all_places, counts, first_faults, first_refusals, is_database, parts}
use Rattle.btree_model.specs.Plain.{is_leaf}
use Rattle.btree_model.proofs.AcceptedLemmas.{used_accepted}
use Rattle.btree_model.proofs.LeafLemmas.{is_in}
use Rattle.btree_model.proofs.PlainLemmas.{leaf_is}
use Rattle.btree_model.proofs.UnmarkedLemmas.{and_left}
use Rattle.btree_walk.specs.declared.error.WalkError.{WalkError}
use Rattle.btree_walk.specs.declared.error.WalkError.TheVariants.{Defect as Found, Source, OutOfMemory as MemoryEnds}
use Rattle.pager.specs.Causes.{MayRefuse}
use Rattle.space_map.specs.FreeMap.{FreePages}
use Rattle.pager.specs.declared.fill.PageError.{PageError}
use Rattle.pager.specs.declared.fill.PageError.TheVariants.{OutOfRange, TagRefused, DiskFault as PageFault, EntropyFault as DrawFault, AllPinned}
use Rattle.text_lines.specs.Text.{PutsPart}
use Rattle.sqlcipher_tool.specs.Answer.{Answer, Puts, done, refused, key_refused}
use Rattle.sqlcipher_tool.specs.Plain.{is_left, refused_but, refused_in_use}
use Rattle.sqlcipher_tool.specs.Promises.{AnswersOne}
use Rattle.sqlcipher_tool.specs.Stop.{stop_answer}
use Rattle.sqlcipher_tool.specs.Tags.{number_where, numbers_where, page_numbers, tags_of}
use Rattle.sqlcipher_tool.specs.Text.{tag_lines, verify_report}
use Rattle.sqlcipher_tool.specs.Verify.{else_answers, pages_answers, parts_answers, rest_answers, stop_answers, tags_or}
use Rattle.sqlcipher_tool.specs.Walked.{walk_refusal, walk_stop}
use Rattle.schema_map.specs.Census.{IsWhole}
use Rattle.schema_map.specs.Parts.{IsEarliest}
use Rattle.schema_map.specs.declared.counts.Census.{Census}
use Rattle.schema_map.proofs.SoundParts.{sound_faults, sound_refusals}
use Rattle.space_map.specs.Walk.{IsFirst}
use Rattle.rekey_job.proofs.Checked.{none_counted, not_not}
use Rattle.sqlcipher_tool.specs.declared.opening.Stop.{Stop}
use Rattle.sqlcipher_tool.specs.declared.opening.Stop.TheVariants.{Refused as StopRefused, KeyRefused as StopKey, DiskFault as StopDisk, OutOfMemory as StopMemory}
use Rattle.sqlcipher_tool.specs.declared.status.Refusal.{Refusal}
use Rattle.sqlcipher_tool.specs.declared.status.Refusal.TheVariants.{PageTag, Defect as RefusedDefect}
use Rattle.sqlcipher_tool.specs.declared.status.Status.{Status}
use Rattle.sqlcipher_tool.specs.declared.status.Status.TheVariants.{Refused, DiskFault, OutputFault, OutOfMemory}
use Rattle.sqlcipher_tool.proofs.Answered.{first_due, printed_among}
use Rattle.sqlcipher_tool.proofs.Conclusions.{no_part}
use Rattle.sqlcipher_tool.proofs.PagesAnswer.{empty_part, none_empty}
use Rattle.sqlcipher_tool.proofs.RefusedPages.{part_of_lines, part_of_next}

-- ---- lists

map_at : {X Y : Type 0} (f : X → Y) (xs : List X) (x : X) (k : ℕ) → k < length xs → slice_index_or xs k x ≡ x → Contains (map f xs) (f x)
map_at f [] x k within is = absurd (omega (arith, within))
map_at f (y ∷ ys) x zero within is = (0, omega arith, ap f is)
map_at f (y ∷ ys) x (suc k) within is = let more = map_at f ys x k (omega (arith, within)) is in (suc more.0, omega (arith, more.1), more.2)

contains_map : {X Y : Type 0} (f : X → Y) (xs : List X) (x : X) → Contains xs x → Contains (map f xs) (f x)
contains_map f xs x h = map_at f xs x h.0 h.1 h.2

abbrev named : Refusal → Result Refusal Stop
named refusal = Ok refusal

ok_is : (x y : Refusal) → named x ≡ Ok y → x ≡ y
ok_is x y h = cc

abbrev stopped : Stop → Result Refusal Stop
stopped stop = Err stop

err_is : (x y : Stop) → stopped x ≡ Err y → x ≡ y
err_is x y h = cc

pub some_is : {X : Type 0} (x y : X) → Some x ≡ Some y → x ≡ y
some_is x y h = ap (λ o. unwrap_or o x) h

contains_first : {X : Type 0} (xs : List X) (x : X) → slice_get xs 0 ≡ Some x → Contains xs x
contains_first [] x h = cc
contains_first (y ∷ ys) x h = (0, omega arith, some_is y x h)

-- ---- which answers are due

pub else_left : (xs ys : List Answer) (answer : Answer) → Contains xs answer → Contains (else_answers xs ys) answer
else_left [] ys answer h = absurd (omega (arith, h.1))
else_left (x ∷ xs) ys answer h = h

-- a defect or a refused page is one of the answers
pub among_stops : (defects : List Defect) (pages : List ℕ) (defect : Defect) → Contains defects defect
    → Contains (stop_answers defects pages) (refused (RefusedDefect defect))
among_stops defects pages defect h =
    Contains-append_left (map (λ d. refused (RefusedDefect d)) defects) (map (λ n. refused (PageTag n)) pages) (refused (RefusedDefect defect))
    (contains_map (λ d. refused (RefusedDefect d)) defects defect h)

pub among_pages : (defects : List Defect) (pages : List ℕ) (page : ℕ) → Contains pages page → Contains (stop_answers defects pages) (refused (PageTag page))
among_pages defects pages page h =
    Contains-append_right (map (λ d. refused (RefusedDefect d)) defects) (map (λ n. refused (PageTag n)) pages) (refused (PageTag page))
    (contains_map (λ n. refused (PageTag n)) pages page h)

pub free_due : (pages : Pages) (answer : Answer)
    → Contains (stop_answers (faults (freelist_walk pages nothing)) (refusals (freelist_walk pages nothing))) answer → Contains (pages_answers pages) answer
free_due pages answer h =
    let found = freelist_walk pages nothing in
    else_left (stop_answers (faults found) (refusals found)) (tags_or (refused_in_use pages) (rest_answers pages)) answer h

pub rest_due : (pages : Pages) (last answer : Answer)
    → Contains (stop_answers (first_faults (parts pages)) (first_refusals (parts pages))) answer → Contains (parts_answers pages last) answer
rest_due pages last answer h = else_left (stop_answers (first_faults (parts pages)) (first_refusals (parts pages))) (last ∷ []) answer h

-- the freelist has none: the tags are next
pub tags_next : (pages : Pages) → is_sound (freelist_walk pages nothing) ≡ true → pages_answers pages ≡ tags_or (refused_in_use pages) (rest_answers pages)
tags_next pages sound =
    let found = freelist_walk pages nothing in
    let later = tags_or (refused_in_use pages) (rest_answers pages) in
    ap (λ l. else_answers (stop_answers l (refusals found)) later) (sound_faults found sound)
    ∙ ap (λ l. else_answers (stop_answers [] l) later) (sound_refusals found sound)

-- parts without a defect
first_or : {X : Type 0} (sound all : Bool) (rest found : List X) → (all ≡ true → rest ≡ []) → (sound && all) ≡ true → (if sound then rest else found) ≡ []
first_or true all rest found later h = later h
first_or false all rest found later h = cc

pub no_first_fault : (parts : List (List Finding)) → list_all is_sound parts ≡ true → first_faults parts ≡ []
no_first_fault [] h = refl
no_first_fault (part ∷ rest) h = first_or (is_sound part) (list_all is_sound rest) (first_faults rest) (faults part) (no_first_fault rest) h

pub no_first_refusal : (parts : List (List Finding)) → list_all is_sound parts ≡ true → first_refusals parts ≡ []
no_first_refusal [] h = refl
no_first_refusal (part ∷ rest) h = first_or (is_sound part) (list_all is_sound rest) (first_refusals rest) (refusals part) (no_first_refusal rest) h

pub whole_due : (pages : Pages) (last : Answer) → is_database pages ≡ true → parts_answers pages last ≡ last ∷ []
whole_due pages last whole =
    ap (λ l. else_answers (stop_answers l (first_refusals (parts pages))) (last ∷ [])) (no_first_fault (parts pages) whole)
    ∙ ap (λ l. else_answers (stop_answers [] l) (last ∷ [])) (no_first_refusal (parts pages) whole)

-- ---- which tags are left to check

same_left : (pages : Pages) (passed : Test) → ((n : ℕ) → is_left pages passed n ≡ is_left pages (is_leaf pages) n) → refused_but pages passed ≡ refused_in_use pages
same_left pages passed same = ap (λ test. numbers_where test pages.count) (fun_ext same)

-- all but the leaves
pub leaves_left : (pages : Pages) (passed : Test) → is_sound (freelist_walk pages nothing) ≡ true
    → passed ≡ also (leaves (freelist_walk pages nothing)) nothing → refused_but pages passed ≡ refused_in_use pages
leaves_left pages passed sound is =
    same_left pages passed (λ n. ap (λ b. not b && not (pages.accepts n))
    (ap (λ t. t n) is ∙ or-false (is_in (leaves (freelist_walk pages nothing)) n) ∙ sym (leaf_is pages n sound)))

-- ---- what is answered

-- something outside failed before anything was printed
disk_one : (answers : List Answer) (tells : Bool) (before after : List ℕ) → 0 < length answers → after ≡ before → AnswersOne answers DiskFault tells before after
disk_one answers tells before after some same =
    let due = first_due answers some in
    record { answer = due.0; is_due = due.1; answered = inr tt; puts = λ printed. no_part due.0.begun before after same }

pub memory_one : (answers : List Answer) (tells : Bool) (before after : List ℕ) → 0 < length answers → after ≡ before → AnswersOne answers OutOfMemory tells before after
memory_one answers tells before after some same =
    let due = first_due answers some in
    record { answer = due.0; is_due = due.1; answered = inr tt; puts = λ printed. no_part due.0.begun before after same }

-- a walk that stopped the command: a defect, a refused page, or something outside
pub stop_one : (answers : List Answer) (stop : Stop) (status : Status) (tells : Bool) (before after : List ℕ) → 0 < length answers
    → ((answer : Answer) → stop_answer stop ≡ Some answer → Contains answers answer)
    → ((answer : Answer) → stop_answer stop ≡ Some answer → (status ≡ answer.status) ⊎ (status ≡ OutputFault))
    → ((answer : Answer) → stop_answer stop ≡ Some answer → IsTrue tells → Puts status answer.text before after)
    → (stop ≡ StopDisk → (status ≡ DiskFault) × (after ≡ before)) → (stop ≡ StopMemory → (status ≡ OutOfMemory) × (after ≡ before))
    → AnswersOne answers status tells before after
stop_one answers (StopRefused refusal) status tells before after some due is text failed starved =
    printed_among answers (refused refusal) status tells before after (due (refused refusal) refl) tt (is (refused refusal) refl) (text (refused refusal) refl)
stop_one answers StopKey status tells before after some due is text failed starved =
    printed_among answers key_refused status tells before after (due key_refused refl) tt (is key_refused refl) (text key_refused refl)
stop_one answers StopDisk status tells before after some due is text failed starved =
    subst (λ s. AnswersOne answers s tells before after) (sym (failed refl).0) (disk_one answers tells before after some (failed refl).1)
stop_one answers StopMemory status tells before after some due is text failed starved =
    subst (λ s. AnswersOne answers s tells before after) (sym (starved refl).0) (memory_one answers tells before after some (starved refl).1)

-- the check of the tags was stopped
abbrev pub IsStopped : Status → Type 0
IsStopped status = (status ≡ DiskFault) ⊎ ((status ≡ OutputFault) ⊎ (status ≡ OutOfMemory))

by_status : (P : Status → Type 0) (status : Status) → IsStopped status → P DiskFault → P OutputFault → P OutOfMemory → P status
by_status P status is disk output memory =
    ⊎_elim (λ (e : status ≡ DiskFault). subst P (sym e) disk)
    (λ rest. ⊎_elim (λ (e : status ≡ OutputFault). subst P (sym e) output) (λ (e : status ≡ OutOfMemory). subst P (sym e) memory) rest) is

-- nothing printed, where no page is refused; else a part of the lines
stopped_by : (rest : List Answer) (pages : List ℕ) (status : Status) (tells : Bool) (before after : List ℕ) → 0 < length rest → IsStopped status
    → (IsTrue tells → PutsPart (tag_lines pages) before after) → AnswersOne (tags_or pages rest) status tells before after
stopped_by rest [] status tells before after some is part =
    let due = first_due rest some in
    let nothing_put : IsTrue tells → after ≡ before = λ printed. (part printed).appended ∙ ap (λ l. before ++ l) (empty_part (part printed).put (part printed).rest (part printed).whole) ∙ append-nil before in
    by_status (λ s. AnswersOne rest s tells before after) status is
    (record { answer = due.0; is_due = due.1; answered = inr tt; puts = λ printed. no_part due.0.begun before after (nothing_put printed) })
    (record { answer = due.0; is_due = due.1; answered = inr tt; puts = λ printed. no_part due.0.text before after (nothing_put printed) })
    (record { answer = due.0; is_due = due.1; answered = inr tt; puts = λ printed. no_part due.0.begun before after (nothing_put printed) })
stopped_by rest (page ∷ more) status tells before after some is part =
    by_status (λ s. AnswersOne (tags_of page more ∷ []) s tells before after) status is
    (record { answer = tags_of page more; is_due = (0, omega arith, refl); answered = inr tt; puts = part })
    (record { answer = tags_of page more; is_due = (0, omega arith, refl); answered = inr tt; puts = part })
    (record { answer = tags_of page more; is_due = (0, omega arith, refl); answered = inr tt; puts = part })

pub stopped_one : (answers rest : List Answer) (pages : List ℕ) (status : Status) (tells : Bool) (before after : List ℕ) → answers ≡ tags_or pages rest
    → 0 < length rest → IsStopped status → (IsTrue tells → PutsPart (tag_lines pages) before after) → AnswersOne answers status tells before after
stopped_one answers rest pages status tells before after due some is part =
    subst (λ l. AnswersOne l status tells before after) (sym due) (stopped_by rest pages status tells before after some is part)

-- the lines of the refused pages
refused_by : (rest : List Answer) (pages : List ℕ) (page : ℕ) (tells : Bool) (before after : List ℕ) → Some page ≡ slice_get pages 0
    → (IsTrue tells → after ≡ before ++ tag_lines pages) → AnswersOne (tags_or pages rest) (Refused (PageTag page)) tells before after
refused_by rest [] page tells before after first text = cc
refused_by rest (first ∷ more) page tells before after is text =
    record { answer = tags_of first more; is_due = (0, omega arith, refl); answered = inl (ap (λ n. Refused (PageTag n)) (some_is page first is)); puts = text }

pub refused_one : (answers rest : List Answer) (pages : List ℕ) (page : ℕ) (tells : Bool) (before after : List ℕ) → answers ≡ tags_or pages rest
    → Some page ≡ slice_get pages 0 → (IsTrue tells → after ≡ before ++ tag_lines pages) → AnswersOne answers (Refused (PageTag page)) tells before after
refused_one answers rest pages page tells before after due first text =
    subst (λ l. AnswersOne l (Refused (PageTag page)) tells before after) (sym due) (refused_by rest pages page tells before after first text)

-- where all hold, the rest is due
pub hold_next : (answers rest : List Answer) (pages : List ℕ) → answers ≡ tags_or pages rest → None ≡ slice_get pages 0 → answers ≡ rest
hold_next answers rest pages due none = due ∙ ap (λ l. tags_or l rest) (none_empty pages none)

-- ---- the pages of a file that is only read

-- the lines so far, and after a fault of the output a part of the next
pub part_of_stop : (test : Test) (n count : ℕ) → n < count → (status : Status) → IsStopped status → (before mid after : List ℕ)
    → mid ≡ before ++ tag_lines (numbers_where test n) → ((status ≡ DiskFault) ⊎ (status ≡ OutOfMemory) → after ≡ mid)
    → (status ≡ OutputFault → number_where test (n + 1) ≡ Some (n + 1)) → (status ≡ OutputFault → PutsPart (tag_lines ((n + 1) ∷ [])) mid after)
    → PutsPart (tag_lines (numbers_where test count)) before after
part_of_stop test n count within status is before mid after put unprinted refused part =
    let nothing_more : after ≡ mid → PutsPart (tag_lines (numbers_where test count)) before after =
    λ same. part_of_lines test n count (omega (arith, within)) before after (same ∙ put) in
    ⊎_elim (λ (disk : status ≡ DiskFault). nothing_more (unprinted (inl disk)))
    (λ rest. ⊎_elim (λ (output : status ≡ OutputFault). part_of_next test n count within (refused output) before mid after put (part output))
    (λ (memory : status ≡ OutOfMemory). nothing_more (unprinted (inr memory))) rest) is

-- the first of two, where there is none
pub none_of_both : (first last : Option ℕ) → option_or first last ≡ None → (first ≡ None) × (last ≡ None)
none_of_both None None is = (refl, refl)
none_of_both None (Some n) is = cc
none_of_both (Some m) last is = cc

-- ---- a walk that stopped

-- at the freelist
pub free_stop : (tells : Bool) (pages : Pages) (error : WalkError PageError) → IsTrue tells
    → IsFirst (MayRefuse tells) pages (freelist_walk pages nothing) error → (answer : Answer) → stop_answer (walk_stop error) ≡ Some answer
    → Contains (pages_answers pages) answer
free_stop tells pages (Found d) told is answer same =
    let found = freelist_walk pages nothing in
    subst (λ a. Contains (pages_answers pages) a) (some_is (refused (RefusedDefect d)) answer same)
    (free_due pages (refused (RefusedDefect d)) (among_stops (faults found) (refusals found) d (contains_first (faults found) d is)))
free_stop tells pages (Source (TagRefused page)) told is answer same =
    let found = freelist_walk pages nothing in
    subst (λ a. Contains (pages_answers pages) a) (some_is (refused (PageTag page)) answer same)
    (free_due pages (refused (PageTag page)) (among_pages (faults found) (refusals found) page
    (subst (λ n. Contains (refusals found) n) (sym is.refused.1) (is.listed (is.refused.2 told)))))
free_stop tells pages (Source OutOfRange) told is answer same = cc
free_stop tells pages (Source PageFault) told is answer same = cc
free_stop tells pages (Source DrawFault) told is answer same = cc
free_stop tells pages (Source AllPinned) told is answer same = cc
free_stop tells pages MemoryEnds told is answer same = cc

-- behind it
pub rest_stop : (tells : Bool) (pages : Pages) (last : Answer) (error : WalkError PageError) (refusal : Refusal) → IsTrue tells
    → IsEarliest (MayRefuse tells) pages (parts pages) error → walk_refusal error ≡ Ok refusal → Contains (parts_answers pages last) (refused refusal)
rest_stop tells pages last (Found d) refusal told is same =
    subst (λ r. Contains (parts_answers pages last) (refused r)) (ok_is (RefusedDefect d) refusal same)
    (rest_due pages last (refused (RefusedDefect d)) (among_stops (first_faults (parts pages)) (first_refusals (parts pages)) d is))
rest_stop tells pages last (Source (TagRefused page)) refusal told is same =
    subst (λ r. Contains (parts_answers pages last) (refused r)) (ok_is (PageTag page) refusal same)
    (rest_due pages last (refused (PageTag page)) (among_pages (first_faults (parts pages)) (first_refusals (parts pages)) page
    (subst (λ n. Contains (first_refusals (parts pages)) n) (sym is.refused.1) (is.listed (is.refused.2 told)))))
rest_stop tells pages last (Source OutOfRange) refusal told is same = cc
rest_stop tells pages last (Source PageFault) refusal told is same = cc
rest_stop tells pages last (Source DrawFault) refusal told is same = cc
rest_stop tells pages last (Source AllPinned) refusal told is same = cc
rest_stop tells pages last MemoryEnds refusal told is same = cc

-- what else stopped it has no answer
pub outside_stop : (error : WalkError PageError) (stop : Stop) → walk_refusal error ≡ Err stop → stop_answer stop ≡ None
outside_stop (Found d) stop is = cc
outside_stop (Source OutOfRange) stop is = ap stop_answer (sym (err_is StopMemory stop is))
outside_stop (Source (TagRefused page)) stop is = cc
outside_stop (Source PageFault) stop is = ap stop_answer (sym (err_is StopDisk stop is))
outside_stop (Source DrawFault) stop is = ap stop_answer (sym (err_is StopMemory stop is))
outside_stop (Source AllPinned) stop is = ap stop_answer (sym (err_is StopMemory stop is))
outside_stop MemoryEnds stop is = ap stop_answer (sym (err_is StopMemory stop is))

-- ---- a walk that came to its end

abbrev pub counted : Census → Counts
counted census = record { trees = census.trees; rows = census.entries; free = census.free; unused = census.unused }

counts_are : (pages : Pages) (census : Census) → IsWhole pages census → counted census ≡ counts pages
counts_are pages census whole =
    let found = counts pages in
    ap (λ n. record { trees = n; rows = census.entries; free = census.free; unused = census.unused }) whole.trees
    ∙ ap (λ n. record { trees = found.trees; rows = n; free = census.free; unused = census.unused }) whole.rows
    ∙ ap (λ n. record { trees = found.trees; rows = found.rows; free = n; unused = census.unused }) whole.free
    ∙ ap (λ n. record { trees = found.trees; rows = found.rows; free = found.free; unused = n }) whole.unused

-- the report is due where the tags hold
pub report_due : (pages : Pages) (census : Census) → IsWhole pages census → pages_answers pages ≡ rest_answers pages
    → Contains (pages_answers pages) (done (verify_report (counted census)))
report_due pages census whole hold =
    subst (λ l. Contains l (done (verify_report (counted census)))) (sym (whole_due pages (done (verify_report (counts pages))) whole.sound) ∙ sym hold)
    (0, omega arith, ap (λ n. done (verify_report n)) (sym (counts_are pages census whole)))

pub none_where : (test : Test) (n : ℕ) → ((i : ℕ) → i < n → test (1 + i) ≡ false) → numbers_where test n ≡ []
none_where test zero none = refl
none_where test (suc n) none =
    filter-append test (page_numbers n) (suc n ∷ [])
    ∙ ap (λ l. l ++ filter test (suc n ∷ [])) (none_where test n (λ i within. none i (omega (arith, within))))
    ∙ ap (λ b. if b then suc n ∷ [] else []) (ap test (omega arith) ∙ none n (omega arith))

pub left_by : (a leaf accepted : Bool) → (leaf ≡ false → accepted ≡ true) → (not leaf && not accepted) ≡ false
left_by a true accepted there = refl
left_by a false accepted there = ap not (there refl)

-- so each page is accepted, or a leaf
pub none_left : (pages : Pages) (census : Census) → IsWhole pages census → census.unused ≡ 0 → pages_answers pages ≡ rest_answers pages
none_left pages census whole none =
    let found = freelist_walk pages nothing in
    let sound : is_sound found ≡ true = and_left (is_sound found) _ whole.sound in
    tags_next pages sound
    ∙ ap (λ l. tags_or l (rest_answers pages)) (none_where (is_left pages (is_leaf pages)) pages.count (λ i within.
    let met = not_not (is_in (all_places (parts pages)) (1 + i))
    (none_counted (λ n. not (is_in (all_places (parts pages)) n)) 1 pages.count (sym whole.unused ∙ none) i within) in
    left_by true (is_leaf pages (1 + i)) (pages.accepts (1 + i))
    (λ kept. used_accepted pages (1 + i) whole.sound met (sym (leaf_is pages (1 + i) sound) ∙ kept))))

-- the tags that are left, and the answers where they hold
pub tags_due : (pages : Pages) (free : List Bool) → is_sound (freelist_walk pages nothing) ≡ true
    → marked free ≡ also (leaves (freelist_walk pages nothing)) nothing
    → pages_answers pages ≡ tags_or (refused_but pages (marked free)) (rest_answers pages)
tags_due pages free sound leafs = tags_next pages sound ∙ ap (λ l. tags_or l (rest_answers pages)) (sym (leaves_left pages (marked free) sound leafs))

-- the same list of other names for the same pages and leaves
pub left_is : (pages pages' : Pages) (free free' : FreePages) → pages' ≡ pages → free' ≡ free
    → refused_but pages' (marked free'.leaves) ≡ refused_but pages (marked free.leaves)
left_is pages pages' free free' same_pages same_free =
    ap (λ p. refused_but p (marked free'.leaves)) same_pages ∙ ap (λ (f : FreePages). refused_but pages (marked f.leaves)) same_free
