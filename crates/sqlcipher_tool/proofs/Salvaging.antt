-- What a salvage of the pages of a file answers.
use Rattle.std.proofs.Common.{◌≡◌, ◌⊎◌, ⊎_elim, inl, inr, ℕ, zero, suc, ◌+◌, ◌-◌, ◌<◌, ◌++◌, ◌==◌, ◌*◌, ◌&&◌, not, Bool, true, false, IsTrue, List, [], ◌∷◌, length, Some, None, if◌then◌else◌, refl, sym, ap, subst, ◌∙◌, arith}
use Rattle.std.specs.Prelude.{nat_lt, unwrap_or}
use Rattle.std.specs.List.{Contains, list_all, range_with_len}
use Rattle.std.specs.Cmp.Derive.{both_true}
use Rattle.cipher_profile.specs.declared.keys.Secret.{Secret}
use Rattle.cipher_profile.specs.declared.profile.Profile.{Profile}
use Rattle.db_format.specs.Count.{largest_database}
use Rattle.row_text.specs.Out.{MovesPart}
use Rattle.page_codec.specs.Page.{FileKeys, accepts, keys_of}
use Rattle.pager.specs.File.{page_stored, whole_pages}
use Rattle.pager.specs.Pages.{is_page_number}
use Rattle.pager.specs.declared.opening.OpenError.TheVariants.{Empty, Short, TooLarge}
use Rattle.pager.proofs.BatchLemmas.{and_true, number_in, number_is}
use Rattle.salvage_scan.specs.Salvage.{IsNoneAccepted, salvage_lines}
use Rattle.salvage_scan.specs.Text.{salvage_report}
use Rattle.text_lines.specs.Text.{PutsPart}
use Rattle.sqlcipher_tool.specs.Answer.{Answer, IsFault, Puts, done, first_answer, key_refused}
use Rattle.sqlcipher_tool.specs.Opening.{open_answer}
use Rattle.sqlcipher_tool.specs.Promises.{AnswersOne}
use Rattle.sqlcipher_tool.specs.Salvage.{file_pages, opens_none, salvage_answer, salvage_causes, salvaged_answer}
use Rattle.sqlcipher_tool.specs.Stop.{stop_answer}
use Rattle.sqlcipher_tool.specs.Text.{key_refused_line}
use Rattle.sqlcipher_tool.specs.declared.opening.Stop.{Stop}
use Rattle.sqlcipher_tool.specs.declared.opening.Stop.TheVariants.{DiskFault as StopDisk}
use Rattle.sqlcipher_tool.specs.declared.status.Status.{Status}
use Rattle.sqlcipher_tool.specs.declared.status.Status.TheVariants.{Done, KeyRefused, OutputFault}
use Rattle.sqlcipher_tool.proofs.Answered.{printed_one}
use Rattle.sqlcipher_tool.proofs.Changed.{silent_one, the_only}
use Rattle.sqlcipher_tool.proofs.PartsPut.{put_so}
use Rattle.sqlcipher_tool.proofs.Numbers.{lt_true, true_lt}
use Rattle.sqlcipher_tool.proofs.Recoveries.{IsOfFile}

-- ---- a test of neighbouring numbers

-- each passes where all do
passes_at : (test : ℕ → Bool) (a n : ℕ) → list_all test (range_with_len a n) ≡ true → (k : ℕ) → k < n → test (a + k) ≡ true
passes_at test a zero all k within = absurd (omega (arith, within))
passes_at test a (suc n) all zero within =
    let first : a ≡ a + 0 = omega arith in
    ap test (sym first) ∙ (and_true (test a) (list_all test (range_with_len (a + 1) n)) all).0
passes_at test a (suc n) all (suc k) within =
    let next : a + 1 + k ≡ a + suc k = omega arith in
    ap test (sym next) ∙ passes_at test (a + 1) n (and_true (test a) (list_all test (range_with_len (a + 1) n)) all).1 k (omega (arith, within))

-- all pass where each does
all_pass : (test : ℕ → Bool) (a n : ℕ) → ((k : ℕ) → k < n → test (a + k) ≡ true) → list_all test (range_with_len a n) ≡ true
all_pass test a zero each = refl
all_pass test a (suc n) each =
    let first : a + 0 ≡ a = omega arith in
    both (test a) (list_all test (range_with_len (a + 1) n)) (ap test (sym first) ∙ each 0 (omega arith))
    (all_pass test (a + 1) n (λ k within. let next : a + suc k ≡ a + 1 + k = omega arith in ap test (sym next) ∙ each (suc k) (omega (arith, within))))
  where
    both : (p q : Bool) → p ≡ true → q ≡ true → (p && q) ≡ true
    both true q one other = other
    both false q one other = cc

-- ---- a key that opens no page

not_true : (b : Bool) → not b ≡ true → b ≡ false
not_true true is = cc
not_true false is = refl

module _ (keys : FileKeys) (file : List ℕ) where
  abbrev count : ℕ
  count = whole_pages keys.profile file

  abbrev is_refused : ℕ → Bool
  is_refused n = not ((file_pages keys file).accepts n)

  pub none_accepted : 0 < keys.profile.tag_len → IsNoneAccepted (file_pages keys file) → opens_none keys file ≡ true
  none_accepted tagged none =
      both_true (lt_true 0 keys.profile.tag_len tagged)
      (all_pass is_refused 1 count (λ k within. ap not (none (1 + k) (number_is count (1 + k) (omega arith) (omega (arith, within))))))

  pub none_is : opens_none keys file ≡ true → (0 < keys.profile.tag_len) × IsNoneAccepted (file_pages keys file)
  none_is is =
      let both = and_true (nat_lt 0 keys.profile.tag_len) (list_all is_refused (range_with_len 1 count)) is in (
        true_lt 0 keys.profile.tag_len both.0,
        λ n number.
            let range = number_in count n number in
            let place : 1 + (n - 1) ≡ n = omega (arith, range.0) in
            ap (λ (k : ℕ). (file_pages keys file).accepts k) (sym place)
            ∙ not_true ((file_pages keys file).accepts (1 + (n - 1))) (passes_at is_refused 1 count both.1 (n - 1) (omega (arith, range.0, range.1))),
      )

  some_opened : (0 < keys.profile.tag_len → IsNoneAccepted (file_pages keys file) → ⊥) → opens_none keys file ≡ false
  some_opened never = by_value (opens_none keys file) refl
    where
      by_value : (b : Bool) → opens_none keys file ≡ b → opens_none keys file ≡ false
      by_value false is = is
      by_value true is = absurd (never (none_is is).0 (none_is is).1)

  -- a page that is accepted is opened
  pub page_opened : (n : ℕ) → is_page_number count n ≡ true → accepts keys n (page_stored keys file n) ≡ true → opens_none keys file ≡ false
  page_opened n number accepted =
      some_opened (λ tagged none.
      let yes : (file_pages keys file).accepts n ≡ true = both_true number accepted in
      let never : true ≡ false = sym yes ∙ none n number in cc)

-- ---- what is answered

module _ (keys : FileKeys) (file : List ℕ) (tells : Bool) (before after : List ℕ) where
  abbrev report : List ℕ
  report = salvage_report (salvage_lines (file_pages keys file))

  opened_is : opens_none keys file ≡ false → salvaged_answer keys file ≡ done report
  opened_is is = ap (λ (b : Bool). if b then key_refused else done report) is

  refused_is : opens_none keys file ≡ true → salvaged_answer keys file ≡ key_refused
  refused_is is = ap (λ (b : Bool). if b then key_refused else done report) is

  -- all was put
  pub salvaged_one : (0 < keys.profile.tag_len → IsNoneAccepted (file_pages keys file) → ⊥) → (IsTrue tells → after ≡ before ++ report)
      → AnswersOne (salvaged_answer keys file ∷ []) Done tells before after
  salvaged_one never text =
      subst (λ (a : Answer). AnswersOne (a ∷ []) Done tells before after) (sym (opened_is (some_opened keys file never)))
      (record { answer = done report; is_due = (0, omega arith, refl); answered = inl refl; puts = text })

  -- the key was refused
  pub refused_one : (status : Status) → 0 < keys.profile.tag_len → IsNoneAccepted (file_pages keys file) → (status ≡ KeyRefused) ⊎ (status ≡ OutputFault)
      → (IsTrue tells → Puts status key_refused_line before after) → AnswersOne (salvaged_answer keys file ∷ []) status tells before after
  refused_one status tagged none is text =
      subst (λ (a : Answer). AnswersOne (a ∷ []) status tells before after) (sym (refused_is (none_accepted keys file tagged none)))
      (printed_one key_refused status tells before after tt is text)

  -- it stopped before its end
  pub stopped_one : (status : Status) → IsFault status → (0 < keys.profile.tag_len → IsNoneAccepted (file_pages keys file) → after ≡ before)
      → (IsTrue tells → MovesPart report before [] after) → AnswersOne (salvaged_answer keys file ∷ []) status tells before after
  stopped_one status fault unopened part = by_value (opens_none keys file) refl
    where
      by_value : (b : Bool) → opens_none keys file ≡ b → AnswersOne (salvaged_answer keys file ∷ []) status tells before after
      by_value true is = silent_one (salvaged_answer keys file ∷ []) status tells before after (omega arith) fault (unopened (none_is keys file is).0 (none_is keys file is).1)
      by_value false is =
          let put : IsTrue tells → PutsPart report before after =
          λ printed. record { put = (part printed).moves.put; rest = (part printed).lost; whole = (part printed).moves.whole; appended = (part printed).moves.given } in
          subst (λ (a : Answer). AnswersOne (a ∷ []) status tells before after) (sym (opened_is is)) (record {
            answer = done report;
            is_due = (0, omega arith, refl);
            answered = inr fault;
            puts = λ printed. put_so status (done report) before after fault (put printed) (put printed);
          })

-- ---- what stands in the way

-- the answer of a stop is the one that is due
pub stop_due : (profile : Profile) (secret : Secret) (file : List ℕ) (stop : Stop) (answer : Answer)
    → (stop ≡ StopDisk) ⊎ (first_answer (salvage_causes profile file) ≡ stop_answer stop) → stop_answer stop ≡ Some answer
    → Contains (salvage_answer profile secret file ∷ []) answer
stop_due profile secret file stop answer is due =
    ⊎_elim (λ (disk : stop ≡ StopDisk). let none : None ≡ Some answer = sym (ap stop_answer disk) ∙ due in cc)
    (λ first. the_only (salvage_answer profile secret file) answer (ap (λ o. unwrap_or o (salvaged_answer (keys_of profile secret file) file)) (first ∙ due))) is

-- no answer to a file is that to a recovery
pub salvage_of_file : (profile : Profile) (secret : Secret) (file : List ℕ) → IsOfFile (salvage_answer profile secret file)
salvage_of_file profile secret file =
    by_causes (length file == 0) (nat_lt (length file) profile.page_size) (nat_lt largest_database (whole_pages profile file * profile.page_size))
    (opens_none (keys_of profile secret file) file)
  where
    by_causes : (a b d none : Bool)
        → IsOfFile (unwrap_or (first_answer (record { holds = a; answer = open_answer Empty } ∷ record { holds = b; answer = open_answer (Short (length file)) }
        ∷ record { holds = d; answer = open_answer (TooLarge (whole_pages profile file)) } ∷ []))
        (if none then key_refused else done (salvage_report (salvage_lines (file_pages (keys_of profile secret file) file)))))
    by_causes true b d none is = is
    by_causes false true d none is = is
    by_causes false false true none is = is
    by_causes false false false true is = is
    by_causes false false false false is = is
