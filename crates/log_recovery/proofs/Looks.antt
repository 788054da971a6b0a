-- What is due to a log that was looked at.
use Rattle.std.proofs.Common.{◌≡◌, ◌≢◌, ℕ, ◌≤◌, ◌<◌, Bool, true, false, not, ◌&&◌, ◌||◌, ◌==◌, nat_le, nat_lt, if◌then◌else◌, List, length, take, Option, Some, None, Result, Ok, Err, refl, sym, ◌∙◌, ap, subst, arith}
use Rattle.std.proofs.lemmas.Bool.Decides.{nat_tests}
use Rattle.edge_model.specs.Files.{Files, bytes_of, main_of}
use Rattle.log_format.specs.declared.header.LogHeader.{LogHeader}
use Rattle.log_format.specs.Header.{HasLogFields, is_log_head, log_page_size, log_version}
use Rattle.log_format.specs.Logs.{committed_frames}
use Rattle.log_format.proofs.Front.{fields_front, head_front}
use Rattle.rollback_journal.specs.Recovery.{HasByte}
use Rattle.rollback_journal.proofs.LaidBack.{there_contents}
use Rattle.rollback_journal.proofs.MainSteps.{has_byte, some_contents}
use Rattle.log_recovery.specs.declared.settling.LogLaid.{LogLaid}
use Rattle.log_recovery.specs.declared.settling.LogLaid.TheVariants.{Nothing, Empty, Laid}
use Rattle.log_recovery.specs.declared.settling.LogError.{LogError}
use Rattle.log_recovery.specs.declared.settling.LogError.TheVariants.{LogVersion, LogPageSize}
use Rattle.log_recovery.specs.Opened.{is_over, log_answer_of}
use Rattle.log_recovery.specs.Laying.{log_of, IsTaken}
use Rattle.log_recovery.specs.Finding.{IsEmptyLog}

and_no : (a b c : Bool) → b ≡ false → (a && b && c) ≡ false
and_no true true c is = cc
and_no true false c is = refl
and_no false b c is = refl

no_last : (a b c : Bool) → c ≡ false → (a && b && c) ≡ false
no_last true true c is = is
no_last true false c is = refl
no_last false b c is = refl

all_three : (a b c : Bool) → a ≡ true → b ≡ true → c ≡ true → (a && b && c) ≡ true
all_three a b c p q r = cc

both : (a b : Bool) → a ≡ true → b ≡ true → (a && b) ≡ true
both a b p q = cc

or_first : (a b : Bool) → a ≡ true → (a || b) ≡ true
or_first a b is = cc

or_second : (a b : Bool) → b ≡ true → (a || b) ≡ true
or_second true b is = refl
or_second false b is = is

no_or : (a b : Bool) → a ≡ false → b ≡ false → (a || b) ≡ false
no_or a b p q = cc

not_eq : (a b : ℕ) → a ≢ b → not (a == b) ≡ true
not_eq a b other = grind (arith, nat_tests)

eq_not : (a b : ℕ) → a ≡ b → not (a == b) ≡ false
eq_not a b is = grind (arith, nat_tests)

lt_makes : (n : ℕ) → 0 < n → nat_lt 0 n ≡ true
lt_makes n lt = grind (arith, nat_tests)

lt_not : (n : ℕ) → n ≡ 0 → nat_lt 0 n ≡ false
lt_not n is = grind (arith, nat_tests)

le_not : (n : ℕ) → n < 32 → nat_le 32 n ≡ false
le_not n lt = grind (arith, nat_tests)

zero_not : (n : ℕ) → 0 < n → (n == 0) ≡ false
zero_not n lt = grind (arith, nat_tests)

no_first : (a b : Bool) → a ≡ false → (a && b) ≡ false
no_first true b is = cc
no_first false b is = refl

pub empty_no_head : (files : Files) → HasByte (bytes_of files.main) → files.journal ≢ None → is_log_head (log_of files) ≡ false → IsEmptyLog files
empty_no_head files some there none =
    record { main = some_contents files.main some; log = there_contents files.journal there; none = and_no (nat_lt 0 (length (main_of files))) (is_log_head (log_of files)) _ none }

pub empty_no_commit : (files : Files) → HasByte (bytes_of files.main) → files.journal ≢ None → log_version (log_of files) ≡ 3007000
    → committed_frames (log_page_size (log_of files)) (log_of files) ≡ 0 → IsEmptyLog files
empty_no_commit files some there version none = record {
  main = some_contents files.main some;
  log = there_contents files.journal there;
  none = no_last (nat_lt 0 (length (main_of files))) (is_log_head (log_of files)) _
      (no_or (not (log_version (log_of files) == 3007000)) (nat_lt 0 (committed_frames (log_page_size (log_of files)) (log_of files))) (eq_not _ _ version) (lt_not _ none));
}

of_files : (size : ℕ) (files : Files) → HasByte (bytes_of files.main) → files.journal ≢ None
    → log_answer_of size (bytes_of files.main) (bytes_of files.journal) ≡ log_answer_of size (Some (main_of files)) (Some (log_of files))
of_files size files some there =
    ap (λ (m : Option (List ℕ)). log_answer_of size m (bytes_of files.journal)) (some_contents files.main some)
    ∙ ap (λ (j : Option (List ℕ)). log_answer_of size (Some (main_of files)) j) (there_contents files.journal there)

pub over_version : (files : Files) → HasByte (bytes_of files.main) → is_log_head (log_of files) ≡ true → log_version (log_of files) ≢ 3007000
    → is_over (main_of files) (log_of files) ≡ true
over_version files some head other =
    all_three (nat_lt 0 (length (main_of files))) (is_log_head (log_of files)) _ (lt_makes _ (has_byte files.main some)) head (or_first _ _ (not_eq _ _ other))

pub over_commit : (files : Files) → HasByte (bytes_of files.main) → is_log_head (log_of files) ≡ true
    → 0 < committed_frames (log_page_size (log_of files)) (log_of files) → is_over (main_of files) (log_of files) ≡ true
over_commit files some head commit =
    all_three (nat_lt 0 (length (main_of files))) (is_log_head (log_of files)) _ (lt_makes _ (has_byte files.main some)) head
    (or_second (not (log_version (log_of files) == 3007000)) _ (lt_makes _ commit))

abbrev then_version : ℕ → List ℕ → Result LogLaid LogError
then_version size log =
    if not (log_version log == 3007000) then Err (LogVersion (log_version log))
    else if not (log_page_size log == size) then Err (LogPageSize (log_page_size log))
    else Ok (Laid (committed_frames size log))

answer_over : (size : ℕ) (files : Files) → HasByte (bytes_of files.main) → files.journal ≢ None → is_over (main_of files) (log_of files) ≡ true
    → log_answer_of size (bytes_of files.main) (bytes_of files.journal) ≡ then_version size (log_of files)
answer_over size files some there over =
    of_files size files some there
    ∙ ap (λ (b : Bool). if b then Ok Nothing else if not (is_over (main_of files) (log_of files)) then Ok Empty else then_version size (log_of files))
    (zero_not (length (main_of files)) (has_byte files.main some))
    ∙ ap (λ (b : Bool). if not b then Ok Empty else then_version size (log_of files)) over

pub answer_version : (size found : ℕ) (files : Files) → HasByte (bytes_of files.main) → files.journal ≢ None → is_log_head (log_of files) ≡ true
    → found ≡ log_version (log_of files) → found ≢ 3007000
    → log_answer_of size (bytes_of files.main) (bytes_of files.journal) ≡ Err (LogVersion found)
answer_version size found files some there head is other =
    let differs : log_version (log_of files) ≢ 3007000 = λ e. other (is ∙ e) in
    answer_over size files some there (over_version files some head differs)
    ∙ ap (λ (b : Bool). if b then Err (LogVersion (log_version (log_of files))) else if not (log_page_size (log_of files) == size) then Err (LogPageSize (log_page_size (log_of files))) else Ok (Laid (committed_frames size (log_of files))))
    (not_eq _ _ differs)
    ∙ ap (λ (n : ℕ). Err (LogVersion n)) (sym is)

pub answer_size : (size found : ℕ) (files : Files) → HasByte (bytes_of files.main) → files.journal ≢ None
    → is_over (main_of files) (log_of files) ≡ true → log_version (log_of files) ≡ 3007000
    → found ≡ log_page_size (log_of files) → found ≢ size
    → log_answer_of size (bytes_of files.main) (bytes_of files.journal) ≡ Err (LogPageSize found)
answer_size size found files some there over version is other =
    let differs : log_page_size (log_of files) ≢ size = λ e. other (is ∙ e) in
    answer_over size files some there over
    ∙ ap (λ (b : Bool). if b then Err (LogVersion (log_version (log_of files))) else if not (log_page_size (log_of files) == size) then Err (LogPageSize (log_page_size (log_of files))) else Ok (Laid (committed_frames size (log_of files))))
    (eq_not _ _ version)
    ∙ ap (λ (b : Bool). if b then Err (LogPageSize (log_page_size (log_of files))) else Ok (Laid (committed_frames size (log_of files)))) (not_eq _ _ differs)
    ∙ ap (λ (n : ℕ). Err (LogPageSize n)) (sym is)

pub answer_laid : (size : ℕ) (files : Files) → HasByte (bytes_of files.main) → files.journal ≢ None
    → is_over (main_of files) (log_of files) ≡ true → log_version (log_of files) ≡ 3007000
    → log_page_size (log_of files) ≡ size
    → log_answer_of size (bytes_of files.main) (bytes_of files.journal) ≡ Ok (Laid (committed_frames size (log_of files)))
answer_laid size files some there over version is =
    answer_over size files some there over
    ∙ ap (λ (b : Bool). if b then Err (LogVersion (log_version (log_of files))) else if not (log_page_size (log_of files) == size) then Err (LogPageSize (log_page_size (log_of files))) else Ok (Laid (committed_frames size (log_of files))))
    (eq_not _ _ version)
    ∙ ap (λ (b : Bool). if b then Err (LogPageSize (log_page_size (log_of files))) else Ok (Laid (committed_frames size (log_of files)))) (eq_not _ _ is)

pub answer_empty : (size : ℕ) (files : Files) → HasByte (bytes_of files.main) → files.journal ≢ None → is_over (main_of files) (log_of files) ≡ false
    → log_answer_of size (bytes_of files.main) (bytes_of files.journal) ≡ Ok Empty
answer_empty size files some there none =
    of_files size files some there
    ∙ ap (λ (b : Bool). if b then Ok Nothing else if not (is_over (main_of files) (log_of files)) then Ok Empty else then_version size (log_of files))
    (zero_not (length (main_of files)) (has_byte files.main some))
    ∙ ap (λ (b : Bool). if not b then Ok Empty else then_version size (log_of files)) none

pub taken_is : (size : ℕ) (files : Files) → HasByte (bytes_of files.main) → HasByte (bytes_of files.journal) → is_log_head (log_of files) ≡ true
    → log_version (log_of files) ≡ 3007000 → log_page_size (log_of files) ≡ size → 0 < committed_frames (log_page_size (log_of files)) (log_of files) → IsTaken size files
taken_is size files some there head version is commit = record {
  main = some;
  log = there;
  page_size = is;
  version = version;
  live = both _ _ head (lt_makes _ (subst (λ (n : ℕ). 0 < committed_frames n (log_of files)) is commit));
}

-- the header that was read
pub read_head : (log buffer : List ℕ) → buffer ≡ take 32 log → 32 ≤ length log → is_log_head buffer ≡ is_log_head log
read_head log buffer is long = ap (λ (l : List ℕ). is_log_head l) is ∙ head_front log long

pub read_fields : (log buffer : List ℕ) (header : LogHeader) → buffer ≡ take 32 log → 32 ≤ length log → HasLogFields buffer header → HasLogFields log header
read_fields log buffer header is long fields = fields_front log header long (subst (λ (l : List ℕ). HasLogFields l header) is fields)

-- how many frames are committed, by the header that was read and the disk as it was looked at
pub frames_are : (size frames : ℕ) (log now : List ℕ) → now ≡ log → size ≡ log_page_size log → frames ≡ committed_frames size now
    → frames ≡ committed_frames (log_page_size log) log
frames_are size frames log now same is found = found ∙ ap (λ (l : List ℕ). committed_frames size l) same ∙ ap (λ (n : ℕ). committed_frames n log) is
