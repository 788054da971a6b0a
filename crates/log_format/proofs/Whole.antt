-- The committed frames of a log are whole.
use Rattle.std.proofs.Common.{◌≡◌, ◌⊎◌, inl, inr, ℕ, suc, zero, ◌+◌, ◌-◌, ◌≤◌, ◌<◌, Bool, true, false, ◌&&◌, nat_le, if◌then◌else◌, List, length, drop, refl, ◌∙◌, ap, arith, length-drop}
use Rattle.std.specs.Prelude.{Option, Some, None, MatchOption}
use Rattle.std.proofs.lemmas.List.{length-take}
use Rattle.std.proofs.Math.Nat.{suc-mul, mul-le-mul_right}
use Rattle.std.proofs.lemmas.Bool.Decides.{nat_tests}
use Rattle.log_format.specs.declared.frame.LogFrame.{LogFrame}
use Rattle.log_format.specs.declared.header.LogHeader.{LogHeader}
use Rattle.log_format.specs.Frames.{frame_image, frame_page, frame_pages, frame_sum, is_sound_frame}
use Rattle.log_format.specs.Header.{HasLogFields, is_big, is_log_head}
use Rattle.log_format.specs.Logs.{chained, commit_end, committed_frames, ends_commit, frame_bytes_at, frame_start, is_live, is_valid, log_header, IsFrameAt}

pub either : (b : Bool) → (b ≡ true) ⊎ (b ≡ false)
either true = inl refl
either false = inr refl

pub and_first : (a b : Bool) → (a && b) ≡ true → a ≡ true
and_first true b both = refl
and_first false b both = cc

pub and_second : (a b : Bool) → (a && b) ≡ true → b ≡ true
and_second true b both = both
and_second false b both = cc

pub le_is : (a b : ℕ) → nat_le a b ≡ true → a ≤ b
le_is a b is = grind (arith, nat_tests)

le_makes : (a b : ℕ) → a ≤ b → nat_le a b ≡ true
le_makes a b le = grind (arith, nat_tests)

le_not : (a b : ℕ) → b < a → nat_le a b ≡ false
le_not a b lt = grind (arith, nat_tests)

and_both : (a b : Bool) → a ≡ true → b ≡ true → (a && b) ≡ true
and_both a b p q = cc

and_no : (a b : Bool) → b ≡ false → (a && b) ≡ false
and_no true b is = is
and_no false b is = refl

no_and : (a b : Bool) → a ≡ false → (a && b) ≡ false
no_and true b is = cc
no_and false b is = refl

pub start_suc : (size k : ℕ) → frame_start size (suc k) ≡ frame_start size k + (size + 24)
start_suc size k = omega (arith, suc-mul k (size + 24))

pub start_le : (size a b : ℕ) → a ≤ b → frame_start size a ≤ frame_start size b
start_le size a b le = omega (arith, mul-le-mul_right (size + 24) le)

-- what ends a commit, ends within the log
pub commit_whole : (size : ℕ) (log : List ℕ) (n k end : ℕ) → frame_start size end ≤ length log → frame_start size (commit_end size log n k end) ≤ length log
commit_whole size log zero k end whole = whole
commit_whole size log (suc n) k end whole = go (is_valid size log k) (ends_commit size log k) refl (λ e le. commit_whole size log n (suc k) e le)
  where
    go : (valid ends : Bool) → is_valid size log k ≡ valid
        → ((e : ℕ) → frame_start size e ≤ length log → frame_start size (commit_end size log n (suc k) e) ≤ length log)
        → frame_start size (if valid then commit_end size log n (suc k) (if ends then suc k else end) else end) ≤ length log
    go false ends is more = whole
    go true true is more = more (suc k) (le_is _ _ (and_first (nat_le (frame_start size (suc k)) (length log)) _ is))
    go true false is more = more end whole

pub head_long : (log : List ℕ) → is_log_head log ≡ true → 32 ≤ length log
head_long log head = le_is 32 (length log) (and_first (nat_le 32 (length log)) _ (and_first _ _ (and_first _ _ head)))

pub live_head : (size : ℕ) (log : List ℕ) → is_live size log ≡ true → is_log_head log ≡ true
live_head size log live = and_first (is_log_head log) _ live

pub committed_whole : (size : ℕ) (log : List ℕ) → is_live size log ≡ true → frame_start size (committed_frames size log) ≤ length log
committed_whole size log live = commit_whole size log (length log) 0 0 (omega (arith, head_long log (live_head size log live)))

-- a frame that ends within the log
pub frame_length : (size : ℕ) (log : List ℕ) (k : ℕ) → frame_start size (suc k) ≤ length log → length (frame_bytes_at size log k) ≡ size + 24
frame_length size log k whole = omega (arith, start_suc size k, length-take (size + 24) (drop (frame_start size k) log), length-drop (frame_start size k) log)

pub image_length : (size : ℕ) (log : List ℕ) (k : ℕ) → frame_start size (suc k) ≤ length log → length (frame_image (frame_bytes_at size log k)) ≡ size
image_length size log k whole = omega (arith, frame_length size log k whole, length-drop 24 (frame_bytes_at size log k))

-- a frame by the frame before it
pub frame_is : (size : ℕ) (log : List ℕ) (k : ℕ) (found : Option LogFrame) → frame_start size (suc k) ≤ length log
    → MatchOption found (is_sound_frame (log_header log) (chained size log k) (frame_bytes_at size log k) ≡ false)
    (λ frame. (is_sound_frame (log_header log) (chained size log k) (frame_bytes_at size log k) ≡ true) × (frame.page ≡ frame_page (frame_bytes_at size log k))
    × (frame.pages ≡ frame_pages (frame_bytes_at size log k)) × (frame.sum ≡ frame_sum (is_big log) (chained size log k) (frame_bytes_at size log k)))
    → IsFrameAt size log k found
frame_is size log k None whole is = and_no _ _ is
frame_is size log k (Some frame) whole is = (and_both _ _ (le_makes _ _ whole) is.0, is.3, is.2)

-- from a frame that is not valid on nothing is committed
pub ends_here : (size : ℕ) (log : List ℕ) (n k end : ℕ) → is_valid size log k ≡ false → commit_end size log n k end ≡ end
ends_here size log zero k end none = refl
ends_here size log (suc n) k end none =
    ap (λ (b : Bool). if b then commit_end size log n (suc k) (if ends_commit size log k then suc k else end) else end) none

-- one valid frame more
pub goes_by : (size : ℕ) (log : List ℕ) (n k end : ℕ) → k < n → is_valid size log k ≡ true
    → commit_end size log (n - k) k end ≡ commit_end size log (n - (k + 1)) (k + 1) (if ends_commit size log k then k + 1 else end)
goes_by size log n k end lt valid =
    let e : n - k ≡ suc (n - (k + 1)) = omega arith in
    let f : suc k ≡ k + 1 = omega arith in
    ap (λ (m : ℕ). commit_end size log m k end) e
    ∙ ap (λ (b : Bool). if b then commit_end size log (n - (k + 1)) (suc k) (if ends_commit size log k then suc k else end) else end) valid
    ∙ ap (λ (m : ℕ). commit_end size log (n - (k + 1)) m (if ends_commit size log k then m else end)) f

-- the header's fields are all that it has
pub header_is : (log : List ℕ) (header : LogHeader) → HasLogFields log header → header ≡ log_header log
header_is log header is = λ i. record {
  is_big = is.0 i;
  version = is.1 i;
  page_size = is.2 i;
  salt = is.3 i;
  other_salt = is.4 i;
  sum = is.5 i;
}
