-- How far a log is committed, frame by frame.
use Rattle.std.proofs.Common.{◌≡◌, ◌≢◌, ℕ, suc, ◌+◌, ◌-◌, ◌*◌, ◌≤◌, ◌<◌, Bool, true, false, not, ◌==◌, if◌then◌else◌, List, Option, Some, None, sym, ◌∙◌, ap, subst, arith}
use Rattle.std.proofs.Math.Nat.{suc-mul}
use Rattle.std.proofs.lemmas.Bool.Decides.{nat_tests}
use Rattle.log_format.specs.declared.frame.LogFrame.{LogFrame}
use Rattle.log_format.specs.Frames.{frame_pages}
use Rattle.log_format.specs.Logs.{chained, commit_end, committed_frames, frame_bytes_at, is_valid, logged_count, IsFrameAt}
use Rattle.log_format.proofs.Whole.{ends_here, goes_by}

pub next_start : (size k : ℕ) → 32 + (k + 1) * (size + 24) ≡ 32 + k * (size + 24) + (size + 24)
next_start size k =
    let e : k + 1 ≡ suc k = omega arith in
    omega (arith, ap (λ (m : ℕ). m * (size + 24)) e, suc-mul k (size + 24))

found_some : (size k : ℕ) (log now : List ℕ) (found : Option LogFrame) (frame : LogFrame) → now ≡ log → found ≡ Some frame → IsFrameAt size now k found
    → IsFrameAt size log k (Some frame)
found_some size k log now found frame same is at =
    subst (λ (l : List ℕ). IsFrameAt size l k (Some frame)) same (subst (λ (f : Option LogFrame). IsFrameAt size now k f) is at)

pub stopped : (size k m frames : ℕ) (log now : List ℕ) (found : Option LogFrame) → now ≡ log → found ≡ None → IsFrameAt size now k found
    → commit_end size log m k frames ≡ committed_frames size log → frames ≡ committed_frames size log
stopped size k m frames log now found same is at left =
    sym (ends_here size log m k frames (subst (λ (l : List ℕ). is_valid size l k ≡ false) same (subst (λ (f : Option LogFrame). IsFrameAt size now k f) is at))) ∙ left

pub pages_is : (size frames pages : ℕ) (log : List ℕ) → frames ≡ committed_frames size log → pages ≡ frame_pages (frame_bytes_at size log (frames - 1))
    → pages ≡ logged_count size log
pages_is size frames pages log is at = at ∙ ap (λ (n : ℕ). frame_pages (frame_bytes_at size log (n - 1))) is

pub chain_next : (size k : ℕ) (log now : List ℕ) (found : Option LogFrame) (frame : LogFrame) → now ≡ log → found ≡ Some frame → IsFrameAt size now k found
    → frame.sum ≡ chained size log (k + 1)
chain_next size k log now found frame same is at =
    let e : suc k ≡ k + 1 = omega arith in
    (found_some size k log now found frame same is at).1 ∙ ap (λ (n : ℕ). chained size log n) e

not_zero : (n : ℕ) → n ≢ 0 → not (n == 0) ≡ true
not_zero n some = grind (arith, nat_tests)

is_zero : (n : ℕ) → n ≡ 0 → not (n == 0) ≡ false
is_zero n none = grind (arith, nat_tests)

pub left_commit : (size n k frames after : ℕ) (log now : List ℕ) (found : Option LogFrame) (frame : LogFrame) → now ≡ log → found ≡ Some frame
    → IsFrameAt size now k found → k < n → frame.pages ≢ 0 → after ≡ k + 1 → commit_end size log (n - k) k frames ≡ committed_frames size log
    → commit_end size log (n - (k + 1)) (k + 1) after ≡ committed_frames size log
left_commit size n k frames after log now found frame same is at lt some after_is left =
    let here = found_some size k log now found frame same is at in
    ap (λ (m : ℕ). commit_end size log (n - (k + 1)) (k + 1) m)
    (after_is ∙ ap (λ (b : Bool). if b then k + 1 else frames) (sym (subst (λ (p : ℕ). not (p == 0) ≡ true) here.2 (not_zero frame.pages some))))
    ∙ sym (goes_by size log n k frames lt here.0) ∙ left

pub left_other : (size n k frames after : ℕ) (log now : List ℕ) (found : Option LogFrame) (frame : LogFrame) → now ≡ log → found ≡ Some frame
    → IsFrameAt size now k found → k < n → frame.pages ≡ 0 → after ≡ frames → commit_end size log (n - k) k frames ≡ committed_frames size log
    → commit_end size log (n - (k + 1)) (k + 1) after ≡ committed_frames size log
left_other size n k frames after log now found frame same is at lt none after_is left =
    let here = found_some size k log now found frame same is at in
    ap (λ (m : ℕ). commit_end size log (n - (k + 1)) (k + 1) m)
    (after_is ∙ ap (λ (b : Bool). if b then k + 1 else frames) (sym (subst (λ (p : ℕ). not (p == 0) ≡ false) here.2 (is_zero frame.pages none))))
    ∙ sym (goes_by size log n k frames lt here.0) ∙ left

pub pages_commit : (size k after pages : ℕ) (log now : List ℕ) (found : Option LogFrame) (frame : LogFrame) → now ≡ log → found ≡ Some frame
    → IsFrameAt size now k found → after ≡ k + 1 → pages ≡ frame.pages → pages ≡ frame_pages (frame_bytes_at size log (after - 1))
pages_commit size k after pages log now found frame same is at after_is pages_are =
    let e : k ≡ after - 1 = omega arith in
    pages_are ∙ (found_some size k log now found frame same is at).2 ∙ ap (λ (n : ℕ). frame_pages (frame_bytes_at size log n)) e

pub pages_other : (size frames after old pages : ℕ) (log : List ℕ) → after ≡ frames → pages ≡ old
    → (0 < frames → old ≡ frame_pages (frame_bytes_at size log (frames - 1))) → 0 < after → pages ≡ frame_pages (frame_bytes_at size log (after - 1))
pages_other size frames after old pages log after_is pages_are so_far some =
    pages_are ∙ so_far (omega (arith, after_is, some)) ∙ ap (λ (n : ℕ). frame_pages (frame_bytes_at size log (n - 1))) (sym after_is)

pub fits_by : (size frames after len : ℕ) → after ≡ frames → 32 + frames * (size + 24) ≤ len → 32 + after * (size + 24) ≤ len
fits_by size frames after len is fits = omega (arith, ap (λ (n : ℕ). n * (size + 24)) is, fits)
