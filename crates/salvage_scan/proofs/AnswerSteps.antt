-- From the lines that were put to what is answered.
use Rattle.std.proofs.Common.{◌≡◌, ◌≤◌, ◌<◌, ℕ, Bool, List, [], ◌++◌, Result, Ok, Err, IsTrue, refl, ap, sym, subst, ◌∙◌}
use Rattle.std.specs.Prelude.{IfErr, IfOk, OnErr, OnOk}
use Rattle.std.proofs.lemmas.List.{append-nil}
use Rattle.db_format.specs.Pages.{Pages}
use Rattle.row_text.specs.Out.{Moves, MovesPart}
use Rattle.row_text.proofs.Moving.{cut, restated, restated_part, then, then_part, waits}
use Rattle.salvage_scan.specs.declared.error.SalvageError.{SalvageError}
use Rattle.salvage_scan.specs.declared.error.SalvageError.TheVariants.{KeyRefused, DiskFault, OutputFault, OutOfMemory}
use Rattle.salvage_scan.specs.declared.scan.Salvaged.{Salvaged}
use Rattle.salvage_scan.specs.Answer.{IsKeyAnswered, IsReported, IsStop}
use Rattle.salvage_scan.specs.Salvage.{IsNoneAccepted, counts_of, no_counts, salvage_lines}
use Rattle.salvage_scan.specs.Scan.{IsSalvageCause, IsDiskCause, IsOutCause, IsPutLine, IsPutPart, ScanState, added}
use Rattle.salvage_scan.specs.Text.{counts_line, counts_shown, lines_text, salvage_report}
use Rattle.salvage_scan.proofs.ScanSteps.{added_first, rose_later}

-- ---- the last line, and what waits

pub flushed : {text b0 w0 b1 w1 b2 w2 : List ℕ} → Moves text b0 w0 b1 w1 → Moves [] b1 w1 b2 w2 → w2 ≡ [] → Moves text b0 w0 b2 []
flushed {text} {b0} {w0} {b1} {w1} {b2} {w2} first second empty =
    subst (λ w. Moves text b0 w0 b2 w) empty (restated (append-nil text) (then first second))

pub flushed_part : {text b0 w0 b1 w1 b2 : List ℕ} → Moves text b0 w0 b1 w1 → MovesPart [] b1 w1 b2 → MovesPart text b0 w0 b2
flushed_part {text} first second = restated_part (append-nil text) (then_part first second)

-- ---- the report

-- nothing was put
pub none_reported : (tells : Bool) (pages : Pages) (before : List ℕ) → IsTrue tells → MovesPart (salvage_report (salvage_lines pages)) before [] before
none_reported tells pages before told = record { lost = salvage_report (salvage_lines pages); moves = waits before refl }

-- from the beginning on, with nothing waiting and nothing counted
module _ (tells : Bool) (pages : Pages) (s : ScanState) (empty : s.waits ≡ []) (none : s.counts ≡ no_counts) where
  -- some lines were put
  pub lines_reported : (u : ScanState) → IsPutPart tells (salvage_lines pages) s u → IsTrue tells → MovesPart (salvage_report (salvage_lines pages)) s.taken [] u.taken
  lines_reported u part told =
      subst (λ w. MovesPart (salvage_report (salvage_lines pages)) s.taken w u.taken) empty
      (cut (counts_line (counts_of (salvage_lines pages))) (part told))

  module _ (t : ScanState) (put : IsPutLine tells (salvage_lines pages) s t) where
    counted : t.counts ≡ counts_of (salvage_lines pages)
    counted = put.counts ∙ ap (λ k. added k (counts_of (salvage_lines pages))) none ∙ added_first (counts_of (salvage_lines pages))

    text_is : lines_text (salvage_lines pages) ++ counts_line t.counts ≡ salvage_report (salvage_lines pages)
    text_is = ap (λ k. lines_text (salvage_lines pages) ++ counts_line k) counted

    all_reported : (after : List ℕ) → IsTrue tells → Moves (counts_line t.counts) t.taken t.waits after [] → after ≡ s.taken ++ salvage_report (salvage_lines pages)
    all_reported after told last =
        let moved : Moves (lines_text (salvage_lines pages) ++ counts_line t.counts) s.taken s.waits after [] = then (put.moves told) last in
        moved.given
        ∙ ap (λ l. s.taken ++ l) (sym (append-nil moved.put) ∙ sym moved.whole
        ∙ ap (λ w. w ++ (lines_text (salvage_lines pages) ++ counts_line t.counts)) empty ∙ text_is)

    last_reported : (after : List ℕ) → IsTrue tells → MovesPart (counts_line t.counts) t.taken t.waits after → MovesPart (salvage_report (salvage_lines pages)) s.taken [] after
    last_reported after told last =
        subst (λ w. MovesPart (salvage_report (salvage_lines pages)) s.taken w after) empty (restated_part text_is (then_part (put.moves told) last))

    -- what the end comes to
    pub end_reported : (after : List ℕ) (counts : Salvaged) (result : Result Salvaged SalvageError) → counts_shown counts ≡ t.counts
        → OnOk result (IsTrue tells → Moves (counts_line t.counts) t.taken t.waits after [])
        → OnErr result (IsTrue tells → MovesPart (counts_line t.counts) t.taken t.waits after)
        → IfOk result (λ given. given ≡ counts) → IsReported tells pages s.taken after result
    end_reported after counts (Ok given) shown text part is =
        record { text = λ told. all_reported after told (text told); is = ap counts_shown is ∙ shown ∙ counted }
    end_reported after counts (Err error) shown text part is = λ told. last_reported after told (part told)

-- ---- the key

pub disk_key : (tag_len : ℕ) (pages : Pages) (before now : ℕ) (error : SalvageError) → IsDiskCause before now error → IsKeyAnswered tag_len pages (Err error)
disk_key tag_len pages before now KeyRefused is = absurd is
disk_key tag_len pages before now DiskFault is = tt
disk_key tag_len pages before now OutputFault is = tt
disk_key tag_len pages before now OutOfMemory is = tt

pub cause_key : (tag_len : ℕ) (pages : Pages) (before now out out_now : ℕ) (error : SalvageError) → IsSalvageCause before now out out_now error → IsKeyAnswered tag_len pages (Err error)
cause_key tag_len pages before now out out_now KeyRefused is = absurd is
cause_key tag_len pages before now out out_now DiskFault is = tt
cause_key tag_len pages before now out out_now OutputFault is = tt
cause_key tag_len pages before now out out_now OutOfMemory is = tt

pub end_key : (tag_len : ℕ) (pages : Pages) (out out_now : ℕ) (result : Result Salvaged SalvageError) → (0 < tag_len → IsNoneAccepted pages → ⊥)
    → IfErr result (IsOutCause out out_now) → IsKeyAnswered tag_len pages result
end_key tag_len pages out out_now (Ok counts) some is = some
end_key tag_len pages out out_now (Err KeyRefused) some is = absurd is
end_key tag_len pages out out_now (Err DiskFault) some is = tt
end_key tag_len pages out out_now (Err OutputFault) some is = tt
end_key tag_len pages out out_now (Err OutOfMemory) some is = tt

-- ---- why it stops

module _ (tag_len before now out out_now : ℕ) (same : Type 0) where
  pub disk_stop : (error : SalvageError) → IsDiskCause before now error → IsStop tag_len before now out out_now same error
  disk_stop KeyRefused is = absurd is
  disk_stop DiskFault is = is
  disk_stop OutputFault is = absurd is
  disk_stop OutOfMemory is = tt

  pub cause_stop : (middle out_middle : ℕ) (error : SalvageError) → before ≤ middle → out ≤ out_middle → IsSalvageCause middle now out_middle out_now error
      → IsStop tag_len before now out out_now same error
  cause_stop middle out_middle KeyRefused less out_less is = absurd is
  cause_stop middle out_middle DiskFault less out_less is = rose_later before middle now less is
  cause_stop middle out_middle OutputFault less out_less is = rose_later out out_middle out_now out_less is
  cause_stop middle out_middle OutOfMemory less out_less is = tt

  pub end_stop : (middle : ℕ) (result : Result Salvaged SalvageError) → out ≤ middle → IfErr result (IsOutCause middle out_now)
      → IfErr result (IsStop tag_len before now out out_now same)
  end_stop middle (Ok counts) less is = tt
  end_stop middle (Err KeyRefused) less is = absurd is
  end_stop middle (Err DiskFault) less is = absurd is
  end_stop middle (Err OutputFault) less is = rose_later out middle out_now less is
  end_stop middle (Err OutOfMemory) less is = tt

  pub stop_later : (middle : ℕ) (result : Result Salvaged SalvageError) → before ≤ middle → IfErr result (IsStop tag_len middle now out out_now same)
      → IfErr result (IsStop tag_len before now out out_now same)
  stop_later middle (Ok counts) less is = tt
  stop_later middle (Err KeyRefused) less is = is
  stop_later middle (Err DiskFault) less is = rose_later before middle now less is
  stop_later middle (Err OutputFault) less is = is
  stop_later middle (Err OutOfMemory) less is = tt
