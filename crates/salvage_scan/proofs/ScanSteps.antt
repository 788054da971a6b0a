-- A salvage that goes on from one piece of lines to the next.
use Rattle.std.proofs.Common.{◌≡◌, ◌≤◌, ◌+◌, ℕ, Bool, List, [], ◌++◌, Result, Ok, Err, arith, refl, ap, sym, subst, ◌∙◌, append_assoc}
use Rattle.std.specs.Prelude.{IfErr, cond, count_by}
use Rattle.std.proofs.lemmas.List.{append-nil}
use Rattle.std.proofs.lemmas.List.Concat.{flat_map-append}
use Rattle.std.proofs.lemmas.List.Sums.{sum_by-append}
use Rattle.edge_model.specs.Causes.{Rose}
use Rattle.row_text.proofs.Moving.{cut, restated, restated_part, then, then_part, waits}
use Rattle.salvage_scan.specs.declared.error.SalvageError.{SalvageError}
use Rattle.salvage_scan.specs.declared.error.SalvageError.TheVariants.{KeyRefused, DiskFault, OutputFault, OutOfMemory}
use Rattle.salvage_scan.specs.Salvage.{LineCounts, Line, counts_of, is_lost, is_refused_line, is_row, no_counts}
use Rattle.salvage_scan.specs.Scan.{IsSalvageCause, IsDiskCause, IsOutCause, IsPutLine, IsPutPart, IsScanSoFar, ScanState, added}
use Rattle.salvage_scan.specs.Text.{line_text, lines_text}

-- ---- texts and counts

text_both : (xs ys : List Line) → lines_text xs ++ lines_text ys ≡ lines_text (xs ++ ys)
text_both xs ys = sym (flat_map-append line_text xs ys)

count_both : (is : Line → Bool) (xs ys : List Line) → count_by is (xs ++ ys) ≡ count_by is xs + count_by is ys
count_both is xs ys = sum_by-append (λ line. cond (is line) 1 0) xs ys

counts_at : ℕ → ℕ → ℕ → LineCounts
counts_at rows lost_rows refused = record { rows = rows; lost_rows = lost_rows; refused_pages = refused }

pub counts_are : (a b : LineCounts) → a.rows ≡ b.rows → a.lost_rows ≡ b.lost_rows → a.refused_pages ≡ b.refused_pages → a ≡ b
unfolding counts_at
counts_are a b rows lost_rows refused =
    ap (λ k. counts_at k a.lost_rows a.refused_pages) rows
    ∙ ap (λ k. counts_at b.rows k a.refused_pages) lost_rows
    ∙ ap (λ k. counts_at b.rows b.lost_rows k) refused

pub none_added : (a : LineCounts) → a ≡ added a (counts_of [])
none_added a = counts_are a (added a (counts_of [])) (omega arith) (omega arith) (omega arith)

pub added_first : (a : LineCounts) → added no_counts a ≡ a
added_first a = counts_are (added no_counts a) a (omega arith) (omega arith) (omega arith)

added_both : (a b c : LineCounts) (xs ys : List Line) → b ≡ added a (counts_of xs) → c ≡ added b (counts_of ys) → c ≡ added a (counts_of (xs ++ ys))
added_both a b c xs ys first next =
    let rows = count_both is_row xs ys in
    let lost_rows = count_both is_lost xs ys in
    let refused = count_both is_refused_line xs ys in
    next ∙ ap (λ k. added k (counts_of ys)) first
    ∙ counts_are (added (added a (counts_of xs)) (counts_of ys)) (added a (counts_of (xs ++ ys))) (omega (arith, rows)) (omega (arith, lost_rows)) (omega (arith, refused))

-- ---- lines that were put

pub nothing_put : (tells : Bool) (s : ScanState) → IsPutLine tells [] s s
nothing_put tells s = record { moves = λ told. waits s.taken (sym (append-nil s.waits)); counts = none_added s.counts }

pub then_put : {tells : Bool} {s t u : ScanState} (xs ys : List Line) → IsPutLine tells xs s t → IsPutLine tells ys t u → IsPutLine tells (xs ++ ys) s u
then_put {tells} {s} {t} {u} xs ys a b =
    record {
      moves = λ told. restated (text_both xs ys) (then (a.moves told) (b.moves told));
      counts = added_both s.counts t.counts u.counts xs ys a.counts b.counts;
    }

-- a part of the lines behind some that were put
pub then_put_part : {tells : Bool} {s t : ScanState} (u : ScanState) (xs ys : List Line) → IsPutLine tells xs s t → IsPutPart tells ys t u → IsPutPart tells (xs ++ ys) s u
then_put_part u xs ys a b told = restated_part (text_both xs ys) (then_part (a.moves told) (b told))

-- it is a part of more lines too
pub part_of_more : {tells : Bool} (s t : ScanState) (xs ys : List Line) → IsPutPart tells xs s t → IsPutPart tells (xs ++ ys) s t
part_of_more s t xs ys a told = restated_part (text_both xs ys) (cut (lines_text ys) (a told))

-- nothing is a part of any lines
pub none_put : (tells : Bool) (lines : List Line) (s : ScanState) → IsPutPart tells lines s s
none_put tells lines s told = record { lost = s.waits ++ lines_text lines; moves = waits s.taken refl }

-- ---- pieces

pub at_start : (tells : Bool) (all : List Line) (s : ScanState) → IsScanSoFar tells all all s s
at_start tells all s = record { behind = []; whole = refl; put = nothing_put tells s }

pub goes_on : {tells : Bool} {all : List Line} {s t u : ScanState} (piece more : List Line) → IsScanSoFar tells all (piece ++ more) s t → IsPutLine tells piece t u → IsScanSoFar tells all more s u
goes_on piece more at next =
    record {
      behind = at.behind ++ piece;
      whole = at.whole ∙ sym (append_assoc at.behind piece more);
      put = then_put at.behind piece at.put next;
    }

pub ends : {tells : Bool} {all : List Line} {s t : ScanState} → IsScanSoFar tells all [] s t → IsPutLine tells all s t
ends {tells} {all} {s} {t} at = subst (λ lines. IsPutLine tells lines s t) (sym (at.whole ∙ append-nil at.behind)) at.put

pub stops : {tells : Bool} {all : List Line} {s t : ScanState} (u : ScanState) (piece more : List Line) → IsScanSoFar tells all (piece ++ more) s t → IsPutPart tells piece t u → IsPutPart tells all s u
stops {tells} {all} {s} {t} u piece more at cut_there =
    subst (λ lines. IsPutPart tells lines s u) (sym at.whole)
    (then_put_part u at.behind (piece ++ more) at.put (part_of_more t u piece more cut_there))

-- ---- causes in a later part

pub rose_later : (before middle now : ℕ) → before ≤ middle → Rose middle now → Rose before now
rose_later before middle now less rose = omega arith

pub disk_cause : (before now out out_now : ℕ) (error : SalvageError) → IsDiskCause before now error → IsSalvageCause before now out out_now error
disk_cause before now out out_now KeyRefused is = is
disk_cause before now out out_now DiskFault is = is
disk_cause before now out out_now OutputFault is = absurd is
disk_cause before now out out_now OutOfMemory is = is

pub cause_later : (before middle now out out_middle out_now : ℕ) (error : SalvageError) → before ≤ middle → out ≤ out_middle
    → IsSalvageCause middle now out_middle out_now error → IsSalvageCause before now out out_now error
cause_later before middle now out out_middle out_now KeyRefused less out_less is = is
cause_later before middle now out out_middle out_now DiskFault less out_less is = rose_later before middle now less is
cause_later before middle now out out_middle out_now OutputFault less out_less is = rose_later out out_middle out_now out_less is
cause_later before middle now out out_middle out_now OutOfMemory less out_less is = is

pub out_causes : (before now out out_now : ℕ) (result : Result Unit SalvageError) → IfErr result (IsOutCause out out_now) → IfErr result (IsSalvageCause before now out out_now)
out_causes before now out out_now (Ok done) is = tt
out_causes before now out out_now (Err KeyRefused) is = is
out_causes before now out out_now (Err DiskFault) is = absurd is
out_causes before now out out_now (Err OutputFault) is = is
out_causes before now out out_now (Err OutOfMemory) is = is

pub causes_later : (before middle now out out_now : ℕ) (result : Result Unit SalvageError) → before ≤ middle → IfErr result (IsSalvageCause middle now out out_now)
    → IfErr result (IsSalvageCause before now out out_now)
causes_later before middle now out out_now (Ok done) less is = tt
causes_later before middle now out out_now (Err KeyRefused) less is = is
causes_later before middle now out out_now (Err DiskFault) less is = rose_later before middle now less is
causes_later before middle now out out_now (Err OutputFault) less is = is
causes_later before middle now out out_now (Err OutOfMemory) less is = is
