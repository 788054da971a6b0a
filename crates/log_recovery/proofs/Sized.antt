-- The pages that a log gives have the size of a page, and stand within the database.
use Rattle.std.proofs.Common.{◌≡◌, ℕ, suc, zero, ◌+◌, ◌*◌, ◌≤◌, Bool, true, false, ◌&&◌, nat_le, if◌then◌else◌, List, ◌∷◌, length, refl, sym, subst, arith}
use Rattle.journal_format.specs.Records.{Record}
use Rattle.log_format.specs.Frames.{frame_page}
use Rattle.log_format.specs.Logs.{committed_frames, frame_bytes_at, frame_start, is_live, logged, logged_count, record_of, records_from, within}
use Rattle.log_format.proofs.Whole.{and_first, and_second, committed_whole, image_length, le_is, start_le}
use Rattle.rollback_journal.specs.Laying.{AreSized}
use Rattle.rollback_journal.proofs.Played.{page_end}
use Rattle.log_recovery.specs.Opened.{log_end}

sized_if : (size count : ℕ) (low : Bool) (entry : Record) (rest : List Record) → low ≡ (nat_le 1 entry.page && nat_le entry.page count)
    → length entry.image ≡ size → AreSized size (count * size) rest → AreSized size (count * size) (if low then entry ∷ rest else rest)
sized_if size count true entry rest is fits sized = (
  fits,
  page_end size entry.page count (le_is 1 entry.page (and_first (nat_le 1 entry.page) (nat_le entry.page count) (sym is)))
      (le_is entry.page count (and_second (nat_le 1 entry.page) (nat_le entry.page count) (sym is))),
  sized,
)
sized_if size count false entry rest is fits sized = sized

pub records_sized : (size count : ℕ) (log : List ℕ) (n k : ℕ) → frame_start size (k + n) ≤ length log
    → AreSized size (count * size) (within count (records_from size log n k))
records_sized size count log zero k whole = tt
records_sized size count log (suc n) k whole =
    let e : k + suc n ≡ suc k + n = omega arith in
    let all : frame_start size (suc k + n) ≤ length log = subst (λ (m : ℕ). frame_start size m ≤ length log) e whole in
    sized_if size count (nat_le 1 (frame_page (frame_bytes_at size log k)) && nat_le (frame_page (frame_bytes_at size log k)) count) (record_of size log k) (within count (records_from size log n (suc k))) refl
    (image_length size log k (omega (arith, start_le size (suc k) (suc k + n) (omega arith), all)))
    (records_sized size count log n (suc k) all)

pub logged_sized : (size : ℕ) (log : List ℕ) → is_live size log ≡ true → AreSized size (log_end size log) (logged size log)
logged_sized size log live =
    let e : committed_frames size log ≡ 0 + committed_frames size log = omega arith in
    records_sized size (logged_count size log) log (committed_frames size log) 0
    (subst (λ (n : ℕ). frame_start size n ≤ length log) e (committed_whole size log live))
