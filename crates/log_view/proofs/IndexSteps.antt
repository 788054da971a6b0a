-- One frame more in an index.
use Rattle.std.proofs.Common.{◌≡◌, ℕ, suc, ◌+◌, ◌-◌, ◌<◌, max, Bool, true, false, ◌&&◌, ◌==◌, nat_le, if◌then◌else◌, List, ◌∷◌, refl, sym, ◌∙◌, ap, arith}
use Rattle.journal_format.specs.Records.{Record}
use Rattle.log_format.specs.Frames.{frame_page}
use Rattle.log_format.specs.Logs.{frame_bytes_at, record_of, records_from, within}
use Rattle.log_recovery.proofs.FrameSteps.{left_next}
use Rattle.rollback_journal.specs.Laying.{page_start, reach}
use Rattle.log_view.specs.View.{last_frame}

last_next : (size n k p old : ℕ) (log : List ℕ) → k < n
    → last_frame size log (n - k) k p old ≡ last_frame size log (n - (k + 1)) (k + 1) p (if frame_page (frame_bytes_at size log k) == p then k + 1 else old)
last_next size n k p old log lt =
    let e : n - k ≡ suc (n - (k + 1)) = omega arith in
    let f : suc k ≡ k + 1 = omega arith in
    ap (λ (m : ℕ). last_frame size log m k p old) e
    ∙ ap (λ (m : ℕ). last_frame size log (n - (k + 1)) m p (if frame_page (frame_bytes_at size log k) == p then m else old)) f

pub noted_next : (size n k p page number old new all : ℕ) (log now : List ℕ) → k < n → now ≡ log → page ≡ frame_page (frame_bytes_at size now k) → number ≡ k + 1
    → new ≡ (if page == p then number else old)
    → last_frame size log (n - k) k p old ≡ all → last_frame size log (n - (k + 1)) (k + 1) p new ≡ all
noted_next size n k p page number old new all log now lt same is counted noted so_far =
    ap (λ (m : ℕ). last_frame size log (n - (k + 1)) (k + 1) p m)
    (noted ∙ ap (λ (m : ℕ). if m == p then number else old) (is ∙ ap (λ (l : List ℕ). frame_page (frame_bytes_at size l k)) same)
    ∙ ap (λ (m : ℕ). if frame_page (frame_bytes_at size log k) == p then m else old) counted)
    ∙ sym (last_next size n k p old log lt)
    ∙ so_far

reach_split : (size : ℕ) (b : Bool) (entry : Record) (rest : List Record)
    → reach size (if b then entry ∷ rest else rest) ≡ max (if b then page_start size entry.page + size else 0) (reach size rest)
reach_split size true entry rest = refl
reach_split size false entry rest = omega arith

pub reached_next : (size pages n k page page_end end next all : ℕ) (log now : List ℕ) → k < n → now ≡ log → page ≡ frame_page (frame_bytes_at size now k)
    → page_end ≡ (if nat_le 1 page && nat_le page pages then page_start size page + size else 0) → next ≡ max page_end end
    → max end (reach size (within pages (records_from size log (n - k) k))) ≡ all
    → max next (reach size (within pages (records_from size log (n - (k + 1)) (k + 1)))) ≡ all
reached_next size pages n k page page_end end next all log now lt same is ends nexts so_far =
    let page_is : page ≡ frame_page (frame_bytes_at size log k) = is ∙ ap (λ (l : List ℕ). frame_page (frame_bytes_at size l k)) same in
    let here : page_end ≡ (if nat_le 1 (frame_page (frame_bytes_at size log k)) && nat_le (frame_page (frame_bytes_at size log k)) pages then page_start size (frame_page (frame_bytes_at size log k)) + size else 0)
    = ends ∙ ap (λ (p : ℕ). if nat_le 1 p && nat_le p pages then page_start size p + size else 0) page_is in
    let cut : reach size (within pages (records_from size log (n - k) k)) ≡ max page_end (reach size (within pages (records_from size log (n - (k + 1)) (k + 1))))
    = ap (reach size) (left_next size pages n k log lt)
    ∙ reach_split size (nat_le 1 (frame_page (frame_bytes_at size log k)) && nat_le (frame_page (frame_bytes_at size log k)) pages) (record_of size log k) (within pages (records_from size log (n - (k + 1)) (k + 1)))
    ∙ ap (λ (m : ℕ). max m (reach size (within pages (records_from size log (n - (k + 1)) (k + 1))))) (sym here) in
    omega (arith, so_far, cut, nexts)
