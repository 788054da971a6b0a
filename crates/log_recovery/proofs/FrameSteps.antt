-- One frame of a log, laid.
use Rattle.std.proofs.Common.{◌≡◌, ℕ, suc, ◌+◌, ◌-◌, ◌<◌, ◌≤◌, Bool, true, false, ◌&&◌, nat_le, if◌then◌else◌, List, [], ◌∷◌, length, take, drop, refl, sym, ◌∙◌, ap, subst, arith, length-drop}
use Rattle.std.proofs.lemmas.List.{take_all}
use Rattle.std.proofs.lemmas.Bool.Decides.{nat_tests}
use Rattle.edge_model.specs.Files.{written}
use Rattle.journal_format.specs.Records.{Record}
use Rattle.log_format.specs.Bytes.{u32_at}
use Rattle.log_format.specs.Frames.{frame_page, frame_image}
use Rattle.log_format.specs.Logs.{frame_bytes_at, frame_start, logged, record_of, records_from, within}
use Rattle.log_format.proofs.Whole.{frame_length, start_suc}
use Rattle.rollback_journal.specs.Laying.{page_start, laid}
use Rattle.rollback_journal.specs.Playing.{AreAmong}
use Rattle.rollback_journal.proofs.SegmentSteps.{among_all, among_rest, among_then, one_among}
use Rattle.log_recovery.specs.Laying.{IsOneIfWithin}

le_makes : (a b : ℕ) → a ≤ b → nat_le a b ≡ true
le_makes a b le = grind (arith, nat_tests)

both : (a b : Bool) → a ≡ true → b ≡ true → (a && b) ≡ true
both a b p q = cc

-- the page's number is one of the database after the last commit
pub is_within : (size pages k page : ℕ) (log buffer : List ℕ) → buffer ≡ frame_bytes_at size log k → page ≡ u32_at buffer 0 → 1 ≤ page → page ≤ pages
    → (nat_le 1 (frame_page (frame_bytes_at size log k)) && nat_le (frame_page (frame_bytes_at size log k)) pages) ≡ true
is_within size pages k page log buffer is page_is low high =
    let same : page ≡ frame_page (frame_bytes_at size log k) = page_is ∙ ap (λ (l : List ℕ). u32_at l 0) is in
    subst (λ (p : ℕ). (nat_le 1 p && nat_le p pages) ≡ true) same (both _ _ (le_makes 1 page low) (le_makes page pages high))

pub image_is : (size k : ℕ) (log buffer : List ℕ) → buffer ≡ frame_bytes_at size log k → frame_start size k + (size + 24) ≤ length log
    → take (24 + size - 24) (drop 24 buffer) ≡ frame_image (frame_bytes_at size log k)
image_is size k log buffer is fits =
    let whole = frame_length size log k (omega (arith, start_suc size k, fits)) in
    take_all (24 + size - 24) (drop 24 buffer) (omega (arith, length-drop 24 buffer, ap length is, whole))
    ∙ ap (λ (l : List ℕ). drop 24 l) is

pub did_lay : (size pages k page : ℕ) (log buffer old : List ℕ) → buffer ≡ frame_bytes_at size log k → frame_start size k + (size + 24) ≤ length log
    → page ≡ u32_at buffer 0 → 1 ≤ page → page ≤ pages
    → written (page_start size page) (take (24 + size - 24) (drop 24 buffer)) old ≡ laid size (within pages (record_of size log k ∷ [])) old
did_lay size pages k page log buffer old is fits page_is low high =
    ap (λ (b : List ℕ). written (page_start size page) b old) (image_is size k log buffer is fits)
    ∙ ap (λ (p : ℕ). written (page_start size p) (frame_image (frame_bytes_at size log k)) old) (page_is ∙ ap (λ (l : List ℕ). u32_at l 0) is)
    ∙ ap (λ (b : Bool). laid size (if b then record_of size log k ∷ [] else []) old) (sym (is_within size pages k page log buffer is page_is low high))

abbrev page_ok : ℕ → ℕ → List ℕ → ℕ → Bool
page_ok size pages log k = nat_le 1 (frame_page (frame_bytes_at size log k)) && nat_le (frame_page (frame_bytes_at size log k)) pages

-- the next frame of those that are left
pub left_next : (size pages n k : ℕ) (log : List ℕ) → k < n
    → within pages (records_from size log (n - k) k) ≡ within pages (record_of size log k ∷ records_from size log (n - (k + 1)) (k + 1))
left_next size pages n k log lt =
    let e : n - k ≡ suc (n - (k + 1)) = omega arith in
    let f : suc k ≡ k + 1 = omega arith in
    ap (λ (m : ℕ). within pages (records_from size log m k)) e
    ∙ ap (λ (m : ℕ). within pages (record_of size log k ∷ records_from size log (n - (k + 1)) m)) f

pub left_none : (size pages n k : ℕ) (log : List ℕ) → n ≤ k → within pages (records_from size log (n - k) k) ≡ []
left_none size pages n k log le =
    let e : n - k ≡ 0 = omega arith in
    ap (λ (m : ℕ). within pages (records_from size log m k)) e

laid_split : (size : ℕ) (b : Bool) (entry : Record) (rest : List Record) (old : List ℕ)
    → laid size (if b then entry ∷ rest else rest) old ≡ laid size rest (laid size (if b then entry ∷ [] else []) old)
laid_split size true entry rest old = refl
laid_split size false entry rest old = refl

among_if : (size : ℕ) (b : Bool) (entry : Record) (rest : List Record) → AreAmong size rest (if b then entry ∷ rest else rest)
among_if size true entry rest = among_rest size entry rest
among_if size false entry rest = among_all size rest

-- one frame more
pub alike_next : (size pages n k : ℕ) (log now : List ℕ) (all old new : List ℕ) → k < n → now ≡ log
    → laid size (within pages (records_from size log (n - k) k)) old ≡ all
    → new ≡ laid size (within pages (record_of size now k ∷ [])) old
    → laid size (within pages (records_from size log (n - (k + 1)) (k + 1))) new ≡ all
alike_next size pages n k log now all old new lt same so_far did =
    let rest : List Record = within pages (records_from size log (n - (k + 1)) (k + 1)) in
    ap (λ (f : List ℕ). laid size (within pages (records_from size log (n - (k + 1)) (k + 1))) f)
    (did ∙ ap (λ (l : List ℕ). laid size (within pages (record_of size l k ∷ [])) old) same)
    ∙ sym (laid_split size (page_ok size pages log k) (record_of size log k) (within pages (records_from size log (n - (k + 1)) (k + 1))) old)
    ∙ ap (λ (r : List Record). laid size r old) (sym (left_next size pages n k log lt))
    ∙ so_far

pub among_next : (size pages n k : ℕ) (log : List ℕ) (all : List Record) → k < n
    → AreAmong size (within pages (records_from size log (n - k) k)) all → AreAmong size (within pages (records_from size log (n - (k + 1)) (k + 1))) all
among_next size pages n k log all lt among =
    among_then size _ _ _ (among_if size (page_ok size pages log k) (record_of size log k) (within pages (records_from size log (n - (k + 1)) (k + 1))))
    (subst (λ (r : List Record). AreAmong size r all) (left_next size pages n k log lt) among)

pub one_next : (size pages n k : ℕ) (log now : List ℕ) → k < n → now ≡ log
    → AreAmong size (within pages (records_from size log (n - k) k)) (logged size log) → IsOneIfWithin size pages now k
one_next size pages n k log now lt same among = subst (λ (l : List ℕ). IsOneIfWithin size pages l k) (sym same) here
  where
    here : IsOneIfWithin size pages log k
    here ok = one_among size (record_of size log k) (within pages (records_from size log (n - (k + 1)) (k + 1))) (logged size log)
        (subst (λ (b : Bool). AreAmong size (if b then record_of size log k ∷ within pages (records_from size log (n - (k + 1)) (k + 1)) else within pages (records_from size log (n - (k + 1)) (k + 1))) (logged size log)) ok
        (subst (λ (r : List Record). AreAmong size r (logged size log)) (left_next size pages n k log lt) among))
