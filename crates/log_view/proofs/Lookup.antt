-- Of the pages that a log gives, the last one of a number counts.
use Rattle.std.proofs.Common.{◌≡◌, ◌≢◌, ◌⊎◌, inl, inr, ℕ, zero, suc, ◌+◌, ◌-◌, ◌<◌, ◌≤◌, Bool, true, false, ◌&&◌, ◌==◌, nat_le, if◌then◌else◌, List, [], ◌∷◌, length, drop, get_or, refl, sym, ◌∙◌, ap, subst, arith}
use Rattle.std.proofs.lemmas.Bool.Decides.{nat_tests}
use Rattle.std.proofs.lemmas.List.{get_or-take, get_or-drop}
use Rattle.std.proofs.lemmas.Nat.{row_fits}
use Rattle.edge_model.specs.Files.{written}
use Rattle.log_format.specs.Frames.{frame_image, frame_page}
use Rattle.log_format.specs.Logs.{frame_bytes_at, frame_start, record_of, records_from, within}
use Rattle.log_format.proofs.Whole.{and_first, image_length, le_is, start_le}
use Rattle.rollback_journal.specs.Laying.{laid, page_start, IsGivenByte}
use Rattle.rollback_journal.proofs.Laid.{laid_keeps, written_byte}
use Rattle.log_view.specs.View.{last_frame, looked}

pub order : (a b : ℕ) → (a < b) ⊎ (b ≤ a)
order a b = search arith

-- what stands beside a page that is laid stays
laid_outside : (size page i : ℕ) (image old : List ℕ) → length image ≡ size → (i < page_start size page) ⊎ (page_start size page + size ≤ i)
    → get_or (written (page_start size page) image old) i 0 ≡ get_or old i 0
laid_outside size page i image old long out =
    go (laid_keeps size (page_start size page + size) (record { page = page; image = image } ∷ []) old i (long, omega arith, tt)) out
  where
    go : IsGivenByte size (record { page = page; image = image } ∷ []) i ⊎ (get_or (written (page_start size page) image old) i 0 ≡ get_or old i 0)
        → (i < page_start size page) ⊎ (page_start size page + size ≤ i) → get_or (written (page_start size page) image old) i 0 ≡ get_or old i 0
    go (inl (inl here)) (inl before) = absurd (omega (arith, here.0, before))
    go (inl (inl here)) (inr behind) = absurd (omega (arith, here.1, behind))
    go (inl (inr none)) any = absurd none
    go (inr same) any = same

-- the pages with other numbers stand elsewhere
apart : (size p q o : ℕ) → 1 ≤ p → 1 ≤ q → p ≢ q → o < size → (page_start size q + o < page_start size p) ⊎ (page_start size p + size ≤ page_start size q + o)
apart size p q o one some other lt = go (order p q) (order q p)
  where
    go : (p < q) ⊎ (q ≤ p) → (q < p) ⊎ (p ≤ q) → (page_start size q + o < page_start size p) ⊎ (page_start size p + size ≤ page_start size q + o)
    go (inl less) any = inr (omega (arith, row_fits (p - 1) size (q - 1) size (omega arith) (omega arith)))
    go (inr le) (inl less) = inl (omega (arith, lt, row_fits (q - 1) size (p - 1) size (omega arith) (omega arith)))
    go (inr le) (inr ge) = absurd (other (omega arith))

-- a byte of a frame's page
image_byte : (size k o : ℕ) (log : List ℕ) → o < size → get_or (frame_image (frame_bytes_at size log k)) o 0 ≡ get_or log (frame_start size k + 24 + o) 0
image_byte size k o log lt =
    get_or-drop 24 (frame_bytes_at size log k) o 0
    ∙ get_or-take (size + 24) (drop (frame_start size k) log) (24 + o) 0 (omega arith)
    ∙ get_or-drop (frame_start size k) log (24 + o) 0
    ∙ ap (λ (n : ℕ). get_or log n 0) (let e : frame_start size k + (24 + o) ≡ frame_start size k + 24 + o = omega arith in e)

is_eq : (a b : ℕ) → true ≡ (a == b) → a ≡ b
is_eq a b is = grind (arith, nat_tests)

not_eq : (a b : ℕ) → false ≡ (a == b) → a ≢ b
not_eq a b is same = grind (arith, nat_tests)

ok_is : (a count : ℕ) → 1 ≤ a → a ≤ count → (nat_le 1 a && nat_le a count) ≡ true
ok_is a count low high = grind (arith, nat_tests)

module _ (size count page o : ℕ) (log base : List ℕ) (low : 1 ≤ page) (high : page ≤ count) (inside : o < size) where
  abbrev IsLooked : List ℕ → ℕ → Type 0
  IsLooked file old = get_or file (page_start size page + o) 0 ≡ looked size base log (page_start size page + o) o old

  -- the page of one frame, laid
  lay_same : (k : ℕ) (file : List ℕ) → frame_start size (suc k) ≤ length log → frame_page (frame_bytes_at size log k) ≡ page
      → IsLooked (written (page_start size (frame_page (frame_bytes_at size log k))) (frame_image (frame_bytes_at size log k)) file) (suc k)
  lay_same k file whole is =
      let at : page_start size (frame_page (frame_bytes_at size log k)) ≡ page_start size page = ap (page_start size) is in
      let long = image_length size log k whole in
      written_byte (page_start size (frame_page (frame_bytes_at size log k))) (frame_image (frame_bytes_at size log k)) file (page_start size page + o)
      (omega (arith, at)) (omega (arith, at, long, inside))
      ∙ ap (λ (n : ℕ). get_or (frame_image (frame_bytes_at size log k)) n 0)
      (let e : page_start size page + o - page_start size (frame_page (frame_bytes_at size log k)) ≡ o = omega (arith, at) in e)
      ∙ image_byte size k o log inside

  lay_other : (k old : ℕ) (file : List ℕ) → frame_start size (suc k) ≤ length log → 1 ≤ frame_page (frame_bytes_at size log k) → frame_page (frame_bytes_at size log k) ≢ page
      → IsLooked file old → IsLooked (written (page_start size (frame_page (frame_bytes_at size log k))) (frame_image (frame_bytes_at size log k)) file) old
  lay_other k old file whole some other looked_at =
      let long = image_length size log k whole in
      laid_outside size (frame_page (frame_bytes_at size log k)) (page_start size page + o) (frame_image (frame_bytes_at size log k)) file long
      (apart size (frame_page (frame_bytes_at size log k)) page o some low other inside)
      ∙ looked_at

  abbrev Next : ℕ → ℕ → Type 0
  Next n k = (old : ℕ) (file : List ℕ) → IsLooked file old
      → IsLooked (laid size (within count (records_from size log n k)) file) (last_frame size log n k page old)

  look_next : (n k old : ℕ) (file : List ℕ) → frame_start size (suc k) ≤ length log → IsLooked file old → Next n (suc k) → (ok same : Bool)
      → ok ≡ (nat_le 1 (frame_page (frame_bytes_at size log k)) && nat_le (frame_page (frame_bytes_at size log k)) count)
      → same ≡ (frame_page (frame_bytes_at size log k) == page)
      → IsLooked (laid size (if ok then record_of size log k ∷ within count (records_from size log n (suc k)) else within count (records_from size log n (suc k))) file)
      (last_frame size log n (suc k) page (if same then suc k else old))
  look_next n k old file one so_far next true true ok same =
      next (suc k) (written (page_start size (frame_page (frame_bytes_at size log k))) (frame_image (frame_bytes_at size log k)) file) (lay_same k file one (is_eq _ _ same))
  look_next n k old file one so_far next true false ok same =
      next old (written (page_start size (frame_page (frame_bytes_at size log k))) (frame_image (frame_bytes_at size log k)) file)
      (lay_other k old file one (le_is 1 _ (and_first _ _ (sym ok))) (not_eq _ _ same) so_far)
  look_next n k old file one so_far next false true ok same = absurd (
      let e = ok_is page count low high in
      let f = is_eq (frame_page (frame_bytes_at size log k)) page same in
      let h : false ≡ (nat_le 1 page && nat_le page count) = subst (λ (p : ℕ). false ≡ (nat_le 1 p && nat_le p count)) f ok in
      let both : false ≡ true = h ∙ e in cc)
  look_next n k old file one so_far next false false ok same = next old file so_far

  -- laid over a file, of which the byte is looked up so far, the frames that are left give the byte that is looked up in the end
  pub lookup : (n k old : ℕ) (file : List ℕ) → frame_start size (k + n) ≤ length log → IsLooked file old
      → IsLooked (laid size (within count (records_from size log n k)) file) (last_frame size log n k page old)
  lookup zero k old file whole so_far = so_far
  lookup (suc n) k old file whole so_far =
      let all : frame_start size (suc k + n) ≤ length log = let e : k + suc n ≡ suc k + n = omega arith in subst (λ (m : ℕ). frame_start size m ≤ length log) e whole in
      let one : frame_start size (suc k) ≤ length log = omega (arith, all, start_le size (suc k) (suc k + n) (omega arith)) in
      look_next n k old file one so_far (λ other base_file is. lookup n (suc k) other base_file all is)
      (nat_le 1 (frame_page (frame_bytes_at size log k)) && nat_le (frame_page (frame_bytes_at size log k)) count) (frame_page (frame_bytes_at size log k) == page) refl refl
