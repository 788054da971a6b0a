-- The pages of a file and the cells of a page, one by one.
use Rattle.std.proofs.Common.{rules, ◌≡◌, ◌≤◌, ◌<◌, ◌+◌, ◌-◌, ℕ, suc, Bool, true, false, List, [], ◌∷◌, ◌++◌, ◌==◌, length, drop, slice_get, Option, Some, None, Ok, Err, arith, eqb-true, false-eqb, refl, ap, sym, ◌∙◌, drop-cons}
use Rattle.std.specs.List.{flat_map, range_with_len}
use Rattle.std.proofs.lemmas.List.{drop_all}
use Rattle.std.proofs.lemmas.Option.{get_or_from_slice_get, slice_get_within}
use Rattle.std.specs.Prelude.{unwrap_or}
use Rattle.edge_model.specs.Files.{File, bytes_of, length_of}
use Rattle.db_format.specs.Pages.{Pages, is_page}
use Rattle.btree_page.specs.declared.page.PageFault.{PageFault}
use Rattle.btree_page.specs.Kind.{kind_at}
use Rattle.btree_page.specs.Page.{Node, read_page}
use Rattle.pager.specs.Pages.{is_page_number}
use Rattle.salvage_scan.specs.Salvage.{IsNoneAccepted, cell_lines, fault_lines, is_table_leaf, leaf_lines, page_lines}
use Rattle.salvage_scan.specs.Salvage.Line.{tag_refused}

-- ---- cells

drop_at : {X : Type 0} (xs : List X) (i : ℕ) (x : X) → slice_get xs i ≡ Some x → drop i xs ≡ x ∷ drop (i + 1) xs
drop_at xs i x is =
    let next : suc i ≡ i + 1 = omega arith in
    drop-cons xs i x (slice_get_within xs i x is) ∙ ap (λ y. y ∷ drop (suc i) xs) (get_or_from_slice_get xs i x x is) ∙ ap (λ k. x ∷ drop k xs) next

-- the element with this index is next
pub next_cell : {X A : Type 0} (f : X → List A) (xs : List X) (i : ℕ) (x : X) → slice_get xs i ≡ Some x
    → flat_map f (drop i xs) ≡ f x ++ flat_map f (drop (i + 1) xs)
next_cell f xs i x is = ap (λ l. flat_map f l) (drop_at xs i x is)

-- none is left
pub no_cell : {X A : Type 0} (f : X → List A) (xs : List X) (i : ℕ) → length xs ≤ i → flat_map f (drop i xs) ≡ []
no_cell f xs i past = ap (λ l. flat_map f l) (drop_all i xs past)

-- ---- pages

pub first_pages : {A : Type 0} (f : ℕ → List A) (count : ℕ) → flat_map f (range_with_len 1 count) ≡ flat_map f (range_with_len 1 (count - 0))
first_pages f count = let all : count ≡ count - 0 = omega arith in ap (λ k. flat_map f (range_with_len 1 k)) all

pub next_page : {A : Type 0} (f : ℕ → List A) (count done : ℕ) → done < count
    → flat_map f (range_with_len (done + 1) (count - done)) ≡ f (done + 1) ++ flat_map f (range_with_len (done + 1 + 1) (count - (done + 1)))
next_page f count done less =
    let one : count - done ≡ suc (count - (done + 1)) = omega arith in
    ap (λ k. flat_map f (range_with_len (done + 1) k)) one

pub no_page : {A : Type 0} (f : ℕ → List A) (count done : ℕ) → count ≤ done → flat_map f (range_with_len (done + 1) (count - done)) ≡ []
no_page f count done past =
    let none : count - done ≡ 0 = omega arith in ap (λ k. flat_map f (range_with_len (done + 1) k)) none

-- ---- one page of a file

number_is : (count n : ℕ) → 1 ≤ n → n ≤ count → is_page_number count n ≡ true
number_is count n low high = search (rules, low, high)

-- ---- no page of the first ones is accepted

abbrev pub AreRefused : Pages → ℕ → Type 0
AreRefused pages done = (n : ℕ) → 1 ≤ n → n ≤ done → pages.accepts n ≡ false

pub none_refused : (pages : Pages) → AreRefused pages 0
none_refused pages n low high = absurd (omega (arith, low, high))

by_place : (pages : Pages) (done n : ℕ) (b : Bool) → (n == done + 1) ≡ b → AreRefused pages done → pages.accepts (done + 1) ≡ false → 1 ≤ n → n ≤ done + 1 → pages.accepts n ≡ false
by_place pages done n true is so_far refused low high = ap pages.accepts (eqb-true n (done + 1) is) ∙ refused
by_place pages done n false is so_far refused low high =
    let other = false-eqb n (done + 1) (sym is) in so_far n low (omega (arith, other, high))

pub one_more_refused : (pages : Pages) (done : ℕ) → AreRefused pages done → pages.accepts (done + 1) ≡ false → AreRefused pages (done + 1)
one_more_refused pages done so_far refused n low high = by_place pages done n (n == done + 1) refl so_far refused low high

page_in : (pages : Pages) (n : ℕ) → is_page pages n ≡ true → (1 ≤ n) × (n ≤ pages.count)
page_in pages n is = search (rules, is)

pub all_refused : (pages : Pages) (done : ℕ) → pages.count ≤ done → AreRefused pages done → IsNoneAccepted pages
all_refused pages done past so_far n page = let within = page_in pages n page in so_far n within.0 (omega (arith, past, within.1))

-- one is accepted
pub is_accepted : (pages : Pages) (n : ℕ) → 1 ≤ n → n ≤ pages.count → pages.accepts n ≡ true → IsNoneAccepted pages → ⊥
is_accepted pages n low high accepted none =
    let refused : pages.accepts n ≡ false = none n (number_is pages.count n low high) in cc

-- ---- the length of a file

pub main_absent : (file : Option File) → None ≡ length_of file → 0 ≡ length (unwrap_or (bytes_of file) [])
main_absent None is = refl
main_absent (Some file) is = cc

pub main_there : (file : Option File) (len : ℕ) → Some len ≡ length_of file → len ≡ length (unwrap_or (bytes_of file) [])
main_there None len is = cc
main_there (Some file) len is = cc

-- ---- one page

pub page_refused : (pages : Pages) (n : ℕ) → pages.accepts n ≡ false → page_lines pages n ≡ tag_refused n ∷ []
page_refused pages n refused = rw refused refl

pub page_opened : (pages : Pages) (n : ℕ) (bytes : List ℕ) → pages.accepts n ≡ true → bytes ≡ pages.page n → leaf_lines pages n bytes ≡ page_lines pages n
page_opened pages n bytes accepted is = ap (leaf_lines pages n) is ∙ sym (rw accepted refl)

pub no_leaf : (pages : Pages) (n : ℕ) (bytes : List ℕ) → is_table_leaf (kind_at n bytes) ≡ false → leaf_lines pages n bytes ≡ []
no_leaf pages n bytes other = rw other refl

pub leaf_faulty : (pages : Pages) (n : ℕ) (bytes : List ℕ) (fault : PageFault) → is_table_leaf (kind_at n bytes) ≡ true → read_page n bytes ≡ Err fault
    → fault_lines n fault ≡ leaf_lines pages n bytes
leaf_faulty pages n bytes fault leaf is = sym (rw (leaf, is) refl)

pub leaf_read : (pages : Pages) (n : ℕ) (bytes : List ℕ) (page : Node) → is_table_leaf (kind_at n bytes) ≡ true → read_page n bytes ≡ Ok page
    → flat_map (cell_lines pages n) page.cells ≡ leaf_lines pages n bytes
leaf_read pages n bytes page leaf is = sym (rw (leaf, is) refl)
