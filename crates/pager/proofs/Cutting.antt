-- The pages of a file and of a longer one, and what a committed image counts.
use Rattle.std.proofs.Common.{◌≡◌, ℕ, ◌+◌, ◌-◌, ◌*◌, ◌<◌, ◌≤◌, true, List, length, take, drop, Option, Some, None, sym, subst, ◌∙◌, arith, length-take, length-drop}
use Rattle.std.proofs.Math.Nat.{le-mul_of_pos_right, mul-le-mul_right, mul_comm}
use Rattle.std.proofs.lemmas.List.{ext_get_or, get_or-take, get_or-drop}
use Rattle.edge_model.specs.Files.{File, Files, bytes_of, contents, main_of}
use Rattle.pager.proofs.WholeReads.{page_end}
use Rattle.rollback_journal.specs.Recovery.{RecoversTo}
use Rattle.atomic_commit.specs.Commit.{IsCommitted}
use Rattle.atomic_commit.specs.Database.{Base, stored_page, stored_pages}
use Rattle.atomic_commit.proofs.Pages.{same_pages}

-- ---- images without a journal

alone : (size : ℕ) (main journal : Option File) (file : List ℕ) → journal ≡ None → RecoversTo size (bytes_of main) (bytes_of journal) file → file ≡ contents main
alone size None journal file none recovers = absurd recovers
alone size (Some main) None file none recovers = recovers
alone size (Some main) (Some journal) file none recovers = absurd (there journal none)
  where
    there : (f : File) → ◌≡◌ {A = Option File} (Some f) None → ⊥
    there f is = cc

-- what a committed image has as Main counts its pages
pub committed_counts : (base : Base) (main : List ℕ) (image : Files) → IsCommitted base main image → base.counts (length (main_of image)) ≡ true
committed_counts base main image is =
    let holds = is.0 in
    let file = holds.some.0 in
    let same : file ≡ main_of image = alone base.size image.main image.journal file is.1 holds.some.1 in
    subst (λ (l : List ℕ). base.counts (length l) ≡ true) same (holds.only file holds.some.1).counted

-- ---- lengths

pub one_page : (n size : ℕ) → 1 ≤ n → size ≤ n * size
one_page n size some =
    let each : size ≤ size * n = le-mul_of_pos_right {m = n} size (omega (arith, some)) in
    omega (arith, each, mul_comm size n)

-- a file that has the first pages has the last of them whole
pub page_whole : (n size : ℕ) (file : List ℕ) → 1 ≤ n → n * size ≤ length file → length (stored_page size n file) ≡ size
page_whole n size file some long = omega (arith, long, page_end n size some, length-take size (drop ((n - 1) * size) file), length-drop ((n - 1) * size) file)

-- a file whose last page is whole has all pages
pub last_whole : (n size : ℕ) (main : List ℕ) → 1 ≤ n → 0 < size → length (stored_page size n main) ≡ size → n * size ≤ length main
last_whole n size main some sized is = omega (
  arith,
  is,
  sized,
  page_end n size some,
  length-take size (drop ((n - 1) * size) main),
  length-drop ((n - 1) * size) main,
)

-- the file without what stands behind its pages has the same ones
pub cut_page : (n count size : ℕ) (main : List ℕ) → 1 ≤ n → n ≤ count → count * size ≤ length main
    → stored_page size n (take (count * size) main) ≡ stored_page size n main
cut_page n count size main one le long =
    let up : n * size ≤ count * size = mul-le-mul_right size le in
    let here = page_end n size one in
    let cut : length (take (count * size) main) ≡ count * size = omega (arith, long, length-take (count * size) main) in
    let first = length-take size (drop ((n - 1) * size) (take (count * size) main)) in
    let second = length-take size (drop ((n - 1) * size) main) in
    ext_get_or 0 (stored_page size n (take (count * size) main)) (stored_page size n main)
    (omega (arith, up, here, cut, long, first, second, length-drop ((n - 1) * size) (take (count * size) main), length-drop ((n - 1) * size) main))
    (λ i lt.
    let small : i < size = omega (arith, lt, first) in
    let within : (n - 1) * size + i < count * size = omega (arith, up, here, small) in
    get_or-take size (drop ((n - 1) * size) (take (count * size) main)) i 0 small
    ∙ get_or-drop ((n - 1) * size) (take (count * size) main) i 0
    ∙ get_or-take (count * size) main ((n - 1) * size + i) 0 within
    ∙ sym (get_or-drop ((n - 1) * size) main i 0)
    ∙ sym (get_or-take size (drop ((n - 1) * size) main) i 0 small))

pub cut_pages : (count size : ℕ) (main : List ℕ) → count * size ≤ length main → stored_pages size count (take (count * size) main) ≡ stored_pages size count main
cut_pages count size main long =
    same_pages size count (take (count * size) main) main (omega (arith, long, length-take (count * size) main)) long
    (λ i lt. get_or-take (count * size) main i 0 lt)
