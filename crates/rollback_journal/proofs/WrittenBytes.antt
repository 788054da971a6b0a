-- Records and headers read back.
use Rattle.std.proofs.Common.{◌≡◌, ◌≢◌, ℕ, ◌+◌, ◌-◌, ◌*◌, ◌/◌, ◌%◌, ◌<◌, ◌≤◌, Bool, true, false, ◌&&◌, not, ◌==◌, List, ◌++◌, length, take, drop, get_or, replicate, refl, sym, ◌∙◌, ap, arith, length-append, length-drop}
use Rattle.std.specs.Prelude.{bytes_eq}
use Rattle.std.proofs.lemmas.List.{length-replicate, get_or-append_right}
use Rattle.std.proofs.Math.Seq.{take-append_seam, take-length}
use Rattle.std.proofs.lemmas.Bool.Decides.{nat_tests}
use Rattle.journal_format.specs.Bytes.{u32_at, u32_bytes}
use Rattle.journal_format.specs.Header.{is_header, journal_header_bytes}
use Rattle.journal_format.specs.Segments.{mark, has_mark}
use Rattle.journal_format.specs.Records.{page_of, image_of, is_sound_record, sum_of, journal_record_bytes}
use Rattle.rollback_journal.specs.Writing.{Writing, sector_of, padding}

-- a number of four bytes
abbrev pub joined : ℕ → ℕ → ℕ → ℕ → ℕ
joined a b c d = (a * 256 + b) * 65536 + (c * 256 + d)

pub u32_back : (n : ℕ) → n < 4294967296 → joined (n / 16777216 % 256) (n / 65536 % 256) (n / 256 % 256) (n % 256) ≡ n
u32_back n small = omega arith

-- the last four bytes of a list
tail_byte : (xs ys : List ℕ) (p k : ℕ) → p ≡ length xs → get_or (xs ++ ys) (p + k) 0 ≡ get_or ys k 0
tail_byte xs ys p k is =
    let e : p + k - p ≡ k = omega arith in
    get_or-append_right xs ys p (p + k) 0 (sym is) (omega arith) ∙ ap (λ (n : ℕ). get_or ys n 0) e

tail_first : (xs ys : List ℕ) (p : ℕ) → p ≡ length xs → get_or (xs ++ ys) p 0 ≡ get_or ys 0 0
tail_first xs ys p is = let e : p ≡ p + 0 = omega arith in ap (λ (n : ℕ). get_or (xs ++ ys) n 0) e ∙ tail_byte xs ys p 0 is

u32_tail : (xs : List ℕ) (s p : ℕ) → p ≡ length xs → s < 4294967296 → u32_at (xs ++ u32_bytes s) p ≡ s
u32_tail xs s p is small =
    let l : List ℕ = xs ++ u32_bytes s in
    ap (λ (a : ℕ). joined a (get_or (xs ++ u32_bytes s) (p + 1) 0) (get_or (xs ++ u32_bytes s) (p + 2) 0) (get_or (xs ++ u32_bytes s) (p + 2 + 1) 0)) (tail_first xs (u32_bytes s) p is)
    ∙ ap (λ (b : ℕ). joined (s / 16777216 % 256) b (get_or (xs ++ u32_bytes s) (p + 2) 0) (get_or (xs ++ u32_bytes s) (p + 2 + 1) 0)) (tail_byte xs (u32_bytes s) p 1 is)
    ∙ ap (λ (c : ℕ). joined (s / 16777216 % 256) (s / 65536 % 256) c (get_or (xs ++ u32_bytes s) (p + 2 + 1) 0)) (tail_byte xs (u32_bytes s) p 2 is)
    ∙ ap (λ (d : ℕ). joined (s / 16777216 % 256) (s / 65536 % 256) (s / 256 % 256) d) (ap (λ (k : ℕ). get_or (xs ++ u32_bytes s) k 0) (let e : p + 2 + 1 ≡ p + 3 = omega arith in e) ∙ tail_byte xs (u32_bytes s) p 3 is)
    ∙ u32_back s small

module _ (nonce page : ℕ) (image : List ℕ) where
  pub record_length : length (journal_record_bytes nonce page image) ≡ length image + 8
  record_length = omega (arith, length-append image (u32_bytes (sum_of nonce image)))

  pub record_image : image_of (journal_record_bytes nonce page image) ≡ image
  record_image =
      let e : length (journal_record_bytes nonce page image) - 8 ≡ length image = omega (arith, record_length) in
      ap (λ (n : ℕ). take n (image ++ u32_bytes (sum_of nonce image))) e ∙ take-append_seam image (u32_bytes (sum_of nonce image))

  pub record_page : page < 4294967296 → page_of (journal_record_bytes nonce page image) ≡ page
  record_page small = u32_back page small

sum_small : (nonce : ℕ) (image : List ℕ) → sum_of nonce image < 4294967296
sum_small nonce image = omega arith

not_zero : (n : ℕ) → 1 ≤ n → not (n == 0) ≡ true
not_zero n le = grind (arith, nat_tests)

same_eq : (a b : ℕ) → a ≡ b → (a == b) ≡ true
same_eq a b is = grind (arith, nat_tests)

both : (a b : Bool) → a ≡ true → b ≡ true → (a && b) ≡ true
both a b p q = cc

-- a record that was written is sound
pub record_sound : (nonce page : ℕ) (image : List ℕ) → 1 ≤ page → page < 4294967296 → is_sound_record nonce (journal_record_bytes nonce page image) ≡ true
record_sound nonce page image one small =
    let long = record_length nonce page image in
    let numbered = record_page nonce page image small in
    let last : u32_at (journal_record_bytes nonce page image) (length (journal_record_bytes nonce page image) - 4) ≡ sum_of nonce image =
    u32_tail (u32_bytes page ++ image) (sum_of nonce image) (length (journal_record_bytes nonce page image) - 4) (omega (arith, long)) (sum_small nonce image) in
    both _ _ (not_zero (page_of (journal_record_bytes nonce page image)) (omega (arith, numbered)))
    (same_eq _ _ (last ∙ ap (λ (l : List ℕ). sum_of nonce l) (sym (record_image nonce page image))))

-- the padding
pub padding_length : (b : Bool) → length (padding b) ≡ 484
unfolding padding
padding_length true = omega (arith, length-append mark (replicate 468 0), length-replicate {A = ℕ} 468 0)
padding_length false = length-replicate {A = ℕ} 484 0

pub padding_mark : take 16 (padding true) ≡ mark
unfolding padding
padding_mark = take-append_seam mark (replicate 468 0)

padding_true : padding true ≡ mark ++ replicate 468 0
unfolding padding
padding_true = refl

padding_false : padding false ≡ replicate 484 0
unfolding padding
padding_false = refl

pub sector_length : (w : Writing) → length (sector_of w) ≡ 512
sector_length w = omega (arith, padding_length (w.at == 0))

-- the fields of a header that was written
module _ (w : Writing) where
  pub head_is : is_header (take 28 (sector_of w)) ≡ true
  head_is = refl

  pub head_count : w.count < 4294967296 → u32_at (take 28 (sector_of w)) 8 ≡ w.count
  head_count small = u32_back w.count small

  pub head_nonce : w.nonce < 4294967296 → u32_at (take 28 (sector_of w)) 12 ≡ w.nonce
  head_nonce small = u32_back w.nonce small

  pub head_initial : w.initial < 4294967296 → u32_at (take 28 (sector_of w)) 16 ≡ w.initial
  head_initial small = u32_back w.initial small

  pub head_sector : u32_at (take 28 (sector_of w)) 20 ≡ 512
  head_sector = refl

  pub head_size : w.page_size < 4294967296 → u32_at (take 28 (sector_of w)) 24 ≡ w.page_size
  head_size small = u32_back w.page_size small

  pub head_mark : w.at ≡ 0 → has_mark 512 (take 44 (sector_of w)) ≡ true
  head_mark is =
      let first : take 16 (padding (w.at == 0)) ≡ mark = ap (λ (n : ℕ). take 16 (padding (n == 0))) is ∙ padding_mark in
      ap (λ (l : List ℕ). bytes_eq l mark) (front_again first)
    where
      front_again : take 16 (padding (w.at == 0)) ≡ mark → take 16 (drop 28 (take 44 (sector_of w))) ≡ mark
      front_again first = ap (λ (l : List ℕ). take 16 l) first

-- a first sector that was put together
pub sector_marked : (v w : Writing) (front marked zeros : List ℕ) → v ≡ w → v.at ≡ 0 → front ≡ journal_header_bytes v.count v.nonce v.initial 512 v.page_size → marked ≡ mark → zeros ≡ replicate 468 0 → front ++ (marked ++ zeros) ≡ sector_of w
sector_marked v w front marked zeros same first front_is marked_is zeros_is =
    ap (λ (l : List ℕ). l ++ (marked ++ zeros)) front_is
    ∙ ap (λ (l : List ℕ). journal_header_bytes v.count v.nonce v.initial 512 v.page_size ++ (l ++ zeros)) marked_is
    ∙ ap (λ (l : List ℕ). journal_header_bytes v.count v.nonce v.initial 512 v.page_size ++ l) (ap (λ (l : List ℕ). mark ++ l) zeros_is ∙ sym (is_marked v.at first))
    ∙ ap (λ (u : Writing). sector_of u) same
  where
    is_marked : (at : ℕ) → at ≡ 0 → padding (at == 0) ≡ mark ++ replicate 468 0
    is_marked at is = ap (λ (n : ℕ). padding (n == 0)) is ∙ padding_true

pub sector_plain : (v w : Writing) (front zeros : List ℕ) → v ≡ w → v.at ≢ 0 → front ≡ journal_header_bytes v.count v.nonce v.initial 512 v.page_size → zeros ≡ replicate 484 0 → front ++ zeros ≡ sector_of w
sector_plain v w front zeros same other front_is zeros_is =
    ap (λ (l : List ℕ). l ++ zeros) front_is
    ∙ ap (λ (l : List ℕ). journal_header_bytes v.count v.nonce v.initial 512 v.page_size ++ l) (zeros_is ∙ sym (is_plain v.at other))
    ∙ ap (λ (u : Writing). sector_of u) same
  where
    not_eq : (at : ℕ) → at ≢ 0 → (at == 0) ≡ false
    not_eq at other = grind (arith, nat_tests)

    is_plain : (at : ℕ) → at ≢ 0 → padding (at == 0) ≡ replicate 484 0
    is_plain at other = ap (λ (b : Bool). padding b) (not_eq at other) ∙ padding_false

-- all of it but the first byte
pub sector_tail : (w : Writing) (sector : List ℕ) → sector ≡ sector_of w → take 511 (drop 1 sector) ≡ drop 1 (sector_of w)
sector_tail w sector is =
    let long : 511 ≡ length (drop 1 (sector_of w)) = omega (arith, length-drop 1 (sector_of w), sector_length w) in
    ap (λ (l : List ℕ). take 511 (drop 1 l)) is ∙ ap (λ (k : ℕ). take k (drop 1 (sector_of w))) long ∙ take-length (drop 1 (sector_of w))

-- the whole of a buffer was filled
pub items_full : (len : ℕ) (out items : List ℕ) → length out ≡ length items → len ≡ length items → take len (out ++ drop (length out) items) ≡ out
items_full len out items size is =
    let e : len ≡ length out = omega arith in
    ap (λ (k : ℕ). take k (out ++ drop (length out) items)) e ∙ take-append_seam out (drop (length out) items)

pub record_size : (nonce page : ℕ) (image out : List ℕ) (size : ℕ) (items : List ℕ) → out ≡ journal_record_bytes nonce page image → length image ≡ size → length items ≡ size + 8 → length out ≡ length items
record_size nonce page image out size items is image_is items_is = omega (arith, ap (λ (l : List ℕ). length l) is, record_length nonce page image)
