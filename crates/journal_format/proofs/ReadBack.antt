-- What was written reads back.
use Rattle.std.proofs.Common.{◌≡◌, ℕ, ◌+◌, ◌-◌, ◌*◌, ◌/◌, ◌%◌, ◌<◌, ◌≤◌, Bool, true, ◌&&◌, not, ◌==◌, List, ◌++◌, length, take, get_or, sym, ◌∙◌, ap, arith, length-append}
use Rattle.std.proofs.lemmas.List.{get_or-append_right}
use Rattle.std.proofs.Math.Seq.{take-append_seam}
use Rattle.std.proofs.lemmas.Bool.Decides.{nat_tests}
use Rattle.journal_format.specs.declared.header.SegmentHeader.{SegmentHeader}
use Rattle.journal_format.specs.Bytes.{u32_at, u32_bytes}
use Rattle.journal_format.specs.Header.{HasFields, journal_header_bytes}
use Rattle.journal_format.specs.Records.{page_of, image_of, is_sound_record, sum_of, journal_record_bytes}

-- a number of four bytes
abbrev pub joined : ℕ → ℕ → ℕ → ℕ → ℕ
joined a b c d = (a * 256 + b) * 65536 + (c * 256 + d)

pub u32_back : (n : ℕ) → n < 4294967296 → joined (n / 16777216 % 256) (n / 65536 % 256) (n / 256 % 256) (n % 256) ≡ n
u32_back n small = omega arith

pub header_fields : (header : SegmentHeader) → header.count < 4294967296 → header.nonce < 4294967296 → header.initial < 4294967296
    → header.sector < 4294967296 → header.page_size < 4294967296
    → HasFields (journal_header_bytes header.count header.nonce header.initial header.sector header.page_size) header
header_fields header count nonce initial sector size =
    (sym (u32_back header.count count), sym (u32_back header.nonce nonce), sym (u32_back header.initial initial), sym (u32_back header.sector sector), sym (u32_back header.page_size size))

-- a number behind a list
behind : (xs ys : List ℕ) (p k : ℕ) → p ≡ length xs → get_or (xs ++ ys) (p + k) 0 ≡ get_or ys k 0
behind xs ys p k is =
    let e : p + k - p ≡ k = omega arith in
    get_or-append_right xs ys p (p + k) 0 (sym is) (omega arith) ∙ ap (λ (n : ℕ). get_or ys n 0) e

just_behind : (xs ys : List ℕ) (p : ℕ) → p ≡ length xs → get_or (xs ++ ys) p 0 ≡ get_or ys 0 0
just_behind xs ys p is = let e : p ≡ p + 0 = omega arith in ap (λ (n : ℕ). get_or (xs ++ ys) n 0) e ∙ behind xs ys p 0 is

pub u32_behind : (xs : List ℕ) (s p : ℕ) → p ≡ length xs → s < 4294967296 → u32_at (xs ++ u32_bytes s) p ≡ s
u32_behind xs s p is small =
    ap (λ (a : ℕ). joined a (get_or (xs ++ u32_bytes s) (p + 1) 0) (get_or (xs ++ u32_bytes s) (p + 2) 0) (get_or (xs ++ u32_bytes s) (p + 2 + 1) 0))
    (just_behind xs (u32_bytes s) p is)
    ∙ ap (λ (b : ℕ). joined (s / 16777216 % 256) b (get_or (xs ++ u32_bytes s) (p + 2) 0) (get_or (xs ++ u32_bytes s) (p + 2 + 1) 0))
    (behind xs (u32_bytes s) p 1 is)
    ∙ ap (λ (c : ℕ). joined (s / 16777216 % 256) (s / 65536 % 256) c (get_or (xs ++ u32_bytes s) (p + 2 + 1) 0)) (behind xs (u32_bytes s) p 2 is)
    ∙ ap (λ (d : ℕ). joined (s / 16777216 % 256) (s / 65536 % 256) (s / 256 % 256) d) (ap (λ (k : ℕ). get_or (xs ++ u32_bytes s) k 0) (let e : p + 2 + 1 ≡ p + 3 = omega arith in e) ∙ behind xs (u32_bytes s) p 3 is)
    ∙ u32_back s small

module _ (nonce page : ℕ) (image : List ℕ) where
  pub record_length : length (journal_record_bytes nonce page image) ≡ length image + 8
  record_length = omega (arith, length-append image (u32_bytes (sum_of nonce image)))

  pub record_image : image_of (journal_record_bytes nonce page image) ≡ image
  record_image =
      let e : length (journal_record_bytes nonce page image) - 8 ≡ length image = omega (arith, record_length) in
      ap (λ (n : ℕ). take n (image ++ u32_bytes (sum_of nonce image))) e ∙ take-append_seam image (u32_bytes (sum_of nonce image))

  pub record_page : page < 4294967296 → page_of (journal_record_bytes nonce page image) ≡ page
  record_page small = u32_back page small

sum_small : (nonce : ℕ) (image : List ℕ) → sum_of nonce image < 4294967296
sum_small nonce image = omega arith

not_zero : (n : ℕ) → 1 ≤ n → not (n == 0) ≡ true
not_zero n le = grind (arith, nat_tests)

same_eq : (a b : ℕ) → a ≡ b → (a == b) ≡ true
same_eq a b is = grind (arith, nat_tests)

both : (a b : Bool) → a ≡ true → b ≡ true → (a && b) ≡ true
both a b p q = cc

-- a record that was written is sound
pub record_sound : (nonce page : ℕ) (image : List ℕ) → 1 ≤ page → page < 4294967296 → is_sound_record nonce (journal_record_bytes nonce page image) ≡ true
record_sound nonce page image one small =
    let long = record_length nonce page image in
    let numbered = record_page nonce page image small in
    let last : u32_at (journal_record_bytes nonce page image) (length (journal_record_bytes nonce page image) - 4) ≡ sum_of nonce image =
    u32_behind (u32_bytes page ++ image) (sum_of nonce image) (length (journal_record_bytes nonce page image) - 4) (omega (arith, long)) (sum_small nonce image) in
    both _ _ (not_zero (page_of (journal_record_bytes nonce page image)) (omega (arith, numbered)))
    (same_eq _ _ (last ∙ ap (λ (l : List ℕ). sum_of nonce l) (sym (record_image nonce page image))))

pub record_back : (nonce page : ℕ) (image out : List ℕ) → 1 ≤ page → page < 4294967296 → out ≡ journal_record_bytes nonce page image
    → (is_sound_record nonce out ≡ true) × (page_of out ≡ page) × (image_of out ≡ image)
record_back nonce page image out one small is = (
  ap (λ (l : List ℕ). is_sound_record nonce l) is ∙ record_sound nonce page image one small,
  ap page_of is ∙ record_page nonce page image small,
  ap image_of is ∙ record_image nonce page image,
)
