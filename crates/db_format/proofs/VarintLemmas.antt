-- Varints: how their bytes are read, and that the shortest spelling is read back.
use Rattle.std.proofs.Common.{◌≡◌, ◌≢◌, inl, inr, ℕ, zero, suc, ◌+◌, ◌-◌, ◌*◌, ◌/◌, ◌%◌, ◌^◌, ◌<◌, ◌≤◌, List, [], ◌∷◌, ◌++◌, length, take, drop, get_or, Some, None, arith, refl, sym, ◌∙◌, ap, length-append, append_assoc, pow-suc, add-one, append-nil, ne_eqb}
use Rattle.std.proofs.Math.Nat.{pow-le-pow_right, sub_self}
use Rattle.std.proofs.Math.Seq.{take-append_seam, get_or-append_seam, take-length}
use Rattle.std.proofs.Math.ListN.{set}
use Rattle.std.proofs.lemmas.Bool.{cases_lt, cases_eq, ltb-true, ltb-false, lt-ltb, le-ltb, le-leb, lt-leb}
use Rattle.std.proofs.lemmas.Bool.Decides.{nat_tests}
use Rattle.std.proofs.lemmas.List.{length-take, length-take-le, get_or-take, take-take, take-append-le, drop-set, get_or_append_left, get_or-append_right}
use Rattle.std.proofs.lemmas.List.FromFn.{get_or-range_with_len}
use Rattle.std.proofs.lemmas.List.Sums.{fold_more, fold-append, position_or_len_is, fails_before_first, passes_at_first, prefix_len-le-length}
use Rattle.std.specs.List.{position_or_len, range_with_len}
use Rattle.std.specs.Prelude.{nat_lt, not}
use Rattle.db_format.specs.Varint.{IsVarintOf, last_values, leading_bytes, seven_bits, spelled, varint, varint_bytes, varint_len, varint_size}

-- each of these bytes says that more follows
abbrev pub AreHigh : ℕ → List ℕ → Type 0
AreHigh n bytes = (k : ℕ) → k < n → 128 ≤ get_or bytes k 0

-- a varint ends at the first byte below 128
varint_len-short : (bytes : List ℕ) (n : ℕ) → n < 8 → n < length bytes → AreHigh n bytes → get_or bytes n 0 < 128
    → varint_len bytes ≡ n + 1
varint_len-short bytes n short within high last =
    ap (λ k. k + 1) (position_or_len_is (λ byte. nat_lt byte 128) (take 8 bytes) n 0
    (omega (arith, length-take 8 bytes))
    (λ k below. rw (get_or-take 8 bytes k 0 (omega arith)) (le-ltb _ _ (high k below)))
    (λ _. rw (get_or-take 8 bytes n 0 (omega arith)) (lt-ltb _ _ last)))

-- and at the ninth at the latest, if the bytes go on so far
varint_len-long : (bytes : List ℕ) (n : ℕ) → n ≤ 8 → n ≡ length (take 8 bytes) → AreHigh n bytes → varint_len bytes ≡ n + 1
varint_len-long bytes n short all high =
    ap (λ k. k + 1) (position_or_len_is (λ byte. nat_lt byte 128) (take 8 bytes) n 0
    (omega arith)
    (λ k below. rw (get_or-take 8 bytes k 0 (omega arith)) (le-ltb _ _ (high k below)))
    (λ beyond. absurd (omega arith)))

-- a varint that ends within the bytes
varint-whole : (bytes : List ℕ) (n : ℕ) → varint_len bytes ≡ n → n ≤ length bytes → varint bytes ≡ Some (spelled (take n bytes), n)
unfolding varint
varint-whole bytes n size within = rw (size, le-leb n (length bytes) within) refl

-- the low seven bits of one more byte
seven_bits-more : (bytes : List ℕ) (n : ℕ) → n < length bytes
    → seven_bits (take (n + 1) bytes) ≡ seven_bits (take n bytes) * 128 + get_or bytes n 0 % 128
seven_bits-more bytes n within = fold_more (λ high byte. high * 128 + byte % 128) 0 bytes n 0 within

spelled-short : (bytes : List ℕ) → length bytes ≢ 9 → spelled bytes ≡ seven_bits bytes
spelled-short bytes short = grind (arith, nat_tests)

spelled-nine : (bytes : List ℕ) → length bytes ≡ 9 → spelled bytes ≡ seven_bits (take 8 bytes) * 256 + get_or bytes 8 0
spelled-nine bytes nine = grind (arith, nat_tests)

pub varint-short : (bytes : List ℕ) (n high : ℕ) → n < 8 → n < length bytes → AreHigh n bytes → get_or bytes n 0 < 128
    → high ≡ seven_bits (take n bytes) → Some (high * 128 + get_or bytes n 0, n + 1) ≡ varint bytes
varint-short bytes n high short within more last is =
    let size = varint_len-short bytes n short within more last in
    let counted : length (take (n + 1) bytes) ≡ n + 1 = length-take-le (n + 1) bytes (omega arith) in
    let value : spelled (take (n + 1) bytes) ≡ high * 128 + get_or bytes n 0 =
    omega (arith, spelled-short (take (n + 1) bytes) (λ nine. absurd (omega arith)), seven_bits-more bytes n within) in
    sym (varint-whole bytes (n + 1) size (omega arith) ∙ ap (λ v. Some (v, n + 1)) value)

pub varint-nine : (bytes : List ℕ) (n high : ℕ) → n ≡ 8 → n < length bytes → AreHigh n bytes
    → high ≡ seven_bits (take n bytes) → Some (high * 256 + get_or bytes n 0, 9) ≡ varint bytes
varint-nine bytes n high eight within more is =
    let all : n ≡ length (take 8 bytes) = omega (arith, length-take 8 bytes) in
    let size : varint_len bytes ≡ 9 = varint_len-long bytes n (omega arith) all more ∙ ap (λ k. k + 1) eight in
    let value : spelled (take 9 bytes) ≡ high * 256 + get_or bytes n 0 =
    spelled-nine (take 9 bytes) (length-take-le 9 bytes (omega arith))
    ∙ rw (take-take 8 9 bytes (omega arith), get_or-take 9 bytes 8 0 (omega arith), is, eight) refl in
    sym (varint-whole bytes 9 size (omega arith) ∙ ap (λ v. Some (v, 9)) value)

-- the bytes end within the number
pub varint-cut : (bytes : List ℕ) (n : ℕ) → n ≤ 8 → n ≡ length bytes → AreHigh n bytes → None ≡ varint bytes
unfolding varint
varint-cut bytes n short end more =
    let all : n ≡ length (take 8 bytes) = omega (arith, length-take 8 bytes) in
    let size : varint_len bytes ≡ n + 1 = varint_len-long bytes n short all more in
    sym (rw (size, lt-leb (n + 1) (length bytes) (omega arith)) refl)

pub power-fits : (n : ℕ) → n ≤ 8 → 128 ^ n ≤ 2 ^ 56
power-fits n few = pow-le-pow_right {n = 128} (omega arith) few

-- ---- the shortest spelling

pub length-leading_bytes : (count number : ℕ) → length (leading_bytes count number) ≡ count
length-leading_bytes zero number = refl
length-leading_bytes (suc count) number =
    omega (arith, length-append (leading_bytes count (number / 128)) ((128 + number % 128) ∷ []), length-leading_bytes count (number / 128))

leading_bytes-high : (count number : ℕ) → AreHigh count (leading_bytes count number)
leading_bytes-high zero number k below = absurd (omega arith)
leading_bytes-high (suc count) number k below =
    let size = length-leading_bytes count (number / 128) in
    elim (cases_lt k count) [
      | inl before ↦ rw (get_or_append_left (leading_bytes count (number / 128)) _ 0 k (omega arith)) (leading_bytes-high count (number / 128) k before)
      | inr last ↦
          let place : length (leading_bytes count (number / 128)) ≡ k = omega arith in
          rw (get_or-append_right (leading_bytes count (number / 128)) ((128 + number % 128) ∷ []) k k 0 place (omega arith), sub_self k) (omega arith)
    ]

-- a number that so many sevens of bits hold is what they say
seven_bits-leading_bytes : (count number : ℕ) → number < 128 ^ count → seven_bits (leading_bytes count number) ≡ number
seven_bits-leading_bytes zero number fits = omega arith
seven_bits-leading_bytes (suc count) number fits =
    let fewer : number / 128 < 128 ^ count = omega (arith, pow-suc 128 count) in
    omega (
      arith,
      fold-append (λ high byte. high * 128 + byte % 128) 0 (leading_bytes count (number / 128)) ((128 + number % 128) ∷ []),
      seven_bits-leading_bytes count (number / 128) fewer,
    )

pub varint_size-most : (number : ℕ) → varint_size number ≤ 9
unfolding varint_size
varint_size-most number = omega (arith, prefix_len-le-length (λ count. not (nat_lt number (128 ^ count))) (range_with_len 1 8))

pub varint_size-least : (number : ℕ) → 1 ≤ varint_size number
unfolding varint_size
varint_size-least number = omega arith

-- a spelling of fewer than nine bytes holds the number
pub varint_size-holds : (number : ℕ) → varint_size number < 9 → number < 128 ^ varint_size number
unfolding varint_size
varint_size-holds number short =
    let at = position_or_len (λ count. nat_lt number (128 ^ count)) (range_with_len 1 8) in
    let test = passes_at_first (λ count. nat_lt number (128 ^ count)) (range_with_len 1 8) 0 (omega arith) in
    let count : get_or (range_with_len 1 8) at 0 ≡ 1 + at = get_or-range_with_len 1 8 at 0 (omega arith) in
    let fits : number < 128 ^ (get_or (range_with_len 1 8) at 0) = ltb-true _ _ test in
    let same : get_or (range_with_len 1 8) at 0 ≡ at + 1 = omega arith in
    rw same at fits

-- and no shorter one does
pub varint_size-shortest : (number count : ℕ) → 0 < count → count < varint_size number → 128 ^ count ≤ number
unfolding varint_size
varint_size-shortest number count some fewer =
    let test = fails_before_first (λ count. nat_lt number (128 ^ count)) (range_with_len 1 8) (count - 1) 0 (omega arith) in
    let within : count - 1 < 8 = omega (arith, varint_size-most number) in
    let same : get_or (range_with_len 1 8) (count - 1) 0 ≡ count = omega (arith, get_or-range_with_len 1 8 (count - 1) 0 within) in
    let above = ltb-false _ _ test in
    rw same at above

-- the bytes that say that more follows, then one more, then others
record IsSpelled (bytes : List ℕ) (n high last : ℕ) : Type 0 where
  within : n < length bytes
  more : AreHigh n bytes
  ends : get_or bytes n 0 ≡ last
  value : high ≡ seven_bits (take n bytes)

leading_bytes-spelled : (n high last : ℕ) (rest : List ℕ) → high < 128 ^ n
    → IsSpelled (leading_bytes n high ++ (last ∷ rest)) n high last
leading_bytes-spelled n high last rest fits =
    let size = length-leading_bytes n high in
    let front : take n (leading_bytes n high ++ (last ∷ rest)) ≡ leading_bytes n high =
    ap (λ k. take k (leading_bytes n high ++ (last ∷ rest))) (sym size) ∙ take-append_seam (leading_bytes n high) (last ∷ rest) in
    record {
      within = omega (arith, length-append (leading_bytes n high) (last ∷ rest));
      more = λ k below. rw (get_or_append_left (leading_bytes n high) (last ∷ rest) 0 k (omega arith)) (leading_bytes-high n high k below);
      ends = ap (λ k. get_or (leading_bytes n high ++ (last ∷ rest)) k 0) (sym size) ∙ get_or-append_seam (leading_bytes n high) last rest 0;
      value = sym (ap seven_bits front ∙ seven_bits-leading_bytes n high fits);
    }

varint-spelled_short : (bytes : List ℕ) (n high last : ℕ) → IsSpelled bytes n high last → n < 8 → last < 128
    → varint bytes ≡ Some (high * 128 + last, n + 1)
varint-spelled_short bytes n high last is few low =
    let ends = is.ends in
    rw (← ends) (sym (varint-short bytes n high few is.within is.more (omega arith) is.value))

varint-spelled_nine : (bytes : List ℕ) (high last : ℕ) → IsSpelled bytes 8 high last → varint bytes ≡ Some (high * 256 + last, 9)
varint-spelled_nine bytes high last is =
    let ends = is.ends in
    rw (← ends) (sym (varint-nine bytes 8 high refl is.within is.more is.value))

pub length-varint_bytes : (number : ℕ) → length (varint_bytes number) ≡ varint_size number
unfolding varint_bytes
length-varint_bytes number =
    let size = varint_size number in
    let high = number / last_values size in
    omega (arith, varint_size-least number, length-append (leading_bytes (size - 1) high) ((number % last_values size) ∷ []), length-leading_bytes (size - 1) high)

-- the last byte is put into its place, and then those before it
pub varint_bytes-put : (number size values : ℕ) (old : List ℕ) → size ≡ varint_size number → values ≡ last_values (varint_size number)
    → 9 ≡ length old → leading_bytes (size - 1) (number / values) ++ drop (size - 1) (set old (size - 1) (number % values))
    ≡ varint_bytes number ++ drop size old
unfolding varint_bytes
varint_bytes-put number size values old sized valued long =
    let least = varint_size-least number in
    let most = varint_size-most number in
    let back : size - 1 + 1 ≡ size = omega arith in
    rw (drop-set old (size - 1) (number % values) (omega arith), back, sized, valued, append_assoc) refl

-- the shortest spelling is read back, whatever follows it
pub varint-varint_bytes : (number : ℕ) (rest : List ℕ) → number < 2 ^ 64
    → varint (varint_bytes number ++ rest) ≡ Some (number, varint_size number)
unfolding varint_bytes
varint-varint_bytes number rest fits =
    elim (cases_eq (varint_size number) 9) [
      | inl nine ↦
          let whole : number / 256 * 256 + number % 256 ≡ number = omega arith in
          rw (append_assoc, nine) (
          varint-spelled_nine _ (number / 256) (number % 256) (leading_bytes-spelled 8 (number / 256) (number % 256) rest (omega arith))
          ∙ ap (λ v. Some (v, 9)) whole)
      | inr short ↦
          let most = varint_size-most number in
          let least = varint_size-least number in
          let count : varint_size number - 1 + 1 ≡ varint_size number = omega arith in
          let holds : number < 128 ^ (varint_size number - 1 + 1) = rw count (varint_size-holds number (omega arith)) in
          let whole : number / 128 * 128 + number % 128 ≡ number = omega arith in
          rw (append_assoc, ne_eqb (varint_size number) 9 short) (
          varint-spelled_short _ (varint_size number - 1) (number / 128) (number % 128)
          (leading_bytes-spelled (varint_size number - 1) (number / 128) (number % 128) rest (holds_less number (varint_size number - 1) holds))
          (omega arith) (omega arith)
          ∙ rw (whole, count) refl)
    ]
  where
    holds_less : (n k : ℕ) → n < 128 ^ (k + 1) → n / 128 < 128 ^ k
    holds_less n k fits = let more : 128 ^ (k + 1) ≡ 128 ^ k * 128 = rw add-one (pow-suc 128 k) in omega arith

pub IsVarintOf-varint_bytes : (number : ℕ) → number < 2 ^ 64 → IsVarintOf (varint_bytes number) number
IsVarintOf-varint_bytes number fits =
    let read = varint-varint_bytes number [] fits in
    rw (length-varint_bytes number) (rw (append-nil (varint_bytes number)) at read)

-- ---- no spelling is shorter

-- what a varint that was read says of its bytes
pub record IsRead (bytes : List ℕ) (number n : ℕ) : Type 0 where
  pub size : varint_len bytes ≡ n
  pub within : n ≤ length bytes
  pub value : spelled (take n bytes) ≡ number

pub varint-read : (bytes : List ℕ) (number n : ℕ) → varint bytes ≡ Some (number, n) → IsRead bytes number n
unfolding varint
varint-read bytes number n read =
    elim (cases_lt (length bytes) (varint_len bytes)) [
      | inl cut ↦
          absurd (cc (rw (lt-leb (varint_len bytes) (length bytes) cut) at read))
      | inr whole ↦
          let same = rw (le-leb (varint_len bytes) (length bytes) whole) at read in
          let both : (spelled (take (varint_len bytes) bytes), varint_len bytes) ≡ (number, n) = cc in
          let size : varint_len bytes ≡ n = ap (λ (p : ℕ × ℕ). p.1) both in
          let value : spelled (take (varint_len bytes) bytes) ≡ number = ap (λ (p : ℕ × ℕ). p.0) both in
          record { size = size; within = rw size at whole; value = rw size at value }
    ]

-- as many sevens of bits as there are bytes
seven_bits-below : (bytes : List ℕ) (n : ℕ) → n ≤ length bytes → seven_bits (take n bytes) < 128 ^ n
seven_bits-below bytes zero within = omega arith
seven_bits-below bytes (suc n) within =
    let before = seven_bits-below bytes n (omega arith) in
    omega (arith, rw add-one at (seven_bits-more bytes n (omega arith)), pow-suc 128 n)

pub varint_size-le : (bytes : List ℕ) (number : ℕ) → IsVarintOf bytes number → varint_size number ≤ length bytes
varint_size-le bytes number is =
    let read = varint-read bytes number (length bytes) is in
    let most = varint_size-most number in
    elim (cases_lt (length bytes) (varint_size number)) [
      | inr enough ↦ enough
      | inl fewer ↦
          let whole : take (length bytes) bytes ≡ bytes = take-length bytes in
          let value : seven_bits (take (length bytes) bytes) ≡ number =
          sym (spelled-short (take (length bytes) bytes) (λ nine. absurd (omega (arith, ap length whole)))) ∙ read.value in
          let some : 0 < length bytes = omega (arith, read.size) in
          absurd (omega (arith, seven_bits-below bytes (length bytes) (omega arith), varint_size-shortest number (length bytes) some fewer))
    ]

-- ---- what follows a whole varint does not count

same-at : (xs ys : List ℕ) (n k : ℕ) → take n xs ≡ take n ys → k < n → get_or ys k 0 ≡ get_or xs k 0
same-at xs ys n k same below =
    sym (get_or-take n ys k 0 below) ∙ ap (λ bytes. get_or bytes k 0) (sym same) ∙ get_or-take n xs k 0 below

varint_len-same : (xs ys : List ℕ) (n : ℕ) → varint_len xs ≡ n → n ≤ length xs → n ≤ length ys → take n xs ≡ take n ys
    → varint_len ys ≡ n
varint_len-same xs ys n size within room same =
    let at = position_or_len (λ byte. nat_lt byte 128) (take 8 xs) in
    let most = prefix_len-le-length (λ byte. not (nat_lt byte 128)) (take 8 xs) in
    let place : at + 1 ≡ n = size in
    let sizes : at ≤ 8 = omega (arith, length-take 8 xs) in
    ap (λ k. k + 1) (position_or_len_is (λ byte. nat_lt byte 128) (take 8 ys) at 0
    (omega (arith, length-take 8 ys))
    (λ k below.
    rw (get_or-take 8 ys k 0 (omega arith), same-at xs ys n k same (omega arith), ← get_or-take 8 xs k 0 (omega arith))
    (fails_before_first (λ byte. nat_lt byte 128) (take 8 xs) k 0 below))
    (λ inside.
    let short : at < 8 = omega (arith, length-take 8 ys) in
    rw (get_or-take 8 ys at 0 short, same-at xs ys n at same (omega arith), ← get_or-take 8 xs at 0 short)
    (passes_at_first (λ byte. nat_lt byte 128) (take 8 xs) 0 (omega (arith, length-take 8 xs)))))
    ∙ size

pub varint-same : (xs ys : List ℕ) (number n : ℕ) → varint xs ≡ Some (number, n) → n ≤ length ys → take n xs ≡ take n ys
    → varint ys ≡ Some (number, n)
varint-same xs ys number n read room same =
    let is = varint-read xs number n read in
    varint-whole ys n (varint_len-same xs ys n is.size is.within room same) room
    ∙ ap (λ v. Some (v, n)) (ap spelled (sym same) ∙ is.value)

pub varint-append : (bytes rest : List ℕ) (number n : ℕ) → varint bytes ≡ Some (number, n) → varint (bytes ++ rest) ≡ Some (number, n)
varint-append bytes rest number n read =
    let is = varint-read bytes number n read in
    varint-same bytes (bytes ++ rest) number n read (omega (arith, is.within, length-append bytes rest))
    (sym (take-append-le n bytes rest is.within))

-- the bytes of a varint that was read are a whole one
pub varint-take : (bytes : List ℕ) (number n : ℕ) → varint bytes ≡ Some (number, n) → IsVarintOf (take n bytes) number
varint-take bytes number n read =
    let is = varint-read bytes number n read in
    let size : length (take n bytes) ≡ n = length-take-le n bytes is.within in
    rw size (varint-same bytes (take n bytes) number n read (omega arith) (sym (take-take n n bytes (omega arith))))

pub varint-some : (bytes : List ℕ) (number n : ℕ) → varint bytes ≡ Some (number, n) → 1 ≤ n
varint-some bytes number n read = omega (arith, (varint-read bytes number n read).size)
