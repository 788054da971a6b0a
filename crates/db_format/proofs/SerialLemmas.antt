-- Serial types: what is written of a value is read back.
use Rattle.std.proofs.Common.{◌≡◌, ℕ, zero, suc, ◌+◌, ◌-◌, ◌*◌, ◌%◌, ◌^◌, ◌<◌, ◌≤◌, ◌⊎◌, inl, inr, List, [], ◌∷◌, slice_index, ℤ, pos, negsuc, true, length, drop, fold, refl, sym, ap, ◌∙◌, arith, pow-suc, mul_comm}
use Rattle.std.proofs.Math.Arith.{mod-mul}
use Rattle.std.proofs.Math.Nat.{add-mul, mul_assoc, pow-le-pow_right}
use Rattle.std.proofs.lemmas.Bool.{cases_lt, lt-ltb, le-ltb}
use Rattle.std.proofs.lemmas.Bool.Decides.{nat_tests}
use Rattle.std.specs.Int.{w64, byte_at, bytes_high_first, cast_unsigned}
use Rattle.std.specs.Prelude.{nat_lt, if◌then◌else◌}
use Rattle.byteorder.specs.Endian.{big_from, big_number, twos_complement}
use Rattle.byteorder.specs.Numbers.{big_from-cons, big_from-lt}
use Rattle.db_format.specs.Value.{Datum}
use Rattle.db_format.specs.Value.Datum.{null, int, float, text, blob}
use Rattle.db_format.specs.Row.{IsStorable, datum_bytes, integer_type, steps, type_of}
use Rattle.db_format.specs.Serial.{big_endian, is_type, signed, size_of, value_of}

-- ---- an integer is read as its bytes say

-- the bits of whole bytes
whole_bits : (n : ℕ) → n ≤ 8 → 256 ^ n ≡ 2 ^ (8 * n)
whole_bits zero few = refl
whole_bits (suc zero) few = refl
whole_bits (suc (suc zero)) few = refl
whole_bits (suc (suc (suc zero))) few = refl
whole_bits (suc (suc (suc (suc zero)))) few = refl
whole_bits (suc (suc (suc (suc (suc zero))))) few = refl
whole_bits (suc (suc (suc (suc (suc (suc zero)))))) few = refl
whole_bits (suc (suc (suc (suc (suc (suc (suc zero))))))) few = refl
whole_bits (suc (suc (suc (suc (suc (suc (suc (suc zero)))))))) few = refl
whole_bits (suc (suc (suc (suc (suc (suc (suc (suc (suc n))))))))) few = absurd (omega arith)

-- one more byte behind a number, where q is the worth of a byte in front of it
by_parts : (high byte p q low low2 : ℕ) → q ≡ p * 256 → low2 ≡ low → (high * 256 + byte) * p + low ≡ high * q + (byte * p + low2)
by_parts high byte p q low low2 worth same =
    let spread = add-mul (high * 256) byte p in
    let front : high * 256 * p ≡ high * q = mul_assoc high 256 p ∙ ap (λ (x : ℕ). high * x) (mul_comm 256 p ∙ sym worth) in
    ap (λ (x : ℕ). x + low) spread ∙ rw (front, same) (omega arith)

-- bytes behind a number
number_on : (bytes : List ℕ) (high : ℕ)
    → fold (λ h byte. h * 256 + byte) high bytes ≡ high * 256 ^ length bytes + big_from 0 (length bytes) bytes
number_on [] high = omega arith
number_on (byte ∷ bytes) high =
    number_on bytes (high * 256 + byte)
    ∙ by_parts high byte (256 ^ length bytes) (256 ^ suc (length bytes)) (big_from 0 (length bytes) bytes) (big_from 1 (length bytes) (byte ∷ bytes))
    (pow-suc 256 (length bytes)) (big_from-cons 0 (length bytes) byte bytes)

-- the number of all bytes
pub all_bytes : (bytes : List ℕ) → big_number (length bytes) bytes ≡ big_endian bytes
all_bytes bytes = sym (number_on bytes 0 ∙ omega arith)

-- both forms of two's complement
pub as_signed : (n : ℕ) (bytes : List ℕ) → n ≤ 8 → ((i : ℕ) → slice_index bytes i < 256)
    → twos_complement n (big_number n bytes) ≡ signed (8 * n) (big_number n bytes)
as_signed n bytes few small =
    let fits = big_from-lt 0 n bytes small in
    let bits = whole_bits n few in
    grind (arith, nat_tests)

-- ---- bytes that were written are read back as their number

-- one more byte in front of the low k bytes
byte_on : (k n high : ℕ) → (high * 256 + byte_at k n) * 256 ^ k + n % 256 ^ k ≡ high * 256 ^ suc k + n % 256 ^ suc k
byte_on zero n high = omega arith
byte_on (suc k) n high =
    let unit = 256 ^ suc k in
    let wider : 256 ^ suc (suc k) ≡ 256 * unit = pow-suc 256 (suc k) ∙ mul_comm unit 256 in
    let some : 0 < unit = pow-le-pow_right {n = 256} (omega arith) {i = 0} {j = suc k} (omega arith) in
    rw (wider, mod-mul n {m = 256} {c = unit} (omega arith) some) (omega arith)

bytes_read : (k n high : ℕ) → fold (λ h byte. h * 256 + byte) high (bytes_high_first k n) ≡ high * 256 ^ k + n % 256 ^ k
bytes_read zero n high = omega arith
bytes_read (suc k) n high = bytes_read k n (high * 256 + byte_at k n) ∙ byte_on k n high

-- the low bytes of a number
big_endian-bytes : (k n : ℕ) → big_endian (bytes_high_first k n) ≡ n % 256 ^ k
big_endian-bytes k n = bytes_read k n 0 ∙ omega arith

-- half of what the bytes of an integer can count
abbrev IsWidth : ℕ → Type 0
IsWidth half =
    (half ≡ 2 ^ 7) ⊎ ((half ≡ 2 ^ 15) ⊎ ((half ≡ 2 ^ 23) ⊎ ((half ≡ 2 ^ 31) ⊎ ((half ≡ 2 ^ 47) ⊎ (half ≡ 2 ^ 63)))))

-- a number whose sign fits is read back from its low bits
sign_back : (z : ℤ) (half low : ℕ) → steps z < half → low ≡ cast_unsigned w64 z % (2 * half) → IsWidth half
    → (if nat_lt low half then pos low else negsuc (2 * half - 1 - low)) ≡ z
sign_back (pos n) half low near is which =
    let same : low ≡ n = grind arith in
    rw (same, lt-ltb n half near)
sign_back (negsuc n) half low near is which =
    let same : low + n + 1 ≡ 2 * half = grind arith in
    rw (le-ltb low half (omega arith)) (ap negsuc (omega arith))

-- a value as it is written: its type is none of the reserved ones, says how many bytes follow, and what they mean
pub record IsWritten (value : Datum) : Type 0 where
  pub small : type_of value < 2 ^ 64
  pub typed : is_type (type_of value) ≡ true
  pub sized : size_of (type_of value) ≡ length (datum_bytes value)
  pub reads : value_of (type_of value) (datum_bytes value) ≡ value

-- an integer at one of the six widths
at_width : (z : ℤ) (serial size : ℕ) → integer_type z ≡ serial → serial < 10 → size_of serial ≡ size
    → length (bytes_high_first size (cast_unsigned w64 z)) ≡ size
    → value_of serial (bytes_high_first size (cast_unsigned w64 z)) ≡ int z → IsWritten (int z)
at_width z serial size is low wide len reads =
    record {
      small = rw is (omega arith);
      typed = rw is (grind (arith, nat_tests));
      sized = rw (is, wide) (sym len);
      reads = rw (is, wide) reads;
    }

integer_written : (z : ℤ) → steps z < 2 ^ 63 → IsWritten (int z)
unfolding integer_type size_of value_of
integer_written z fits =
    let low = λ (k : ℕ). big_endian-bytes k (cast_unsigned w64 z) in
    let n = steps z in
    elim (cases_lt n (2 ^ 7)) [
      | inl a ↦ at_width z 1 1 (grind (arith, nat_tests)) (omega arith) refl refl (ap int (sign_back z (2 ^ 7) _ a (low 1) (inl refl)))
      | inr a ↦
          elim (cases_lt n (2 ^ 15)) [
            | inl b ↦ at_width z 2 2 (grind (arith, nat_tests)) (omega arith) refl refl (ap int (sign_back z (2 ^ 15) _ b (low 2) (inr (inl refl))))
            | inr b ↦
                elim (cases_lt n (2 ^ 23)) [
                  | inl d ↦ at_width z 3 3 (grind (arith, nat_tests)) (omega arith) refl refl (ap int (sign_back z (2 ^ 23) _ d (low 3) (inr (inr (inl refl)))))
                  | inr d ↦
                      elim (cases_lt n (2 ^ 31)) [
                        | inl e ↦ at_width z 4 4 (grind (arith, nat_tests)) (omega arith) refl refl (ap int (sign_back z (2 ^ 31) _ e (low 4) (inr (inr (inr (inl refl))))))
                        | inr e ↦
                            elim (cases_lt n (2 ^ 47)) [
                              | inl f ↦ at_width z 5 6 (grind (arith, nat_tests)) (omega arith) refl refl (ap int (sign_back z (2 ^ 47) _ f (low 6) (inr (inr (inr (inr (inl refl)))))))
                              | inr f ↦ at_width z 6 8 (grind (arith, nat_tests)) (omega arith) refl refl (ap int (sign_back z (2 ^ 63) _ fits (low 8) (inr (inr (inr (inr (inr refl)))))))
                            ]
                      ]
                ]
          ]
    ]

-- what a row holds is written so that it is read back
pub is_written : (value : Datum) → IsStorable value → IsWritten value
unfolding size_of value_of
is_written null storable = record { small = omega arith; typed = refl; sized = refl; reads = refl }
is_written (int z) storable = integer_written z storable
is_written (float bytes) storable = record { small = omega arith; typed = refl; sized = sym storable; reads = refl }
is_written (text bytes) storable = record { small = omega arith; typed = grind (arith, nat_tests); sized = grind (arith, nat_tests); reads = grind (arith, nat_tests) }
is_written (blob bytes) storable = record { small = omega arith; typed = grind (arith, nat_tests); sized = grind (arith, nat_tests); reads = grind (arith, nat_tests) }

-- the last bytes of a number in eight
pub last_bytes : (size n : ℕ) → size ≤ 8 → drop (8 - size) (bytes_high_first 8 n) ≡ bytes_high_first size n
last_bytes zero n h = refl
last_bytes (suc zero) n h = refl
last_bytes (suc (suc zero)) n h = refl
last_bytes (suc (suc (suc zero))) n h = refl
last_bytes (suc (suc (suc (suc zero)))) n h = refl
last_bytes (suc (suc (suc (suc (suc zero))))) n h = refl
last_bytes (suc (suc (suc (suc (suc (suc zero)))))) n h = refl
last_bytes (suc (suc (suc (suc (suc (suc (suc zero))))))) n h = refl
last_bytes (suc (suc (suc (suc (suc (suc (suc (suc zero)))))))) n h = refl
last_bytes (suc (suc (suc (suc (suc (suc (suc (suc (suc k))))))))) n h = absurd (omega arith)
