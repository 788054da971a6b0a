-- What a line of hex digits in quotes decodes to.
use Rattle.std.specs.Prelude.{◌%◌, ◌/◌, ◌==◌, ◌&&◌, nat_le}
use Rattle.std.proofs.Common.{◌≡◌, ◌*◌, ℕ, true, List, [], ◌∷◌, length, Result, Ok, Err, refl, ◌∙◌, arith, IsTrue}
use Rattle.std.specs.Char.{is_ascii_hexdigit}
use Rattle.std.specs.List.{list_all}
use Rattle.std.specs.Result.{result_unwrap_or}
use Rattle.std.proofs.lemmas.Bool.{and_from, and_parts}
use Rattle.std.proofs.lemmas.Bool.Decides.{nat_tests}
use Rattle.std.proofs.lemmas.List.Sums.{AllPass-from_list_all}
use Rattle.hex.specs.declared.error.FromHexError.{FromHexError}
use Rattle.hex.specs.Hex.{decode_of, decode_sized, is_hex_digit}
use Rattle.hex.proofs.HexLemmas.{decode_of-digits, decode_sized-twice}
use Rattle.cipher_profile.specs.KeyLine.{hex_bytes, is_hex_literal, is_hex_text, is_quoted, key_quoted}

-- a hex digit of std is one of the decoder's
is_digit : (c : ℕ) → is_ascii_hexdigit c ≡ true → is_hex_digit c ≡ true
is_digit c h = grind (arith, nat_tests)

all_digits : (xs : List ℕ) → list_all is_ascii_hexdigit xs ≡ true → list_all is_hex_digit xs ≡ true
all_digits [] all = refl
all_digits (x ∷ xs) all =
    let parts = and_parts (is_ascii_hexdigit x) (list_all is_ascii_hexdigit xs) all in
    and_from (is_hex_digit x) (list_all is_hex_digit xs) (is_digit x parts.0) (all_digits xs parts.1)

-- a result that is a value is its value
given : (r : Result (List ℕ) FromHexError) (bytes : List ℕ) → r ≡ Ok bytes → r ≡ Ok (result_unwrap_or r [])
given (Ok x) bytes is = refl
given (Err e) bytes is = cc is

-- a text in hex is hex digits
pub hex_digits : (text : List ℕ) → IsTrue (is_hex_text text) → IsTrue (list_all is_ascii_hexdigit text)
hex_digits text is = (and_parts (nat_le 2 (length text) && length text % 2 == 0) (list_all is_ascii_hexdigit text) is).1

-- hex digits decode into half as many bytes
pub digits_decode : (text : List ℕ) (count : ℕ) → length text ≡ 2 * count → IsTrue (list_all is_ascii_hexdigit text)
    → decode_sized text count ≡ Ok (hex_bytes text)
digits_decode text count long all =
    let digits = AllPass-from_list_all is_hex_digit text (all_digits text all) in
    let decoded = decode_of-digits text (omega (arith, long)) digits in
    decode_sized-twice text count (omega (arith, long)) ∙ given (decode_of text) decoded.0 decoded.1

-- such a text has two digits a byte
pub hex_halves : (text : List ℕ) → IsTrue (is_hex_text text) → length text ≡ 2 * (length text / 2)
hex_halves text is =
    let parts = and_parts (nat_le 2 (length text) && length text % 2 == 0) (list_all is_ascii_hexdigit text) is in
    let sized = and_parts (nat_le 2 (length text)) (length text % 2 == 0) parts.0 in
    halves (length text) sized.1
  where
    halves : (n : ℕ) → (n % 2 == 0) ≡ true → n ≡ 2 * (n / 2)
    halves n even = grind (arith, nat_tests, even)

-- the digits of a literal
pub literal_digits : (line : List ℕ) → IsTrue (is_hex_literal line) → IsTrue (list_all is_ascii_hexdigit (key_quoted line))
literal_digits line is = (and_parts (is_quoted line) (list_all is_ascii_hexdigit (key_quoted line)) is).1
