-- Key lines: the secret that a line gives, and what of the input it takes. Bytes are those of ASCII: 10 is a line
-- feed, 39 is `'`, 88 is `X` and 120 is `x`.
use Rattle.std.specs.Prelude.{ℕ, ◌+◌, ◌-◌, ◌%◌, ◌==◌, ◌&&◌, ◌||◌, nat_lt, nat_le, Bool, List, [], ◌∷◌, length, slice_index, slice_range, min, take, drop, Result, Ok, Err, if◌then◌else◌}
use Rattle.std.specs.Char.{is_ascii_hexdigit}
use Rattle.std.specs.List.{list_all}
use Rattle.std.specs.Result.{result_unwrap_or}
use Rattle.hex.specs.Hex.{decode_of}
use Rattle.cipher_profile.specs.declared.keys.Secret.{Secret}
use Rattle.cipher_profile.specs.declared.keys.Secret.TheVariants.{Raw, Pass, SaltedRaw, SaltedPass}
use Rattle.cipher_profile.specs.declared.key_line.KeyError.{KeyError}
use Rattle.cipher_profile.specs.declared.key_line.KeyError.TheVariants.{KeyMissing, KeyEmpty, KeyTooLong, KeyForm, KeyUnsalted, KeyNotHex}
use Rattle.cipher_profile.specs.declared.profile.LineForm.{LineForm}

-- the bytes before the first line feed, or all where there is none
abbrev pub first_line : List ℕ → List ℕ
first_line [] = []
first_line (byte ∷ rest) = if byte == 10 then [] else byte ∷ first_line rest

-- whether a line begins with `x'` or `X'` and ends with a `'` of its own
abbrev pub is_quoted : List ℕ → Bool
is_quoted line =
    nat_le 3 (length line) && (slice_index line 0 == 120 || slice_index line 0 == 88) && slice_index line 1 == 39
    && slice_index line (length line - 1) == 39

-- what stands between the two
abbrev pub key_quoted : List ℕ → List ℕ
key_quoted line = slice_range line 2 (length line - 1)

-- whether a line is `x'` or `X'`, hex digits in either case, and `'`
abbrev pub is_hex_literal : List ℕ → Bool
is_hex_literal line = is_quoted line && list_all is_ascii_hexdigit (key_quoted line)

-- the bytes that the digits of such a line stand for, two digits a byte
abbrev pub literal_bytes : List ℕ → List ℕ
literal_bytes line = result_unwrap_or (decode_of (key_quoted line)) []

-- whether a text is hex digits in either case, two a byte, of one byte at least
abbrev pub is_hex_text : List ℕ → Bool
is_hex_text text = nat_le 2 (length text) && length text % 2 == 0 && list_all is_ascii_hexdigit text

-- the bytes that such a text stands for
abbrev pub hex_bytes : List ℕ → List ℕ
hex_bytes text = result_unwrap_or (decode_of text) []

-- what stands before the last 33 bytes of a line, and the last 32
abbrev pub hex_before : List ℕ → List ℕ
hex_before line = take (length line - 33) line

abbrev pub salt_behind : List ℕ → List ℕ
salt_behind line = drop (length line - 33 + 1) line

-- whether a line is a passphrase in hex, a comma (44) and 16 bytes in hex
abbrev pub is_salted_hex : List ℕ → Bool
is_salted_hex line =
    nat_lt 33 (length line) && slice_index line (length line - 33) == 44 && is_hex_text (hex_before line) && is_hex_text (salt_behind line)

-- what a line gives as it stands: 64 hex digits in that form are the key itself, 96 digits are a key and a salt, and any other line is a
-- passphrase. A salt comes with the key exactly where the file does not hold it
abbrev pub plain_secret : Bool → List ℕ → Result Secret KeyError
plain_secret salted line =
    if length line == 67 && is_hex_literal line then (if salted then Err KeyUnsalted else Ok (Raw (literal_bytes line)))
    else (if length line == 99 && is_hex_literal line
    then (if salted then Ok (SaltedRaw (take 32 (literal_bytes line)) (take 16 (drop 32 (literal_bytes line)))) else Err KeyForm)
    else (if salted then Err KeyUnsalted else Ok (Pass line)))

-- what a line in hex gives: a passphrase, and the salt behind it where it comes with the key
abbrev pub hex_secret : Bool → List ℕ → Result Secret KeyError
hex_secret salted line =
    if salted && is_salted_hex line then Ok (SaltedPass (hex_bytes (hex_before line)) (hex_bytes (salt_behind line)))
    else (if is_hex_text line then (if salted then Err KeyUnsalted else Ok (Pass (hex_bytes line))) else Err KeyNotHex)

-- what a line gives under its form
abbrev pub secret_of : LineForm → List ℕ → Result Secret KeyError
secret_of form line =
    if length line == 0 then Err KeyEmpty
    else (if form.hex then hex_secret form.salted line else plain_secret form.salted line)

-- the first line of the bytes that are left: there is none where no byte is, and 1,025 bytes without a line feed are
-- too many
abbrev pub key_line_of : List ℕ → Result (List ℕ) KeyError
key_line_of [] = Err KeyMissing
key_line_of (byte ∷ rest) =
    let line = first_line (byte ∷ rest) in if nat_lt 1024 (length line) then Err KeyTooLong else Ok line

-- the line that stands in a buffer, of which this many bytes are the line's
abbrev pub line_in : List ℕ → Result ℕ KeyError → Result (List ℕ) KeyError
line_in buffer (Ok len) = Ok (take len buffer)
line_in buffer (Err error) = Err error

-- the secret that a line gives, where there is a line
abbrev pub secret_of_line : LineForm → Result (List ℕ) KeyError → Result Secret KeyError
secret_of_line form (Ok line) = secret_of form line
secret_of_line form (Err error) = Err error

-- what the bytes that are left give as a key line
abbrev pub key_line : LineForm → List ℕ → Result Secret KeyError
key_line form left = secret_of_line form (key_line_of left)

-- what is left once the line is taken with its line feed, or 1,025 bytes of it
abbrev pub after_line : List ℕ → List ℕ
after_line left = drop (min 1025 (length (first_line left) + 1)) left
