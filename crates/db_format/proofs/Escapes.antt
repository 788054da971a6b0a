-- The text of bytes, part by part.
use Rattle.std.proofs.Common.{◌≡◌, ℕ, ◌+◌, ◌<◌, ◌/◌, ◌%◌, ◌&&◌, Bool, true, false, List, [], ◌∷◌, ◌++◌, length, refl, sym, ap, ◌∙◌, take, drop, cond, slice_index, append_assoc}
use Rattle.std.specs.Prelude.{codes}
use Rattle.std.specs.List.{list_all}
use Rattle.std.proofs.lemmas.List.{take-append-drop, drop_more, nil_from_length, append-nil}
use Rattle.std.proofs.lemmas.List.Concat.{flat_map-append}
use Rattle.hex.specs.Hex.{encode_with, encode_lower, lower_digits}
use Rattle.db_format.specs.Text.{is_printable, shown_byte, escaped}

encode_with-append : (t a b : List ℕ) → encode_with t (a ++ b) ≡ encode_with t a ++ encode_with t b
unfolding encode_with
encode_with-append t [] b = refl
encode_with-append t (x ∷ a) b =
    ap (λ (l : List ℕ). slice_index t (x / 16) ∷ (slice_index t (x % 16) ∷ l)) (encode_with-append t a b)

-- hex digits in two parts
pub hex_parts : (n : ℕ) (bytes : List ℕ) → encode_lower bytes ≡ encode_lower (take n bytes) ++ encode_lower (drop n bytes)
hex_parts n bytes =
    ap encode_lower (sym (take-append-drop n bytes)) ∙ encode_with-append lower_digits (take n bytes) (drop n bytes)

-- a text in two parts
pub escaped_parts : (n : ℕ) (bytes : List ℕ) → escaped bytes ≡ escaped (take n bytes) ++ escaped (drop n bytes)
escaped_parts n bytes = ap escaped (sym (take-append-drop n bytes)) ∙ flat_map-append shown_byte (take n bytes) (drop n bytes)

abbrev shown_by : ℕ → Bool → List ℕ
shown_by byte b = cond b (byte ∷ []) (codes "\\x" ++ encode_lower (byte ∷ []))

both : (a b : Bool) → (a && b) ≡ true → (a ≡ true) × (b ≡ true)
both true b h = (refl, h)
both false b h = absurd (cc)

-- bytes that stand as themselves
pub escaped_plain : (bytes : List ℕ) → list_all is_printable bytes ≡ true → escaped bytes ≡ bytes
escaped_plain [] plain = refl
escaped_plain (byte ∷ bytes) plain =
    let each = both (is_printable byte) (list_all is_printable bytes) plain in
    ap (λ (l : List ℕ). l ++ escaped bytes) (ap (shown_by byte) each.0) ∙ ap (λ (l : List ℕ). byte ∷ l) (escaped_plain bytes each.1)

-- a text up to its first byte that does not stand as itself, that byte, and the remainder
pub escaped_step : (bytes : List ℕ) (run : ℕ) → list_all is_printable (take run bytes) ≡ true → run < length bytes → is_printable (slice_index bytes run) ≡ false
    → escaped bytes ≡ ((take run bytes ++ codes "\\x") ++ encode_lower (take 1 (drop run bytes))) ++ escaped (drop 1 (drop run bytes))
escaped_step bytes run plain within other =
    let rest : drop run bytes ≡ slice_index bytes run ∷ drop (run + 1) bytes = drop_more bytes run 0 within in
    rw rest (
    escaped_parts run bytes
    ∙ ap (λ (l : List ℕ). l ++ escaped (drop run bytes)) (escaped_plain (take run bytes) plain)
    ∙ ap (λ (l : List ℕ). take run bytes ++ escaped l) rest
    ∙ ap (λ (l : List ℕ). take run bytes ++ (l ++ escaped (drop (run + 1) bytes))) (ap (shown_by (slice_index bytes run)) other)
    ∙ sym (append_assoc (take run bytes) (codes "\\x" ++ encode_lower (slice_index bytes run ∷ [])) (escaped (drop (run + 1) bytes)))
    ∙ ap (λ (l : List ℕ). l ++ escaped (drop (run + 1) bytes)) (sym (append_assoc (take run bytes) (codes "\\x") (encode_lower (slice_index bytes run ∷ []))))
    )

-- a text that ends before such a byte
pub escaped_end : (bytes : List ℕ) (run : ℕ) → list_all is_printable (take run bytes) ≡ true → length (drop run bytes) ≡ 0 → escaped bytes ≡ take run bytes
escaped_end bytes run plain none =
    escaped_parts run bytes
    ∙ ap (λ (l : List ℕ). l ++ escaped (drop run bytes)) (escaped_plain (take run bytes) plain)
    ∙ ap (λ (l : List ℕ). take run bytes ++ escaped l) (nil_from_length (drop run bytes) none)
    ∙ append-nil (take run bytes)

-- a list by its two parts, as they were taken
pub text_split : (n : ℕ) (text front back : List ℕ) → front ≡ take n text → back ≡ drop n text → text ≡ front ++ back
text_split n text front back is rest = rw (is, rest) (sym (take-append-drop n text))

pub hex_split : (n : ℕ) (bytes front back : List ℕ) → front ≡ take n bytes → back ≡ drop n bytes → encode_lower bytes ≡ encode_lower front ++ encode_lower back
hex_split n bytes front back is rest = rw (is, rest) (hex_parts n bytes)

pub escaped_split : (n : ℕ) (bytes front back : List ℕ) → front ≡ take n bytes → back ≡ drop n bytes → escaped bytes ≡ escaped front ++ escaped back
escaped_split n bytes front back is rest = rw (is, rest) (escaped_parts n bytes)

pub hex_none : (bytes : List ℕ) → length bytes ≡ 0 → encode_lower bytes ≡ []
unfolding encode_with
hex_none bytes none = ap encode_lower (nil_from_length bytes none)

pub escaped_none : (bytes : List ℕ) → length bytes ≡ 0 → escaped bytes ≡ []
escaped_none bytes none = ap escaped (nil_from_length bytes none)

regroup : (w a b c d : List ℕ) → (((w ++ a) ++ b) ++ c) ++ d ≡ w ++ (((a ++ b) ++ c) ++ d)
regroup w a b c d = simp append_assoc

-- a run of such bytes and the byte behind it are moved to the buffer
pub escape_turn : (start waits left front rest other later w1 w2 w3 : List ℕ) (run : ℕ) → waits ++ escaped left ≡ start
    → front ≡ take run left → rest ≡ drop run left → other ≡ take 1 rest → later ≡ drop 1 rest
    → w1 ≡ waits ++ front → w2 ≡ w1 ++ codes "\\x" → w3 ≡ w2 ++ encode_lower other
    → list_all is_printable (take run left) ≡ true → run < length left → is_printable (slice_index left run) ≡ false
    → w3 ++ escaped later ≡ start
escape_turn start waits left front rest other later w1 w2 w3 run whole is-front is-rest is-other is-later is-1 is-2 is-3 plain within end =
    let at : w3 ≡ ((waits ++ take run left) ++ codes "\\x") ++ encode_lower (take 1 (drop run left)) =
    is-3 ∙ ap (λ (l : List ℕ). l ++ encode_lower other) (is-2 ∙ ap (λ (l : List ℕ). l ++ codes "\\x") (is-1 ∙ ap (λ (l : List ℕ). waits ++ l) is-front))
    ∙ ap (λ (l : List ℕ). ((waits ++ take run left) ++ codes "\\x") ++ encode_lower l) (is-other ∙ ap (λ (l : List ℕ). take 1 l) is-rest) in
    ap (λ (l : List ℕ). l ++ escaped later) at
    ∙ ap (λ (l : List ℕ). (((waits ++ take run left) ++ codes "\\x") ++ encode_lower (take 1 (drop run left))) ++ escaped l) (is-later ∙ ap (λ (l : List ℕ). drop 1 l) is-rest)
    ∙ regroup waits (take run left) (codes "\\x") (encode_lower (take 1 (drop run left))) (escaped (drop 1 (drop run left)))
    ∙ ap (λ (l : List ℕ). waits ++ l) (sym (escaped_step left run plain within end))
    ∙ whole
