-- Page 1 of an encrypted file begins with the salt, or with the magic that stands for it, and opens to the magic.
use Rattle.std.proofs.Common.{◌≡◌, ◌≤◌, ◌+◌, ℕ, List, ◌++◌, length, take, drop, ap, refl, ◌∙◌, arith, length-append, length-take}
use Rattle.std.proofs.lemmas.List.{take-append-le, take-take, take_at}
use Rattle.std.specs.Prelude.{Bool, false, if◌then◌else◌}
use Rattle.cbc_mode.specs.Cbc.{cbc_decrypted, cbc_encrypted}
use Rattle.cipher_profile.specs.Profile.{IsLaidOut, is_plain, usable}
use Rattle.page_codec.specs.Page.{FileKeys, begun, ciphertext, cipher_start, deciphered, enciphered, magic, opened, sealed, stored_head, stored_iv, tag, untagged}
use Rattle.page_codec.proofs.Parts.{head_long, opened_ciphered}

-- what begins with the head of a page 1 begins with the head's first bytes
head_first : (first page rest : List ℕ) (start : ℕ) → length first ≡ 16 → 16 ≤ start
    → (take 16 (take start (begun first page) ++ rest) ≡ first) × (16 ≤ length (take start (begun first page) ++ rest))
head_first first page rest start long within =
    let head : List ℕ = take start (begun first page) in
    let some : 16 ≤ length head = omega (arith, within, long, length-take start (begun first page), length-append first (drop 16 page)) in (
      take-append-le 16 head rest some ∙ (take-take 16 start (begun first page) within ∙ take_at first (drop 16 page) 16 long),
      omega (arith, some, length-append head rest),
    )

untagged_first : (keys : FileKeys) (plain draw : List ℕ) → IsLaidOut keys.profile → length keys.salt ≡ 16
    → (take 16 (untagged keys 1 plain draw) ≡ keys.salt) × (16 ≤ length (untagged keys 1 plain draw))
unfolding untagged
untagged_first keys plain draw laid_out long =
    let start : ℕ = cipher_start keys.profile 1 in
    let text : List ℕ = cbc_encrypted keys.keys.enc (take 16 draw) (drop start plain) in
    let within : 16 ≤ start = head_long keys.profile 1 laid_out refl in
    let first = head_first keys.salt plain text start long within in (
      take-append-le 16 (stored_head keys 1 plain ++ text) draw first.1 ∙ first.0,
      omega (arith, first.1, length-append (stored_head keys 1 plain ++ text) draw),
    )

behind_first : (page tag rest : List ℕ) (u : ℕ) → 16 ≤ u → 16 ≤ length page → take 16 ((take u page ++ tag) ++ rest) ≡ take 16 page
behind_first page tag rest u le long =
    let head : 16 ≤ length (take u page) = omega (arith, le, long, length-take u page) in
    take-append-le 16 (take u page ++ tag) rest (omega (arith, head, length-append (take u page) tag))
    ∙ (take-append-le 16 (take u page) tag head ∙ take-take 16 u page le)

enciphered_first : (keys : FileKeys) (plain draw : List ℕ) → IsLaidOut keys.profile → length keys.salt ≡ 16 → take 16 (enciphered keys 1 plain draw) ≡ keys.salt
unfolding enciphered
enciphered_first keys plain draw laid_out long =
    let page = untagged keys 1 plain draw in
    let first = untagged_first keys plain draw laid_out long in
    behind_first page (tag keys 1 page) (drop (usable keys.profile + 16 + keys.profile.tag_len) page) (usable keys.profile + 16) (omega arith) first.1 ∙ first.0

pub salt_stands : (keys : FileKeys) (plain draw : List ℕ) → IsLaidOut keys.profile → is_plain keys.profile ≡ false → length keys.salt ≡ 16 → take 16 (sealed keys 1 plain draw) ≡ keys.salt
unfolding sealed
salt_stands keys plain draw laid_out ciphered long =
    ap (λ (b : Bool). take 16 (if b then plain else enciphered keys 1 plain draw)) ciphered ∙ enciphered_first keys plain draw laid_out long

deciphered_begins : (keys : FileKeys) (stored : List ℕ) → IsLaidOut keys.profile → take 16 (deciphered keys 1 stored) ≡ magic
unfolding deciphered
deciphered_begins keys stored laid_out =
    (head_first magic stored (cbc_decrypted keys.keys.enc (stored_iv keys.profile stored) (ciphertext keys.profile 1 stored)) (cipher_start keys.profile 1) refl
    (head_long keys.profile 1 laid_out refl)).0

pub opened_begins : (keys : FileKeys) (stored : List ℕ) → IsLaidOut keys.profile → is_plain keys.profile ≡ false → take 16 (opened keys 1 stored) ≡ magic
opened_begins keys stored laid_out ciphered = ap (take 16) (opened_ciphered keys 1 stored ciphered) ∙ deciphered_begins keys stored laid_out
