-- A file whose page 1 is sealed begins with the salt, or, where it holds none, with the magic, which stands for it.
use Rattle.std.proofs.Common.{◌≡◌, ◌≤◌, ◌-◌, ◌*◌, ℕ, List, length, take, drop, ap, sym, ◌∙◌, refl, arith}
use Rattle.std.proofs.lemmas.List.{length-take-le, take-append-drop, take-append-le}
use Rattle.std.specs.Prelude.{Bool, true, false}
use Rattle.page_codec.specs.Page.{FileKeys, salt_of}
use Rattle.page_codec.proofs.Parts.{opened_plain_file}
use Rattle.page_codec.proofs.Salt.{salt_stands}
use Rattle.cipher_profile.specs.Profile.{IsLaidOut, is_plain}
use Rattle.fresh_file.specs.Sealed.{IsSealed, plain_page}

-- a plain file begins as its page 1 does
pub salt_first : (keys : FileKeys) (file : List ℕ) → IsSealed keys file 1 → IsLaidOut keys.profile → length keys.salt ≡ 16 → 16 ≤ keys.profile.page_size
    → (is_plain keys.profile ≡ true → take 16 (plain_page keys 1 file) ≡ keys.salt) → salt_of file ≡ keys.salt
salt_first keys file sealed_1 laid_out long room begins =
    let size = keys.profile.page_size in
    let stands = sealed_1.1 in
    let whole : size ≤ length file = omega (arith, stands.whole) in
    let start : (1 - 1) * size ≡ 0 = omega arith in
    let within : 16 ≤ length (take size file) = omega (arith, room, length-take-le size file whole) in
    ap (λ (l : List ℕ). take 16 l) (sym (take-append-drop size file))
    ∙ take-append-le 16 (take size file) (drop size file) within
    ∙ ap (λ (at : ℕ). take 16 (take size (drop at file))) (sym start)
    ∙ by_kind (is_plain keys.profile) refl
  where
    stored : List ℕ
    stored = take keys.profile.page_size (drop ((1 - 1) * keys.profile.page_size) file)

    by_kind : (plain : Bool) → is_plain keys.profile ≡ plain → take 16 stored ≡ keys.salt
    by_kind true plain = ap (λ (l : List ℕ). take 16 l) (sym (opened_plain_file keys 1 stored plain)) ∙ begins plain
    by_kind false ciphered = ap (λ (l : List ℕ). take 16 l) sealed_1.1.page ∙ salt_stands keys _ sealed_1.0 laid_out ciphered long
