use Rattle.std.proofs.Common.{◌∙◌, List, ℕ, ap, arith, drop, subst, sym, take, IsTrue}
use Rattle.std.proofs.lemmas.List.{length-take-le}
use Rattle.cipher_profile.specs.KeyLine.{hex_bytes}
use Rattle.cipher_profile.specs.declared.keys.Secret.TheVariants.{SaltedRaw}
use Rattle.std.specs.Char.{is_ascii_hexdigit}
use Rattle.std.specs.List.{list_all}
use Rattle.cipher_profile.proofs.Literals.{literal_digits}
use Rattle.cipher_profile.proofs.key_line.salted_key.Goals as goal

pub decode-requires-clause-digits : goal.decode-requires-clause-digits
decode-requires-clause-digits c =
    subst (λ (text : List ℕ). IsTrue (list_all is_ascii_hexdigit text)) (sym c.quoted.ensures) (literal_digits c.args.line.now c.requires.literal)

pub slice_bounds-copy_from_slice-end-2 : goal.slice_bounds-copy_from_slice-end-2
slice_bounds-copy_from_slice-end-2 c = omega (arith, c.decode.ensures.still, length-take-le 32 c.decode.new.bytes (omega (arith, c.decode.ensures.still)))

pub copy_from_slice-requires : goal.copy_from_slice-requires
copy_from_slice-requires c = sym (length-take-le 32 c.decode.new.bytes (omega (arith, c.decode.ensures.still)))

pub returns : goal.returns
returns c =
    let is = c.decode.ensures.bytes ∙ ap hex_bytes c.quoted.ensures in
    let key = c.copy_from_slice.ensures.after ∙ ap (take 32) is in
    let salt = c.copy_from_slice-2.ensures.after ∙ ap (λ (l : List ℕ). take 16 (drop 32 l)) is in
    λ k. SaltedRaw (key k) (salt k)
