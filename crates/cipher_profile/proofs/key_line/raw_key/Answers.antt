use Rattle.std.proofs.Common.{List, ℕ, subst, sym, IsTrue}
use Rattle.std.specs.Char.{is_ascii_hexdigit}
use Rattle.std.specs.List.{list_all}
use Rattle.cipher_profile.proofs.Literals.{literal_digits}
use Rattle.cipher_profile.proofs.key_line.raw_key.Goals as goal

pub decode-requires-clause-digits : goal.decode-requires-clause-digits
decode-requires-clause-digits c =
    subst (λ (text : List ℕ). IsTrue (list_all is_ascii_hexdigit text)) (sym c.quoted.ensures) (literal_digits c.args.line.now c.requires.literal)
