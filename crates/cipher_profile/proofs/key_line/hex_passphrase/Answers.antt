use Rattle.std.proofs.Common.{arith}
use Rattle.std.proofs.lemmas.List.{length-take}
use Rattle.cipher_profile.proofs.Literals.{hex_digits, hex_halves}
use Rattle.cipher_profile.proofs.key_line.hex_passphrase.Goals as goal

pub decode-requires-clause-digits : goal.decode-requires-clause-digits
decode-requires-clause-digits c = hex_digits c.args.text.now c.requires.hex

pub decode-requires-clause-long : goal.decode-requires-clause-long
decode-requires-clause-long c =
    let half = hex_halves c.args.text.now c.requires.hex in
    simp length-take (omega (arith, half, c.requires.short))
