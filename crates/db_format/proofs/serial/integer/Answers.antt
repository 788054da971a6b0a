use Rattle.std.proofs.Common.{◌≡◌, ◌*◌, length, ap, ◌∙◌, arith, rules, to_z-of_z}
use Rattle.std.specs.Int.{w64, cast_signed, cast_unsigned}
use Rattle.db_format.specs.Serial.{signed}
use Rattle.db_format.proofs.SerialLemmas.{all_bytes, as_signed}
use Rattle.db_format.proofs.serial.integer.Goals as goal

pub returns : goal.returns
returns c =
    let bytes = c.args.bytes.now in
    let kept : cast_signed w64 (cast_unsigned w64 c.read_int.result) ≡ c.read_int.result = grind (arith, to_z-of_z) in
    kept ∙ c.read_int.ensures ∙ as_signed (length bytes) bytes c.requires.few (λ i. search rules)
    ∙ ap (signed (8 * length bytes)) (all_bytes bytes)
