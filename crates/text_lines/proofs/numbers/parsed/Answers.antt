use Rattle.std.proofs.Common.{◌≡◌, ◌==◌, false, ne_eqb}
use Rattle.std.specs.Prelude.{slice_index}
use Rattle.text_lines.proofs.Parsing.{named, not_named}
use Rattle.text_lines.proofs.numbers.parsed.Goals as goal

pub returns-in-Ok : goal.returns-in-Ok
returns-in-Ok c =
    let plain : (slice_index c.args.digits.now 0 == 43) ≡ false = ne_eqb (slice_index c.args.digits.now 0) 43 c.requires.plain in
    named c.args.digits.now c.in-Ok.number c.requires.few plain c.in-Ok.ensures.value.0.0 c.in-Ok.ensures.value.0.1

pub returns-in-Err : goal.returns-in-Err
returns-in-Err c =
    let plain : (slice_index c.args.digits.now 0 == 43) ≡ false = ne_eqb (slice_index c.args.digits.now 0) 43 c.requires.plain in
    not_named c.args.digits.now plain c.in-Err.ensures.value.0
