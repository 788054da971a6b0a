use Rattle.std.proofs.Common.{length, arith, ap, sym, ◌∙◌, length-drop}
use Rattle.std.proofs.lemmas.List.{take_rest}
use Rattle.db_format.proofs.VarintLemmas.{varint-some}
use Rattle.db_format.proofs.RecordLemmas.{values_in-first, values_in-cut, values_in-split, first_value-reserved, first_value-short}
use Rattle.db_format.proofs.column.first_column.Goals as goal

pub returns-in_default : goal.returns-in_default
returns-in_default c = values_in-cut c.args.types.now c.args.body.now c.requires (sym c.in_default.ensures.read)

pub returns-in_default-serial_size : goal.returns-in_default-serial_size
returns-in_default-serial_size c =
    values_in-first c.args.types.now c.args.body.now c.in-Some.serial c.in-Some.len (sym c.in-Some.ensures.read)
    ∙ first_value-reserved c.in-Some.serial c.args.body.now _ c.in_default-serial_size.ensures

pub returns-then-size-body : goal.returns-then-size-body
returns-then-size-body c =
    values_in-first c.args.types.now c.args.body.now c.in-Some.serial c.in-Some.len (sym c.in-Some.ensures.read)
    ∙ first_value-short c.in-Some.serial c.args.body.now _ c.in-Some-serial_size.ensures.0
    (omega (arith, c.in-Some-serial_size.ensures.1, c.if-size-body.true))

pub returns : goal.returns
returns c =
    let types = c.args.types.now in
    let left = take_rest types c.in-Some.len in
    let some = varint-some types c.in-Some.serial c.in-Some.len (sym c.in-Some.ensures.read) in
    record {
      sized = omega (arith, c.in-Some-serial_size.ensures.1, c.split_at.ensures.front_len);
      fewer = omega (arith, ap length left, length-drop c.in-Some.len types, c.requires);
      values =
          values_in-split types c.args.body.now _ _ _ c.in-Some.serial c.in-Some.len c.in-Some-serial_size.size (sym c.in-Some.ensures.read)
          c.in-Some-serial_size.ensures.0 c.in-Some-serial_size.ensures.1 (omega (arith, c.if-size-body.false)) c.split_at.ensures.front left
          c.split_at.ensures.back;
    }
