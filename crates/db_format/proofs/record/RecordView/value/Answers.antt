use Rattle.std.proofs.Common.{drop, Some, arith, ap, sym, ◌∙◌, length-drop, drop-drop}
use Rattle.db_format.proofs.RecordLemmas.{are_split, types-left}
use Rattle.db_format.proofs.record.RecordView.value.Goals as goal

pub first_column-requires : goal.first_column-requires
first_column-requires c =
    types-left c.loop-earlier.types.now c.loop-earlier.body.now (drop c.loop-earlier._earlier c.args.self.now) c.loop-earlier.invariant
    (omega (arith, length-drop c.loop-earlier._earlier c.args.self.now))

pub loop-earlier-preserved : goal.loop-earlier-preserved
loop-earlier-preserved c =
    let values = drop c.loop-earlier._earlier c.args.self.now in
    let split = are_split _ _ values (sym c.in-Some.ensures.values ∙ c.loop-earlier.invariant) in
    split.rest ∙ ap Some (drop-drop 1 c.loop-earlier._earlier c.args.self.now)

pub first_column-requires-2 : goal.first_column-requires-2
first_column-requires-2 c =
    types-left c.loop-earlier.types.now c.loop-earlier.body.now (drop c.loop-earlier._earlier c.args.self.now) c.loop-earlier.invariant
    (omega (arith, length-drop c.loop-earlier._earlier c.args.self.now))
