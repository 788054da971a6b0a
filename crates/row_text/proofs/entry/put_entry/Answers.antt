use Rattle.std.specs.Prelude.{codes}
use Rattle.std.proofs.lemmas.Result.{on_ok_weaker, on_err_weaker}
use Rattle.db_format.specs.Values.{values_left}
use Rattle.row_text.proofs.Moving.{at_exit, cut, restated, restated_part, then, then_part, waits}
use Rattle.row_text.specs.Lines.{entry_line}
use Rattle.row_text.proofs.ValueSteps.{spaced_whole}
use Rattle.row_text.proofs.entry.put_entry.Goals as goal

pub returns-in_err-make_room-clause-part : goal.returns-in_err-make_room-clause-part
returns-in_err-make_room-clause-part g c =
    at_exit c.from_residual.result (λ told. cut (entry_line c.args.rowid c.args.row.now) (c.in_err-make_room.ensures.part told))

pub returns-in_err-put_values-clause-part : goal.returns-in_err-put_values-clause-part
returns-in_err-put_values-clause-part g c =
    at_exit c.from_residual-in_err-put_values.result (λ told.
    let head = then (c.in_ok-make_room.ensures.done told) (waits (g.K.Sink.taken c.make_room.new.out) c.push_head.ensures) in
    let all = spaced_whole c.args.row.now (values_left c.values-values.result) c.columns.result c.values-values.ensures c.columns.ensures in
    cut (codes "\n") (then_part head (restated_part all (c.in_err-put_values.ensures.part told))))

pub returns-clause-done : goal.returns-clause-done
returns-clause-done g c =
    on_ok_weaker c.write.result (λ done told.
    let head = then (c.in_ok-make_room.ensures.done told) (waits (g.K.Sink.taken c.make_room.new.out) c.push_head.ensures) in
    let all = spaced_whole c.args.row.now (values_left c.values-values.result) c.columns.result c.values-values.ensures c.columns.ensures in
    then (then head (restated all (c.in_ok-put_values.ensures.done told))) (done told)) c.write.ensures.done

pub returns-clause-part : goal.returns-clause-part
returns-clause-part g c =
    on_err_weaker c.write.result (λ part told.
    let head = then (c.in_ok-make_room.ensures.done told) (waits (g.K.Sink.taken c.make_room.new.out) c.push_head.ensures) in
    let all = spaced_whole c.args.row.now (values_left c.values-values.result) c.columns.result c.values-values.ensures c.columns.ensures in
    then_part (then head (restated all (c.in_ok-put_values.ensures.done told))) (part told)) c.write.ensures.part
