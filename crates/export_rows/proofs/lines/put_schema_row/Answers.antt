use Rattle.std.proofs.Common.{◌≡◌, ◌++◌, take, drop, rules}
use Rattle.std.specs.Fmt.{signed_decimal}
use Rattle.btree_model.specs.Content.{without_fourth}
use Rattle.std.specs.Prelude.{codes}
use Rattle.std.proofs.lemmas.Result.{on_ok_weaker, on_err_weaker}
use Rattle.db_format.specs.Values.{values_left}
use Rattle.row_text.proofs.Moving.{at_exit, cut, restated, restated_part, then, then_part, waits}
use Rattle.export_rows.specs.Lines.{schema_line, kind_text}
use Rattle.db_format.specs.Text.{spaced}
use Rattle.row_text.proofs.ValueSteps.{passed_one}
use Rattle.export_rows.proofs.ColumnSteps.{spaced_before, spaced_behind}
use Rattle.export_rows.proofs.lines.put_schema_row.Goals as goal

pub returns-in_err-make_room-clause-part : goal.returns-in_err-make_room-clause-part
returns-in_err-make_room-clause-part g c =
    at_exit c.from_residual.result (λ told.
    cut (schema_line c.args.rowid (without_fourth c.args.row.now) c.args.family) (c.in_err-make_room.ensures.part told))

pub returns-in_err-put_values-clause-part : goal.returns-in_err-put_values-clause-part
returns-in_err-put_values-clause-part g c =
    at_exit c.from_residual-in_err-put_values.result (λ told.
    let number : c.push_signed.new.self ≡ c.push.new.self ++ signed_decimal c.args.rowid = search rules in
    let head = then (then (c.in_ok-make_room.ensures.done told) (waits (g.K.Sink.taken c.make_room.new.out) c.push.ensures)) (waits (g.K.Sink.taken c.make_room.new.out) number) in
    let row = c.args.row.now in
    let before = spaced_before row (values_left c.values-values.result) c.values-values.ensures in
    let last = spaced (take 1 (drop 3 (without_fourth row))) in
    cut (codes "\n") (cut last (cut (kind_text c.args.family) (then_part head (restated_part before (c.in_err-put_values.ensures.part told))))))

pub returns-in_err-write-clause-part : goal.returns-in_err-write-clause-part
returns-in_err-write-clause-part g c =
    at_exit c.from_residual-in_err-write.result (λ told.
    let number : c.push_signed.new.self ≡ c.push.new.self ++ signed_decimal c.args.rowid = search rules in
    let head = then (then (c.in_ok-make_room.ensures.done told) (waits (g.K.Sink.taken c.make_room.new.out) c.push.ensures)) (waits (g.K.Sink.taken c.make_room.new.out) number) in
    let row = c.args.row.now in
    let before = spaced_before row (values_left c.values-values.result) c.values-values.ensures in
    let last = spaced (take 1 (drop 3 (without_fourth row))) in
    cut (codes "\n") (cut last (then_part (then head (restated before (c.in_ok-put_values.ensures.done told))) (restated_part c.kind_text.ensures (c.in_err-write.ensures.part told)))))

pub returns-in_err-put_values-2-clause-part : goal.returns-in_err-put_values-2-clause-part
returns-in_err-put_values-2-clause-part g c =
    at_exit c.from_residual-in_err-put_values-2.result (λ told.
    let number : c.push_signed.new.self ≡ c.push.new.self ++ signed_decimal c.args.rowid = search rules in
    let head = then (then (c.in_ok-make_room.ensures.done told) (waits (g.K.Sink.taken c.make_room.new.out) c.push.ensures)) (waits (g.K.Sink.taken c.make_room.new.out) number) in
    let row = c.args.row.now in
    let before = spaced_before row (values_left c.values-values.result) c.values-values.ensures in
    let behind = spaced_behind row (values_left c.values-values.result) (values_left c.put_values.new.values) (values_left c.next-root.new.self) c.values-values.ensures
    (c.in_ok-put_values.ensures.later) (passed_one c.put_values.new.values c.next-root.new.self c.next-root.result c.next-root.ensures.steps) in
    cut (codes "\n") (then_part (then (then head (restated before (c.in_ok-put_values.ensures.done told))) (restated c.kind_text.ensures (c.in_ok-write.ensures.done told))) (restated_part behind (c.in_err-put_values-2.ensures.part told))))

pub returns-clause-done : goal.returns-clause-done
returns-clause-done g c =
    on_ok_weaker c.write-2.result (λ done told.
    let number : c.push_signed.new.self ≡ c.push.new.self ++ signed_decimal c.args.rowid = search rules in
    let head = then (then (c.in_ok-make_room.ensures.done told) (waits (g.K.Sink.taken c.make_room.new.out) c.push.ensures)) (waits (g.K.Sink.taken c.make_room.new.out) number) in
    let row = c.args.row.now in
    let before = spaced_before row (values_left c.values-values.result) c.values-values.ensures in
    let behind = spaced_behind row (values_left c.values-values.result) (values_left c.put_values.new.values) (values_left c.next-root.new.self) c.values-values.ensures
    (c.in_ok-put_values.ensures.later) (passed_one c.put_values.new.values c.next-root.new.self c.next-root.result c.next-root.ensures.steps) in
    then (then (then (then head (restated before (c.in_ok-put_values.ensures.done told))) (restated c.kind_text.ensures (c.in_ok-write.ensures.done told))) (restated behind (c.in_ok-put_values-2.ensures.done told))) (done told)) c.write-2.ensures.done

pub returns-clause-part : goal.returns-clause-part
returns-clause-part g c =
    on_err_weaker c.write-2.result (λ part told.
    let number : c.push_signed.new.self ≡ c.push.new.self ++ signed_decimal c.args.rowid = search rules in
    let head = then (then (c.in_ok-make_room.ensures.done told) (waits (g.K.Sink.taken c.make_room.new.out) c.push.ensures)) (waits (g.K.Sink.taken c.make_room.new.out) number) in
    let row = c.args.row.now in
    let before = spaced_before row (values_left c.values-values.result) c.values-values.ensures in
    let behind = spaced_behind row (values_left c.values-values.result) (values_left c.put_values.new.values) (values_left c.next-root.new.self) c.values-values.ensures
    (c.in_ok-put_values.ensures.later) (passed_one c.put_values.new.values c.next-root.new.self c.next-root.result c.next-root.ensures.steps) in
    then_part (then (then (then head (restated before (c.in_ok-put_values.ensures.done told))) (restated c.kind_text.ensures (c.in_ok-write.ensures.done told))) (restated behind (c.in_ok-put_values-2.ensures.done told))) (part told)) c.write-2.ensures.part
