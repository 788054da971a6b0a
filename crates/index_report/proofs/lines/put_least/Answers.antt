use Rattle.std.proofs.Common.{◌≡◌, ◌++◌, rules}
use Rattle.std.specs.Fmt.{signed_decimal}
use Rattle.row_text.proofs.Moving.{at_exit, cut, then, waits}
use Rattle.index_report.specs.Lines.{least_text}
use Rattle.index_report.proofs.lines.put_least.Goals as goal

pub returns-in_err-make_room-in-Some-clause-part : goal.returns-in_err-make_room-in-Some-clause-part
returns-in_err-make_room-in-Some-clause-part g c =
    at_exit c.from_residual.result (λ told. cut (least_text c.args.least) (c.in_err-make_room-in-Some.ensures.part told))

pub returns-in_ok-make_room-in-Some-clause-done : goal.returns-in_ok-make_room-in-Some-clause-done
returns-in_ok-make_room-in-Some-clause-done g c = λ told.
    let number : c.push_signed.new.self ≡ c.push.new.self ++ signed_decimal c.in-Some.rowid = search rules in
    rw c.in-Some.is (then (then (c.in_ok-make_room-in-Some.ensures.done told) (waits (g.K.Sink.taken c.make_room.new.out) c.push.ensures)) (waits (g.K.Sink.taken c.make_room.new.out) number))
