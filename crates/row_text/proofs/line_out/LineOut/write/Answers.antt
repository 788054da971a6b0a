use Rattle.std.proofs.Common.{◌≡◌, length, sym, rules}
use Rattle.std.proofs.lemmas.Bool.{eqb-true}
use Rattle.std.proofs.lemmas.List.{nil_from_length}
use Rattle.db_format.proofs.Escapes.{text_split}
use Rattle.row_text.proofs.Moving.{at_exit, completes_all, completes_more, completes_part, cut, then, waits}
use Rattle.row_text.proofs.line_out.LineOut.write.Goals as goal

pub returns-in_err-make_room-clause-part : goal.returns-in_err-make_room-clause-part
returns-in_err-make_room-clause-part g c =
    at_exit c.from_residual.result (λ told.
    completes_part c.loop-left.left.now c.args.text.now (g.K.Sink.taken c.args.out.now) c.args.self.now (g.K.Sink.taken c.loop-left.out) c.loop-left.self _
    (c.loop-left.invariant.rest told) (cut c.loop-left.left.now (c.in_err-make_room.ensures.part told)))

pub loop-left-preserved : goal.loop-left-preserved
loop-left-preserved g c =
    record {
      rest = λ told.
          completes_more c.loop-left.left.now c.split_at.result.0.now c.split_at.result.1.now c.args.text.now
          (g.K.Sink.taken c.args.out.now) c.args.self.now (g.K.Sink.taken c.loop-left.out) c.loop-left.self (g.K.Sink.taken c.make_room.new.out) c.push.new.self
          (text_split _ _ _ _ c.split_at.ensures.front c.split_at.ensures.back) (c.loop-left.invariant.rest told)
          (then (c.in_ok-make_room.ensures.done told) (waits (g.K.Sink.taken c.make_room.new.out) c.push.ensures));
      later = search rules;
    }

pub returns-clause-done : goal.returns-clause-done
returns-clause-done g c = λ told.
    let empty : length c.loop-left.left.now ≡ 0 = eqb-true _ 0 (sym c.loop-left-test.ensures) in
    completes_all c.loop-left.left.now c.args.text.now (g.K.Sink.taken c.args.out.now) c.args.self.now (g.K.Sink.taken c.loop-left.out) c.loop-left.self
    (nil_from_length c.loop-left.left.now empty) (c.loop-left.invariant.rest told)
