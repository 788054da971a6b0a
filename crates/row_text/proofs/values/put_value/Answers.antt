use Rattle.std.specs.Prelude.{codes}
use Rattle.std.proofs.lemmas.Result.{on_ok_weaker, on_err_weaker}
use Rattle.db_format.specs.Value.{datum_of}
use Rattle.db_format.specs.Text.{value_text}
use Rattle.row_text.proofs.Moving.{at_exit, cut, then, then_part, waits}
use Rattle.row_text.proofs.values.put_value.Goals as goal

pub returns-in_err-make_room-clause-part : goal.returns-in_err-make_room-clause-part
returns-in_err-make_room-clause-part g c =
    at_exit c.from_residual.result (λ told. cut (value_text (datum_of c.args.value.now)) (c.in_err-make_room.ensures.part told))

pub returns-in_err-write_escaped-in-Text-clause-part : goal.returns-in_err-write_escaped-in-Text-clause-part
returns-in_err-write_escaped-in-Text-clause-part g c =
    at_exit c.from_residual-in_err-write_escaped-in-Text.result (λ told. rw c.in-Text.is (
    cut (codes "'") (then_part (then (c.in_ok-make_room.ensures.done told) (waits (g.K.Sink.taken c.make_room.new.out) c.push-in-Text.ensures))
    (c.in_err-write_escaped-in-Text.ensures.part told))))

pub returns-in_ok-write_escaped-in-Text-clause-done : goal.returns-in_ok-write_escaped-in-Text-clause-done
returns-in_ok-write_escaped-in-Text-clause-done g c = rw c.in-Text.is (
    on_ok_weaker c.write.result (λ done told.
    then (then (then (c.in_ok-make_room.ensures.done told) (waits (g.K.Sink.taken c.make_room.new.out) c.push-in-Text.ensures))
    (c.in_ok-write_escaped-in-Text.ensures.done told)) (done told)) c.write.ensures.done)

pub returns-in_ok-write_escaped-in-Text-clause-part : goal.returns-in_ok-write_escaped-in-Text-clause-part
returns-in_ok-write_escaped-in-Text-clause-part g c = rw c.in-Text.is (
    on_err_weaker c.write.result (λ part told.
    then_part (then (then (c.in_ok-make_room.ensures.done told) (waits (g.K.Sink.taken c.make_room.new.out) c.push-in-Text.ensures))
    (c.in_ok-write_escaped-in-Text.ensures.done told)) (part told)) c.write.ensures.part)

pub returns-in_err-write_hex-in-Blob-clause-part : goal.returns-in_err-write_hex-in-Blob-clause-part
returns-in_err-write_hex-in-Blob-clause-part g c =
    at_exit c.from_residual-in_err-write_hex-in-Blob.result (λ told. rw c.in-Blob.is (
    cut (codes "'") (then_part (then (c.in_ok-make_room.ensures.done told) (waits (g.K.Sink.taken c.make_room.new.out) c.push-in-Blob.ensures))
    (c.in_err-write_hex-in-Blob.ensures.part told))))

pub returns-in_ok-write_hex-in-Blob-clause-done : goal.returns-in_ok-write_hex-in-Blob-clause-done
returns-in_ok-write_hex-in-Blob-clause-done g c = rw c.in-Blob.is (
    on_ok_weaker c.write-in-Blob.result (λ done told.
    then (then (then (c.in_ok-make_room.ensures.done told) (waits (g.K.Sink.taken c.make_room.new.out) c.push-in-Blob.ensures))
    (c.in_ok-write_hex-in-Blob.ensures.done told)) (done told)) c.write-in-Blob.ensures.done)

pub returns-in_ok-write_hex-in-Blob-clause-part : goal.returns-in_ok-write_hex-in-Blob-clause-part
returns-in_ok-write_hex-in-Blob-clause-part g c = rw c.in-Blob.is (
    on_err_weaker c.write-in-Blob.result (λ part told.
    then_part (then (then (c.in_ok-make_room.ensures.done told) (waits (g.K.Sink.taken c.make_room.new.out) c.push-in-Blob.ensures))
    (c.in_ok-write_hex-in-Blob.ensures.done told)) (part told)) c.write-in-Blob.ensures.part)
