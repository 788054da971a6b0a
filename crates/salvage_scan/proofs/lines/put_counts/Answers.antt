use Rattle.row_text.proofs.Moving.{at_exit, cut, then, waits}
use Rattle.salvage_scan.specs.Text.{counts_line}
use Rattle.salvage_scan.proofs.lines.put_counts.Goals as goal

pub returns-in_err-make_room-clause-part : goal.returns-in_err-make_room-clause-part
returns-in_err-make_room-clause-part g c =
    at_exit c.from_residual.result (λ told. cut (counts_line (record { rows = c.args.rows; lost_rows = c.args.lost; refused_pages = c.args.refused })) (c.in_err-make_room.ensures.part told))

pub returns-clause-done : goal.returns-clause-done
returns-clause-done g c = λ told.
    then (c.in_ok-make_room.ensures.done told) (waits (g.K.Sink.taken c.make_room.new.out) c.push_counts.ensures)
