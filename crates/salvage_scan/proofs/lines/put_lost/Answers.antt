use Rattle.std.proofs.Common.{◌∙◌, ◌++◌, ℤ, ap}
use Rattle.std.proofs.lemmas.Int.{to_z-of_z}
use mir.Syntax.{w64}
use Rattle.row_text.proofs.Moving.{at_exit, cut, then, waits}
use Rattle.salvage_scan.specs.Salvage.Line.{lost}
use Rattle.salvage_scan.specs.Text.{line_text}
use Rattle.salvage_scan.proofs.lines.put_lost.Goals as goal

pub returns-in_err-make_room-clause-part : goal.returns-in_err-make_room-clause-part
returns-in_err-make_room-clause-part g c =
    at_exit c.from_residual.result (λ told. cut (line_text (lost c.args.n c.args.rowid)) (c.in_err-make_room.ensures.part told))

pub returns-clause-done : goal.returns-clause-done
returns-clause-done g c = λ told.
    then (c.in_ok-make_room.ensures.done told) (waits (g.K.Sink.taken c.make_room.new.out) (c.push_lost.ensures ∙ ap (λ (z : ℤ). c.make_room.new.self ++ line_text (lost c.args.n z)) (to_z-of_z w64 c.args.rowid c.ranges.rowid)))
