use Rattle.std.proofs.Common.{◌≡◌, ◌∙◌, ◌++◌, List, ℕ, ℤ, ap, append_assoc}
use Rattle.std.specs.Prelude.{codes, decimal}
use Rattle.std.specs.Fmt.{signed_decimal}
use Rattle.std.proofs.lemmas.Result.{on_ok_weaker, on_err_weaker}
use Rattle.std.proofs.lemmas.Int.{to_z-of_z}
use mir.Syntax.{w64}
use Rattle.db_format.specs.Values.{values_left}
use Rattle.db_format.specs.Text.{spaced}
use Rattle.row_text.proofs.Moving.{at_exit, cut, restated, restated_part, then, then_part, waits}
use Rattle.row_text.proofs.ValueSteps.{spaced_whole}
use Rattle.salvage_scan.specs.Salvage.Line.{row}
use Rattle.salvage_scan.specs.Text.{line_text}
use Rattle.salvage_scan.proofs.lines.put_row.Goals as goal

regroup : (a b d e f : List ℕ) → (a ++ b ++ d ++ e) ++ f ≡ a ++ b ++ d ++ e ++ f
regroup a b d e f = simp append_assoc

pub returns-in_err-make_room-clause-part : goal.returns-in_err-make_room-clause-part
returns-in_err-make_room-clause-part g c =
    at_exit c.from_residual.result (λ told. cut (line_text (row c.args.n c.args.rowid c.args.values.now)) (c.in_err-make_room.ensures.part told))

pub returns-in_err-put_values-clause-part : goal.returns-in_err-put_values-clause-part
returns-in_err-put_values-clause-part g c =
    at_exit c.from_residual-in_err-put_values.result (λ told.
    let named = ap (λ (z : ℤ). c.make_room.new.self ++ (codes "row " ++ decimal c.args.n ++ codes " " ++ signed_decimal z)) (to_z-of_z w64 c.args.rowid c.ranges.rowid) in
    let head = then (c.in_ok-make_room.ensures.done told) (waits (g.K.Sink.taken c.make_room.new.out) (c.push_place.ensures.text ∙ named)) in
    let all = spaced_whole c.args.values.now (values_left c.values-left.result) c.columns.result c.values-left.ensures c.columns.ensures in
    restated_part (ap (λ (l : List ℕ). l ++ codes "\n") (regroup (codes "row ") (decimal c.args.n) (codes " ") (signed_decimal c.args.rowid) (spaced c.args.values.now)))
    (cut (codes "\n") (then_part head (restated_part all (c.in_err-put_values.ensures.part told)))))

pub returns-clause-done : goal.returns-clause-done
returns-clause-done g c =
    on_ok_weaker c.write.result (λ done told.
    let named = ap (λ (z : ℤ). c.make_room.new.self ++ (codes "row " ++ decimal c.args.n ++ codes " " ++ signed_decimal z)) (to_z-of_z w64 c.args.rowid c.ranges.rowid) in
    let head = then (c.in_ok-make_room.ensures.done told) (waits (g.K.Sink.taken c.make_room.new.out) (c.push_place.ensures.text ∙ named)) in
    let all = spaced_whole c.args.values.now (values_left c.values-left.result) c.columns.result c.values-left.ensures c.columns.ensures in
    restated (ap (λ (l : List ℕ). l ++ codes "\n") (regroup (codes "row ") (decimal c.args.n) (codes " ") (signed_decimal c.args.rowid) (spaced c.args.values.now)))
    (then (then head (restated all (c.in_ok-put_values.ensures.done told))) (done told))) c.write.ensures.done

pub returns-clause-part : goal.returns-clause-part
returns-clause-part g c =
    on_err_weaker c.write.result (λ part told.
    let named = ap (λ (z : ℤ). c.make_room.new.self ++ (codes "row " ++ decimal c.args.n ++ codes " " ++ signed_decimal z)) (to_z-of_z w64 c.args.rowid c.ranges.rowid) in
    let head = then (c.in_ok-make_room.ensures.done told) (waits (g.K.Sink.taken c.make_room.new.out) (c.push_place.ensures.text ∙ named)) in
    let all = spaced_whole c.args.values.now (values_left c.values-left.result) c.columns.result c.values-left.ensures c.columns.ensures in
    restated_part (ap (λ (l : List ℕ). l ++ codes "\n") (regroup (codes "row ") (decimal c.args.n) (codes " ") (signed_decimal c.args.rowid) (spaced c.args.values.now)))
    (then_part (then head (restated all (c.in_ok-put_values.ensures.done told))) (part told))) c.write.ensures.part
