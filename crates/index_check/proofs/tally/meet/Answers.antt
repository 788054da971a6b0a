use Rattle.std.proofs.Common.{◌≡◌, Some, slice_index_or, rules, ap, sym, ◌∙◌}
use mir.Val.{to_z, of_z, SFits}
use mir.Syntax.{w64}
use Rattle.std.proofs.lemmas.Int.{to_z-of_z}
use Rattle.index_check.specs.Agree.{is_of}
use Rattle.db_format.specs.Seen.{marked}
use Rattle.index_check.proofs.PlaceLemmas.{elsewhere, met_now, present}
use Rattle.index_check.proofs.tally.meet.Goals as goal

pub returns-in-Some-clause-row : goal.returns-in-Some-clause-row
returns-in-Some-clause-row c =
    let fits : SFits w64 c.args.rowid = search rules in
    let back : to_z w64 (of_z w64 c.args.rowid) ≡ c.args.rowid = to_z-of_z w64 c.args.rowid fits in
    sym (present c.args.rowids.now c.args.rowid c.in-Some.at c.in-Some.ensures.0 (λ d. c.in-Some.ensures.1 d ∙ back))

pub returns-in-Some-clause-marks : goal.returns-in-Some-clause-marks
returns-in-Some-clause-marks c k d l =
    let fits : SFits w64 c.args.rowid = search rules in
    let back : to_z w64 (of_z w64 c.args.rowid) ≡ c.args.rowid = to_z-of_z w64 c.args.rowid fits in
    ap (λ t. t k) c.mark.ensures.after
    ∙ met_now _ (is_of (slice_index_or c.args.rowids.now k d) (Some c.args.rowid)) (marked c.args.met.now k)
    (elsewhere c.args.rowids.now c.args.rowid c.in-Some.at k d c.requires.rising c.in-Some.ensures.0 l (λ e. c.in-Some.ensures.1 e ∙ back))
