use Rattle.std.proofs.Common.{◌≤◌, ◌+◌, ◌^◌, Err, arith, rules, ap, sym, ◌∙◌}
use Rattle.std.proofs.Math.Path.{subst₂}
use Rattle.bulk_load.proofs.CauseLemmas.{in_order}
use Rattle.fresh_file.specs.declared.state.FreshState.{FreshState}
use Rattle.fresh_file.specs.State.{IsWellAs, fresh_pages}
use Rattle.make_job.proofs.writing.fill_state.Goals as goal

pub fill-requires : goal.fill-requires
fill-requires g c = record { free = ap (λ (s : FreshState). s.has_first) c.out-out.ensures.same.0 ∙ c.requires.none.1 1 }

pub returns-in-Ok-clause-made : goal.returns-in-Ok-clause-made
returns-in-Ok-clause-made g c start was head whole free headed =
    let side = g.T.Side in
    let out = c.out-out.result in
    let well = subst₂ (λ state t. IsWellAs state start side.tells side.draws_tell (side.fresh t) (side.drawn t)) (sym c.out-out.ensures.same.0) (sym c.out-out.ensures.same.1) was in
    c.in-Ok.ensures.made start well head whole free (search (rules, headed))

pub returns-in-Ok-clause-tight : goal.returns-in-Ok-clause-tight
returns-in-Ok-clause-tight g c start was head whole free headed =
    let side = g.T.Side in
    let well = subst₂ (λ state t. IsWellAs state start side.tells side.draws_tell (side.fresh t) (side.drawn t)) (sym c.out-out.ensures.same.0) (sym c.out-out.ensures.same.1) was in
    let none = ap (λ (s : FreshState). s.taken + 1) c.out-out.ensures.same.0 ∙ c.requires.none.0 in
    c.in-Ok.ensures.tight start well none head whole free (search (rules, headed))

pub returns-in-Ok-clause-well : goal.returns-in-Ok-clause-well
returns-in-Ok-clause-well g c start was =
    let side = g.T.Side in
    let out = c.out-out.result in
    let well = subst₂ (λ state t. IsWellAs state start side.tells side.draws_tell (side.fresh t) (side.drawn t)) (sym c.out-out.ensures.same.0) (sym c.out-out.ensures.same.1) was in
    let told = c.in-Ok.ensures.follows.told start well in
    search (rules, told)

pub load_error-requires-clause-in_order : goal.load_error-requires-clause-in_order
load_error-requires-clause-in_order g c is =
    let side = g.T.Side in
    in_order (λ s. fresh_pages s.state.now (side.fresh s.side.now)) (λ s. s.state.now.limit) (λ s. record { disk = side.disk_faults s.side.now; entropy = side.draw_faults s.side.now })
    c.out-out.result c.fill.new.out c.in-Err.error c.in-Err.ensures.cause is

-- so deep a tree has more pages than a file may have
pub load_error-requires-clause-shallow : goal.load_error-requires-clause-shallow
load_error-requires-clause-shallow g c is =
    let state : FreshState = c.fill.new.out.state.now in
    let many : 2 ^ 28 ≤ state.taken + 1 = c.in-Err.ensures.deep (ap Err is) in
    absurd (omega (arith, many, state.within, state.limit_small))
