use Rattle.std.proofs.Common.{◌≤◌, ◌+◌, None, sym, subst, arith, ◌∙◌, ap}
use Rattle.btree_walk.proofs.CursorLemmas.{ready_made}
use Rattle.bench_loops.proofs.walks.walk_times.Goals as goal

pub walk-requires : goal.walk-requires
walk-requires g c =
    ready_made c.args.root None c.in-Ok-new.cursor c.in-Ok-new.ensures (g.S.PageSource.plain c.loop.source).count (g.S.PageSource.pins c.loop.source) c.in-Ok.seen
    (omega (arith, c.if-root-eq0.false)) (subst (λ k. c.args.root ≤ k) (sym c.loop.invariant.count) (omega (arith, c.if-pages-root.false)))
    (c.in-Ok.ensures.length ∙ ap (λ k. k + 1) (sym c.loop.invariant.count)) c.loop.invariant.pins
