use Rattle.std.proofs.Common.{Some, arith, ap, ◌+◌, ◌∙◌}
use Rattle.btree_walk.proofs.CursorLemmas.{ready_made}
use Rattle.load_tests.proofs.reading.read_back.Goals as goal

pub walk-requires : goal.walk-requires
walk-requires g c =
    ready_made c.args.root (Some c.args.family) c.in-Ok-of_family.cursor c.in-Ok-of_family.ensures (g.S.PageSource.plain c.args.source.now).count (g.S.PageSource.pins c.args.source.now) c.in-Ok.seen
    (omega (arith, c.if-root-eq0.false)) (omega (arith, c.if-pages-root.false, c.pages-pages.ensures)) (c.in-Ok.ensures.length ∙ ap (λ k. k + 1) c.pages-pages.ensures) c.requires
