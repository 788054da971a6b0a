use Rattle.std.proofs.Common.{None, arith, ap, ◌+◌, ◌∙◌}
use Rattle.btree_walk.proofs.CursorLemmas.{ready_made}
use Rattle.bench_loops.proofs.loads.reading.read_back.Goals as goal

pub add_up-requires : goal.add_up-requires
add_up-requires c =
    ready_made c.args.root None c.in-Ok-new-2.cursor c.in-Ok-new-2.ensures _ _ c.in-Ok-new.seen
    (omega (arith, c.if-root-eq0.false)) (omega (arith, c.if-pages-root.false, c.pages-pages.ensures)) (c.in-Ok-new.ensures.length ∙ ap (λ k. k + 1) c.pages-pages.ensures) c.in-Ok.ensures.unpinned
