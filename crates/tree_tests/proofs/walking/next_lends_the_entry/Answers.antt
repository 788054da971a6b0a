use Rattle.std.proofs.Common.{◌+◌, None, ap, arith, ◌∙◌}
use Rattle.btree_walk.proofs.CursorLemmas.{ready_made}
use Rattle.tree_tests.proofs.walking.next_lends_the_entry.Goals as goal

pub next-requires : goal.next-requires
next-requires g c =
    record {
      ready = ready_made 2 None c.in-Ok-new-2.cursor c.in-Ok-new-2.ensures _ _ c.in-Ok-new.seen (omega arith)
          (let count = c.pages-pages.ensures in omega (arith, c.if-pages-lt2.false, count))
          (c.in-Ok-new.ensures.length ∙ ap (λ k. k + 1) c.pages-pages.ensures) c.in-Ok.ensures.unpinned;
    }
