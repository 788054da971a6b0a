use Rattle.std.proofs.Common.{◌+◌, Some, None, ap, arith, ◌∙◌}
use Rattle.btree_walk.proofs.CursorLemmas.{ready_made}
use Rattle.tree_tests.proofs.walking.walks.Goals as goal

pub gives_all-requires : goal.gives_all-requires
gives_all-requires c =
    ready_made c.args.tree.0 (Some c.in-Some.family) c.in-Ok-of_family.cursor c.in-Ok-of_family.ensures _ _ c.mark.new.self
    (omega (arith, c.if-root-eq0.false)) (let count = c.pages-pages.ensures in omega (arith, c.if-pages-root.false, count))
    (c.mark.ensures.length ∙ c.in-Ok-new.ensures.length ∙ ap (λ k. k + 1) c.pages-pages.ensures) c.in-Ok.ensures.unpinned

pub gives_all-requires-in-None : goal.gives_all-requires-in-None
gives_all-requires-in-None c =
    ready_made c.args.tree.0 None c.in-Ok-new-2.cursor c.in-Ok-new-2.ensures _ _ c.mark.new.self
    (omega (arith, c.if-root-eq0.false)) (let count = c.pages-pages.ensures in omega (arith, c.if-pages-root.false, count))
    (c.mark.ensures.length ∙ c.in-Ok-new.ensures.length ∙ ap (λ k. k + 1) c.pages-pages.ensures) c.in-Ok.ensures.unpinned
