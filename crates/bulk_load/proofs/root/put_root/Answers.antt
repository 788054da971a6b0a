use Rattle.std.proofs.Common.{subst}
use Rattle.db_format.specs.Pages.{Pages}
use Rattle.btree_page.specs.Kind.{family_of}
use Rattle.bulk_load.specs.Own.{Covers, only}
use Rattle.bulk_load.proofs.PutLemmas.{covers_taken}
use Rattle.bulk_load.proofs.EndLemmas.{child_is, closed_tree}
use Rattle.bulk_load.proofs.root.put_root.Goals as goal

pub returns-in-Ok-clause-tree : goal.returns-in-Ok-clause-tree
returns-in-Ok-clause-tree g c start well own covers cells h last pushed low up has st =
    let old : Pages = only own (g.P.PageOut.pages c.args.out.now) in
    let new : Pages = only own (g.P.PageOut.pages c.close.new.out) in
    child_is new (family_of c.args.kind) h c.in-Ok.root last pushed low
    (closed_tree old new c.args.page.now c.args.kind old.usable c.args.right c.in-Ok.root cells h last pushed (c.in-Ok.ensures.closed start well own (covers_taken _ own _ _ covers)) up has low st)

pub returns-then-at_one-clause-tree : goal.returns-then-at_one-clause-tree
returns-then-at_one-clause-tree g c start well own covers cells h last pushed low up has st =
    let p = g.P.PageOut.pages in
    c.in_ok-put_at_one.ensures.tree start well own (subst (λ first. Covers first own (p c.args.out.now) (p c.put_at_one.new.out)) c.if-at_one.true covers) cells h last pushed low up has st
