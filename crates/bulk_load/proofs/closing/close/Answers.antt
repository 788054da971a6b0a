use Rattle.std.proofs.Common.{ℕ, List, ap, sym, ◌∙◌}
use Rattle.std.proofs.lemmas.Result.{IfOk-weaker}
use Rattle.db_format.specs.Pages.{Pages}
use Rattle.btree_page.specs.Kind.{family_of}
use Rattle.btree_page.specs.Page.{Node, read_node}
use Rattle.load_model.proofs.StandsLemmas.{close_stands}
use Rattle.page_build.specs.Written.{right_child}
use Rattle.bulk_load.specs.Out.{IsPutAs}
use Rattle.bulk_load.specs.Own.{only}
use Rattle.bulk_load.proofs.CloseLemmas.{not_first}
use Rattle.bulk_load.proofs.closing.close.Goals as goal

pub returns-clause-closed : goal.returns-clause-closed
returns-clause-closed g c start well own covers cells h front back last pushed has stands =
    let old : Pages = only own (g.P.PageOut.pages c.args.out.now) in
    let new : Pages = only own (g.P.PageOut.pages c.put_next.new.out) in
    let page = c.args.page.now in
    let bytes : List ℕ = c.finish-plain.result.now in
    let one : Node = record { kind = page.kind; cells = cells; right = right_child page.kind c.args.right } in
    IfOk-weaker c.put_next.result _ _ (λ m (is : IsPutAs old new m bytes).
    close_stands old new (family_of page.kind) last front back pushed h m one is.put is.range
    (ap (read_node (family_of page.kind) m) is.here
    ∙ c.finish-plain.ensures.opens cells m (c.requires.plain ∙ sym (not_first m is.low)) has.written)
    stands)
    (c.put_next.ensures.put start well own covers)
