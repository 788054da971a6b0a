use Rattle.std.proofs.Common.{◌≡◌, ℕ, List, true, ap, ◌∙◌}
use Rattle.db_format.specs.Pages.{Pages}
use Rattle.btree_page.specs.Kind.{family_of}
use Rattle.btree_page.specs.Page.{read_node}
use Rattle.bulk_load.specs.Own.{only}
use Rattle.bulk_load.proofs.PutLemmas.{first_put, on_ok_both}
use Rattle.bulk_load.proofs.root.put_first.Goals as goal

pub returns-clause-root : goal.returns-clause-root
returns-clause-root g c start well own covers cells has =
    let p = g.P.PageOut in
    let old : Pages = only own (p.pages c.args.out.now) in
    let new : Pages = only own (p.pages c.put.new.self) in
    let page = c.args.page.now in
    let bytes : List ℕ = c.finish-plain.result.now in
    on_ok_both c.put.result (λ (put : (p.pages c.put.new.self).accepts 1 ≡ true) (here : new.page 1 ≡ bytes). record {
      put = first_put p.pages p.limit p.faults p.well c.args.out.now c.put.new.self c.put.ensures.marks c.requires.free own covers (c.put.ensures.told start well) put;
      reads = ap (read_node (family_of page.kind) 1) here ∙ c.finish-plain.ensures.opens cells 1 c.requires.place has.written;
    }) c.put.ensures.put (c.put.ensures.page start well)
