use Rattle.std.proofs.Common.{◌∙◌, sym, ap, length}
use Rattle.btree_page.proofs.PageLemmas.{count-cells}
use Rattle.btree_page.proofs.page.PageView.count.Goals as goal

pub returns : goal.returns
returns c =
    let array = c.self.inside.array in
    c.count.ensures ∙ array.counted ∙ sym (count-cells array.kind array.bytes.now array.header c.self.invariant)
    ∙ ap (λ node. length node.cells) c.self.view_is
