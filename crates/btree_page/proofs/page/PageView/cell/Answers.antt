use Rattle.std.proofs.Common.{◌≡◌, ◌∙◌, ◌<◌, true, false, None, sym, ap, length, slice_get, arith}
use Rattle.std.specs.Prelude.{is_none}
use Rattle.std.specs.Option.{option_map}
use Rattle.btree_page.specs.Shown.{cell_shown}
use Rattle.btree_page.specs.Page.{cell_at, cell_count}
use Rattle.btree_page.proofs.PageLemmas.{count-cells, cell-node, is_there}
use Rattle.btree_page.proofs.page.PageView.cell.Goals as goal

pub cell-requires : goal.cell-requires
cell-requires c =
    let array = c.self.inside.array in
    let size = count-cells array.kind array.bytes.now array.header c.self.invariant in
    let view = ap (λ node. length node.cells) c.self.view_is in
    omega (arith, size, view, array.counted, c.requires)

pub unreachable-requires : goal.unreachable-requires
unreachable-requires c =
    let array = c.self.inside.array in
    let size = count-cells array.kind array.bytes.now array.header c.self.invariant in
    let view = ap (λ node. length node.cells) c.self.view_is in
    let below : c.args.index < cell_count array.bytes.now array.header = omega (arith, size, view, c.requires) in
    let there : is_none (cell_at array.kind array.bytes.now array.header c.args.index) ≡ false =
    is_there array.kind array.bytes.now array.header c.self.invariant c.args.index below in
    let lost : option_map cell_shown c.cell.result ≡ None = ap (option_map cell_shown) c.in-None.is in
    let gone : true ≡ false = ap is_none (sym (sym c.cell.ensures.read ∙ lost)) ∙ there in
    absurd (cc gone)

pub returns-clause-cell : goal.returns-clause-cell
returns-clause-cell c =
    let array = c.self.inside.array in
    let size = count-cells array.kind array.bytes.now array.header c.self.invariant in
    let view = ap (λ node. length node.cells) c.self.view_is in
    let below : c.args.index < cell_count array.bytes.now array.header = omega (arith, size, view, c.requires) in
    ap (λ node. slice_get node.cells c.args.index) (sym c.self.view_is)
    ∙ cell-node array.kind array.bytes.now array.header c.self.invariant c.args.index below
    ∙ sym c.cell.ensures.read ∙ ap (option_map cell_shown) c.in-Some.is
