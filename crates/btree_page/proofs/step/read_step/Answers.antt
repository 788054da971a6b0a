use Rattle.std.proofs.Common.{◌≡◌, ◌∙◌, ◌<◌, ◌≤◌, ◌+◌, ◌*◌, ◌/◌, ◌==◌, true, false, cond, Some, None, sym, ap, arith, slice_get}
use Rattle.std.specs.Prelude.{is_none}
use Rattle.std.specs.Option.{option_map}
use Rattle.db_format.specs.Bytes.{u32_at}
use Rattle.btree_page.specs.Kind.{is_interior}
use Rattle.btree_page.specs.Page.{cell_at, cell_count}
use Rattle.btree_page.specs.Shown.{cell_shown}
use Rattle.btree_page.specs.Step.{cell_index, cell_step, child, is_second, steps}
use Rattle.btree_page.proofs.PageLemmas.{is_there, node_is, whole}
use Rattle.btree_page.proofs.NodeLemmas.{node-cell, node-end, node-right}
use Rattle.btree_page.proofs.step.read_step.Goals as goal

pub returns-in-Some-clause-step : goal.returns-in-Some-clause-step
returns-in-Some-clause-step c page reads =
    let array = c.in_ok-array.array in
    let place = c.in_ok-array.ensures.place in
    let all = whole c.args.n c.args.plain.now array.bytes.now array.header array.kind place.0 place.1 c.in_ok-array.ensures.kind array.inside page reads in
    let interior : c.is_interior-interior.result ≡ is_interior array.kind = c.is_interior-interior.ensures ∙ ap is_interior c.kind.ensures in
    let at : c.cell_index-at.result ≡ cell_index (is_interior array.kind) c.args.index =
    c.cell_index-at.ensures ∙ ap (λ i. cell_index i c.args.index) interior in
    let there : cell_at array.kind array.bytes.now array.header (cell_index (is_interior array.kind) c.args.index) ≡ Some (cell_shown c.in-Some.cell) =
    ap (cell_at array.kind array.bytes.now array.header) (sym at) ∙ sym c.cell.ensures.read ∙ ap (option_map cell_shown) c.in-Some.is in
    let below : cell_index (is_interior array.kind) c.args.index < cell_count array.bytes.now array.header = omega (arith, array.counted, at) in
    ap (λ node. slice_get (steps node.cells node.right) c.args.index)
    (sym (node_is c.args.n c.args.plain.now array.bytes.now array.header array.kind place.0 place.1 c.in_ok-array.ensures.kind array.inside page reads))
    ∙ node-cell array.kind array.bytes.now array.header all c.args.index (cell_shown c.in-Some.cell) below there
    ∙ ap (λ second. Some (cell_step (cell_shown c.in-Some.cell) second)) (sym (c.is_second.ensures ∙ ap (λ i. is_second i c.args.index) interior))
    ∙ sym c.cell_step.ensures.step

pub returns-in-None-clause-step : goal.returns-in-None-clause-step
returns-in-None-clause-step c page reads =
    let array = c.in_ok-array.array in
    let place = c.in_ok-array.ensures.place in
    let all = whole c.args.n c.args.plain.now array.bytes.now array.header array.kind place.0 place.1 c.in_ok-array.ensures.kind array.inside page reads in
    let there = is_there array.kind array.bytes.now array.header all c.cell_index-at.result (omega (arith, array.counted)) in
    let gone : true ≡ false = ap is_none (sym (ap (option_map cell_shown) c.in-None.is) ∙ c.cell.ensures.read) ∙ there in
    absurd (cc gone)

pub returns-then-interior-clause-step : goal.returns-then-interior-clause-step
returns-then-interior-clause-step c page reads =
    let array = c.in_ok-array.array in
    let place = c.in_ok-array.ensures.place in
    let all = whole c.args.n c.args.plain.now array.bytes.now array.header array.kind place.0 place.1 c.in_ok-array.ensures.kind array.inside page reads in
    let interior : is_interior array.kind ≡ true = sym (c.is_interior-interior.ensures ∙ ap is_interior c.kind.ensures) ∙ c.if-interior.true in
    let at : c.cell_index-at.result ≡ c.args.index / 2 = c.cell_index-at.ensures ∙ ap (λ i. cell_index i c.args.index) c.if-interior.true in
    let past : cell_count array.bytes.now array.header ≤ c.args.index / 2 = omega (arith, array.counted, at) in
    ap (λ node. slice_get (steps node.cells node.right) c.args.index)
    (sym (node_is c.args.n c.args.plain.now array.bytes.now array.header array.kind place.0 place.1 c.in_ok-array.ensures.kind array.inside page reads))
    ∙ node-right array.kind array.bytes.now array.header all c.args.index interior past
    ∙ ap (λ count. cond (c.args.index == 2 * count) (Some (child (u32_at array.bytes.now (array.header + 8)))) None) (sym array.counted)
    ∙ sym c.last_step.ensures

pub returns-clause-step : goal.returns-clause-step
returns-clause-step c page reads =
    let array = c.in_ok-array.array in
    let place = c.in_ok-array.ensures.place in
    let all = whole c.args.n c.args.plain.now array.bytes.now array.header array.kind place.0 place.1 c.in_ok-array.ensures.kind array.inside page reads in
    let leaf : is_interior array.kind ≡ false = sym (c.is_interior-interior.ensures ∙ ap is_interior c.kind.ensures) ∙ c.if-interior.false in
    let at : c.cell_index-at.result ≡ c.args.index = c.cell_index-at.ensures ∙ ap (λ i. cell_index i c.args.index) c.if-interior.false in
    let past : cell_count array.bytes.now array.header ≤ c.args.index = omega (arith, array.counted, at) in
    ap (λ node. slice_get (steps node.cells node.right) c.args.index)
    (sym (node_is c.args.n c.args.plain.now array.bytes.now array.header array.kind place.0 place.1 c.in_ok-array.ensures.kind array.inside page reads))
    ∙ node-end array.kind array.bytes.now array.header all c.args.index leaf past
