use Rattle.std.proofs.Common.{◌≡◌, ◌∙◌, ◌<◌, ◌≤◌, Bool, true, Option, Some, None, sym, refl, arith}
use Rattle.std.specs.Prelude.{is_some, not}
use Rattle.std.specs.Option.{option_map}
use Rattle.btree_page.specs.Shown.{cell_shown}
use Rattle.btree_page.specs.Page.{cell_at, cell_count}
use Rattle.btree_page.proofs.PageLemmas.{first_lost-is, first_lost-none, reads_lost, reads_whole}
use Rattle.btree_page.proofs.page.PageView.read.Goals as goal

none_of : {X Y : Type 0} (f : X → Y) (o : Option X) (b : Bool) → is_some o ≡ not b → b ≡ true → option_map f o ≡ None
none_of f None b is lost = refl
none_of f (Some x) b is lost = cc

pub returns-then-is_none : goal.returns-then-is_none
returns-then-is_none c =
    let array = c.in_ok-array.array in
    let place = c.in_ok-array.ensures.place in
    let lost : cell_at array.kind array.bytes.now array.header c.loop-index.index ≡ None =
    sym c.cell.ensures.read ∙ none_of cell_shown c.cell.result c.is_none.result c.is_none.ensures c.if-is_none.true in
    let below : c.loop-index.index < cell_count array.bytes.now array.header = omega (arith, array.counted) in
    sym (reads_lost c.args.n c.args.plain.now array.bytes.now array.header array.kind place.0 place.1 c.in_ok-array.ensures.kind array.inside
    c.loop-index.index (first_lost-is array.kind array.bytes.now array.header c.loop-index.index below c.loop-index.invariant lost) below)

pub invariant_of-result : goal.invariant_of-result
invariant_of-result c =
    let array = c.in_ok-array.array in
    let end : cell_count array.bytes.now array.header ≤ c.loop-index.index = omega (arith, array.counted) in
    first_lost-none array.kind array.bytes.now array.header (λ k below. c.loop-index.invariant k (omega arith))

pub returns : goal.returns
returns c =
    let array = c.in_ok-array.array in
    let place = c.in_ok-array.ensures.place in
    sym (reads_whole c.args.n c.args.plain.now array.bytes.now array.header array.kind place.0 place.1
    c.in_ok-array.ensures.kind array.inside (invariant_of-result c))
