use Rattle.std.proofs.Common.{◌≡◌, ◌<◌, ◌*◌, rules, ℕ, suc, List, [], ◌∷◌, ◌++◌, ◌+◌, ◌-◌, ◌≤◌, max, length, take, drop, ap, sym, subst, ◌∙◌, arith, length-drop}
use Rattle.std.proofs.lemmas.Slice.{between_to_end}
use Rattle.db_format.specs.Pages.{Pages}
use Rattle.btree_page.specs.Kind.{family_of}
use Rattle.btree_page.specs.Step.{steps}
use Rattle.load_model.specs.Open.{at_height}
use Rattle.load_model.specs.Stands.{OpenPagesStand}
use Rattle.page_build.specs.Draft.{room_of, with_cell}
use Rattle.page_build.specs.Written.{right_child, IsCellWritten}
use Rattle.bulk_load.specs.Close.{HasCells}
use Rattle.bulk_load.specs.Settle.{two, cell_on, skip_of}
use Rattle.bulk_load.specs.Own.{only}
use Rattle.bulk_load.specs.Volume.{filled}
use Rattle.bulk_load.proofs.CountLemmas.{room_after}
use Rattle.bulk_load.proofs.DepthLemmas.{short_pair, wide_page}
use Rattle.bulk_load.proofs.SettleLemmas.{cells_more, cells_none, on_page, as_last, closed_then, may_between, pair_up}
use Rattle.bulk_load.proofs.pair.settle.Goals as goal

pub returns-then-has_room-clause-settled : goal.returns-then-has_room-clause-settled
returns-then-has_room-clause-settled g c start well own covers cells s h front back last pushed has pair st =
    let out : Pages = only own (g.P.PageOut.pages c.args.out.now) in
    let kind = c.args.page.now.kind in
    let n : ℕ = c.args.pair.now.child in
    let skip : ℕ = c.skipped-skip.result in
    let items : List ℕ = c.args.pair.now.cell.items in
    let bytes : List ℕ = c.deref.result.now in
    let is_skip : skip ≡ skip_of kind = c.skipped-skip.ensures.value ∙ ap skip_of c.kind.ensures in
    let all : take (length bytes - skip) (drop skip bytes) ≡ drop skip items = between_to_end bytes skip (length bytes) (omega arith) ∙ ap (drop skip) c.deref.ensures.value in
    let one : IsCellWritten kind out.usable (drop skip items) (cell_on kind n s) =
    subst (λ k. IsCellWritten kind out.usable (drop k items) (cell_on kind n s)) (sym is_skip)
    (subst (λ l. IsCellWritten kind out.usable (drop (skip_of kind) l) (cell_on kind n s)) (sym pair.names) (pair.here n))
    in (
      subst (λ d. HasCells d out.usable (cells ++ cell_on kind n s ∷ [])) (sym (c.add.ensures ∙ ap (with_cell c.args.page.now) all))
          (cells_more c.args.page.now out.usable cells (drop skip items) (cell_on kind n s) has one),
      subst (λ l. OpenPagesStand out (family_of kind) last l pushed) (on_page kind cells n h s front back pair.may) st,
    )

pub returns-clause-settled : goal.returns-clause-settled
returns-clause-settled g c start well own covers cells s h front back last pushed has pair st =
    let old : Pages = only own (g.P.PageOut.pages c.args.out.now) in
    let kind = c.args.page.now.kind in
    let n : ℕ = c.args.pair.now.child in
    let new : Pages = only own (g.P.PageOut.pages c.close.new.out) in
    let m : ℕ = c.in_ok-m.m in
    let ready : OpenPagesStand old (family_of kind) last (front ++ (at_height h (steps cells (right_child kind n)) ++ (record { height = h; leads = s } ∷ back))) pushed =
    subst (λ l. OpenPagesStand old (family_of kind) last l pushed) (as_last kind cells n h s front back) st
    in (
      subst (λ d. HasCells d old.usable []) (sym c.clear.ensures)
          (cells_none c.close.new.page old.usable (ap (λ d. d.usable) c.in_ok-m.ensures.same ∙ c.requires.size)),
      pair_up kind old.usable s c.args.pair.now c.name.new.pair m pair c.name.ensures.cell c.name.ensures.child,
      subst (λ k. OpenPagesStand new (family_of kind) last (front ++ (two (suc h) k s ++ back)) pushed) (sym c.name.ensures.child)
          (closed_then new (family_of kind) last front back pushed h m s (may_between kind s pair.may)
          (c.in_ok-m.ensures.closed start well own covers cells h front (record { height = h; leads = s } ∷ back) last pushed has ready)),
    )

pub returns-then-has_room-clause-left : goal.returns-then-has_room-clause-left
returns-then-has_room-clause-left g c same =
    let skip : ℕ = c.skipped-skip.result in
    let items : List ℕ = c.args.pair.now.cell.items in
    let bytes : List ℕ = c.deref.result.now in
    let cell : List ℕ = take (length bytes - skip) (drop skip bytes) in
    let all : cell ≡ drop skip items = between_to_end bytes skip (length bytes) (omega arith) ∙ ap (drop skip) c.deref.ensures.value in
    let long : length cell ≡ length items - skip = ap length all ∙ length-drop skip items in
    let len : c.len.result ≡ length items = omega (arith, c.len.ensures, c.args.pair.now.cell.ok.0) in
    let size : c.len.result - skip ≡ length cell = omega arith in
    subst (λ d. c.args.more ≤ room_of d) (sym c.add.ensures)
    (room_after c.args.page.now cell c.args.more (subst (λ n. max 4 n + 2 + c.args.more ≤ room_of c.args.page.now) size (c.has_room.ensures.0 c.if-has_room.true)))

pub returns-then-has_room-clause-short : goal.returns-then-has_room-clause-short
returns-then-has_room-clause-short g c short =
    let skip : ℕ = c.skipped-skip.result in
    let items : List ℕ = c.args.pair.now.cell.items in
    let bytes : List ℕ = c.deref.result.now in
    let cell : List ℕ = take (length bytes - skip) (drop skip bytes) in
    let all : cell ≡ drop skip items = between_to_end bytes skip (length bytes) (omega arith) ∙ ap (drop skip) c.deref.ensures.value in
    short_pair (g.P.PageOut.pages c.args.out.now).usable c.args.page.now c.add.new.self cell (length items) skip short c.add.ensures (ap length all ∙ length-drop skip items)
    c.requires.named.least c.requires.named.short

pub returns-clause-wide : goal.returns-clause-wide
returns-clause-wide g c short closed =
    let full : (g.P.PageOut.pages c.args.out.now).usable < 3 * filled c.args.page.now + 12 = search rules in
    wide_page (g.P.PageOut.pages c.args.out.now).usable c.args.page.now (search rules) short full
