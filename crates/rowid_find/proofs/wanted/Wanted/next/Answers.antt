use Rattle.std.proofs.Common.{rules, ◌≡◌, ◌∙◌, ◌∷◌, ℤ, Some, refl, sym, ap}
use Rattle.std.specs.Prelude.{int_le}
use mir.Val.{SFits}
use mir.Syntax.{w64}
use Rattle.std.proofs.lemmas.Int.{to_z-of_z}
use Rattle.btree_page.specs.Step.{child, entry}
use Rattle.rowid_find.specs.Left.{is_child_wanted, is_row_wanted}
use Rattle.rowid_find.proofs.WantedSteps.{child_given, child_passed, entry_passed, inner_passed, not_over, over_by, passed2, passed3, row_given, row_passed, still_open}
use Rattle.rowid_find.proofs.wanted.Wanted.next.Goals as goal

pub returns-then-is_row_wanted-clause-gives : goal.returns-then-is_row_wanted-clause-gives
returns-then-is_row_wanted-clause-gives c =
    let low : SFits w64 c.cells.self-inside.low = search rules in
    let high : SFits w64 c.cells.self-inside.high = search rules in
    let fits : SFits w64 c.in-TableLeaf.rowid = search rules in
    let asked : c.is_row_wanted.result ≡ is_row_wanted c.cells.self-inside.begun c.cells.self-inside.low c.cells.self-inside.high c.in-TableLeaf.rowid =
    c.is_row_wanted.ensures ∙ passed3 (is_row_wanted c.cells.self-inside.begun) c.cells.self-inside.low c.cells.self-inside.high c.in-TableLeaf.rowid low high fits in (
      entry (Some c.in-TableLeaf.rowid) (record { size = c.in-TableLeaf.length; local = c.in-TableLeaf.local.now; first = c.in-TableLeaf.first }),
      ap (λ (z : ℤ). Some (entry (Some z) (record { size = c.in-TableLeaf.length; local = c.in-TableLeaf.local.now; first = c.in-TableLeaf.first }))) (to_z-of_z w64 c.in-TableLeaf.rowid fits),
      sym (not_over _ _ _ c.if-self.false c.self.view_is) ∙ sym c.cells.invariant.left
          ∙ row_given c.cells.self-inside.low c.cells.self-inside.high c.cells.self-inside.page.cells c.cells.self-inside.page.right c.cells.self-inside.index c.cells.self-inside.begun c.in-TableLeaf.rowid (record { size = c.in-TableLeaf.length; local = c.in-TableLeaf.local.now; first = c.in-TableLeaf.first }) c.in-TableLeaf.ensures.cell (sym asked ∙ c.if-is_row_wanted.true)
          ∙ ap (λ l. entry (Some c.in-TableLeaf.rowid) (record { size = c.in-TableLeaf.length; local = c.in-TableLeaf.local.now; first = c.in-TableLeaf.first }) ∷ l) (still_open c.cells.self-inside.over _ c.cells.invariant.over),
    )

pub cells-preserved-else-is_row_wanted : goal.cells-preserved-else-is_row_wanted
cells-preserved-else-is_row_wanted c =
    let low : SFits w64 c.cells.self-inside.low = search rules in
    let high : SFits w64 c.cells.self-inside.high = search rules in
    let fits : SFits w64 c.in-TableLeaf.rowid = search rules in
    let asked : c.is_row_wanted.result ≡ is_row_wanted c.cells.self-inside.begun c.cells.self-inside.low c.cells.self-inside.high c.in-TableLeaf.rowid =
    c.is_row_wanted.ensures ∙ passed3 (is_row_wanted c.cells.self-inside.begun) c.cells.self-inside.low c.cells.self-inside.high c.in-TableLeaf.rowid low high fits in
    record {
      over = c.cells.invariant.over;
      page = c.cells.invariant.page;
      left = sym (row_passed c.cells.self-inside.low c.cells.self-inside.high c.cells.self-inside.page.cells c.cells.self-inside.page.right c.cells.self-inside.index c.cells.self-inside.begun c.in-TableLeaf.rowid (record { size = c.in-TableLeaf.length; local = c.in-TableLeaf.local.now; first = c.in-TableLeaf.first }) c.in-TableLeaf.ensures.cell (sym asked ∙ c.if-is_row_wanted.false))
          ∙ c.cells.invariant.left;
    }

pub returns-then-is_child_wanted-clause-gives : goal.returns-then-is_child_wanted-clause-gives
returns-then-is_child_wanted-clause-gives c =
    let low : SFits w64 c.cells.self-inside.low = search rules in
    let high : SFits w64 c.cells.self-inside.high = search rules in
    let fits : SFits w64 c.in-TableInterior.key = search rules in
    let asked : c.is_child_wanted.result ≡ is_child_wanted c.cells.self-inside.begun c.cells.self-inside.low c.in-TableInterior.key =
    c.is_child_wanted.ensures ∙ passed2 (is_child_wanted c.cells.self-inside.begun) c.cells.self-inside.low c.in-TableInterior.key low fits in
    let last : c.is_last-self-inside.result ≡ int_le c.cells.self-inside.high c.in-TableInterior.key =
    c.is_last-self-inside.ensures ∙ passed2 int_le c.cells.self-inside.high c.in-TableInterior.key high fits in (
      child c.in-TableInterior.left,
      refl,
      sym (not_over _ _ _ c.if-self.false c.self.view_is) ∙ sym c.cells.invariant.left
          ∙ child_given c.cells.self-inside.low c.cells.self-inside.high c.cells.self-inside.page.cells c.cells.self-inside.page.right c.cells.self-inside.index c.cells.self-inside.begun c.in-TableInterior.left c.in-TableInterior.key c.in-TableInterior.ensures.cell (sym asked ∙ c.if-is_child_wanted.true)
          ∙ ap (λ l. child c.in-TableInterior.left ∷ l) (over_by _ _ _ last),
    )

pub cells-preserved-else-is_child_wanted : goal.cells-preserved-else-is_child_wanted
cells-preserved-else-is_child_wanted c =
    let low : SFits w64 c.cells.self-inside.low = search rules in
    let fits : SFits w64 c.in-TableInterior.key = search rules in
    let asked : c.is_child_wanted.result ≡ is_child_wanted c.cells.self-inside.begun c.cells.self-inside.low c.in-TableInterior.key =
    c.is_child_wanted.ensures ∙ passed2 (is_child_wanted c.cells.self-inside.begun) c.cells.self-inside.low c.in-TableInterior.key low fits in
    record {
      over = c.cells.invariant.over;
      page = c.cells.invariant.page;
      left = sym (child_passed c.cells.self-inside.low c.cells.self-inside.high c.cells.self-inside.page.cells c.cells.self-inside.page.right c.cells.self-inside.index c.cells.self-inside.begun c.in-TableInterior.left c.in-TableInterior.key c.in-TableInterior.ensures.cell (sym asked ∙ c.if-is_child_wanted.false))
          ∙ c.cells.invariant.left;
    }

pub cells-preserved-in-IndexLeaf : goal.cells-preserved-in-IndexLeaf
cells-preserved-in-IndexLeaf c =
    record {
      over = c.cells.invariant.over;
      page = c.cells.invariant.page;
      left = sym (entry_passed c.cells.self-inside.low c.cells.self-inside.high c.cells.self-inside.page.cells c.cells.self-inside.page.right c.cells.self-inside.index c.cells.self-inside.begun
          (record { size = c.in-IndexLeaf.length; local = c.in-IndexLeaf.local.now; first = c.in-IndexLeaf.first }) c.in-IndexLeaf.ensures.cell)
          ∙ c.cells.invariant.left;
    }

pub cells-preserved : goal.cells-preserved
cells-preserved c =
    record {
      over = c.cells.invariant.over;
      page = c.cells.invariant.page;
      left = sym (inner_passed c.cells.self-inside.low c.cells.self-inside.high c.cells.self-inside.page.cells c.cells.self-inside.page.right c.cells.self-inside.index c.cells.self-inside.begun c.in-IndexInterior.left
          (record { size = c.in-IndexInterior.length; local = c.in-IndexInterior.local.now; first = c.in-IndexInterior.first }) c.in-IndexInterior.ensures.cell)
          ∙ c.cells.invariant.left;
    }
