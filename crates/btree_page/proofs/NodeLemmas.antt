-- The steps of a page that reads as a node, by its bytes.
use Rattle.std.proofs.Common.{◌≡◌, ◌∙◌, ℕ, ◌+◌, ◌*◌, ◌/◌, ◌<◌, ◌≤◌, ◌==◌, Bool, true, false, cond, List, length, drop, slice_get, Some, None, arith, sym, ap, subst}
use Rattle.std.proofs.lemmas.Option.{slice_get_within}
use Rattle.db_format.specs.Bytes.{u16_at, u32_at}
use Rattle.btree_page.specs.declared.kind.Kind.{Kind}
use Rattle.btree_page.specs.Cell.{Cell, cell_of}
use Rattle.btree_page.specs.Kind.{is_interior}
use Rattle.btree_page.specs.Page.{array_start, cell_at, cell_count, first_lost, node_at}
use Rattle.btree_page.specs.Step.{cell_index, cell_step, child, is_second, steps}
use Rattle.btree_page.proofs.PageLemmas.{cell-node, count-cells}
use Rattle.btree_page.proofs.StepLemmas.{AreOf, has_child, kind-cell, step-cell, step-end, step-right}

tested : (kind : Kind) (usable : ℕ) (bytes : List ℕ) (c : Cell) (b : Bool) → cond b (cell_of kind usable bytes) None ≡ Some c → has_child c ≡ is_interior kind
tested kind usable bytes c true is = kind-cell kind usable bytes c is
tested kind usable bytes c false is = cc

module _ (kind : Kind) (bytes : List ℕ) (header : ℕ) (whole : first_lost kind bytes header ≡ cell_count bytes header) where
  are_of : AreOf (is_interior kind) (node_at kind bytes header).cells
  are_of k c is =
      let size : length (node_at kind bytes header).cells ≡ cell_count bytes header = count-cells kind bytes header whole in
      let within = slice_get_within (node_at kind bytes header).cells k c is in
      tested kind (length bytes) (drop (u16_at bytes (array_start kind header + 2 * k)) bytes) c _
      (sym (cell-node kind bytes header whole k (omega (arith, size, within))) ∙ is)

  pub node-cell : (index : ℕ) (c : Cell) → cell_index (is_interior kind) index < cell_count bytes header
      → cell_at kind bytes header (cell_index (is_interior kind) index) ≡ Some c
      → slice_get (steps (node_at kind bytes header).cells (node_at kind bytes header).right) index ≡ Some (cell_step c (is_second (is_interior kind) index))
  node-cell index c below is =
      step-cell (node_at kind bytes header).right (is_interior kind) (node_at kind bytes header).cells are_of index c
      (cell-node kind bytes header whole (cell_index (is_interior kind) index) below ∙ is)

  pub node-right : (index : ℕ) → is_interior kind ≡ true → cell_count bytes header ≤ index / 2
      → slice_get (steps (node_at kind bytes header).cells (node_at kind bytes header).right) index
      ≡ cond (index == 2 * cell_count bytes header) (Some (child (u32_at bytes (header + 8)))) None
  node-right index interior past =
      let size : length (node_at kind bytes header).cells ≡ cell_count bytes header = count-cells kind bytes header whole in
      ap (λ i. slice_get (steps (node_at kind bytes header).cells (cond i (Some (u32_at bytes (header + 8))) None)) index) interior
      ∙ step-right (u32_at bytes (header + 8)) (node_at kind bytes header).cells (subst (λ i. AreOf i (node_at kind bytes header).cells) interior are_of)
      index (omega (arith, size)) _ (ap (λ k. index == 2 * k) size)

  pub node-end : (index : ℕ) → is_interior kind ≡ false → cell_count bytes header ≤ index
      → slice_get (steps (node_at kind bytes header).cells (node_at kind bytes header).right) index ≡ None
  node-end index leaf past =
      let size : length (node_at kind bytes header).cells ≡ cell_count bytes header = count-cells kind bytes header whole in
      ap (λ i. slice_get (steps (node_at kind bytes header).cells (cond i (Some (u32_at bytes (header + 8))) None)) index) leaf
      ∙ step-end (node_at kind bytes header).cells (subst (λ i. AreOf i (node_at kind bytes header).cells) leaf are_of) index (omega (arith, size))
