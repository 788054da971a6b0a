use Rattle.std.proofs.Common.{◌≡◌, ◌∙◌, ◌≤◌, Some, length, refl, arith, ap, sym}
use Rattle.std.specs.List.{flat_map}
use Rattle.std.specs.Prelude.{IsTrue, ℤ}
use Rattle.std.specs.Int.{w64}
use Rattle.std.proofs.lemmas.Int.{to_z-of_z}
use Rattle.btree_page.specs.declared.kind.Family.{Family}
use Rattle.std.proofs.lemmas.Result.{on_err_weaker, on_ok_weaker, IfOk-weaker}
use Rattle.db_format.specs.Pages.{Pages, nothing}
use Rattle.btree_model.specs.Content.{without_fourth}
use Rattle.btree_model.specs.Tree.{root_family, tree_walk}
use Rattle.btree_walk.specs.declared.error.WalkError.TheVariants.{Source}
use Rattle.btree_walk.proofs.PathLemmas.{number_is_page}
use Rattle.btree_walk.proofs.TurnLemmas.{start_shut}
use Rattle.export_rows.specs.Lines.{schema_line}
use Rattle.row_text.specs.Lines.{row_text}
use Rattle.export_rows.specs.Report.{item_at, item_text, item_count}
use Rattle.schema_map.specs.Alone.{tree_rows}
use Rattle.export_rows.proofs.Handing.{if_among_later, if_given_later}
use Rattle.export_rows.proofs.ItemText.{tree_count, tree_text}
use Rattle.row_text.proofs.Moving.{cut, restated, restated_part, then, then_part}
use Rattle.schema_map.proofs.PartLemmas.{among_joined}
use Rattle.export_rows.proofs.TreeText.{none_put}
use Rattle.export_rows.proofs.item.put_item.Goals as goal

pub returns-in-Err-tree_family-clause-part : goal.returns-in-Err-tree_family-clause-part
returns-in-Err-tree_family-clause-part g c told t =
    none_put (item_text (item_at (g.S.PageSource.plain c.args.source.now) c.args.rowid c.args.payload.now)) (g.K.Sink.taken c.args.out.now) c.args.line.now

pub returns-in-Err-tree_family-clause-causes : goal.returns-in-Err-tree_family-clause-causes
returns-in-Err-tree_family-clause-causes g c told =
    let pages : Pages = g.S.PageSource.plain c.args.source.now in (
      c.if-root-eq0.false,
      among_joined g.S.PageSource.refuses pages (tree_walk pages (root_family c.args.root (pages.page c.args.root)) nothing c.args.root) _ (Source c.in-Err-tree_family.refusal)
          (start_shut pages (root_family c.args.root (pages.page c.args.root)) c.args.root nothing g.S.PageSource.refuses (Source c.in-Err-tree_family.refusal) refl
          (number_is_page pages c.args.root (let low : 1 ≤ c.args.root = omega (arith, c.if-root-eq0.false) in low) c.requires.high) c.in-Err-tree_family.ensures.refused),
    )

pub returns-in-Err-put_schema_row-2-clause-part : goal.returns-in-Err-put_schema_row-2-clause-part
returns-in-Err-put_schema_row-2-clause-part g c told t =
    let pages : Pages = g.S.PageSource.plain c.args.source.now in
    let same : g.S.PageSource.plain c.tree_family.new.source ≡ pages = g.met.S.PageSource.same_pages c.args.source.now c.tree_family.new.source c.in-Ok-tree_family.ensures.reads told in
    let number = sym (c.requires.root told) in
    let family =
    ap (λ (z : ℤ). schema_line z (without_fourth c.in-Ok.row) (Some c.in-Ok-tree_family.family)) (to_z-of_z w64 c.args.rowid c.ranges.rowid)
    ∙ ap (λ (f : Family). schema_line c.args.rowid (without_fourth c.in-Ok.row) (Some f)) (c.in-Ok-tree_family.ensures.value told) in
    let all = tree_text pages c.args.rowid c.args.payload.now c.in-Ok.row c.in-Ok.ensures.read c.args.root number c.if-root-eq0.false in
    restated_part (sym all) (cut (flat_map row_text (tree_rows pages c.args.root)) (restated_part family (c.in-Err-put_schema_row-2.ensures.part t)))

pub returns-in-Ok-put_schema_row-2-clause-text : goal.returns-in-Ok-put_schema_row-2-clause-text
returns-in-Ok-put_schema_row-2-clause-text g c =
    on_ok_weaker c.put_tree.result (λ done told t.
    let pages : Pages = g.S.PageSource.plain c.args.source.now in
    let same : g.S.PageSource.plain c.tree_family.new.source ≡ pages = g.met.S.PageSource.same_pages c.args.source.now c.tree_family.new.source c.in-Ok-tree_family.ensures.reads told in
    let number = sym (c.requires.root told) in
    let family =
    ap (λ (z : ℤ). schema_line z (without_fourth c.in-Ok.row) (Some c.in-Ok-tree_family.family)) (to_z-of_z w64 c.args.rowid c.ranges.rowid)
    ∙ ap (λ (f : Family). schema_line c.args.rowid (without_fourth c.in-Ok.row) (Some f)) (c.in-Ok-tree_family.ensures.value told) in
    let all = tree_text pages c.args.rowid c.args.payload.now c.in-Ok.row c.in-Ok.ensures.read c.args.root number c.if-root-eq0.false in
    restated (sym all) (then (restated family (c.in-Ok-put_schema_row-2.ensures.done t))
    (restated (ap (λ p. flat_map row_text (tree_rows p c.args.root)) same) (done told t)))) c.put_tree.ensures.text

pub returns-in-Ok-put_schema_row-2-clause-part : goal.returns-in-Ok-put_schema_row-2-clause-part
returns-in-Ok-put_schema_row-2-clause-part g c =
    on_err_weaker c.put_tree.result (λ part told t.
    let pages : Pages = g.S.PageSource.plain c.args.source.now in
    let same : g.S.PageSource.plain c.tree_family.new.source ≡ pages = g.met.S.PageSource.same_pages c.args.source.now c.tree_family.new.source c.in-Ok-tree_family.ensures.reads told in
    let number = sym (c.requires.root told) in
    let family =
    ap (λ (z : ℤ). schema_line z (without_fourth c.in-Ok.row) (Some c.in-Ok-tree_family.family)) (to_z-of_z w64 c.args.rowid c.ranges.rowid)
    ∙ ap (λ (f : Family). schema_line c.args.rowid (without_fourth c.in-Ok.row) (Some f)) (c.in-Ok-tree_family.ensures.value told) in
    let all = tree_text pages c.args.rowid c.args.payload.now c.in-Ok.row c.in-Ok.ensures.read c.args.root number c.if-root-eq0.false in
    restated_part (sym all) (then_part (restated family (c.in-Ok-put_schema_row-2.ensures.done t))
    (restated_part (ap (λ p. flat_map row_text (tree_rows p c.args.root)) same) (part told t)))) c.put_tree.ensures.part

pub returns-in-Ok-put_schema_row-2-clause-count : goal.returns-in-Ok-put_schema_row-2-clause-count
returns-in-Ok-put_schema_row-2-clause-count g c =
    IfOk-weaker c.put_tree.result (λ rows. IsTrue g.S.PageSource.tells → rows ≡ length (tree_rows (g.S.PageSource.plain c.tree_family.new.source) c.args.root))
    (λ rows. IsTrue g.S.PageSource.tells → rows ≡ item_count (item_at (g.S.PageSource.plain c.args.source.now) c.args.rowid c.args.payload.now))
    (λ rows counted told.
    let pages : Pages = g.S.PageSource.plain c.args.source.now in
    let same : g.S.PageSource.plain c.tree_family.new.source ≡ pages = g.met.S.PageSource.same_pages c.args.source.now c.tree_family.new.source c.in-Ok-tree_family.ensures.reads told in
    counted told ∙ ap (λ p. length (tree_rows p c.args.root)) same
    ∙ sym (tree_count pages c.args.rowid c.args.payload.now c.in-Ok.row c.in-Ok.ensures.read c.args.root (sym (c.requires.root told)) c.if-root-eq0.false))
    c.put_tree.ensures.count

pub returns-in-Ok-put_schema_row-2-clause-causes : goal.returns-in-Ok-put_schema_row-2-clause-causes
returns-in-Ok-put_schema_row-2-clause-causes g c =
    if_among_later g.S.PageSource.refuses (g.S.PageSource.plain c.args.source.now) (g.S.PageSource.plain c.tree_family.new.source) (IsTrue g.S.PageSource.tells) c.args.root c.put_tree.result
    (g.met.S.PageSource.same_pages c.args.source.now c.tree_family.new.source c.in-Ok-tree_family.ensures.reads) c.if-root-eq0.false c.put_tree.ensures.causes

pub returns-in-Ok-put_schema_row-2-clause-given : goal.returns-in-Ok-put_schema_row-2-clause-given
returns-in-Ok-put_schema_row-2-clause-given g c =
    if_given_later g.S.PageSource.only_read g.S.PageSource.plain g.S.PageSource.refuses c.args.source.now c.tree_family.new.source c.put_tree.result g.met.S.PageSource.transitive
    (g.met.S.PageSource.same_count c.args.source.now c.tree_family.new.source c.in-Ok-tree_family.ensures.reads) c.in-Ok-tree_family.ensures.reads c.put_tree.ensures.given
