use Rattle.std.proofs.Common.{◌≡◌, ℕ, ◌+◌, ◌*◌, ◌^◌, ◌≤◌, drop, ◌∷◌, List, length, arith, ap, sym, subst, ◌∙◌}
use Rattle.std.proofs.lemmas.List.{drop_all}
use Rattle.db_format.specs.Pages.{Pages, also}
use Rattle.db_format.specs.Seen.{marked, open_count}
use Rattle.btree_model.specs.Finding.{Finding, places}
use Rattle.btree_model.specs.Parts.{trees_from}
use Rattle.btree_model.specs.Records.{tree_part}
use Rattle.btree_model.specs.Tree.{root_family}
use Rattle.btree_walk.specs.Causes.{IsAmong}
use Rattle.btree_walk.proofs.CauseLemmas.{given_later}
use Rattle.space_map.proofs.TrunkLemmas.{open_most}
use Rattle.schema_map.specs.Part.{IsSound}
use Rattle.schema_map.specs.Parts.{open_pages}
use Rattle.schema_map.specs.Schema.{tree_roots}
use Rattle.schema_map.proofs.TreesLemmas.{IsPassing, passing_on, passing_done, stop_here, roots_next, own_page, pages_most}
use Rattle.schema_map.proofs.trees.check_trees.Goals as goal

pub returns-in-Err-clause-given : goal.returns-in-Err-clause-given
returns-in-Err-clause-given g c =
    given_later g.S.PageSource.only_read g.S.PageSource.plain g.S.PageSource.refuses c.args.source.now c.loop-row.source c.in-Err.error g.met.S.PageSource.transitive
    (g.met.S.PageSource.same_count c.args.source.now c.loop-row.source c.loop-row.invariant.read) c.loop-row.invariant.read c.in-Err.ensures.given

pub returns-in-Err-clause-on : goal.returns-in-Err-clause-on
returns-in-Err-clause-on g c told =
    let pages : Pages = g.S.PageSource.plain c.args.source.now in
    let same : g.S.PageSource.plain c.loop-row.source ≡ pages = g.met.S.PageSource.same_pages c.args.source.now c.loop-row.source c.loop-row.invariant.read told in
    let root : ℕ = c.row-item.result.root in
    let part : List Finding = tree_part pages (root_family root (pages.page root)) (marked c.loop-row.seen) root in
    let next : tree_roots (drop c.loop-row.row-index c.args.rows.now) ≡ root ∷ tree_roots (drop (c.loop-row.row-index + 1) c.args.rows.now) =
    roots_next c.args.rows.now c.loop-row.row-index c.row-item.result c.loop-row-test.true c.row-item.is c.if-row-eq0.false
    in
    let stopped : IsAmong g.S.PageSource.refuses pages part c.in-Err.error =
    subst (λ p. IsAmong g.S.PageSource.refuses p (tree_part p (root_family root (p.page root)) (marked c.loop-row.seen) root) c.in-Err.error) same (c.in-Err.ensures.on told)
    in
    let at : IsPassing g.S.PageSource.refuses pages (trees_from pages (marked c.args.seen.now) (tree_roots c.args.rows.now))
    (part ∷ trees_from pages (also (places part) (marked c.loop-row.seen)) (tree_roots (drop (c.loop-row.row-index + 1) c.args.rows.now))) c.args.seen.now c.loop-row.seen c.loop-row.trees c.loop-row.entries =
    subst (λ roots. IsPassing g.S.PageSource.refuses pages (trees_from pages (marked c.args.seen.now) (tree_roots c.args.rows.now)) (trees_from pages (marked c.loop-row.seen) roots) c.args.seen.now c.loop-row.seen c.loop-row.trees c.loop-row.entries)
    next (c.loop-row.invariant.on told)
    in
    at.stop c.in-Err.error (stop_here part (trees_from pages (also (places part) (marked c.loop-row.seen)) (tree_roots (drop (c.loop-row.row-index + 1) c.args.rows.now))) g.S.PageSource.refuses pages c.in-Err.error stopped)

pub returns-clause-on : goal.returns-clause-on
returns-clause-on g c told =
    let pages : Pages = g.S.PageSource.plain c.args.source.now in
    passing_done g.S.PageSource.refuses pages (trees_from pages (marked c.args.seen.now) (tree_roots c.args.rows.now)) c.args.seen.now c.loop-row.seen c.loop-row.trees c.loop-row.entries
    (subst (λ rows. IsPassing g.S.PageSource.refuses pages (trees_from pages (marked c.args.seen.now) (tree_roots c.args.rows.now)) (trees_from pages (marked c.loop-row.seen) (tree_roots rows)) c.args.seen.now c.loop-row.seen c.loop-row.trees c.loop-row.entries)
    (drop_all c.loop-row.row-index c.args.rows.now c.loop-row-test.false) (c.loop-row.invariant.on told))

pub loop-row-preserved : goal.loop-row-preserved
loop-row-preserved g c =
    record {
      read = g.met.S.PageSource.transitive c.args.source.now c.loop-row.source c.check_tree.new.source c.loop-row.invariant.read c.in-Ok.ensures.reads;
      unpinned = c.in-Ok.ensures.unpinned;
      seen_length = c.in-Ok.ensures.length ∙ c.loop-row.invariant.seen_length;
      on = λ told.
          let pages : Pages = g.S.PageSource.plain c.args.source.now in
          let same : g.S.PageSource.plain c.loop-row.source ≡ pages = g.met.S.PageSource.same_pages c.args.source.now c.loop-row.source c.loop-row.invariant.read told in
          let root : ℕ = c.row-item.result.root in
          let part : List Finding = tree_part pages (root_family root (pages.page root)) (marked c.loop-row.seen) root in
          let all : List (List Finding) = trees_from pages (marked c.args.seen.now) (tree_roots c.args.rows.now) in
          let left : List ℕ = tree_roots (drop (c.loop-row.row-index + 1) c.args.rows.now) in
          let next : tree_roots (drop c.loop-row.row-index c.args.rows.now) ≡ root ∷ left =
          roots_next c.args.rows.now c.loop-row.row-index c.row-item.result c.loop-row-test.true c.row-item.is c.if-row-eq0.false
          in
          let sound : IsSound part c.loop-row.seen c.check_tree.new.seen c.in-Ok.more =
          subst (λ p. IsSound (tree_part p (root_family root (p.page root)) (marked c.loop-row.seen) root) c.loop-row.seen c.check_tree.new.seen c.in-Ok.more) same (c.in-Ok.ensures.on told)
          in
          let at : IsPassing g.S.PageSource.refuses pages all (part ∷ trees_from pages (also (places part) (marked c.loop-row.seen)) left) c.args.seen.now c.loop-row.seen c.loop-row.trees c.loop-row.entries =
          subst (λ roots. IsPassing g.S.PageSource.refuses pages all (trees_from pages (marked c.loop-row.seen) roots) c.args.seen.now c.loop-row.seen c.loop-row.trees c.loop-row.entries)
          next (c.loop-row.invariant.on told)
          in
          let counted : length c.loop-row.seen ≡ c.pages-pages.result + 1 =
          c.loop-row.invariant.seen_length ∙ c.requires.marks ∙ ap (λ k. k + 1) (sym c.pages-pages.ensures)
          in
          let named : root ≡ 0 → ⊥ = c.if-row-eq0.false in
          let low : 1 ≤ root = omega arith in
          let high : root ≤ c.pages-pages.result = c.if-prove.false in
          let own : 1 + open_pages c.check_tree.new.seen ≤ open_pages c.loop-row.seen =
          own_page pages (root_family root (pages.page root)) root c.loop-row.seen c.check_tree.new.seen c.in-Ok.more sound low (omega arith) c.in-Ok.ensures.length
          in
          let on : IsPassing g.S.PageSource.refuses pages all (trees_from pages (also (places part) (marked c.loop-row.seen)) left) c.args.seen.now c.check_tree.new.seen (c.loop-row.trees + 1) (c.loop-row.entries + c.in-Ok.more) =
          passing_on g.S.PageSource.refuses pages all part (trees_from pages (also (places part) (marked c.loop-row.seen)) left) c.args.seen.now c.loop-row.seen c.check_tree.new.seen c.loop-row.trees c.loop-row.entries c.in-Ok.more at sound own
          in
          let fewer : c.loop-row.trees + 1 + open_pages c.check_tree.new.seen ≤ open_pages c.args.seen.now = on.fewer in
          let few : c.loop-row.entries + c.in-Ok.more + 2 ^ 21 * open_count c.check_tree.new.seen ≤ 2 ^ 21 * open_count c.args.seen.now = on.few in
          let marks : length c.args.seen.now ≡ c.pages-pages.result + 1 = c.requires.marks ∙ ap (λ k. k + 1) (sym c.pages-pages.ensures) in
          let pages_few : open_pages c.args.seen.now + 1 ≤ length c.args.seen.now = pages_most c.args.seen.now (omega arith) in
          let open_few : open_count c.args.seen.now ≤ length c.args.seen.now = open_most c.args.seen.now in
          let trees : c.loop-row.trees + 1 ≡ c.saturating_add-trees.result = omega (arith, c.saturating_add-trees.ensures) in
          let entries : c.loop-row.entries + c.in-Ok.more ≡ c.saturating_add-entries.result = omega (arith, c.saturating_add-entries.ensures) in
          subst (λ n. IsPassing g.S.PageSource.refuses pages all (trees_from pages (marked c.check_tree.new.seen) left) c.args.seen.now c.check_tree.new.seen n c.saturating_add-entries.result) trees
          (subst (λ m. IsPassing g.S.PageSource.refuses pages all (trees_from pages (marked c.check_tree.new.seen) left) c.args.seen.now c.check_tree.new.seen (c.loop-row.trees + 1) m) entries
          (subst (λ t. IsPassing g.S.PageSource.refuses pages all (trees_from pages t left) c.args.seen.now c.check_tree.new.seen (c.loop-row.trees + 1) (c.loop-row.entries + c.in-Ok.more)) (sym sound.marks) on));
    }
