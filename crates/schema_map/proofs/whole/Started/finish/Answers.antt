use Rattle.std.proofs.Common.{◌≡◌, ℕ, ◌+◌, ◌*◌, ◌^◌, ◌≤◌, not, List, Bool, length, count_by, arith, ap, sym, subst, ◌∙◌}
use Rattle.std.specs.List.{range_with_len}
use Rattle.db_format.specs.Pages.{Pages}
use Rattle.db_format.specs.Seen.{marked, open_count}
use Rattle.btree_model.specs.Parts.{trees_from}
use Rattle.btree_model.specs.Schema.{schema_part}
use Rattle.btree_walk.proofs.CauseLemmas.{given_later}
use Rattle.space_map.proofs.TrunkLemmas.{open_most}
use Rattle.schema_map.specs.Census.{IsCensusBegun}
use Rattle.schema_map.specs.Started.{FreeMarks}
use Rattle.schema_map.specs.Parts.{AreSound, IsEarliest, open_pages}
use Rattle.schema_map.specs.Schema.{IsSchema, tree_roots}
use Rattle.schema_map.proofs.TreesLemmas.{pages_most}
use Rattle.schema_map.proofs.WholeLemmas.{schema_stop, trees_stop, schema_own, unused_is, database, trees_counted, rows_counted, schema_rows}
use Rattle.schema_map.proofs.whole.Started.finish.Goals as goal

pub returns-in-Err-clause-found : goal.returns-in-Err-clause-found
returns-in-Err-clause-found g c told =
    let pages : Pages = g.S.PageSource.plain c.args.source.now in
    let started : FreeMarks = record { marks = c.self.inside.seen; free = c.self.inside.leaves } in
    let begun : IsCensusBegun pages started = subst (λ s. IsCensusBegun pages s) (sym c.self.view_is) (c.requires.begun told) in
    schema_stop pages started begun g.S.PageSource.refuses c.in-Err.error (c.in-Err.ensures.found told)

pub returns-in-Err-check_trees-clause-given : goal.returns-in-Err-check_trees-clause-given
returns-in-Err-check_trees-clause-given g c =
    given_later g.S.PageSource.only_read g.S.PageSource.plain g.S.PageSource.refuses c.args.source.now c.read_schema.new.source c.in-Err-check_trees.error g.met.S.PageSource.transitive
    (g.met.S.PageSource.same_count c.args.source.now c.read_schema.new.source c.in-Ok.ensures.reads) c.in-Ok.ensures.reads c.in-Err-check_trees.ensures.given

pub returns-in-Err-check_trees-clause-found : goal.returns-in-Err-check_trees-clause-found
returns-in-Err-check_trees-clause-found g c told =
    let pages : Pages = g.S.PageSource.plain c.args.source.now in
    let started : FreeMarks = record { marks = c.self.inside.seen; free = c.self.inside.leaves } in
    let begun : IsCensusBegun pages started = subst (λ s. IsCensusBegun pages s) (sym c.self.view_is) (c.requires.begun told) in
    let same : g.S.PageSource.plain c.read_schema.new.source ≡ pages = g.met.S.PageSource.same_pages c.args.source.now c.read_schema.new.source c.in-Ok.ensures.reads told in
    let stopped : IsEarliest g.S.PageSource.refuses pages (trees_from pages (marked c.read_schema.new.seen) (tree_roots c.rows.result.now)) c.in-Err-check_trees.error =
    subst (λ p. IsEarliest g.S.PageSource.refuses p (trees_from p (marked c.read_schema.new.seen) (tree_roots c.rows.result.now)) c.in-Err-check_trees.error) same (c.in-Err-check_trees.ensures.on told)
    in
    trees_stop pages started begun c.read_schema.new.seen c.in-Ok.schema (c.in-Ok.ensures.found told) g.S.PageSource.refuses c.in-Err-check_trees.error
    (subst (λ rows. IsEarliest g.S.PageSource.refuses pages (trees_from pages (marked c.read_schema.new.seen) (tree_roots rows)) c.in-Err-check_trees.error) c.rows.ensures stopped)

pub returns-clause-found : goal.returns-clause-found
returns-clause-found g c told =
    let pages : Pages = g.S.PageSource.plain c.args.source.now in
    let started : FreeMarks = record { marks = c.self.inside.seen; free = c.self.inside.leaves } in
    let begun : IsCensusBegun pages started = subst (λ s. IsCensusBegun pages s) (sym c.self.view_is) (c.requires.begun told) in
    let middle : List Bool = c.read_schema.new.seen in
    let new : List Bool = c.check_trees.new.seen in
    let trees : ℕ = c.in-Ok-check_trees.counts.trees in
    let entered : ℕ = c.in-Ok-check_trees.counts.entries in
    let same : g.S.PageSource.plain c.read_schema.new.source ≡ pages = g.met.S.PageSource.same_pages c.args.source.now c.read_schema.new.source c.in-Ok.ensures.reads told in
    let is : IsSchema (schema_part pages (marked started.marks)) started.marks middle c.in-Ok.schema = c.in-Ok.ensures.found told in
    let walked : AreSound (trees_from pages (marked middle) (tree_roots c.rows.result.now)) middle new trees entered =
    subst (λ p. AreSound (trees_from p (marked middle) (tree_roots c.rows.result.now)) middle new trees entered) same (c.in-Ok-check_trees.ensures.on told)
    in
    let all : AreSound (trees_from pages (marked middle) (tree_roots c.in-Ok.schema)) middle new trees entered =
    subst (λ rows. AreSound (trees_from pages (marked middle) (tree_roots rows)) middle new trees entered) c.rows.ensures walked
    in
    let size : length started.marks ≡ c.pages-pages.result + 1 =
    ap (λ (s : FreeMarks). length s.marks) c.self.view_is ∙ c.requires.marks ∙ ap (λ k. k + 1) (sym c.pages-pages.ensures)
    in
    let some : 1 ≤ c.pages-pages.result = subst (λ k. 1 ≤ k) (sym c.pages-pages.ensures) c.requires.some in
    let own : 1 + open_pages middle ≤ open_pages started.marks = schema_own pages started begun middle c.in-Ok.schema is c.in-Ok.ensures.length (omega arith) in
    let pages_few : open_pages started.marks + 1 ≤ length started.marks = pages_most started.marks (omega arith) in
    let open_few : open_count started.marks ≤ length started.marks = open_most started.marks in
    let fewer : trees + open_pages new ≤ open_pages middle = all.fewer in
    let few : entered + 2 ^ 21 * open_count new ≤ 2 ^ 21 * open_count middle = all.few in
    let schema_few : length c.in-Ok.schema + 2 ^ 21 * open_count middle ≤ 2 ^ 21 * open_count started.marks = is.part.few in
    let lent : length c.rows-2.result.now ≡ length c.in-Ok.schema = ap length c.rows-2.ensures in
    let trees_are : c.saturating_add.result ≡ trees + 1 = omega (arith, c.saturating_add.ensures) in
    let rows_are : c.saturating_add-2.result ≡ length c.in-Ok.schema + entered = omega (arith, c.saturating_add-2.ensures) in
    record {
      sound = database pages started begun middle c.in-Ok.schema is new trees entered all;
      trees = trees_are ∙ trees_counted pages started begun middle c.in-Ok.schema is new trees entered all;
      rows = rows_are ∙ rows_counted pages started begun middle c.in-Ok.schema is new trees entered all;
      free = c.count.ensures ∙ begun.count;
      unused = unused_is pages started begun middle c.in-Ok.schema is new trees entered all c.count_unmarked.result
          (subst (λ k. c.count_unmarked.result ≡ count_by (λ n. not (marked new n)) (range_with_len 1 k)) c.pages-pages.ensures c.count_unmarked.ensures);
      schema = schema_rows pages started begun middle c.in-Ok.schema is new trees entered all;
      leafs = begun.leafs;
    }
