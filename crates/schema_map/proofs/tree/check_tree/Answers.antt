use Rattle.std.proofs.Common.{◌≡◌, ◌+◌, ◌*◌, ◌^◌, ◌<◌, ◌≤◌, List, [], ◌∷◌, ◌++◌, length, Some, None, Ok, arith, refl, ap, sym, subst, ◌∙◌}
use Rattle.std.proofs.lemmas.List.{length-append}
use Rattle.std.specs.List.{Contains}
use Rattle.db_format.specs.declared.defect.Defect.TheVariants.{RecordFault}
use Rattle.db_format.specs.Pages.{Pages, Test, also}
use Rattle.db_format.specs.Record.{columns}
use Rattle.db_format.specs.Seen.{marked, open_count}
use Rattle.btree_model.specs.Finding.{Row, Finding, entries, faults, places, is_sound}
use Rattle.btree_model.specs.Records.{tree_part}
use Rattle.btree_model.specs.Tree.{root_family, tree_walk}
use Rattle.btree_walk.specs.Causes.{IsAmong}
use Rattle.btree_walk.specs.Cursor.{IsCursorAt, IsAdvanced, IsNext, IsEnd, row_of, walked}
use Rattle.btree_walk.specs.Turn.{work}
use Rattle.btree_walk.proofs.CauseLemmas.{given_later}
use Rattle.space_map.proofs.TrunkLemmas.{open_most}
use Rattle.btree_walk.proofs.CursorLemmas.{ready_made, at_made}
use Rattle.schema_map.proofs.CursorFacts.{work_made, walked_is, passed_on}
use Rattle.schema_map.proofs.PartLemmas.{among_joined, records_on, no_record, part_done}
use Rattle.schema_map.proofs.tree.check_tree.Goals as goal

pub entries-init : goal.entries-init
entries-init g c =
    record {
      ready = ready_made c.args.root None c.in-Ok.cursor c.in-Ok.ensures (g.S.PageSource.plain c.args.source.now).count (g.S.PageSource.pins c.args.source.now) c.args.seen.now
          c.requires.low c.requires.high c.requires.marks c.requires.unpinned;
      read = g.met.S.PageSource.reflexive c.args.source.now;
      root = c.in-Ok.ensures.root_is;
      asked = c.in-Ok.ensures.asked_is;
      few = let is : work c.args.seen.now c.in-Ok.cursor.path ≡ 2 ^ 21 * open_count c.args.seen.now = work_made c.args.seen.now c.args.root None c.in-Ok.cursor c.in-Ok.ensures in omega arith;
      on = λ told. ([], at_made c.args.root None c.in-Ok.cursor c.in-Ok.ensures (g.S.PageSource.plain c.args.source.now) (marked c.args.seen.now), refl, refl);
    }

pub overflow_add-rows : goal.overflow_add-rows
overflow_add-rows g c =
    let few : c.entries.rows + work c.entries.seen c.entries.cursor.path ≤ 2 ^ 21 * open_count c.args.seen.now = c.entries.invariant.few in
    let most : open_count c.args.seen.now ≤ length c.args.seen.now = open_most c.args.seen.now in
    omega (arith, c.pages-pages.ensures, c.requires.marks)

pub returns-in-Err-advance-clause-given : goal.returns-in-Err-advance-clause-given
returns-in-Err-advance-clause-given g c =
    given_later g.S.PageSource.only_read g.S.PageSource.plain g.S.PageSource.refuses c.args.source.now c.entries.source c.in-Err-advance.error g.met.S.PageSource.transitive
    (g.met.S.PageSource.same_count c.args.source.now c.entries.source c.entries.invariant.read) c.entries.invariant.read c.in-Err-advance.ensures.given

pub returns-in-Err-advance-clause-on : goal.returns-in-Err-advance-clause-on
returns-in-Err-advance-clause-on g c told =
    let pages : Pages = g.S.PageSource.plain c.args.source.now in
    let taken : Test = marked c.args.seen.now in
    let same : g.S.PageSource.plain c.entries.source ≡ pages = g.met.S.PageSource.same_pages c.args.source.now c.entries.source c.entries.invariant.read told in
    let at = c.entries.invariant.on told in
    let stopped : IsAmong g.S.PageSource.refuses pages (walked pages taken c.advance.new.self) c.in-Err-advance.error =
    subst (λ p. IsAmong g.S.PageSource.refuses p (walked p taken c.advance.new.self) c.in-Err-advance.error) same
    (c.in-Err-advance.ensures.on told taken at.0 (subst (λ p. IsCursorAt p taken at.0 c.entries.cursor (marked c.entries.seen)) (sym same) at.1))
    in
    among_joined g.S.PageSource.refuses pages (tree_walk pages (root_family c.args.root (pages.page c.args.root)) taken c.args.root) _ c.in-Err-advance.error
    (subst (λ l. IsAmong g.S.PageSource.refuses pages l c.in-Err-advance.error)
    (walked_is pages taken c.advance.new.self c.args.root None (c.in-Err-advance.ensures.same.root ∙ c.entries.invariant.root) (c.in-Err-advance.ensures.same.asked ∙ c.entries.invariant.asked)) stopped)

pub entries-preserved : goal.entries-preserved
entries-preserved g c =
    let pages : Pages = g.S.PageSource.plain c.args.source.now in
    let taken : Test = marked c.args.seen.now in
    record {
      ready = c.in-Ok-true.ensures.ready;
      read = g.met.S.PageSource.transitive c.args.source.now c.entries.source c.advance.new.source c.entries.invariant.read c.in-Ok-true.ensures.reads;
      root = c.in-Ok-true.ensures.same.root ∙ c.entries.invariant.root;
      asked = c.in-Ok-true.ensures.same.asked ∙ c.entries.invariant.asked;
      few =
          let before : c.entries.rows + work c.entries.seen c.entries.cursor.path ≤ 2 ^ 21 * open_count c.args.seen.now = c.entries.invariant.few in
          let less : work c.advance.new.seen c.advance.new.self.path < work c.entries.seen c.entries.cursor.path = c.in-Ok-true.ensures.less c.in-Ok-true.field-0-test in
          omega arith;
      on = λ told.
          let same : g.S.PageSource.plain c.entries.source ≡ pages = g.met.S.PageSource.same_pages c.args.source.now c.entries.source c.entries.invariant.read told in
          let at = c.entries.invariant.on told in
          let next : IsNext pages taken at.0 c.advance.new.self (marked c.advance.new.seen) (row_of c.advance.new.self) =
          subst (λ p. IsNext p taken at.0 c.advance.new.self (marked c.advance.new.seen) (row_of c.advance.new.self)) same
          (subst (λ m. IsAdvanced g.S.PageSource.refuses (g.S.PageSource.plain c.entries.source) taken at.0 c.advance.new.self (marked c.advance.new.seen) (Ok m)) c.in-Ok-true.field-0-test
          (c.in-Ok-true.ensures.on told taken at.0 (subst (λ p. IsCursorAt p taken at.0 c.entries.cursor (marked c.entries.seen)) (sym same) at.1)))
          in
          let values : columns (row_of c.advance.new.self).payload ≡ Some c.in-Ok-read.field-0 =
          ap (λ (row : Row). columns row.payload) (sym c.entry-entry.ensures) ∙ c.in-Ok-read.ensures.read
          in (
            at.0 ++ row_of c.advance.new.self ∷ [],
            next.at,
            records_on at.0 (row_of c.advance.new.self) c.in-Ok-read.field-0 at.2 values,
            ap (λ k. k + 1) at.3 ∙ sym (length-append at.0 (row_of c.advance.new.self ∷ [])),
          );
    }

pub returns-in-Err-read-clause-on : goal.returns-in-Err-read-clause-on
returns-in-Err-read-clause-on g c told =
    let pages : Pages = g.S.PageSource.plain c.args.source.now in
    let taken : Test = marked c.args.seen.now in
    let same : g.S.PageSource.plain c.entries.source ≡ pages = g.met.S.PageSource.same_pages c.args.source.now c.entries.source c.entries.invariant.read told in
    let at = c.entries.invariant.on told in
    let next : IsNext pages taken at.0 c.advance.new.self (marked c.advance.new.seen) (row_of c.advance.new.self) =
    subst (λ p. IsNext p taken at.0 c.advance.new.self (marked c.advance.new.seen) (row_of c.advance.new.self)) same
    (subst (λ m. IsAdvanced g.S.PageSource.refuses (g.S.PageSource.plain c.entries.source) taken at.0 c.advance.new.self (marked c.advance.new.seen) (Ok m)) c.in-Ok-true.field-0-test
    (c.in-Ok-true.ensures.on told taken at.0 (subst (λ p. IsCursorAt p taken at.0 c.entries.cursor (marked c.entries.seen)) (sym same) at.1)))
    in
    let found : List Finding = tree_walk pages (root_family c.args.root (pages.page c.args.root)) taken c.args.root in
    let order : entries found ≡ at.0 ++ row_of c.advance.new.self ∷ next.more =
    ap entries (sym (walked_is pages taken c.advance.new.self c.args.root None (c.in-Ok-true.ensures.same.root ∙ c.entries.invariant.root) (c.in-Ok-true.ensures.same.asked ∙ c.entries.invariant.asked))) ∙ next.order
    in
    let none : columns (row_of c.advance.new.self).payload ≡ None = ap (λ (row : Row). columns row.payload) (sym c.entry-entry.ensures) ∙ c.in-Err-read.ensures.read in
    subst (λ n. Contains (faults (tree_part pages (root_family c.args.root (pages.page c.args.root)) taken c.args.root)) (RecordFault n)) (ap (λ (row : Row). row.page) (sym c.entry-entry.ensures))
    (no_record found at.0 next.more (row_of c.advance.new.self) order none)

pub returns-in-Ok-false-clause-on : goal.returns-in-Ok-false-clause-on
returns-in-Ok-false-clause-on g c told =
    let pages : Pages = g.S.PageSource.plain c.args.source.now in
    let taken : Test = marked c.args.seen.now in
    let same : g.S.PageSource.plain c.entries.source ≡ pages = g.met.S.PageSource.same_pages c.args.source.now c.entries.source c.entries.invariant.read told in
    let at = c.entries.invariant.on told in
    let end : IsEnd pages taken at.0 c.advance.new.self (marked c.advance.new.seen) =
    subst (λ p. IsEnd p taken at.0 c.advance.new.self (marked c.advance.new.seen)) same
    (subst (λ m. IsAdvanced g.S.PageSource.refuses (g.S.PageSource.plain c.entries.source) taken at.0 c.advance.new.self (marked c.advance.new.seen) (Ok m)) c.in-Ok-false.field-0-test
    (c.in-Ok-false.ensures.on told taken at.0 (subst (λ p. IsCursorAt p taken at.0 c.entries.cursor (marked c.entries.seen)) (sym same) at.1)))
    in
    let found : List Finding = tree_walk pages (root_family c.args.root (pages.page c.args.root)) taken c.args.root in
    let whole : walked pages taken c.advance.new.self ≡ found =
    walked_is pages taken c.advance.new.self c.args.root None (c.in-Ok-false.ensures.same.root ∙ c.entries.invariant.root) (c.in-Ok-false.ensures.same.asked ∙ c.entries.invariant.asked)
    in
    let before : walked pages taken c.entries.cursor ≡ found = walked_is pages taken c.entries.cursor c.args.root None c.entries.invariant.root c.entries.invariant.asked in
    let fewer : open_count c.advance.new.seen ≤ open_count c.entries.seen =
    passed_on pages taken at.0 c.entries.cursor c.entries.seen c.advance.new.seen at.1
    (end.marks ∙ ap (λ l. also (places l) taken) (whole ∙ sym before)) (c.in-Ok-false.ensures.ready.marks ∙ ap (λ k. k + 1) (g.met.S.PageSource.same_count c.entries.source c.advance.new.source c.in-Ok-false.ensures.reads) ∙ sym c.entries.invariant.ready.marks)
    in
    part_done found at.0 c.args.seen.now c.advance.new.seen c.entries.rows (ap is_sound (sym whole) ∙ end.sound) (ap entries (sym whole) ∙ end.whole) at.2
    (end.marks ∙ ap (λ l. also (places l) taken) whole) at.3
    (let few : c.entries.rows + work c.entries.seen c.entries.cursor.path ≤ 2 ^ 21 * open_count c.args.seen.now = c.entries.invariant.few in omega arith)
