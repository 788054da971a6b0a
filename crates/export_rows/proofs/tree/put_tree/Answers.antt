use Rattle.std.proofs.Common.{◌≡◌, ◌+◌, ◌^◌, ◌<◌, ◌≤◌, [], Some, None, Ok, arith, rules, ap, sym, subst, ◌∙◌}
use Rattle.std.specs.List.{flat_map, Contains}
use Rattle.db_format.specs.declared.defect.Defect.TheVariants.{RecordFault}
use Rattle.db_format.specs.Pages.{Pages, nothing}
use Rattle.db_format.specs.Record.{columns}
use Rattle.db_format.specs.Seen.{marked}
use Rattle.btree_model.specs.Finding.{Row, entries, faults}
use Rattle.btree_model.specs.Records.{tree_part}
use Rattle.btree_model.specs.Tree.{root_family, tree_walk}
use Rattle.btree_walk.specs.Causes.{IsAmong}
use Rattle.btree_walk.specs.Cursor.{IsCursorAt, IsAdvanced, IsNext, IsEnd, row_of, walked}
use Rattle.btree_walk.specs.Turn.{work}
use Rattle.btree_walk.proofs.CauseLemmas.{given_later}
use Rattle.btree_walk.proofs.CursorLemmas.{ready_made}
use Rattle.row_text.specs.Lines.{entry_line}
use Rattle.row_text.specs.Lines.{row_text}
use Rattle.schema_map.specs.Alone.{tree_rows}
use Rattle.export_rows.proofs.CursorSteps.{walked_is, work_first}
use Rattle.row_text.proofs.Moving.{restated, restated_part}
use Rattle.schema_map.proofs.PartLemmas.{among_joined, no_record}
use Rattle.export_rows.proofs.TreeText.{none_put, so_far_all, so_far_count, so_far_failed, so_far_made, so_far_on, so_far_stopped, row_order}
use Rattle.export_rows.proofs.tree.put_tree.Goals as goal

pub returns-in-Err-clause-part : goal.returns-in-Err-clause-part
returns-in-Err-clause-part g c told t =
    none_put (flat_map row_text (tree_rows (g.S.PageSource.plain c.args.source.now) c.args.root)) (g.K.Sink.taken c.args.out.now) c.args.line.now

pub returns-in-Err-new-clause-part : goal.returns-in-Err-new-clause-part
returns-in-Err-new-clause-part g c told t =
    none_put (flat_map row_text (tree_rows (g.S.PageSource.plain c.args.source.now) c.args.root)) (g.K.Sink.taken c.args.out.now) c.args.line.now

pub entries-init : goal.entries-init
entries-init g c =
    record {
      ready = ready_made c.args.root None c.in-Ok-new.cursor c.in-Ok-new.ensures (g.S.PageSource.plain c.args.source.now).count (g.S.PageSource.pins c.args.source.now) c.in-Ok.seen
          c.requires.low c.requires.high (c.in-Ok.ensures.length ∙ ap (λ k. k + 1) c.pages-pages.ensures) c.requires.unpinned;
      read = g.met.S.PageSource.reflexive c.args.source.now;
      root = c.in-Ok-new.ensures.root_is;
      asked = c.in-Ok-new.ensures.asked_is;
      few =
          let most : work c.in-Ok.seen c.in-Ok-new.cursor.path ≤ 2 ^ 53 =
          work_first c.in-Ok.seen c.args.root None c.in-Ok-new.cursor c.in-Ok-new.ensures (omega (arith, c.in-Ok.ensures.length)) in
          omega arith;
      later = search rules;
      on = λ told. so_far_made (g.S.PageSource.plain c.args.source.now) c.args.root c.in-Ok-new.cursor (marked c.in-Ok.seen) g.K.Sink.tells (g.K.Sink.taken c.args.out.now) c.args.line.now
          c.in-Ok-new.ensures c.in-Ok.ensures.none;
    }

pub returns-in-Err-advance-clause-part : goal.returns-in-Err-advance-clause-part
returns-in-Err-advance-clause-part g c told =
    so_far_stopped (g.S.PageSource.plain c.args.source.now) c.args.root c.entries.cursor (marked c.entries.seen) c.entries.rows g.K.Sink.tells (g.K.Sink.taken c.args.out.now) c.args.line.now (g.K.Sink.taken c.entries.out) c.entries.line
    (c.entries.invariant.on told)

pub returns-in-Err-advance-clause-causes : goal.returns-in-Err-advance-clause-causes
returns-in-Err-advance-clause-causes g c told =
    let pages : Pages = g.S.PageSource.plain c.args.source.now in
    let same : g.S.PageSource.plain c.entries.source ≡ pages = g.met.S.PageSource.same_pages c.args.source.now c.entries.source c.entries.invariant.read told in
    let so = c.entries.invariant.on told in
    let at : IsCursorAt (g.S.PageSource.plain c.entries.source) nothing so.given c.entries.cursor (marked c.entries.seen) =
    subst (λ p. IsCursorAt p nothing so.given c.entries.cursor (marked c.entries.seen)) (sym same) so.at in
    let stopped : IsAmong g.S.PageSource.refuses pages (walked pages nothing c.advance.new.self) c.in-Err-advance.error =
    subst (λ p. IsAmong g.S.PageSource.refuses p (walked p nothing c.advance.new.self) c.in-Err-advance.error) same (c.in-Err-advance.ensures.on told nothing so.given at) in
    among_joined g.S.PageSource.refuses pages (tree_walk pages (root_family c.args.root (pages.page c.args.root)) nothing c.args.root) _ c.in-Err-advance.error
    (subst (λ l. IsAmong g.S.PageSource.refuses pages l c.in-Err-advance.error)
    (walked_is pages nothing c.advance.new.self c.args.root None (c.in-Err-advance.ensures.same.root ∙ c.entries.invariant.root) (c.in-Err-advance.ensures.same.asked ∙ c.entries.invariant.asked)) stopped)

pub returns-in-Err-advance-clause-given : goal.returns-in-Err-advance-clause-given
returns-in-Err-advance-clause-given g c =
    given_later g.S.PageSource.only_read g.S.PageSource.plain g.S.PageSource.refuses c.args.source.now c.entries.source c.in-Err-advance.error g.met.S.PageSource.transitive
    (g.met.S.PageSource.same_count c.args.source.now c.entries.source c.entries.invariant.read) c.entries.invariant.read c.in-Err-advance.ensures.given

pub returns-in-Err-read-clause-part : goal.returns-in-Err-read-clause-part
returns-in-Err-read-clause-part g c told =
    so_far_stopped (g.S.PageSource.plain c.args.source.now) c.args.root c.entries.cursor (marked c.entries.seen) c.entries.rows g.K.Sink.tells (g.K.Sink.taken c.args.out.now) c.args.line.now (g.K.Sink.taken c.entries.out) c.entries.line
    (c.entries.invariant.on told)

pub returns-in-Err-read-clause-causes : goal.returns-in-Err-read-clause-causes
returns-in-Err-read-clause-causes g c told =
    let pages : Pages = g.S.PageSource.plain c.args.source.now in
    let same : g.S.PageSource.plain c.entries.source ≡ pages = g.met.S.PageSource.same_pages c.args.source.now c.entries.source c.entries.invariant.read told in
    let so = c.entries.invariant.on told in
    let at : IsCursorAt (g.S.PageSource.plain c.entries.source) nothing so.given c.entries.cursor (marked c.entries.seen) =
    subst (λ p. IsCursorAt p nothing so.given c.entries.cursor (marked c.entries.seen)) (sym same) so.at in
    let next : IsNext pages nothing so.given c.advance.new.self (marked c.advance.new.seen) (row_of c.advance.new.self) =
    subst (λ p. IsNext p nothing so.given c.advance.new.self (marked c.advance.new.seen) (row_of c.advance.new.self)) same
    (subst (λ m. IsAdvanced g.S.PageSource.refuses (g.S.PageSource.plain c.entries.source) nothing so.given c.advance.new.self (marked c.advance.new.seen) (Ok m)) c.in-Ok-true.field-0-test
    (c.in-Ok-true.ensures.on told nothing so.given at)) in
    let walk = walked_is pages nothing c.advance.new.self c.args.root None (c.in-Ok-true.ensures.same.root ∙ c.entries.invariant.root) (c.in-Ok-true.ensures.same.asked ∙ c.entries.invariant.asked) in
    let none : columns (row_of c.advance.new.self).payload ≡ None = ap (λ (row : Row). columns row.payload) (sym c.entry-entry.ensures) ∙ c.in-Err-read.ensures.read in
    subst (λ n. Contains (faults (tree_part pages (root_family c.args.root (pages.page c.args.root)) nothing c.args.root)) (RecordFault n)) (ap (λ (row : Row). row.page) (sym c.entry-entry.ensures))
    (no_record (tree_walk pages (root_family c.args.root (pages.page c.args.root)) nothing c.args.root) so.given next.more (row_of c.advance.new.self)
    (row_order pages c.args.root c.entries.cursor (marked c.entries.seen) c.entries.rows g.K.Sink.tells (g.K.Sink.taken c.args.out.now) c.args.line.now (g.K.Sink.taken c.entries.out) c.entries.line so c.advance.new.self (marked c.advance.new.seen) (row_of c.advance.new.self) [] next walk) none)

pub returns-in-Err-put_entry-clause-part : goal.returns-in-Err-put_entry-clause-part
returns-in-Err-put_entry-clause-part g c told =
    let pages : Pages = g.S.PageSource.plain c.args.source.now in
    let same : g.S.PageSource.plain c.entries.source ≡ pages = g.met.S.PageSource.same_pages c.args.source.now c.entries.source c.entries.invariant.read told in
    let so = c.entries.invariant.on told in
    let at : IsCursorAt (g.S.PageSource.plain c.entries.source) nothing so.given c.entries.cursor (marked c.entries.seen) =
    subst (λ p. IsCursorAt p nothing so.given c.entries.cursor (marked c.entries.seen)) (sym same) so.at in
    let next : IsNext pages nothing so.given c.advance.new.self (marked c.advance.new.seen) (row_of c.advance.new.self) =
    subst (λ p. IsNext p nothing so.given c.advance.new.self (marked c.advance.new.seen) (row_of c.advance.new.self)) same
    (subst (λ m. IsAdvanced g.S.PageSource.refuses (g.S.PageSource.plain c.entries.source) nothing so.given c.advance.new.self (marked c.advance.new.seen) (Ok m)) c.in-Ok-true.field-0-test
    (c.in-Ok-true.ensures.on told nothing so.given at)) in
    let walk = walked_is pages nothing c.advance.new.self c.args.root None (c.in-Ok-true.ensures.same.root ∙ c.entries.invariant.root) (c.in-Ok-true.ensures.same.asked ∙ c.entries.invariant.asked) in
    let values : columns (row_of c.advance.new.self).payload ≡ Some c.in-Ok-read.row =
    ap (λ (row : Row). columns row.payload) (sym c.entry-entry.ensures) ∙ c.in-Ok-read.ensures.read in
    let named : entry_line c.entry-entry.result.rowid c.in-Ok-read.row ≡ entry_line (row_of c.advance.new.self).rowid c.in-Ok-read.row =
    ap (λ (row : Row). entry_line row.rowid c.in-Ok-read.row) c.entry-entry.ensures in
    so_far_failed pages c.args.root c.entries.cursor (marked c.entries.seen) c.entries.rows g.K.Sink.tells (g.K.Sink.taken c.args.out.now) c.args.line.now (g.K.Sink.taken c.entries.out) c.entries.line so c.advance.new.self (marked c.advance.new.seen) (row_of c.advance.new.self) c.in-Ok-read.row next walk
    values (g.K.Sink.taken c.put_entry.new.out) (λ t. restated_part named (c.in-Err-put_entry.ensures.part t))

pub returns-in-Err-put_entry-clause-reads : goal.returns-in-Err-put_entry-clause-reads
returns-in-Err-put_entry-clause-reads g c =
    g.met.S.PageSource.transitive c.args.source.now c.entries.source c.advance.new.source c.entries.invariant.read c.in-Ok-true.ensures.reads

pub entries-preserved : goal.entries-preserved
entries-preserved g c =
    record {
      ready = c.in-Ok-true.ensures.ready;
      read = g.met.S.PageSource.transitive c.args.source.now c.entries.source c.advance.new.source c.entries.invariant.read c.in-Ok-true.ensures.reads;
      root = c.in-Ok-true.ensures.same.root ∙ c.entries.invariant.root;
      asked = c.in-Ok-true.ensures.same.asked ∙ c.entries.invariant.asked;
      few =
          let before : c.entries.rows + work c.entries.seen c.entries.cursor.path ≤ 2 ^ 53 = c.entries.invariant.few in
          let less : work c.advance.new.seen c.advance.new.self.path < work c.entries.seen c.entries.cursor.path = c.in-Ok-true.ensures.less c.in-Ok-true.field-0-test in
          omega arith;
      later = search rules;
      on = λ told.
          let pages : Pages = g.S.PageSource.plain c.args.source.now in
          let same : g.S.PageSource.plain c.entries.source ≡ pages = g.met.S.PageSource.same_pages c.args.source.now c.entries.source c.entries.invariant.read told in
          let so = c.entries.invariant.on told in
          let at : IsCursorAt (g.S.PageSource.plain c.entries.source) nothing so.given c.entries.cursor (marked c.entries.seen) =
          subst (λ p. IsCursorAt p nothing so.given c.entries.cursor (marked c.entries.seen)) (sym same) so.at in
          let next : IsNext pages nothing so.given c.advance.new.self (marked c.advance.new.seen) (row_of c.advance.new.self) =
          subst (λ p. IsNext p nothing so.given c.advance.new.self (marked c.advance.new.seen) (row_of c.advance.new.self)) same
          (subst (λ m. IsAdvanced g.S.PageSource.refuses (g.S.PageSource.plain c.entries.source) nothing so.given c.advance.new.self (marked c.advance.new.seen) (Ok m)) c.in-Ok-true.field-0-test
          (c.in-Ok-true.ensures.on told nothing so.given at)) in
          let walk = walked_is pages nothing c.advance.new.self c.args.root None (c.in-Ok-true.ensures.same.root ∙ c.entries.invariant.root) (c.in-Ok-true.ensures.same.asked ∙ c.entries.invariant.asked) in
          let values : columns (row_of c.advance.new.self).payload ≡ Some c.in-Ok-read.row =
          ap (λ (row : Row). columns row.payload) (sym c.entry-entry.ensures) ∙ c.in-Ok-read.ensures.read in
          let named : entry_line c.entry-entry.result.rowid c.in-Ok-read.row ≡ entry_line (row_of c.advance.new.self).rowid c.in-Ok-read.row =
          ap (λ (row : Row). entry_line row.rowid c.in-Ok-read.row) c.entry-entry.ensures in
          so_far_on pages c.args.root c.entries.cursor (marked c.entries.seen) c.entries.rows g.K.Sink.tells (g.K.Sink.taken c.args.out.now) c.args.line.now (g.K.Sink.taken c.entries.out) c.entries.line so c.advance.new.self (marked c.advance.new.seen) (row_of c.advance.new.self) c.in-Ok-read.row next walk
          values (g.K.Sink.taken c.put_entry.new.out) c.put_entry.new.line (λ t. restated named (c.in-Ok-put_entry.ensures.done t));
    }

pub returns-in-Ok-false-clause-text : goal.returns-in-Ok-false-clause-text
returns-in-Ok-false-clause-text g c told =
    let pages : Pages = g.S.PageSource.plain c.args.source.now in
    let same : g.S.PageSource.plain c.entries.source ≡ pages = g.met.S.PageSource.same_pages c.args.source.now c.entries.source c.entries.invariant.read told in
    let so = c.entries.invariant.on told in
    let at : IsCursorAt (g.S.PageSource.plain c.entries.source) nothing so.given c.entries.cursor (marked c.entries.seen) =
    subst (λ p. IsCursorAt p nothing so.given c.entries.cursor (marked c.entries.seen)) (sym same) so.at in
    let end : IsEnd pages nothing so.given c.advance.new.self (marked c.advance.new.seen) =
    subst (λ p. IsEnd p nothing so.given c.advance.new.self (marked c.advance.new.seen)) same
    (subst (λ m. IsAdvanced g.S.PageSource.refuses (g.S.PageSource.plain c.entries.source) nothing so.given c.advance.new.self (marked c.advance.new.seen) (Ok m)) c.in-Ok-false.field-0-test
    (c.in-Ok-false.ensures.on told nothing so.given at)) in
    let walk = walked_is pages nothing c.advance.new.self c.args.root None (c.in-Ok-false.ensures.same.root ∙ c.entries.invariant.root) (c.in-Ok-false.ensures.same.asked ∙ c.entries.invariant.asked) in
    so_far_all pages c.args.root c.entries.cursor (marked c.entries.seen) c.entries.rows g.K.Sink.tells (g.K.Sink.taken c.args.out.now) c.args.line.now (g.K.Sink.taken c.entries.out) c.entries.line so (ap entries (sym walk) ∙ end.whole)

pub returns-in-Ok-false-clause-count : goal.returns-in-Ok-false-clause-count
returns-in-Ok-false-clause-count g c told =
    let pages : Pages = g.S.PageSource.plain c.args.source.now in
    let same : g.S.PageSource.plain c.entries.source ≡ pages = g.met.S.PageSource.same_pages c.args.source.now c.entries.source c.entries.invariant.read told in
    let so = c.entries.invariant.on told in
    let at : IsCursorAt (g.S.PageSource.plain c.entries.source) nothing so.given c.entries.cursor (marked c.entries.seen) =
    subst (λ p. IsCursorAt p nothing so.given c.entries.cursor (marked c.entries.seen)) (sym same) so.at in
    let end : IsEnd pages nothing so.given c.advance.new.self (marked c.advance.new.seen) =
    subst (λ p. IsEnd p nothing so.given c.advance.new.self (marked c.advance.new.seen)) same
    (subst (λ m. IsAdvanced g.S.PageSource.refuses (g.S.PageSource.plain c.entries.source) nothing so.given c.advance.new.self (marked c.advance.new.seen) (Ok m)) c.in-Ok-false.field-0-test
    (c.in-Ok-false.ensures.on told nothing so.given at)) in
    let walk = walked_is pages nothing c.advance.new.self c.args.root None (c.in-Ok-false.ensures.same.root ∙ c.entries.invariant.root) (c.in-Ok-false.ensures.same.asked ∙ c.entries.invariant.asked) in
    so_far_count pages c.args.root c.entries.cursor (marked c.entries.seen) c.entries.rows g.K.Sink.tells (g.K.Sink.taken c.args.out.now) c.args.line.now (g.K.Sink.taken c.entries.out) c.entries.line so (ap entries (sym walk) ∙ end.whole)
