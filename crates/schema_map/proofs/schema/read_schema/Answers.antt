use Rattle.std.proofs.Common.{◌≡◌, ◌+◌, ◌*◌, ◌^◌, ◌<◌, ◌≤◌, List, [], ◌∷◌, ◌++◌, length, Some, Ok, Err, map, vec_len, arith, refl, ap, sym, subst, ◌∙◌}
use Rattle.std.specs.List.{All}
use Rattle.std.proofs.lemmas.List.Elements.{All-nil, All-push}
use Rattle.std.proofs.lemmas.List.{append-nil, map-append}
use Rattle.db_format.specs.Pages.{Pages, Test, also}
use Rattle.db_format.specs.Seen.{marked, open_count}
use Rattle.btree_model.specs.Finding.{Row, Finding, entries, places, is_sound}
use Rattle.btree_model.specs.Records.{tree_part}
use Rattle.btree_model.specs.Tree.{tree_walk}
use Rattle.btree_walk.specs.Causes.{IsAmong, IsMarked}
use Rattle.btree_walk.specs.Cursor.{IsCursorAt, IsAdvanced, IsNext, IsEnd, row_of, row_shown, walked}
use Rattle.btree_page.specs.declared.kind.Family.TheVariants.{Table}
use Rattle.btree_walk.specs.Turn.{work}
use Rattle.btree_walk.proofs.CauseLemmas.{given_later}
use Rattle.btree_walk.proofs.CursorLemmas.{ready_made, at_made}
use Rattle.schema_map.proofs.CursorFacts.{at_marked, work_made, walked_is, passed_on}
use Rattle.schema_map.proofs.PartLemmas.{among_joined, records_kept}
use Rattle.schema_map.proofs.SchemaLemmas.{schema_on, row_given, row_failure, row_stop, schema_done}
use Rattle.schema_map.specs.Schema.{IsKept, IsRowRead, schema_row}
use Rattle.schema_map.specs.declared.schema.SchemaRow.{SchemaRow}
use Rattle.space_map.proofs.TrunkLemmas.{marked_joined, marked_met}
use Rattle.schema_map.proofs.schema.read_schema.Goals as goal

pub entries-init : goal.entries-init
entries-init g c =
    record {
      ready = ready_made 1 (Some Table) c.in-Ok.cursor c.in-Ok.ensures (g.S.PageSource.plain c.args.source.now).count (g.S.PageSource.pins c.args.source.now) c.args.seen.now
          (omega arith) c.requires.some c.requires.marks c.requires.unpinned;
      read = g.met.S.PageSource.reflexive c.args.source.now;
      root = c.in-Ok.ensures.root_is;
      asked = c.in-Ok.ensures.asked_is;
      few = let is : work c.args.seen.now c.in-Ok.cursor.path ≡ 2 ^ 21 * open_count c.args.seen.now = work_made c.args.seen.now 1 (Some Table) c.in-Ok.cursor c.in-Ok.ensures in omega (arith, c.new-rows.ensures.len);
      high = subst (λ l. All (λ (row : SchemaRow). row.root ≤ (g.S.PageSource.plain c.args.source.now).count) l) (sym c.new-rows.ensures.items) (All-nil _);
      on = λ told. ([], at_made 1 (Some Table) c.in-Ok.cursor c.in-Ok.ensures (g.S.PageSource.plain c.args.source.now) (marked c.args.seen.now), refl, refl, c.new-rows.ensures.items);
    }

pub returns-in-Err-advance-clause-given : goal.returns-in-Err-advance-clause-given
returns-in-Err-advance-clause-given g c =
    given_later g.S.PageSource.only_read g.S.PageSource.plain g.S.PageSource.refuses c.args.source.now c.entries.source c.in-Err-advance.error g.met.S.PageSource.transitive
    (g.met.S.PageSource.same_count c.args.source.now c.entries.source c.entries.invariant.read) c.entries.invariant.read c.in-Err-advance.ensures.given

pub returns-in-Err-advance-clause-found : goal.returns-in-Err-advance-clause-found
returns-in-Err-advance-clause-found g c told =
    let pages : Pages = g.S.PageSource.plain c.args.source.now in
    let taken : Test = marked c.args.seen.now in
    let same : g.S.PageSource.plain c.entries.source ≡ pages = g.met.S.PageSource.same_pages c.args.source.now c.entries.source c.entries.invariant.read told in
    let at = c.entries.invariant.on told in
    let stopped : IsAmong g.S.PageSource.refuses pages (walked pages taken c.advance.new.self) c.in-Err-advance.error =
    subst (λ p. IsAmong g.S.PageSource.refuses p (walked p taken c.advance.new.self) c.in-Err-advance.error) same
    (c.in-Err-advance.ensures.on told taken at.0 (subst (λ p. IsCursorAt p taken at.0 c.entries.cursor (marked c.entries.seen)) (sym same) at.1))
    in
    among_joined g.S.PageSource.refuses pages (tree_part pages Table taken 1) _ c.in-Err-advance.error
    (among_joined g.S.PageSource.refuses pages (tree_walk pages Table taken 1) _ c.in-Err-advance.error
    (subst (λ l. IsAmong g.S.PageSource.refuses pages l c.in-Err-advance.error)
    (walked_is pages taken c.advance.new.self 1 (Some Table) (c.in-Err-advance.ensures.same.root ∙ c.entries.invariant.root) (c.in-Err-advance.ensures.same.asked ∙ c.entries.invariant.asked)) stopped))

pub entries-preserved : goal.entries-preserved
entries-preserved g c =
    let pages : Pages = g.S.PageSource.plain c.args.source.now in
    let taken : Test = marked c.args.seen.now in
    record {
      ready = c.in-Ok-true.ensures.ready;
      read = g.met.S.PageSource.transitive c.args.source.now c.entries.source c.advance.new.source c.entries.invariant.read c.in-Ok-true.ensures.reads;
      root = c.in-Ok-true.ensures.same.root ∙ c.entries.invariant.root;
      asked = c.in-Ok-true.ensures.same.asked ∙ c.entries.invariant.asked;
      few =
          let before : vec_len c.entries.rows + work c.entries.seen c.entries.cursor.path ≤ 2 ^ 21 * open_count c.args.seen.now = c.entries.invariant.few in
          let less : work c.advance.new.seen c.advance.new.self.path < work c.entries.seen c.entries.cursor.path = c.in-Ok-true.ensures.less c.in-Ok-true.field-0-test in
          omega (arith, c.in-Ok-push.ensures.len);
      high =
          subst (λ l. All (λ (row : SchemaRow). row.root ≤ pages.count) l) (sym c.in-Ok-push.ensures.items)
          (All-push (λ (row : SchemaRow). row.root ≤ pages.count) c.entries.rows.items c.in-Ok-read_row.row c.entries.invariant.high
          (subst (λ k. c.in-Ok-read_row.row.root ≤ k) c.pages-count.ensures c.in-Ok-read_row.ensures.root));
      on = λ told.
          let same : g.S.PageSource.plain c.entries.source ≡ pages = g.met.S.PageSource.same_pages c.args.source.now c.entries.source c.entries.invariant.read told in
          let at = c.entries.invariant.on told in
          let next : IsNext pages taken at.0 c.advance.new.self (marked c.advance.new.seen) (row_of c.advance.new.self) =
          subst (λ p. IsNext p taken at.0 c.advance.new.self (marked c.advance.new.seen) (row_of c.advance.new.self)) same
          (subst (λ m. IsAdvanced g.S.PageSource.refuses (g.S.PageSource.plain c.entries.source) taken at.0 c.advance.new.self (marked c.advance.new.seen) (Ok m)) c.in-Ok-true.field-0-test
          (c.in-Ok-true.ensures.on told taken at.0 (subst (λ p. IsCursorAt p taken at.0 c.entries.cursor (marked c.entries.seen)) (sym same) at.1)))
          in
          let kept : IsKept pages (row_of c.advance.new.self) c.in-Ok-read_row.row =
          subst (λ (row : Row). IsKept pages row c.in-Ok-read_row.row) c.entry-entry.ensures (c.in-Ok-read_row.ensures.read pages (sym c.pages-count.ensures))
          in (
            at.0 ++ row_of c.advance.new.self ∷ [],
            next.at,
            records_kept at.0 (row_of c.advance.new.self) at.2 kept.recorded,
            schema_on pages at.0 (row_of c.advance.new.self) at.3 kept.rooted,
            c.in-Ok-push.ensures.items ∙ ap (λ l. l ++ c.in-Ok-read_row.row ∷ []) at.4 ∙ ap (λ kept. map schema_row at.0 ++ kept ∷ []) kept.is ∙ sym (map-append schema_row at.0 (row_of c.advance.new.self ∷ [])),
          );
    }

pub returns-in-Err-read_row-clause-given : goal.returns-in-Err-read_row-clause-given
returns-in-Err-read_row-clause-given g c =
    row_given (g.S.PageSource.plain c.args.source.now) (row_shown c.entry-entry.result) g.S.PageSource.only_read g.S.PageSource.plain g.S.PageSource.refuses c.args.source.now c.in-Err-read_row.error
    (c.in-Err-read_row.ensures.read (g.S.PageSource.plain c.args.source.now) (sym c.pages-count.ensures))

pub returns-in-Err-read_row-clause-fault : goal.returns-in-Err-read_row-clause-fault
returns-in-Err-read_row-clause-fault g c failed =
    absurd (row_failure (g.S.PageSource.plain c.args.source.now) (row_shown c.entry-entry.result) g.S.PageSource.is_fault c.in-Err-read_row.error
    (c.in-Err-read_row.ensures.read (g.S.PageSource.plain c.args.source.now) (sym c.pages-count.ensures)) failed)

pub returns-in-Err-read_row-clause-found : goal.returns-in-Err-read_row-clause-found
returns-in-Err-read_row-clause-found g c told =
    let pages : Pages = g.S.PageSource.plain c.args.source.now in
    let taken : Test = marked c.args.seen.now in
    let same : g.S.PageSource.plain c.entries.source ≡ pages = g.met.S.PageSource.same_pages c.args.source.now c.entries.source c.entries.invariant.read told in
    let at = c.entries.invariant.on told in
    let next : IsNext pages taken at.0 c.advance.new.self (marked c.advance.new.seen) (row_of c.advance.new.self) =
    subst (λ p. IsNext p taken at.0 c.advance.new.self (marked c.advance.new.seen) (row_of c.advance.new.self)) same
    (subst (λ m. IsAdvanced g.S.PageSource.refuses (g.S.PageSource.plain c.entries.source) taken at.0 c.advance.new.self (marked c.advance.new.seen) (Ok m)) c.in-Ok-true.field-0-test
    (c.in-Ok-true.ensures.on told taken at.0 (subst (λ p. IsCursorAt p taken at.0 c.entries.cursor (marked c.entries.seen)) (sym same) at.1)))
    in
    let found : List Finding = tree_walk pages Table taken 1 in
    let order : entries found ≡ at.0 ++ row_of c.advance.new.self ∷ next.more =
    ap entries (sym (walked_is pages taken c.advance.new.self 1 (Some Table) (c.in-Ok-true.ensures.same.root ∙ c.entries.invariant.root) (c.in-Ok-true.ensures.same.asked ∙ c.entries.invariant.asked))) ∙ next.order
    in
    row_stop pages found at.0 next.more (row_of c.advance.new.self) order g.S.PageSource.refuses c.in-Err-read_row.error
    (subst (λ (row : Row). IsRowRead pages row (Err c.in-Err-read_row.error)) c.entry-entry.ensures (c.in-Err-read_row.ensures.read pages (sym c.pages-count.ensures)))

pub returns-in-Ok-false-clause-found : goal.returns-in-Ok-false-clause-found
returns-in-Ok-false-clause-found g c told =
    let pages : Pages = g.S.PageSource.plain c.args.source.now in
    let taken : Test = marked c.args.seen.now in
    let same : g.S.PageSource.plain c.entries.source ≡ pages = g.met.S.PageSource.same_pages c.args.source.now c.entries.source c.entries.invariant.read told in
    let at = c.entries.invariant.on told in
    let end : IsEnd pages taken at.0 c.advance.new.self (marked c.advance.new.seen) =
    subst (λ p. IsEnd p taken at.0 c.advance.new.self (marked c.advance.new.seen)) same
    (subst (λ m. IsAdvanced g.S.PageSource.refuses (g.S.PageSource.plain c.entries.source) taken at.0 c.advance.new.self (marked c.advance.new.seen) (Ok m)) c.in-Ok-false.field-0-test
    (c.in-Ok-false.ensures.on told taken at.0 (subst (λ p. IsCursorAt p taken at.0 c.entries.cursor (marked c.entries.seen)) (sym same) at.1)))
    in
    let found : List Finding = tree_walk pages Table taken 1 in
    let whole : walked pages taken c.advance.new.self ≡ found =
    walked_is pages taken c.advance.new.self 1 (Some Table) (c.in-Ok-false.ensures.same.root ∙ c.entries.invariant.root) (c.in-Ok-false.ensures.same.asked ∙ c.entries.invariant.asked)
    in
    let before : walked pages taken c.entries.cursor ≡ found = walked_is pages taken c.entries.cursor 1 (Some Table) c.entries.invariant.root c.entries.invariant.asked in
    let fewer : open_count c.advance.new.seen ≤ open_count c.entries.seen =
    passed_on pages taken at.0 c.entries.cursor c.entries.seen c.advance.new.seen at.1
    (end.marks ∙ ap (λ l. also (places l) taken) (whole ∙ sym before)) (c.in-Ok-false.ensures.ready.marks ∙ ap (λ k. k + 1) (g.met.S.PageSource.same_count c.entries.source c.advance.new.source c.in-Ok-false.ensures.reads) ∙ sym c.entries.invariant.ready.marks)
    in
    let few : vec_len c.entries.rows + work c.entries.seen c.entries.cursor.path ≤ 2 ^ 21 * open_count c.args.seen.now = c.entries.invariant.few in
    schema_done pages found at.0 c.args.seen.now c.advance.new.seen c.entries.rows.items (ap is_sound (sym whole) ∙ end.sound) (ap entries (sym whole) ∙ end.whole) at.2 at.3
    (end.marks ∙ ap (λ l. also (places l) taken) whole) at.4
    (let len : vec_len c.entries.rows ≡ length c.entries.rows.items = c.entries.rows.ok.0 in omega arith)

pub returns-in-Err-advance-clause-marked : goal.returns-in-Err-advance-clause-marked
returns-in-Err-advance-clause-marked g c told =
    let pages : Pages = g.S.PageSource.plain c.args.source.now in
    let taken : Test = marked c.args.seen.now in
    let same : g.S.PageSource.plain c.entries.source ≡ pages = g.met.S.PageSource.same_pages c.args.source.now c.entries.source c.entries.invariant.read told in
    let at = c.entries.invariant.on told in
    marked_joined (tree_part pages Table taken 1) _ taken (marked c.advance.new.seen)
    (marked_joined (tree_walk pages Table taken 1) _ taken (marked c.advance.new.seen)
    (subst (λ l. IsMarked l taken (marked c.advance.new.seen))
    (walked_is pages taken c.entries.cursor 1 (Some Table) c.entries.invariant.root c.entries.invariant.asked)
    (subst (λ p. IsMarked (walked p taken c.entries.cursor) taken (marked c.advance.new.seen)) same
    (c.in-Err-advance.ensures.marks told taken at.0 (subst (λ p. IsCursorAt p taken at.0 c.entries.cursor (marked c.entries.seen)) (sym same) at.1)))))

pub returns-in-Ok-false-clause-marked : goal.returns-in-Ok-false-clause-marked
returns-in-Ok-false-clause-marked g c told =
    let pages : Pages = g.S.PageSource.plain c.args.source.now in
    let taken : Test = marked c.args.seen.now in
    let same : g.S.PageSource.plain c.entries.source ≡ pages = g.met.S.PageSource.same_pages c.args.source.now c.entries.source c.entries.invariant.read told in
    let at = c.entries.invariant.on told in
    let end : IsEnd pages taken at.0 c.advance.new.self (marked c.advance.new.seen) =
    subst (λ p. IsEnd p taken at.0 c.advance.new.self (marked c.advance.new.seen)) same
    (subst (λ m. IsAdvanced g.S.PageSource.refuses (g.S.PageSource.plain c.entries.source) taken at.0 c.advance.new.self (marked c.advance.new.seen) (Ok m)) c.in-Ok-false.field-0-test
    (c.in-Ok-false.ensures.on told taken at.0 (subst (λ p. IsCursorAt p taken at.0 c.entries.cursor (marked c.entries.seen)) (sym same) at.1)))
    in
    let found : List Finding = tree_walk pages Table taken 1 in
    let whole : walked pages taken c.advance.new.self ≡ found =
    walked_is pages taken c.advance.new.self 1 (Some Table) (c.in-Ok-false.ensures.same.root ∙ c.entries.invariant.root) (c.in-Ok-false.ensures.same.asked ∙ c.entries.invariant.asked)
    in
    marked_joined (tree_part pages Table taken 1) _ taken (marked c.advance.new.seen)
    (marked_joined found _ taken (marked c.advance.new.seen)
    (marked_met found found [] taken (marked c.advance.new.seen) (sym (append-nil found)) (end.marks ∙ ap (λ l. also (places l) taken) whole)))

pub returns-in-Err-read_row-clause-marked : goal.returns-in-Err-read_row-clause-marked
returns-in-Err-read_row-clause-marked g c told =
    let pages : Pages = g.S.PageSource.plain c.args.source.now in
    let taken : Test = marked c.args.seen.now in
    let same : g.S.PageSource.plain c.entries.source ≡ pages = g.met.S.PageSource.same_pages c.args.source.now c.entries.source c.entries.invariant.read told in
    let at = c.entries.invariant.on told in
    let next : IsNext pages taken at.0 c.advance.new.self (marked c.advance.new.seen) (row_of c.advance.new.self) =
    subst (λ p. IsNext p taken at.0 c.advance.new.self (marked c.advance.new.seen) (row_of c.advance.new.self)) same
    (subst (λ m. IsAdvanced g.S.PageSource.refuses (g.S.PageSource.plain c.entries.source) taken at.0 c.advance.new.self (marked c.advance.new.seen) (Ok m)) c.in-Ok-true.field-0-test
    (c.in-Ok-true.ensures.on told taken at.0 (subst (λ p. IsCursorAt p taken at.0 c.entries.cursor (marked c.entries.seen)) (sym same) at.1)))
    in
    marked_joined (tree_part pages Table taken 1) _ taken (marked c.advance.new.seen)
    (marked_joined (tree_walk pages Table taken 1) _ taken (marked c.advance.new.seen)
    (subst (λ l. IsMarked l taken (marked c.advance.new.seen))
    (walked_is pages taken c.advance.new.self 1 (Some Table) (c.in-Ok-true.ensures.same.root ∙ c.entries.invariant.root) (c.in-Ok-true.ensures.same.asked ∙ c.entries.invariant.asked))
    (at_marked pages taken (at.0 ++ row_of c.advance.new.self ∷ []) c.advance.new.self (marked c.advance.new.seen) next.at)))

pub returns-in-Err-push-clause-marked : goal.returns-in-Err-push-clause-marked
returns-in-Err-push-clause-marked g c told =
    let pages : Pages = g.S.PageSource.plain c.args.source.now in
    let taken : Test = marked c.args.seen.now in
    let same : g.S.PageSource.plain c.entries.source ≡ pages = g.met.S.PageSource.same_pages c.args.source.now c.entries.source c.entries.invariant.read told in
    let at = c.entries.invariant.on told in
    let next : IsNext pages taken at.0 c.advance.new.self (marked c.advance.new.seen) (row_of c.advance.new.self) =
    subst (λ p. IsNext p taken at.0 c.advance.new.self (marked c.advance.new.seen) (row_of c.advance.new.self)) same
    (subst (λ m. IsAdvanced g.S.PageSource.refuses (g.S.PageSource.plain c.entries.source) taken at.0 c.advance.new.self (marked c.advance.new.seen) (Ok m)) c.in-Ok-true.field-0-test
    (c.in-Ok-true.ensures.on told taken at.0 (subst (λ p. IsCursorAt p taken at.0 c.entries.cursor (marked c.entries.seen)) (sym same) at.1)))
    in
    marked_joined (tree_part pages Table taken 1) _ taken (marked c.advance.new.seen)
    (marked_joined (tree_walk pages Table taken 1) _ taken (marked c.advance.new.seen)
    (subst (λ l. IsMarked l taken (marked c.advance.new.seen))
    (walked_is pages taken c.advance.new.self 1 (Some Table) (c.in-Ok-true.ensures.same.root ∙ c.entries.invariant.root) (c.in-Ok-true.ensures.same.asked ∙ c.entries.invariant.asked))
    (at_marked pages taken (at.0 ++ row_of c.advance.new.self ∷ []) c.advance.new.self (marked c.advance.new.seen) next.at)))
