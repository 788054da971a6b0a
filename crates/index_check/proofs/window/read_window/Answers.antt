use Rattle.std.proofs.Common.{◌≡◌, ◌+◌, ◌^◌, ◌<◌, ◌≤◌, [], ◌∷◌, ◌++◌, ℤ, List, Some, None, Ok, true, arith, rules, refl, ap, sym, subst, ◌∙◌}
use Rattle.std.specs.Int.{w64}
use mir.Val.{to_z, of_z, SFits}
use Rattle.std.proofs.lemmas.Int.{to_z-of_z}
use Rattle.db_format.specs.Pages.{Pages, nothing}
use Rattle.db_format.specs.Seen.{marked}
use Rattle.btree_page.specs.declared.kind.Family.TheVariants.{Table}
use Rattle.btree_model.specs.Finding.{Row, entries, is_sound}
use Rattle.btree_model.specs.Tree.{tree_walk}
use Rattle.btree_walk.specs.Cursor.{IsCursorAt, IsAdvanced, IsGivenAfter, IsNext, IsEnd, row_of, walked}
use Rattle.btree_walk.specs.Order.{IsAfter}
use Rattle.btree_walk.specs.Turn.{work}
use Rattle.btree_walk.proofs.CauseLemmas.{given_later}
use Rattle.btree_walk.proofs.CursorLemmas.{ready_made, at_made}
use Rattle.index_check.specs.Agree.{rowids}
use Rattle.index_check.specs.Checked.{IsRising}
use Rattle.index_check.specs.Window.{IsWindow}
use Rattle.index_check.proofs.CursorSteps.{walked_is, work_first}
use Rattle.index_check.proofs.RiseLemmas.{EndsIn, ends, rises}
use Rattle.index_check.proofs.RowLemmas.{rowids_on, rowids_stay}
use Rattle.index_check.proofs.window.read_window.Goals as goal
use Rattle.btree_model.specs.Content.{last_after}

pub entries-init : goal.entries-init
entries-init g c =
    let pages : Pages = g.S.PageSource.plain c.args.source.now in
    record {
      ready = ready_made c.args.root (Some Table) c.in-Ok-of_family.cursor c.in-Ok-of_family.ensures pages.count (g.S.PageSource.pins c.args.source.now) c.in-Ok.seen
          c.requires.low c.requires.high (c.in-Ok.ensures.length ∙ ap (λ k. k + 1) c.pages-pages.ensures) c.requires.unpinned;
      read = g.met.S.PageSource.reflexive c.args.source.now;
      root = c.in-Ok-of_family.ensures.root_is;
      asked = c.in-Ok-of_family.ensures.asked_is;
      few =
          let most : work c.in-Ok.seen c.in-Ok-of_family.cursor.path ≤ 2 ^ 53 =
          work_first c.in-Ok.seen c.args.root (Some Table) c.in-Ok-of_family.cursor c.in-Ok-of_family.ensures (omega (arith, c.in-Ok.ensures.length)) in
          let none : c.new-window.result.rows ≡ 0 = c.new-window.ensures.window.rows_are in
          omega arith;
      above = c.new-window.ensures.above;
      on = (
        [],
        record {
          rising = λ i j d less l. absurd (omega arith);
          last = subst (EndsIn []) (sym c.in-Ok-of_family.ensures.last) refl;
          window_is = c.new-window.ensures.window;
          on = λ told. (
            [],
            subst (λ t. IsCursorAt pages nothing [] c.in-Ok-of_family.cursor t) (sym c.in-Ok.ensures.none) (at_made c.args.root (Some Table) c.in-Ok-of_family.cursor c.in-Ok-of_family.ensures pages nothing),
            refl,
          );
        },
      );
    }

pub returns-in-Err-advance-clause-given : goal.returns-in-Err-advance-clause-given
returns-in-Err-advance-clause-given g c =
    given_later g.S.PageSource.only_read g.S.PageSource.plain g.S.PageSource.refuses c.args.source.now c.entries.source c.in-Err-advance.error g.met.S.PageSource.transitive
    (g.met.S.PageSource.same_count c.args.source.now c.entries.source c.entries.invariant.read) c.entries.invariant.read c.in-Err-advance.ensures.given

pub entries-preserved-in-None : goal.entries-preserved-in-None
entries-preserved-in-None g c =
    let pages : Pages = g.S.PageSource.plain c.args.source.now in
    let own : c.advance.new.self.rowid ≡ None = sym (ap (λ (row : Row). row.rowid) c.entry.ensures) ∙ c.in-None.is in
    let given : IsGivenAfter c.entries.cursor c.advance.new.self true = subst (IsGivenAfter c.entries.cursor c.advance.new.self) c.in-Ok-true.field-0-test c.in-Ok-true.ensures.rising in
    let so = c.entries.invariant.on in
    record {
      ready = c.in-Ok-true.ensures.ready;
      read = g.met.S.PageSource.transitive c.args.source.now c.entries.source c.advance.new.source c.entries.invariant.read c.in-Ok-true.ensures.reads;
      root = c.in-Ok-true.ensures.same.root ∙ c.entries.invariant.root;
      asked = c.in-Ok-true.ensures.same.asked ∙ c.entries.invariant.asked;
      few =
          let before : c.entries.window.rows + work c.entries.seen c.entries.cursor.path ≤ 2 ^ 53 = c.entries.invariant.few in
          let less : work c.advance.new.seen c.advance.new.self.path < work c.entries.seen c.entries.cursor.path = c.in-Ok-true.ensures.less c.in-Ok-true.field-0-test in
          omega arith;
      above = c.entries.invariant.above;
      on = (
        so.0,
        record {
          rising = so.1.rising;
          last = subst (EndsIn so.0) (sym (given.2 ∙ ap (last_after c.entries.cursor.last) own)) so.1.last;
          window_is = so.1.window_is;
          on = λ told.
              let same : g.S.PageSource.plain c.entries.source ≡ pages = g.met.S.PageSource.same_pages c.args.source.now c.entries.source c.entries.invariant.read told in
              let at = so.1.on told in
              let next : IsNext pages nothing at.0 c.advance.new.self (marked c.advance.new.seen) (row_of c.advance.new.self) =
              subst (λ p. IsNext p nothing at.0 c.advance.new.self (marked c.advance.new.seen) (row_of c.advance.new.self)) same
              (subst (λ m. IsAdvanced g.S.PageSource.refuses (g.S.PageSource.plain c.entries.source) nothing at.0 c.advance.new.self (marked c.advance.new.seen) (Ok m)) c.in-Ok-true.field-0-test
              (c.in-Ok-true.ensures.on told nothing at.0 (subst (λ p. IsCursorAt p nothing at.0 c.entries.cursor (marked c.entries.seen)) (sym same) at.1)))
              in (at.0 ++ row_of c.advance.new.self ∷ [], next.at, at.2 ∙ sym (rowids_stay at.0 (row_of c.advance.new.self) own));
        },
      );
    }

pub entries-preserved : goal.entries-preserved
entries-preserved g c =
    let pages : Pages = g.S.PageSource.plain c.args.source.now in
    let fits : SFits w64 c.in-Some.rowid = search rules in
    let back : to_z w64 (of_z w64 c.in-Some.rowid) ≡ c.in-Some.rowid = to_z-of_z w64 c.in-Some.rowid fits in
    let own : c.advance.new.self.rowid ≡ Some c.in-Some.rowid = sym (ap (λ (row : Row). row.rowid) c.entry.ensures) ∙ c.in-Some.is in
    let given : IsGivenAfter c.entries.cursor c.advance.new.self true = subst (IsGivenAfter c.entries.cursor c.advance.new.self) c.in-Ok-true.field-0-test c.in-Ok-true.ensures.rising in
    let after : IsAfter c.entries.cursor.last (Some c.in-Some.rowid) = subst (IsAfter c.entries.cursor.last) own given.0 in
    let so = c.entries.invariant.on in
    record {
      ready = c.in-Ok-true.ensures.ready;
      read = g.met.S.PageSource.transitive c.args.source.now c.entries.source c.advance.new.source c.entries.invariant.read c.in-Ok-true.ensures.reads;
      root = c.in-Ok-true.ensures.same.root ∙ c.entries.invariant.root;
      asked = c.in-Ok-true.ensures.same.asked ∙ c.entries.invariant.asked;
      few =
          let before : c.entries.window.rows + work c.entries.seen c.entries.cursor.path ≤ 2 ^ 53 = c.entries.invariant.few in
          let less : work c.advance.new.seen c.advance.new.self.path < work c.entries.seen c.entries.cursor.path = c.in-Ok-true.ensures.less c.in-Ok-true.field-0-test in
          let more : c.take.new.self.rows ≡ c.entries.window.rows + 1 = c.in-Ok-take.ensures.rows in
          omega arith;
      above = c.in-Ok-take.ensures.above ∙ c.entries.invariant.above;
      on = (
        so.0 ++ c.in-Some.rowid ∷ [],
        record {
          rising = rises so.0 c.entries.cursor.last c.in-Some.rowid so.1.rising so.1.last after;
          last = subst (EndsIn (so.0 ++ c.in-Some.rowid ∷ [])) (sym (given.2 ∙ ap (last_after c.entries.cursor.last) own)) (ends so.0 c.entries.cursor.last c.in-Some.rowid so.1.last after);
          window_is = subst (λ (z : ℤ). IsWindow (so.0 ++ z ∷ []) c.take.new.self) back (c.in-Ok-take.ensures.window so.0 so.1.window_is);
          on = λ told.
              let same : g.S.PageSource.plain c.entries.source ≡ pages = g.met.S.PageSource.same_pages c.args.source.now c.entries.source c.entries.invariant.read told in
              let at = so.1.on told in
              let next : IsNext pages nothing at.0 c.advance.new.self (marked c.advance.new.seen) (row_of c.advance.new.self) =
              subst (λ p. IsNext p nothing at.0 c.advance.new.self (marked c.advance.new.seen) (row_of c.advance.new.self)) same
              (subst (λ m. IsAdvanced g.S.PageSource.refuses (g.S.PageSource.plain c.entries.source) nothing at.0 c.advance.new.self (marked c.advance.new.seen) (Ok m)) c.in-Ok-true.field-0-test
              (c.in-Ok-true.ensures.on told nothing at.0 (subst (λ p. IsCursorAt p nothing at.0 c.entries.cursor (marked c.entries.seen)) (sym same) at.1)))
              in (
                at.0 ++ row_of c.advance.new.self ∷ [],
                next.at,
                ap (λ l. l ++ c.in-Some.rowid ∷ []) at.2 ∙ sym (rowids_on at.0 (row_of c.advance.new.self) (Some c.in-Some.rowid) own),
              );
        },
      );
    }

pub returns-in-Ok-false-clause-found : goal.returns-in-Ok-false-clause-found
returns-in-Ok-false-clause-found g c told =
    let pages : Pages = g.S.PageSource.plain c.args.source.now in
    let same : g.S.PageSource.plain c.entries.source ≡ pages = g.met.S.PageSource.same_pages c.args.source.now c.entries.source c.entries.invariant.read told in
    let so = c.entries.invariant.on in
    let at = so.1.on told in
    let end : IsEnd pages nothing at.0 c.advance.new.self (marked c.advance.new.seen) =
    subst (λ p. IsEnd p nothing at.0 c.advance.new.self (marked c.advance.new.seen)) same
    (subst (λ m. IsAdvanced g.S.PageSource.refuses (g.S.PageSource.plain c.entries.source) nothing at.0 c.advance.new.self (marked c.advance.new.seen) (Ok m)) c.in-Ok-false.field-0-test
    (c.in-Ok-false.ensures.on told nothing at.0 (subst (λ p. IsCursorAt p nothing at.0 c.entries.cursor (marked c.entries.seen)) (sym same) at.1)))
    in
    let whole : walked pages nothing c.advance.new.self ≡ tree_walk pages Table nothing c.args.root =
    walked_is pages nothing c.advance.new.self c.args.root (Some Table) (c.in-Ok-false.ensures.same.root ∙ c.entries.invariant.root) (c.in-Ok-false.ensures.same.asked ∙ c.entries.invariant.asked)
    in
    let are : so.0 ≡ rowids (entries (tree_walk pages Table nothing c.args.root)) = at.2 ∙ ap rowids (sym end.whole ∙ ap entries whole) in
    record {
      sound = ap is_sound (sym whole) ∙ end.sound;
      rising = subst IsRising are so.1.rising;
      is = subst (λ (l : List ℤ). IsWindow l c.entries.window) are so.1.window_is;
    }
