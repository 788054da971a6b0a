use Rattle.std.proofs.Common.{◌≡◌, ◌+◌, ◌^◌, ◌<◌, ◌≤◌, [], ◌∷◌, ◌++◌, ℕ, ℤ, List, Option, Some, Ok, length, slice_index_or, arith, refl, ap, sym, subst, ◌∙◌}
use Rattle.db_format.specs.Pages.{Pages, nothing}
use Rattle.db_format.specs.Record.{columns}
use Rattle.db_format.specs.Seen.{marked}
use Rattle.btree_page.specs.declared.kind.Family.TheVariants.{Index}
use Rattle.btree_model.specs.Finding.{Row, entries, is_sound}
use Rattle.btree_model.specs.Tree.{tree_walk}
use Rattle.btree_walk.specs.Cursor.{IsCursorAt, IsAdvanced, IsNext, IsEnd, row_of, walked}
use Rattle.btree_walk.specs.Turn.{work}
use Rattle.btree_walk.proofs.CauseLemmas.{given_later}
use Rattle.btree_walk.proofs.CursorLemmas.{ready_made, at_made}
use Rattle.index_check.specs.Agree.{has_entry, missing, owner_of, owners}
use Rattle.index_check.specs.Checked.{AreCounted}
use Rattle.index_check.specs.Window.{IsTally}
use Rattle.index_check.proofs.CursorSteps.{walked_is, work_first}
use Rattle.index_check.proofs.RowLemmas.{owners_on}
use Rattle.index_check.proofs.part.check_part.Goals as goal

pub entries-init : goal.entries-init
entries-init g c =
    let pages : Pages = g.S.PageSource.plain c.args.source.now in
    let none : (c.in-Ok-new.tally.entries ≡ 0) × (c.in-Ok-new.tally.nameless ≡ 0) × (c.in-Ok-new.tally.strangers.count ≡ 0) = c.in-Ok-new.ensures.few in
    record {
      ready = ready_made c.args.root (Some Index) c.in-Ok-of_family.cursor c.in-Ok-of_family.ensures pages.count (g.S.PageSource.pins c.args.source.now) c.in-Ok.seen
          c.requires.low c.requires.high (c.in-Ok.ensures.length ∙ ap (λ k. k + 1) c.pages-pages.ensures) c.requires.unpinned;
      read = g.met.S.PageSource.reflexive c.args.source.now;
      root = c.in-Ok-of_family.ensures.root_is;
      asked = c.in-Ok-of_family.ensures.asked_is;
      few =
          let most : work c.in-Ok.seen c.in-Ok-of_family.cursor.path ≤ 2 ^ 53 =
          work_first c.in-Ok.seen c.args.root (Some Index) c.in-Ok-of_family.cursor c.in-Ok-of_family.ensures (omega (arith, c.in-Ok.ensures.length)) in
          omega (arith, none.0);
      nameless = omega (arith, none.1);
      strangers = omega (arith, none.2);
      marks = c.in-Ok-new.ensures.marks;
      on = (
        [],
        record {
          tallied = c.in-Ok-new.ensures.none;
          on = λ told. (
            [],
            subst (λ t. IsCursorAt pages nothing [] c.in-Ok-of_family.cursor t) (sym c.in-Ok.ensures.none) (at_made c.args.root (Some Index) c.in-Ok-of_family.cursor c.in-Ok-of_family.ensures pages nothing),
            refl,
          );
        },
      );
    }

pub returns-in-Err-advance-clause-given : goal.returns-in-Err-advance-clause-given
returns-in-Err-advance-clause-given g c =
    given_later g.S.PageSource.only_read g.S.PageSource.plain g.S.PageSource.refuses c.args.source.now c.entries.source c.in-Err-advance.error g.met.S.PageSource.transitive
    (g.met.S.PageSource.same_count c.args.source.now c.entries.source c.entries.invariant.read) c.entries.invariant.read c.in-Err-advance.ensures.given

pub entries-preserved : goal.entries-preserved
entries-preserved g c =
    let pages : Pages = g.S.PageSource.plain c.args.source.now in
    let so = c.entries.invariant.on in
    record {
      ready = c.in-Ok-true.ensures.ready;
      read = g.met.S.PageSource.transitive c.args.source.now c.entries.source c.advance.new.source c.entries.invariant.read c.in-Ok-true.ensures.reads;
      root = c.in-Ok-true.ensures.same.root ∙ c.entries.invariant.root;
      asked = c.in-Ok-true.ensures.same.asked ∙ c.entries.invariant.asked;
      few =
          let before : c.entries.tally.entries + work c.entries.seen c.entries.cursor.path ≤ 2 ^ 53 = c.entries.invariant.few in
          let less : work c.advance.new.seen c.advance.new.self.path < work c.entries.seen c.entries.cursor.path = c.in-Ok-true.ensures.less c.in-Ok-true.field-0-test in
          omega (arith, c.take.ensures.entries);
      nameless = c.take.ensures.nameless;
      strangers = c.take.ensures.strangers;
      marks = c.take.ensures.marks ∙ c.entries.invariant.marks;
      on = (
        so.0 ++ c.owner.result ∷ [],
        record {
          tallied = c.take.ensures.tally so.0 so.1.tallied;
          on = λ told.
              let same : g.S.PageSource.plain c.entries.source ≡ pages = g.met.S.PageSource.same_pages c.args.source.now c.entries.source c.entries.invariant.read told in
              let at = so.1.on told in
              let next : IsNext pages nothing at.0 c.advance.new.self (marked c.advance.new.seen) (row_of c.advance.new.self) =
              subst (λ p. IsNext p nothing at.0 c.advance.new.self (marked c.advance.new.seen) (row_of c.advance.new.self)) same
              (subst (λ m. IsAdvanced g.S.PageSource.refuses (g.S.PageSource.plain c.entries.source) nothing at.0 c.advance.new.self (marked c.advance.new.seen) (Ok m)) c.in-Ok-true.field-0-test
              (c.in-Ok-true.ensures.on told nothing at.0 (subst (λ p. IsCursorAt p nothing at.0 c.entries.cursor (marked c.entries.seen)) (sym same) at.1)))
              in
              let own : c.owner.result ≡ owner_of (columns (row_of c.advance.new.self).payload) = c.owner.ensures ∙ ap (λ (r : Row). owner_of (columns r.payload)) c.entry.ensures in (
                at.0 ++ row_of c.advance.new.self ∷ [],
                next.at,
                ap (λ (l : List (Option ℤ)). l ++ c.owner.result ∷ []) at.2 ∙ ap (λ (o : Option ℤ). owners at.0 ++ o ∷ []) own ∙ sym (owners_on at.0 (row_of c.advance.new.self)),
              );
        },
      );
    }

pub returns-in-Ok-false-clause-found : goal.returns-in-Ok-false-clause-found
returns-in-Ok-false-clause-found g c told =
    let pages : Pages = g.S.PageSource.plain c.args.source.now in
    let same : g.S.PageSource.plain c.entries.source ≡ pages = g.met.S.PageSource.same_pages c.args.source.now c.entries.source c.entries.invariant.read told in
    let so = c.entries.invariant.on in
    let at = so.1.on told in
    let end : IsEnd pages nothing at.0 c.advance.new.self (marked c.advance.new.seen) =
    subst (λ p. IsEnd p nothing at.0 c.advance.new.self (marked c.advance.new.seen)) same
    (subst (λ m. IsAdvanced g.S.PageSource.refuses (g.S.PageSource.plain c.entries.source) nothing at.0 c.advance.new.self (marked c.advance.new.seen) (Ok m)) c.in-Ok-false.field-0-test
    (c.in-Ok-false.ensures.on told nothing at.0 (subst (λ p. IsCursorAt p nothing at.0 c.entries.cursor (marked c.entries.seen)) (sym same) at.1)))
    in
    let whole : walked pages nothing c.advance.new.self ≡ tree_walk pages Index nothing c.args.root =
    walked_is pages nothing c.advance.new.self c.args.root (Some Index) (c.in-Ok-false.ensures.same.root ∙ c.entries.invariant.root) (c.in-Ok-false.ensures.same.asked ∙ c.entries.invariant.asked)
    in
    let are : so.0 ≡ owners (entries (tree_walk pages Index nothing c.args.root)) = at.2 ∙ ap owners (sym end.whole ∙ ap entries whole) in
    let tallied : IsTally c.args.window.now (owners (entries (tree_walk pages Index nothing c.args.root))) c.entries.tally = subst (λ (l : List (Option ℤ)). IsTally c.args.window.now l c.entries.tally) are so.1.tallied in
    record {
      sound = ap is_sound (sym whole) ∙ end.sound;
      is = record {
        entries_are = tallied.entries_are;
        nameless_are = tallied.nameless_are;
        missing_are = subst (λ (l : List ℤ). AreCounted (missing l (owners (entries (tree_walk pages Index nothing c.args.root)))) c.missing_rows.result) c.as_slice.ensures.value
            (c.missing_rows.ensures (has_entry (owners (entries (tree_walk pages Index nothing c.args.root))))
            (subst (λ (l : List ℤ). (k : ℕ) (d : ℤ) → k < length l → marked c.entries.tally.met k ≡ has_entry (owners (entries (tree_walk pages Index nothing c.args.root))) (slice_index_or l k d))
            (sym c.as_slice.ensures.value) tallied.met_are));
        strangers_are = tallied.strangers_are;
      };
    }
