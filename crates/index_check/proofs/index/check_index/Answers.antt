use Rattle.std.proofs.Common.{◌≡◌, ◌<◌, ◌^◌, ℤ, List, Option, Some, true, rules, sym, subst, ◌∙◌}
use Rattle.std.specs.Int.{w64}
use mir.Val.{SFits}
use Rattle.std.proofs.lemmas.Int.{to_z-of_z}
use Rattle.db_format.specs.Pages.{Pages, nothing}
use Rattle.btree_page.specs.declared.kind.Family.TheVariants.{Index, Table}
use Rattle.btree_model.specs.Finding.{entries}
use Rattle.btree_model.specs.Tree.{tree_walk}
use Rattle.btree_walk.proofs.CauseLemmas.{given_later}
use Rattle.index_check.specs.Agree.{owners, rowids}
use Rattle.index_check.specs.Window.{IsPartOf, IsWindowOf, high, is_above}
use Rattle.index_check.proofs.SumLemmas.{AreSoFar, fewer_above, last_above, left_above, none_so_far, so_far_all, so_far_more, window_rises, window_short}
use Rattle.index_check.proofs.index.check_index.Goals as goal

pub windows-init : goal.windows-init
windows-init g c = record {
  read = g.met.S.PageSource.reflexive c.args.source.now;
  unpinned = c.requires.unpinned;
  on = λ told.
      none_so_far (rowids (entries (tree_walk (g.S.PageSource.plain c.args.source.now) Table nothing c.args.table)))
      (owners (entries (tree_walk (g.S.PageSource.plain c.args.source.now) Index nothing c.args.index))) c.none-missing.result c.none-strangers.result c.none-missing.ensures c.none-strangers.ensures;
}

pub check_part-requires-clause-rising : goal.check_part-requires-clause-rising
check_part-requires-clause-rising g c = let of = c.in-Ok.ensures.rows in window_rises of.0 c.in-Ok.window of.1 of.2

pub check_part-requires-clause-few : goal.check_part-requires-clause-few
check_part-requires-clause-few g c = let of = c.in-Ok.ensures.rows in window_short of.0 c.in-Ok.window of.1 of.2

pub returns-in-Err-check_part-clause-given : goal.returns-in-Err-check_part-clause-given
returns-in-Err-check_part-clause-given g c =
    let read = g.met.S.PageSource.transitive c.args.source.now c.windows.source c.read_window.new.source c.windows.invariant.read c.in-Ok.ensures.reads in
    given_later g.S.PageSource.only_read g.S.PageSource.plain g.S.PageSource.refuses c.args.source.now c.read_window.new.source c.in-Err-check_part.error g.met.S.PageSource.transitive
    (g.met.S.PageSource.same_count c.args.source.now c.read_window.new.source read) read c.in-Err-check_part.ensures.given

pub returns-in-None-clause-found : goal.returns-in-None-clause-found
returns-in-None-clause-found g c told =
    let pages : Pages = g.S.PageSource.plain c.args.source.now in
    let read = g.met.S.PageSource.transitive c.args.source.now c.windows.source c.read_window.new.source c.windows.invariant.read c.in-Ok.ensures.reads in
    let same : g.S.PageSource.plain c.windows.source ≡ pages = g.met.S.PageSource.same_pages c.args.source.now c.windows.source c.windows.invariant.read told in
    let same_then : g.S.PageSource.plain c.read_window.new.source ≡ pages = g.met.S.PageSource.same_pages c.args.source.now c.read_window.new.source read told in
    let of : IsWindowOf (tree_walk pages Table nothing c.args.table) c.in-Ok.window =
    subst (λ (p : Pages). IsWindowOf (tree_walk p Table nothing c.args.table) c.in-Ok.window) same (c.in-Ok.ensures.found told) in
    let has : IsPartOf (tree_walk pages Index nothing c.args.index) c.in-Ok.window c.in-Ok-check_part.part =
    subst (λ (p : Pages). IsPartOf (tree_walk p Index nothing c.args.index) c.in-Ok.window c.in-Ok-check_part.part) same_then (c.in-Ok-check_part.ensures.found told) in
    let rows : List ℤ = rowids (entries (tree_walk pages Table nothing c.args.table)) in
    let own : List (Option ℤ) = owners (entries (tree_walk pages Index nothing c.args.index)) in
    let so : AreSoFar rows own c.in-Ok.window.above c.windows.missing c.windows.strangers =
    subst (λ (a : Option ℤ). AreSoFar rows own a c.windows.missing c.windows.strangers) (sym c.in-Ok.ensures.above) (c.windows.invariant.on told) in
    let few : c.in-Ok.window.rows < 2 ^ 64 = search rules in
    let few_entries : c.in-Ok-check_part.part.entries < 2 ^ 64 = search rules in
    let all = so_far_all rows own c.in-Ok.window c.in-Ok-check_part.part of.rising of.is has.is c.windows.missing c.windows.strangers c.join-missing.result c.join-strangers.result so few few_entries
    c.join-missing.ensures c.join-strangers.ensures (sym c.high.ensures ∙ c.in-None.is) in
    record {
      table_sound = of.sound;
      index_sound = has.sound;
      rising = of.rising;
      is = record {
        rows_are = of.is.rows_are;
        entries_are = has.is.entries_are;
        missing_are = all.0;
        strangers_are = all.1;
        nameless_are = has.is.nameless_are;
      };
    }

pub windows-smaller : goal.windows-smaller
windows-smaller g c =
    let of = c.in-Ok.ensures.rows in
    let fits : SFits w64 c.in-Some.last = search rules in
    let over : is_above c.in-Ok.window.above c.in-Some.last ≡ true = last_above of.0 c.in-Ok.window of.1 of.2 c.in-Some.last (sym c.high.ensures ∙ c.in-Some.is) in
    subst (λ (z : ℤ). left_above (Some z) < left_above c.windows.above) (sym (to_z-of_z w64 c.in-Some.last fits))
    (subst (λ (a : Option ℤ). left_above (Some c.in-Some.last) < left_above a) c.in-Ok.ensures.above (fewer_above c.in-Ok.window.above c.in-Some.last fits over))

pub windows-preserved : goal.windows-preserved
windows-preserved g c =
    let pages : Pages = g.S.PageSource.plain c.args.source.now in
    let read = g.met.S.PageSource.transitive c.args.source.now c.windows.source c.read_window.new.source c.windows.invariant.read c.in-Ok.ensures.reads in
    record {
      read = g.met.S.PageSource.transitive c.args.source.now c.read_window.new.source c.check_part.new.source read c.in-Ok-check_part.ensures.reads;
      unpinned = c.in-Ok-check_part.ensures.unpinned;
      on = λ told.
          let same : g.S.PageSource.plain c.windows.source ≡ pages = g.met.S.PageSource.same_pages c.args.source.now c.windows.source c.windows.invariant.read told in
          let same_then : g.S.PageSource.plain c.read_window.new.source ≡ pages = g.met.S.PageSource.same_pages c.args.source.now c.read_window.new.source read told in
          let of : IsWindowOf (tree_walk pages Table nothing c.args.table) c.in-Ok.window =
          subst (λ (p : Pages). IsWindowOf (tree_walk p Table nothing c.args.table) c.in-Ok.window) same (c.in-Ok.ensures.found told) in
          let has : IsPartOf (tree_walk pages Index nothing c.args.index) c.in-Ok.window c.in-Ok-check_part.part =
          subst (λ (p : Pages). IsPartOf (tree_walk p Index nothing c.args.index) c.in-Ok.window c.in-Ok-check_part.part) same_then (c.in-Ok-check_part.ensures.found told) in
          let rows : List ℤ = rowids (entries (tree_walk pages Table nothing c.args.table)) in
          let own : List (Option ℤ) = owners (entries (tree_walk pages Index nothing c.args.index)) in
          let so : AreSoFar rows own c.in-Ok.window.above c.windows.missing c.windows.strangers =
          subst (λ (a : Option ℤ). AreSoFar rows own a c.windows.missing c.windows.strangers) (sym c.in-Ok.ensures.above) (c.windows.invariant.on told) in
          let few : c.in-Ok.window.rows < 2 ^ 64 = search rules in
          let few_entries : c.in-Ok-check_part.part.entries < 2 ^ 64 = search rules in
          let fits : SFits w64 c.in-Some.last = search rules in
          let e : high c.in-Ok.window ≡ Some c.in-Some.last = sym c.high.ensures ∙ c.in-Some.is in
          subst (λ (z : ℤ). AreSoFar rows own (Some z) c.join-missing.result c.join-strangers.result) (sym (to_z-of_z w64 c.in-Some.last fits))
          (so_far_more rows own c.in-Ok.window c.in-Ok-check_part.part of.rising of.is has.is c.windows.missing c.windows.strangers c.join-missing.result c.join-strangers.result so few few_entries
          c.join-missing.ensures c.join-strangers.ensures c.in-Some.last e (last_above rows c.in-Ok.window of.rising of.is c.in-Some.last e));
    }
