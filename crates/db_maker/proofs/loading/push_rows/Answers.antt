use Rattle.std.proofs.Common.{rules, ◌≡◌, ◌≤◌, ◌-◌, ◌+◌, ℕ, [], ◌∷◌, ◌++◌, false, refl, ap, sym, subst, ◌∙◌, arith}
use Rattle.std.specs.Option.{option_map_or}
use Rattle.load_model.specs.Stands.{is_at_most}
use Rattle.bulk_load.specs.Loader.{Loaded}
use Rattle.bulk_load.specs.Few.{TookFew, load_pages}
use Rattle.db_maker.specs.Pages.{part_pages}
use Rattle.db_maker.proofs.PageLaws.{part_pages-more}
use Rattle.bulk_load.specs.Own.{Covers, only}
use Rattle.bulk_load.proofs.PutLemmas.{covers_before, covers_behind, follows_all, follows_same}
use Rattle.db_maker.specs.Parts.{entries_in, entry_in, family_in}
use Rattle.db_maker.proofs.LoadLaws.{entries_more, last_next, last_start, next_above}
use Rattle.db_maker.proofs.loading.push_rows.Goals as goal
use Rattle.btree_model.specs.Content.{last_after}

pub loop-before-init : goal.loop-before-init
loop-before-init g c =
    let p = g.P.PageOut in
    record {
      loaded = λ start well own covers empty. empty;
      ready = c.requires.ready;
      family = c.requires.family;
      at_one = refl;
      last = c.requires.last ∙ sym (last_start c.args.part);
      follows = follows_same p.pages p.limit p.faults p.well c.args.out.now;
      fresh = g.met.P.PageOut.stays c.args.out.now;
      few = λ few. few;
    }

pub push_row-requires-clause-above : goal.push_row-requires-clause-above
push_row-requires-clause-above g c =
    let part = c.args.part in
    let n : ℕ = c.loop-before.before in
    ap (λ last. option_map_or (is_at_most last) (entry_in part (n + 1)).rowid false) c.loop-before.invariant.last ∙ next_above part n

pub loop-before-preserved : goal.loop-before-preserved
loop-before-preserved g c =
    let p = g.P.PageOut in
    let part = c.args.part in
    let n : ℕ = c.loop-before.before in
    let i = c.loop-before.invariant in
    let row = c.in_ok-push_row.ensures in
    record {
      loaded = λ start well own covers empty.
          let first : Covers false own (p.pages c.args.out.now) (p.pages c.loop-before.out) =
          covers_before false own _ _ (p.pages c.push_row.new.out) row.keeps.count covers in
          let last : Covers false own (p.pages c.loop-before.out) (p.pages c.push_row.new.out) =
          covers_behind false own (p.pages c.args.out.now) _ _ i.follows.keeps.count covers in
          subst (λ l. Loaded (only own (p.pages c.push_row.new.out)) c.push_row.new.loader l) (entries_more part n)
          (row.loaded start (i.follows.told start well) own last (entries_in part n) (i.loaded start well own first empty));
      ready = row.ready;
      family = row.family;
      at_one = row.at_one ∙ i.at_one;
      last = row.last ∙ ap (λ last. last_after last (entry_in part (n + 1)).rowid) i.last ∙ last_next part n;
      follows = follows_all p.pages p.limit p.faults p.well false c.args.out.now c.loop-before.out c.push_row.new.out i.follows row.follows;
      fresh = g.met.P.PageOut.joins c.args.out.now c.loop-before.out c.push_row.new.out i.fresh row.fresh;
      few = λ none.
          let size : (p.pages c.loop-before.out).usable ≡ (p.pages c.args.out.now).usable = i.follows.keeps.size in
          let from : ℕ = (p.pages c.args.out.now).count in
          let before : TookFew (family_in part) (p.pages c.loop-before.out).usable from (entries_in part n) (p.pages c.loop-before.out).count c.loop-before.loader =
          subst (λ u. TookFew (family_in part) u from (entries_in part n) (p.pages c.loop-before.out).count c.loop-before.loader) (sym size) (i.few none) in
          subst (λ l. TookFew (family_in part) (p.pages c.args.out.now).usable from l (p.pages c.push_row.new.out).count c.push_row.new.loader) (entries_more part n)
          (subst (λ u. TookFew (family_in part) u from (entries_in part n ++ entry_in part (n + 1) ∷ []) (p.pages c.push_row.new.out).count c.push_row.new.loader) size
          (row.pushed from (entries_in part n) before));
    }

pub returns-clause-loaded : goal.returns-clause-loaded
returns-clause-loaded g c start well own covers empty =
    let whole : c.loop-before.before ≡ c.args.rows = omega (arith, c.loop-before-test.false, c.loop-before.auto.before-end) in
    subst (λ n. Loaded (only own (g.P.PageOut.pages c.loop-before.out)) c.loop-before.loader (entries_in c.args.part n)) whole
    (c.loop-before.invariant.loaded start well own covers empty)

pub returns-in_err-push_row-clause-few : goal.returns-in_err-push_row-clause-few
returns-in_err-push_row-clause-few g c none =
    let p = g.P.PageOut in
    let part = c.args.part in
    let n : ℕ = c.loop-before.before in
    let i = c.loop-before.invariant in
    let usable : ℕ = (p.pages c.args.out.now).usable in
    let from : ℕ = (p.pages c.args.out.now).count in
    let size : (p.pages c.loop-before.out).usable ≡ usable = i.follows.keeps.size in
    let before : TookFew (family_in part) (p.pages c.loop-before.out).usable from (entries_in part n) (p.pages c.loop-before.out).count c.loop-before.loader =
    subst (λ u. TookFew (family_in part) u from (entries_in part n) (p.pages c.loop-before.out).count c.loop-before.loader) (sym size) (i.few none) in
    let some : ℕ = c.args.rows - (n + 1) in
    let whole : n + 1 + some ≡ c.args.rows = omega (arith, c.loop-before-test.true) in
    let most : part_pages usable part (n + 1) ≤ part_pages usable part c.args.rows =
    subst (λ k. part_pages usable part (n + 1) ≤ part_pages usable part k) whole (part_pages-more usable part (n + 1) some (omega (arith, c.requires.ready.usable_is.least))) in
    let row = c.push_row.ensures.few from (entries_in part n) before in
    let here : (p.pages c.push_row.new.out).count + 1 ≤ from + load_pages (family_in part) (p.pages c.loop-before.out).usable (entries_in part n ++ entry_in part (n + 1) ∷ []) = search (rules, row) in
    let there : (p.pages c.push_row.new.out).count + 1 ≤ from + part_pages usable part (n + 1) =
    subst (λ l. (p.pages c.push_row.new.out).count + 1 ≤ from + load_pages (family_in part) usable l) (entries_more part n)
    (subst (λ u. (p.pages c.push_row.new.out).count + 1 ≤ from + load_pages (family_in part) u (entries_in part n ++ entry_in part (n + 1) ∷ [])) size here) in
    let all : (p.pages c.push_row.new.out).count + 1 ≤ from + part_pages usable part c.args.rows = omega arith in
    search rules

pub returns-clause-pushed : goal.returns-clause-pushed
returns-clause-pushed g c none =
    let whole : c.loop-before.before ≡ c.args.rows = omega (arith, c.loop-before-test.false, c.loop-before.auto.before-end) in
    let p = g.P.PageOut.pages in
    subst (λ n. TookFew (family_in c.args.part) (p c.args.out.now).usable (p c.args.out.now).count (entries_in c.args.part n) (p c.loop-before.out).count c.loop-before.loader) whole
    (c.loop-before.invariant.few none)
