use Rattle.std.proofs.Common.{◌≡◌, ◌≤◌, ◌+◌, ◌^◌, ℕ, [], false, IfOk, sym, subst, arith, ◌∙◌}
use Rattle.btree_page.specs.declared.kind.Family.{Family}
use Rattle.bulk_load.specs.Depth.{IsShallow}
use Rattle.bulk_load.specs.Few.{TookFew}
use Rattle.bulk_load.specs.Own.{Covers, only}
use Rattle.bulk_load.proofs.PutLemmas.{covers_before, covers_behind}
use Rattle.bulk_load.specs.Found.{HasTree}
use Rattle.db_maker.specs.Parts.{entries_in, family_in}
use Rattle.db_maker.proofs.loading.load_part.Goals as goal

pub returns-clause-tree : goal.returns-clause-tree
returns-clause-tree g c start well own covers =
    let p = g.P.PageOut.pages in
    let listed = entries_in c.args.part c.args.rows in
    let pushed = c.in_ok-push_rows.ensures in
    let at_one : c.push_rows.new.loader.at_one ≡ false = pushed.at_one ∙ c.in_ok-loader.ensures.at_one in
    let first : Covers false own (p c.args.out.now) (p c.push_rows.new.out) =
    covers_before false own _ _ (p c.finish.new.out) c.finish.ensures.keeps.count covers.covers in
    let last : Covers false own (p c.push_rows.new.out) (p c.finish.new.out) = covers_behind false own (p c.args.out.now) _ _ pushed.keeps.count covers.covers in
    subst (λ family. IfOk c.finish.result (λ root. HasTree (only own (p c.finish.new.out)) family root listed)) pushed.family
    (c.finish.ensures.tree start (pushed.follows.told start well) own
    (subst (λ first. Covers first own (p c.push_rows.new.out) (p c.finish.new.out)) (sym at_one) last) listed
    (pushed.loaded start well own first (c.in_ok-loader.ensures.empty (only own (p c.args.out.now)) (sym c.usable.ensures.value) covers.none)))

pub returns-clause-deep : goal.returns-clause-deep
returns-clause-deep g c is =
    let p = g.P.PageOut.pages in
    let from : ℕ = (p c.args.out.now).count in
    let family : Family = family_in c.args.part in
    let there = p c.push_rows.new.out in
    let loader = c.push_rows.new.loader in
    let pushed = c.in_ok-push_rows.ensures in
    let none : TookFew family (p c.args.out.now).usable from [] from c.in_ok-loader.loader =
    subst (λ (u : ℕ). TookFew family u from [] from c.in_ok-loader.loader) c.usable.ensures.value (c.in_ok-loader.ensures.none from) in
    let shallow : IsShallow there.usable from there.count loader = subst (λ (u : ℕ). IsShallow u from there.count loader) (sym pushed.keeps.size) (pushed.pushed none).shallow in
    let many : 2 ^ 28 + from ≤ there.count = c.finish.ensures.deep from shallow is in
    let later : there.count ≤ (p c.finish.new.out).count = c.finish.ensures.keeps.count in
    omega arith
