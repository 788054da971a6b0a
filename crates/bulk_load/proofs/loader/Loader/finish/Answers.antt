use Rattle.std.proofs.Common.{inl, inr, List, ℕ, ◌≤◌, ◌+◌, ◌*◌, ◌≡◌, ℤ, Option, [], ◌++◌, IfOk, ap, sym, subst, ◌∙◌, arith}
use Rattle.db_format.specs.Pages.{Pages}
use Rattle.btree_page.specs.declared.kind.Kind.{Kind}
use Rattle.btree_page.specs.Kind.{family_of}
use Rattle.btree_page.specs.Step.{steps}
use Rattle.load_model.specs.Open.{at_height}
use Rattle.load_model.specs.Stands.{OpenPagesStand}
use Rattle.page_build.specs.Written.{right_child}
use Rattle.bulk_load.specs.Levels.{HoldLevels, opened}
use Rattle.bulk_load.specs.Settle.{up_kind}
use Rattle.bulk_load.specs.Found.{HasTree}
use Rattle.bulk_load.specs.Own.{only}
use Rattle.bulk_load.proofs.EndLemmas.{leaf_right}
use Rattle.bulk_load.proofs.SettleLemmas.{family_up}
use Rattle.bulk_load.specs.Count.{CanEnd, KeepsBack, held, load, weight}
use Rattle.bulk_load.proofs.CountLemmas.{leaf_can}
use Rattle.bulk_load.specs.Loader.{family_of_loader}
use Rattle.bulk_load.specs.Volume.{price, sizes, volume, volumes}
use Rattle.std.proofs.lemmas.Bool.{cases_lt}
use Rattle.bulk_load.specs.declared.level.Level.{Level}
use Rattle.bulk_load.specs.Few.{load_pages}
use Rattle.bulk_load.proofs.FewLemmas.{asked_all, asked_as, few_asked, few_ended}
use Rattle.bulk_load.proofs.VolumeLemmas.{volume_least}
use Rattle.bulk_load.proofs.loader.Loader.finish.Goals as goal

pub returns-clause-tree : goal.returns-clause-tree
returns-clause-tree g c start well own covers pushed l =
    let old : Pages = only own (g.P.PageOut.pages c.args.out.now) in
    let new : Pages = only own (g.P.PageOut.pages c.end_levels.new.out) in
    let here : Kind = c.args.self.leaf.page.kind in
    let last : Option ℤ = c.args.self.last in
    let up : Kind = c.above-kind.result in
    let is_up : up ≡ up_kind here = c.above-kind.ensures ∙ ap up_kind c.kind.ensures in
    let fam : family_of up ≡ family_of here = ap family_of is_up ∙ family_up here in
    let none : at_height 0 (steps [] (right_child here 0)) ≡ [] = ap (λ r. at_height 0 (steps [] r)) (leaf_right here 0 c.requires.ready.leaf_kind) in
    subst (λ f. IfOk c.end_levels.result (λ root. HasTree new f root pushed)) fam
    (c.end_levels.ensures.tree start well own covers l.todo l.todos 0 last pushed (omega arith) (sym is_up) l.hold
    (subst (λ k. HoldLevels c.args.self.levels.items old.usable k l.todos) (sym is_up) l.above)
    (subst (λ f. OpenPagesStand old f last (opened 1 l.todos ++ (at_height 0 l.todo ++ at_height 0 (steps [] (right_child here 0)))) pushed) (sym fam)
    (subst (λ e. OpenPagesStand old (family_of here) last (opened 1 l.todos ++ (at_height 0 l.todo ++ e)) pushed) (sym none) l.stands)))

pub returns-clause-few : goal.returns-clause-few
returns-clause-few g c from entries few =
    let p = g.P.PageOut.pages in
    let usable : ℕ = (p c.args.out.now).usable in
    let old : ℕ = (p c.args.out.now).count in
    let new : ℕ = (p c.end_levels.new.out).count in
    let back : KeepsBack c.args.self = few.shallow.back in
    let can : CanEnd c.args.self.leaf.page c.args.self.leaf.waiting.items = leaf_can c.args.self.leaf.page.kind c.args.self.leaf.page c.args.self.leaf.waiting.items back.leaf in
    let ended : new ≤ old + (load c.args.self.leaf + held c.args.self.levels.items + 1) = c.end_levels.ensures.count can back.levels back.filled in
    let counted : new ≤ old + (weight c.args.self + 1) = omega arith in
    let least : 6 * sizes c.args.self.leaf.waiting.items + volumes c.args.self.levels.items ≤ volume c.args.self = volume_least c.args.self back.leaf in
    let spent : price usable new ≤ price usable (old + 57) + (6 * sizes c.args.self.leaf.waiting.items + volumes c.args.self.levels.items) = c.end_levels.ensures.spent can back.levels in
    let paid : price usable new ≤ price usable (old + 57) + volume c.args.self = omega arith in
    few_ended (family_of_loader c.args.self) usable from old new entries c.args.self (omega (arith, c.requires.ready.usable_is.least)) few counted paid

pub returns-clause-asked : goal.returns-clause-asked
returns-clause-asked g c from entries few =
    let p = g.P.PageOut.pages in
    let usable : ℕ = (p c.args.out.now).usable in
    let old : ℕ = (p c.args.out.now).count in
    let new : ℕ = (p c.end_levels.new.out).count in
    let leaf : Level = c.args.self.leaf in
    let levels : List Level = c.args.self.levels.items in
    let back : KeepsBack c.args.self = few.shallow.back in
    let can : CanEnd leaf.page leaf.waiting.items = leaf_can leaf.page.kind leaf.page leaf.waiting.items back.leaf in
    let ended : new ≤ old + (load leaf + held levels + 1) = c.end_levels.ensures.count can back.levels back.filled in
    let least : 6 * sizes leaf.waiting.items + volumes levels ≤ volume c.args.self = volume_least c.args.self back.leaf in
    let spent : price usable new ≤ price usable (old + 57) + (6 * sizes leaf.waiting.items + volumes levels) = c.end_levels.ensures.spent can back.levels in
    let paid : price usable new ≤ price usable (old + 57) + volume c.args.self = omega arith in
    let all : new ≤ old + weight c.args.self → new + 1 ≤ from + load_pages (family_of_loader c.args.self) usable entries =
    λ most. few_asked (family_of_loader c.args.self) usable from old new entries c.args.self (omega (arith, c.requires.ready.usable_is.least)) few most paid in
    elim (cases_lt 0 (load leaf)) [
      | inl begun ↦ asked_all c.end_levels.result (all (omega arith))
      | inr none ↦
          elim back.filled [
            | inl some ↦ absurd (omega arith)
            | inr flat ↦ asked_as c.end_levels.result (λ (same : new ≡ old). all (omega arith)) (c.end_levels.ensures.asked (omega arith) flat)
          ]
    ]
