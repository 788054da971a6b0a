use Rattle.std.proofs.Common.{◌≡◌, List, [], ◌∷◌, sym, subst, ◌∙◌}
use Rattle.btree_page.specs.Step.{child}
use Rattle.bulk_load.specs.declared.level.Level.{Level}
use Rattle.bulk_load.specs.Settle.{IsPair}
use Rattle.bulk_load.specs.Level.{HoldsLevel}
use Rattle.bulk_load.specs.Levels.{HoldLevels}
use Rattle.bulk_load.specs.Own.{only}
use Rattle.bulk_load.proofs.PutLemmas.{covers_before, covers_behind}
use Rattle.bulk_load.proofs.LevelsLemmas.{lowest_in, climb_none, climb_some, lowest_kind, on_ok_map, climb_over}
use Rattle.bulk_load.proofs.levels.+climb.Goals as goal

pub returns-in_default-clause-climbed : goal.returns-in_default-clause-climbed
returns-in_default-clause-climbed g t c start well own covers todos s h back last pushed inner hold pair st =
    let pages = only own (g.P.PageOut.pages c.args.out.now) in
    let items : List Level = c.take_lowest.new.levels.items in
    let size : c.usable.result ≡ pages.usable = c.usable.ensures.value in
    let holds : (c.in_ok-level.level.page.kind ≡ c.args.kind) × HoldsLevel c.in_ok-level.level c.usable.result (child c.args.pair.child ∷ s ∷ []) =
    c.in_ok-level.ensures.holds s inner (subst (λ u. IsPair c.args.pair c.args.kind u s) (sym size) pair)
    in
    on_ok_map c.put_below.result
    (climb_over pages c.in_ok-level.level items c.put_below.new.levels.items pages.usable c.args.pair.child c.args.kind h todos s back last pushed c.in_default.ensures.1
    (subst (λ l. HoldLevels l pages.usable c.args.kind todos) (c.in_default.ensures.0 ∙ sym c.in_default.ensures.1) hold)
    (subst (λ u. (c.in_ok-level.level.page.kind ≡ c.args.kind) × HoldsLevel c.in_ok-level.level u (child c.args.pair.child ∷ s ∷ [])) size holds) st)
    c.put_below.ensures.ok

pub returns-in-None-clause-climbed : goal.returns-in-None-clause-climbed
returns-in-None-clause-climbed g t c start well own covers todos s h back last pushed inner hold pair st =
    let old = only own (g.P.PageOut.pages c.args.out.now) in
    let new = only own (g.P.PageOut.pages c.enter.new.out) in
    let above : List Level = c.take_lowest.new.levels.items in
    on_ok_map c.put_below-in-None.result
    (climb_none new c.enter.new.self above c.put_below-in-None.new.levels.items old.usable c.args.kind h back last pushed c.in_ok-enter.field-0
    (lowest_in old new c.in-Some.level c.enter.new.self above c.args.levels.now.items c.args.pair c.in_ok-enter.field-0 c.args.kind todos s h back last pushed
    (c.in_ok-enter.ensures.entered start well own covers) c.in-Some.ensures inner hold pair st)
    c.in-None.is (c.in_ok-enter.ensures.kind ∙ lowest_kind c.in-Some.level above c.args.levels.now.items old.usable c.args.kind todos c.in-Some.ensures hold))
    c.put_below-in-None.ensures.ok

pub returns-in_ok-climb-in-Some-2-clause-climbed : goal.returns-in_ok-climb-in-Some-2-clause-climbed
returns-in_ok-climb-in-Some-2-clause-climbed g t c start well own covers todos s h back last pushed inner hold pair st =
    let old = only own (g.P.PageOut.pages c.args.out.now) in
    let mid = only own (g.P.PageOut.pages c.enter.new.out) in
    let new = only own (g.P.PageOut.pages c.climb.new.out) in
    let above : List Level = c.take_lowest.new.levels.items in
    on_ok_map c.put_below-in-Some-2.result
    (climb_some mid new c.enter.new.self above c.climb.new.levels.items c.put_below-in-Some-2.new.levels.items old.usable c.args.kind h back last pushed c.in_ok-enter.field-0 c.in-Some-2.up
    (lowest_in old mid c.in-Some.level c.enter.new.self above c.args.levels.now.items c.args.pair c.in_ok-enter.field-0 c.args.kind todos s h back last pushed
    (c.in_ok-enter.ensures.entered start well own (covers_before _ own _ _ _ c.in_ok-climb-in-Some-2.ensures.keeps.count covers)) c.in-Some.ensures inner hold pair st)
    c.in-Some-2.is (c.in_ok-enter.ensures.kind ∙ lowest_kind c.in-Some.level above c.args.levels.now.items old.usable c.args.kind todos c.in-Some.ensures hold)
    inner c.in_ok-enter.ensures.keeps.size (c.in_ok-climb-in-Some-2.ensures.climbed start (c.in_ok-enter.ensures.follows.told start well) own (covers_behind _ own _ _ _ c.in_ok-enter.ensures.keeps.count covers)))
    c.put_below-in-Some-2.ensures.ok
