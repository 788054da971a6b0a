-- What waits at a level is put on its page, and the level ends.
use Rattle.std.proofs.Common.{◌≡◌, ℕ, suc, ℤ, Bool, true, false, List, [], ◌∷◌, ◌++◌, Option, None, Result, OnOk, refl, ap, sym, subst, ◌∙◌}
use Rattle.btree_page.specs.declared.kind.Kind.{Kind}
use Rattle.btree_page.specs.Cell.{Cell}
use Rattle.db_format.specs.Pages.{Pages}
use Rattle.btree_page.specs.Step.{Step, steps}
use Rattle.btree_model.specs.Content.{Entry}
use Rattle.load_model.specs.Open.{Open, at_height}
use Rattle.load_model.specs.Stands.{OpenPagesStand}
use Rattle.btree_page.specs.Kind.{family_of, is_interior}
use Rattle.bulk_load.specs.declared.pair.Pair.{Pair}
use Rattle.bulk_load.specs.declared.level.Level.{Level}
use Rattle.bulk_load.specs.Close.{HasCells}
use Rattle.bulk_load.specs.Settle.{IsPair, IsLevelSettled, up_kind, cell_on, two}
use Rattle.bulk_load.specs.Level.{ArePairs, waiting_steps, HoldsLevel}
use Rattle.bulk_load.specs.Levels.{opened, HoldLevels, AreOpen, IsDrained}
use Rattle.bulk_load.proofs.SettleLemmas.{family_up, up_interior}
use Rattle.bulk_load.proofs.LevelLemmas.{IsNext, wait_list}
use Rattle.bulk_load.proofs.LevelsLemmas.{Climbs}

-- what `drain` ensures
abbrev pub Drains : {E : Type 0} → Pages → Pages → Level → Level → List Level → List Level → Kind → Result (Unit {0}) E → Type 0
Drains old new level after above above' kind result =
    (todo : List Step) (todos : List (List Step)) (h : ℕ) (back : List Open) (last : Option ℤ) (pushed : List Entry) → up_kind level.page.kind ≡ kind
    → HoldsLevel level old.usable todo → HoldLevels above old.usable kind todos
    → OpenPagesStand old (family_of kind) last (opened (suc h) todos ++ (at_height h todo ++ back)) pushed
    → OnOk result (IsDrained new after above' old.usable kind h back last pushed)

module _ {E : Type 0} (mid new : Pages) (level after : Level) (above above' : List Level) (usable : ℕ) (kind : Kind) (result : Result (Unit {0}) E)
    (todos : List (List Step)) (h : ℕ) (back : List Open) (last : Option ℤ) (pushed : List Entry)
    (drains : Drains mid new level after above above' kind result) (size : mid.usable ≡ usable) (up : up_kind level.page.kind ≡ kind) (hold : HoldLevels above usable kind todos) where
  -- the page has these cells, and these pairs still wait
  pub drain_more : (cells : List Cell) (between : List Step) → HasCells level.page usable cells → ArePairs level.waiting.items level.page.kind usable between
      → OpenPagesStand mid (family_of kind) last (opened (suc h) todos ++ (at_height h (steps cells None ++ waiting_steps level.page.kind level.waiting.items between) ++ back)) pushed
      → OnOk result (IsDrained new after above' usable kind h back last pushed)
  drain_more cells between has pairs st =
      let todo : List Step = steps cells None ++ waiting_steps level.page.kind level.waiting.items between in
      let holds : HoldsLevel level usable todo = record { cells = cells; between = between; has = has; pairs = pairs; is = refl } in
      subst (λ u. OnOk result (IsDrained new after above' u kind h back last pushed)) size
      (drains todo todos h back last pushed up (subst (λ u. HoldsLevel level u todo) (sym size) holds) (subst (λ u. HoldLevels above u kind todos) (sym size) hold) st)

-- the oldest pair is on the page
pub drain_false : {E : Type 0} (mid new : Pages) (level after : Level) (above above' : List Level) (named : Pair) (usable : ℕ) (kind own : Kind) (result : Result (Unit {0}) E)
    (todos : List (List Step)) (h : ℕ) (back : List Open) (last : Option ℤ) (pushed : List Entry) (answer : Bool)
    → Drains mid new level after above above' kind result → mid.usable ≡ usable → level.page.kind ≡ own → up_kind own ≡ kind → HoldLevels above usable kind todos → answer ≡ false
    → IsNext mid level.page named level.waiting.items usable own h (opened (suc h) todos) back last pushed answer
    → OnOk result (IsDrained new after above' usable kind h back last pushed)
drain_false mid new level after above above' named usable kind own result todos h back last pushed answer drains size same up hold is next =
    let waits : List Step = waiting_steps own level.waiting.items next.between in
    let settled : IsLevelSettled mid level.page named usable own next.n next.cells next.s h (opened (suc h) todos) (at_height h waits ++ back) last pushed false =
    subst (λ b. IsLevelSettled mid level.page named usable own next.n next.cells next.s h (opened (suc h) todos) (at_height h waits ++ back) last pushed b) is next.is
    in
    let cells : List Cell = next.cells ++ cell_on own next.n next.s ∷ [] in
    drain_more mid new level after above above' usable kind result todos h back last pushed drains size (ap up_kind same ∙ up) hold cells next.between settled.0
    (subst (λ k. ArePairs level.waiting.items k usable next.between) (sym same) next.pairs)
    (subst (λ f. OpenPagesStand mid f last (opened (suc h) todos ++ (at_height h (steps cells None ++ waiting_steps level.page.kind level.waiting.items next.between) ++ back)) pushed)
    (sym (family_up own) ∙ ap family_of up)
    (subst (λ l. OpenPagesStand mid (family_of own) last l pushed)
    (wait_list (steps cells None) waits h (opened (suc h) todos) back
    ∙ ap (λ k. opened (suc h) todos ++ (at_height h (steps cells None ++ waiting_steps k level.waiting.items next.between) ++ back)) (sym same))
    settled.1))

-- the page was closed with it, and it climbs
pub drain_true : {E : Type 0} (mid top new : Pages) (level after : Level) (above above' above'' : List Level) (named : Pair) (usable : ℕ) (kind own : Kind) (result : Result (Unit {0}) E)
    (todos : List (List Step)) (h : ℕ) (back : List Open) (last : Option ℤ) (pushed : List Entry) (answer : Bool)
    → Climbs mid top above above' kind named → Drains top new level after above' above'' kind result → mid.usable ≡ usable → top.usable ≡ usable → level.page.kind ≡ own → up_kind own ≡ kind
    → HoldLevels above usable kind todos → answer ≡ true
    → IsNext mid level.page named level.waiting.items usable own h (opened (suc h) todos) back last pushed answer
    → OnOk result (IsDrained new after above'' usable kind h back last pushed)
drain_true mid top new level after above above' above'' named usable kind own result todos h back last pushed answer climbs drains size size' same up hold is next =
    let waits : List Step = waiting_steps own level.waiting.items next.between in
    let settled : IsLevelSettled mid level.page named usable own next.n next.cells next.s h (opened (suc h) todos) (at_height h waits ++ back) last pushed true =
    subst (λ b. IsLevelSettled mid level.page named usable own next.n next.cells next.s h (opened (suc h) todos) (at_height h waits ++ back) last pushed b) is next.is
    in
    let pair : IsPair named kind usable next.s = subst (λ k. IsPair named k usable next.s) up settled.1 in
    let risen : AreOpen top above' usable kind (suc h) (at_height h waits ++ back) last pushed =
    subst (λ u. AreOpen top above' u kind (suc h) (at_height h waits ++ back) last pushed) size
    (climbs todos next.s (suc h) (at_height h waits ++ back) last pushed (subst (λ k. is_interior k ≡ true) up (up_interior own))
    (subst (λ u. HoldLevels above u kind todos) (sym size) hold) (subst (λ u. IsPair named kind u next.s) (sym size) pair)
    (subst (λ f. OpenPagesStand mid f last (opened (suc h) todos ++ (two (suc h) named.child next.s ++ (at_height h waits ++ back))) pushed) (sym (family_up own) ∙ ap family_of up) settled.2))
    in
    drain_more top new level after above' above'' usable kind result risen.todos h back last pushed drains size' (ap up_kind same ∙ up) risen.hold [] next.between settled.0
    (subst (λ k. ArePairs level.waiting.items k usable next.between) (sym same) next.pairs)
    (subst (λ k. OpenPagesStand top (family_of kind) last (opened (suc h) risen.todos ++ (at_height h (waiting_steps k level.waiting.items next.between) ++ back)) pushed) (sym same) risen.stands)
