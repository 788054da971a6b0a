-- A child enters the lowest of the levels.
use Rattle.std.proofs.Common.{◌≡◌, ℕ, suc, ℤ, true, List, [], ◌∷◌, ◌++◌, Option, Some, None, Result, Ok, Err, OnOk, refl, ap, sym, subst, ◌∙◌}
use Rattle.std.proofs.lemmas.List.{append_assoc}
use Rattle.btree_page.specs.declared.kind.Kind.{Kind}
use Rattle.db_format.specs.Pages.{Pages}
use Rattle.btree_page.specs.Step.{Step, child}
use Rattle.btree_model.specs.Content.{Entry}
use Rattle.load_model.specs.Open.{Open, at_height}
use Rattle.load_model.specs.Stands.{OpenPagesStand}
use Rattle.btree_page.specs.Kind.{family_of, is_interior}
use Rattle.bulk_load.specs.declared.pair.Pair.{Pair}
use Rattle.bulk_load.specs.declared.level.Level.{Level}
use Rattle.bulk_load.specs.Settle.{IsPair, on, two}
use Rattle.bulk_load.specs.Level.{HoldsLevel, IsEntryIn}
use Rattle.bulk_load.specs.Levels.{opened, HoldLevels, AreOpen}
use Rattle.bulk_load.proofs.SettleLemmas.{on_interior, up_same}

pub first_level : (level : Level) (above : List Level) (usable : ℕ) (kind : Kind) (todos : List (List Step)) → HoldLevels (level ∷ above) usable kind todos
    → (todo : List Step) × (rest : List (List Step)) × (todos ≡ todo ∷ rest) × (level.page.kind ≡ kind) × HoldsLevel level usable todo × HoldLevels above usable kind rest
first_level level above usable kind [] h = absurd h
first_level level above usable kind (todo ∷ rest) h = (todo, rest, refl, h.0, h.1, h.2)

-- what `enter` of a level ensures
abbrev pub Enters : Pages → Pages → Level → Level → Pair → Option Pair → Type 0
Enters old new level after pair answer =
    (todo : List Step) (s : Step) (h : ℕ) (front back : List Open) (last : Option ℤ) (pushed : List Entry)
    → HoldsLevel level old.usable todo → IsPair pair level.page.kind old.usable s
    → OpenPagesStand old (family_of level.page.kind) last (front ++ (at_height h todo ++ (at_height h (on level.page.kind pair.child s) ++ back))) pushed
    → IsEntryIn new after old.usable level.page.kind h front back last pushed answer

-- the level was entered, and those above it are as they were
pub record IsIn (new : Pages) (after : Level) (above : List Level) (usable : ℕ) (kind : Kind) (h : ℕ) (back : List Open) (last : Option ℤ) (pushed : List Entry) (answer : Option Pair) : Type 0 where
  pub rest : List (List Step)
  pub hold : HoldLevels above usable kind rest
  pub is : IsEntryIn new after usable kind h (opened (suc h) rest) back last pushed answer

pub lowest_in : (old new : Pages) (level after : Level) (above levels : List Level) (pair : Pair) (answer : Option Pair) (kind : Kind) (todos : List (List Step)) (s : Step) (h : ℕ) (back : List Open)
    (last : Option ℤ) (pushed : List Entry) → Enters old new level after pair answer → levels ≡ level ∷ above → is_interior kind ≡ true → HoldLevels levels old.usable kind todos
    → IsPair pair kind old.usable s → OpenPagesStand old (family_of kind) last (opened h todos ++ (two h pair.child s ++ back)) pushed
    → IsIn new after above old.usable kind h back last pushed answer
lowest_in old new level after above levels pair answer kind todos s h back last pushed enters parts inner hold is_pair st =
    let f = first_level level above old.usable kind todos (subst (λ l. HoldLevels l old.usable kind todos) parts hold) in
    let st' : OpenPagesStand old (family_of kind) last (opened (suc h) f.1 ++ (at_height h f.0 ++ (at_height h (on kind pair.child s) ++ back))) pushed =
    subst (λ l. OpenPagesStand old (family_of kind) last l pushed)
    (ap (λ l. opened h l ++ (two h pair.child s ++ back)) f.2 ∙ append_assoc (opened (suc h) f.1) (at_height h f.0) (two h pair.child s ++ back)
    ∙ ap (λ l. opened (suc h) f.1 ++ (at_height h f.0 ++ (at_height h l ++ back))) (sym (on_interior kind pair.child s inner))) st
    in
    record {
      rest = f.1;
      hold = f.5;
      is =
          subst
          (λ k. IsPair pair k old.usable s → OpenPagesStand old (family_of k) last (opened (suc h) f.1 ++ (at_height h f.0 ++ (at_height h (on k pair.child s) ++ back))) pushed
          → IsEntryIn new after old.usable k h (opened (suc h) f.1) back last pushed answer)
          f.3 (λ is_pair' stands'. enters f.0 s h (opened (suc h) f.1) back last pushed f.4 is_pair' stands') is_pair st';
    }

-- nothing goes up
pub climb_none : (new : Pages) (after : Level) (above levels : List Level) (usable : ℕ) (kind : Kind) (h : ℕ) (back : List Open) (last : Option ℤ) (pushed : List Entry) (answer : Option Pair)
    → IsIn new after above usable kind h back last pushed answer → answer ≡ None → after.page.kind ≡ kind → levels ≡ after ∷ above → AreOpen new levels usable kind h back last pushed
climb_none new after above levels usable kind h back last pushed answer i none same parts =
    let e : IsEntryIn new after usable kind h (opened (suc h) i.rest) back last pushed None = subst (λ a. IsEntryIn new after usable kind h (opened (suc h) i.rest) back last pushed a) none i.is in
    record {
      todos = e.0 ∷ i.rest;
      hold = subst (λ l. HoldLevels l usable kind (e.0 ∷ i.rest)) (sym parts) (same, e.1, i.hold);
      stands = subst (λ l. OpenPagesStand new (family_of kind) last l pushed) (sym (append_assoc (opened (suc h) i.rest) (at_height h e.0) back)) e.2;
    }

-- what `climb` of the levels above ensures
abbrev pub Climbs : Pages → Pages → List Level → List Level → Kind → Pair → Type 0
Climbs old new levels after kind pair =
    (todos : List (List Step)) (s : Step) (h : ℕ) (back : List Open) (last : Option ℤ) (pushed : List Entry) → is_interior kind ≡ true
    → HoldLevels levels old.usable kind todos → IsPair pair kind old.usable s → OpenPagesStand old (family_of kind) last (opened h todos ++ (two h pair.child s ++ back)) pushed
    → AreOpen new after old.usable kind h back last pushed

-- this level below the others
pub open_below : (new : Pages) (level : Level) (after levels : List Level) (usable : ℕ) (kind : Kind) (h : ℕ) (todo : List Step) (back : List Open) (last : Option ℤ) (pushed : List Entry)
    → level.page.kind ≡ kind → HoldsLevel level usable todo → levels ≡ level ∷ after → AreOpen new after usable kind (suc h) (at_height h todo ++ back) last pushed
    → AreOpen new levels usable kind h back last pushed
open_below new level after levels usable kind h todo back last pushed same hold parts o = record {
  todos = todo ∷ o.todos;
  hold = subst (λ l. HoldLevels l usable kind (todo ∷ o.todos)) (sym parts) (same, hold, o.hold);
  stands = subst (λ l. OpenPagesStand new (family_of kind) last l pushed) (sym (append_assoc (opened (suc h) o.todos) (at_height h todo) back)) o.stands;
}

-- a page goes up
pub climb_some : (mid new : Pages) (level : Level) (above after levels : List Level) (usable : ℕ) (kind : Kind) (h : ℕ) (back : List Open) (last : Option ℤ) (pushed : List Entry)
    (answer : Option Pair) (up : Pair) → IsIn mid level above usable kind h back last pushed answer → answer ≡ Some up → level.page.kind ≡ kind
    → is_interior kind ≡ true → mid.usable ≡ usable → Climbs mid new above after kind up → levels ≡ level ∷ after → AreOpen new levels usable kind h back last pushed
climb_some mid new level above after levels usable kind h back last pushed answer up i some same inner size climbs parts =
    let e : IsEntryIn mid level usable kind h (opened (suc h) i.rest) back last pushed (Some up) = subst (λ a. IsEntryIn mid level usable kind h (opened (suc h) i.rest) back last pushed a) some i.is in
    let pair : IsPair up kind usable e.1 = subst (λ k. IsPair up k usable e.1) (up_same kind inner) e.3 in
    open_below new level after levels usable kind h e.0 back last pushed same e.2 parts
    (subst (λ u. AreOpen new after u kind (suc h) (at_height h e.0 ++ back) last pushed) size
    (climbs i.rest e.1 (suc h) (at_height h e.0 ++ back) last pushed inner (subst (λ u. HoldLevels above u kind i.rest) (sym size) i.hold)
    (subst (λ u. IsPair up kind u e.1) (sym size) pair) e.4))

pub lowest_kind : (level : Level) (above levels : List Level) (usable : ℕ) (kind : Kind) (todos : List (List Step)) → levels ≡ level ∷ above → HoldLevels levels usable kind todos → level.page.kind ≡ kind
lowest_kind level above levels usable kind todos parts hold =
    let f = first_level level above usable kind todos (subst (λ l. HoldLevels l usable kind todos) parts hold) in f.3

pub on_ok_map : {A E : Type 0} {P Q : Type 0} (result : Result A E) → (P → Q) → OnOk result P → OnOk result Q
on_ok_map (Ok x) f h = f h
on_ok_map (Err e) f h = tt

-- a level is made above all others
pub climb_over : (pages : Pages) (level : Level) (items levels : List Level) (usable n : ℕ) (kind : Kind) (h : ℕ) (todos : List (List Step)) (s : Step) (back : List Open) (last : Option ℤ) (pushed : List Entry)
    → items ≡ [] → HoldLevels items usable kind todos → (level.page.kind ≡ kind) × HoldsLevel level usable (child n ∷ s ∷ [])
    → OpenPagesStand pages (family_of kind) last (opened h todos ++ (two h n s ++ back)) pushed → levels ≡ level ∷ items → AreOpen pages levels usable kind h back last pushed
climb_over pages level items levels usable n kind h todos s back last pushed none hold is st parts =
    let no : todos ≡ [] = no_todos todos (subst (λ l. HoldLevels l usable kind todos) none hold) in
    record {
      todos = (child n ∷ s ∷ []) ∷ [];
      hold = subst (λ l. HoldLevels l usable kind ((child n ∷ s ∷ []) ∷ [])) (sym (parts ∙ ap (λ l. level ∷ l) none)) (is.0, is.1, tt);
      stands = subst (λ l. OpenPagesStand pages (family_of kind) last (opened h l ++ (two h n s ++ back)) pushed) no st;
    }
  where
    no_todos : (todos : List (List Step)) → HoldLevels [] usable kind todos → todos ≡ []
    no_todos [] h = refl
    no_todos (t ∷ todos) h = absurd h
