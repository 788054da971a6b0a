-- The end of a level, and the root.
use Rattle.std.proofs.Common.{◌≡◌, ◌≤◌, ℕ, suc, ℤ, Bool, true, false, List, [], ◌∷◌, ◌++◌, Option, None, if◌then◌else◌, refl, ap, sym, subst, ◌∙◌, arith}
use Rattle.std.proofs.lemmas.List.{append_assoc, append-nil}
use Rattle.btree_page.specs.declared.kind.Family.{Family}
use Rattle.btree_page.specs.declared.kind.Kind.{Kind}
use Rattle.btree_page.specs.declared.kind.Kind.TheVariants.{IndexInterior, TableInterior, IndexLeaf, TableLeaf}
use Rattle.db_format.specs.declared.defect.Defect.TheVariants.{ChildOutOfRange}
use Rattle.btree_page.specs.Cell.{Cell}
use Rattle.btree_model.specs.Finding.{fault, is_sound}
use Rattle.db_format.specs.Pages.{Pages, nothing}
use Rattle.btree_model.specs.Range.{is_in_range}
use Rattle.btree_page.specs.Step.{Step, steps, child}
use Rattle.btree_model.specs.Walk.{walk}
use Rattle.btree_model.specs.Content.{Entry}
use Rattle.load_model.specs.Open.{Open, at_height, raise}
use Rattle.load_model.specs.Stands.{OpenPagesStand}
use Rattle.btree_page.specs.Kind.{family_of, is_interior}
use Rattle.page_build.specs.Written.{right_child}
use Rattle.load_model.proofs.RootLemmas.{child_tree, child_whole}
use Rattle.page_build.specs.Draft.{Draft}
use Rattle.bulk_load.specs.declared.level.Level.{Level}
use Rattle.bulk_load.specs.Close.{HasCells}
use Rattle.bulk_load.specs.Found.{HasTree}
use Rattle.bulk_load.specs.Settle.{up_kind}
use Rattle.bulk_load.specs.Level.{HoldsLevel}
use Rattle.bulk_load.specs.Levels.{opened, HoldLevels}
use Rattle.bulk_load.proofs.SettleLemmas.{family_up, with_last, right_is, up_same}
use Rattle.bulk_load.proofs.LevelsLemmas.{first_level}

-- what `close` ensures
abbrev pub Closes : Pages → Pages → Draft → ℕ → ℕ → Type 0
Closes old new page right m =
    (cells : List Cell) (h : ℕ) (front back : List Open) (last : Option ℤ) (pushed : List Entry) → HasCells page old.usable cells
    → OpenPagesStand old (family_of page.kind) last (front ++ (at_height h (steps cells (right_child page.kind right)) ++ back)) pushed
    → OpenPagesStand new (family_of page.kind) last (front ++ (record { height = suc h; leads = child m } ∷ back)) pushed

pub end_is : (mid new : Pages) (page : Draft) (own kind : Kind) (usable below m : ℕ) (cells : List Cell) (front : List Open) (h : ℕ) (last : Option ℤ) (pushed : List Entry)
    → Closes mid new page below m → page.kind ≡ own → up_kind own ≡ kind → mid.usable ≡ usable → HasCells page usable cells
    → OpenPagesStand mid (family_of kind) last (front ++ (at_height h (steps cells None) ++ at_height h (steps [] (right_child own below)))) pushed
    → OpenPagesStand new (family_of kind) last (front ++ (record { height = suc h; leads = child m } ∷ [])) pushed
end_is mid new page own kind usable below m cells front h last pushed closes same up size has st =
    let fam : family_of page.kind ≡ family_of kind = sym (family_up page.kind) ∙ ap (λ k. family_of (up_kind k)) same ∙ ap family_of up in
    subst (λ f. OpenPagesStand new f last (front ++ (record { height = suc h; leads = child m } ∷ [])) pushed) fam
    (closes cells h front [] last pushed (subst (λ u. HasCells page u cells) (sym size) has)
    (subst (λ f. OpenPagesStand mid f last (front ++ (at_height h (steps cells (right_child page.kind below)) ++ [])) pushed) (sym fam)
    (subst (λ l. OpenPagesStand mid (family_of kind) last (front ++ l) pushed)
    (with_last own cells below h ∙ ap (λ k. at_height h (steps cells (right_child k below))) (sym same) ∙ sym (append-nil (at_height h (steps cells (right_child page.kind below))))) st)))

-- what is left is in range, since the walk has no defect
child_range : (pages : Pages) (family : Family) (last : Option ℤ) (pushed : List Entry) (h m : ℕ) → OpenPagesStand pages family last (record { height = h; leads = child m } ∷ []) pushed → is_in_range pages m ≡ true
child_range pages family last pushed h m s = here (is_in_range pages m) refl
  where
    here : (b : Bool) → is_in_range pages m ≡ b → is_in_range pages m ≡ true
    here true is = is
    here false is =
        let no : false ≡ true =
        sym (ap (λ b. is_sound ((if b then walk pages family nothing (raise 0 h) [] m else fault (ChildOutOfRange 0) ∷ []) ++ [])) is) ∙ s.sound 0
        in
        cc

none_left : (usable : ℕ) (kind : Kind) (todos : List (List Step)) → HoldLevels [] usable kind todos → todos ≡ []
none_left usable kind [] h = refl
none_left usable kind (t ∷ todos) h = absurd h

-- no level is left: this is the last page
pub last_page : (pages : Pages) (levels : List Level) (usable : ℕ) (kind own : Kind) (cells : List Cell) (todos : List (List Step)) (h below : ℕ) (last : Option ℤ) (pushed : List Entry) → levels ≡ []
    → HoldLevels levels usable kind todos
    → OpenPagesStand pages (family_of kind) last (opened (suc h) todos ++ (at_height h (steps cells None) ++ at_height h (steps [] (right_child own below)))) pushed
    → OpenPagesStand pages (family_of kind) last (at_height h (steps cells (right_child own below))) pushed
last_page pages levels usable kind own cells todos h below last pushed none hold st =
    let no : todos ≡ [] = none_left usable kind todos (subst (λ l. HoldLevels l usable kind todos) none hold) in
    subst (λ l. OpenPagesStand pages (family_of kind) last l pushed) (with_last own cells below h)
    (subst (λ t. OpenPagesStand pages (family_of kind) last (opened (suc h) t ++ (at_height h (steps cells None) ++ at_height h (steps [] (right_child own below)))) pushed) no st)

-- the page was put at the next number
pub closed_tree : (old new : Pages) (page : Draft) (kind : Kind) (usable right m : ℕ) (cells : List Cell) (h : ℕ) (last : Option ℤ) (pushed : List Entry)
    → Closes old new page right m → up_kind page.kind ≡ kind → HasCells page old.usable cells → h ≤ 18
    → OpenPagesStand old (family_of kind) last (at_height h (steps cells (right_child page.kind right))) pushed
    → OpenPagesStand new (family_of kind) last (record { height = suc h; leads = child m } ∷ []) pushed
closed_tree old new page kind usable right m cells h last pushed closes up has low st =
    let fam : family_of page.kind ≡ family_of kind = sym (family_up page.kind) ∙ ap family_of up in
    subst (λ f. OpenPagesStand new f last (record { height = suc h; leads = child m } ∷ []) pushed) fam
    (closes cells h [] [] last pushed has
    (subst (λ f. OpenPagesStand old f last (at_height h (steps cells (right_child page.kind right)) ++ []) pushed) (sym fam)
    (subst (λ l. OpenPagesStand old (family_of kind) last l pushed) (sym (append-nil (at_height h (steps cells (right_child page.kind right))))) st)))

pub child_is : (new : Pages) (family : Family) (h m : ℕ) (last : Option ℤ) (pushed : List Entry) → h ≤ 18
    → OpenPagesStand new family last (record { height = suc h; leads = child m } ∷ []) pushed → HasTree new family m pushed
child_is new family h m last pushed low st =
    let range : is_in_range new m ≡ true = child_range new family last pushed (suc h) m st in
    let least : suc h ≤ 20 = omega arith in
    record { lists = child_tree new family last pushed (suc h) m range least st; whole = child_whole new family last pushed (suc h) m range least st }

-- the next level, whose last child is the page that was put
pub record IsNextLevel (new : Pages) (next : Level) (above : List Level) (usable : ℕ) (kind : Kind) (h m : ℕ) (last : Option ℤ) (pushed : List Entry) : Type 0 where
  pub todo : List Step
  pub todos : List (List Step)
  pub is_kind : up_kind next.page.kind ≡ kind
  pub hold : HoldsLevel next usable todo
  pub holds : HoldLevels above usable kind todos
  pub stands : OpenPagesStand new (family_of kind) last (opened (suc h) todos ++ (at_height h todo ++ at_height h (steps [] (right_child next.page.kind m)))) pushed

pub next_level : (new : Pages) (next : Level) (levels above : List Level) (usable : ℕ) (kind : Kind) (todos : List (List Step)) (h m : ℕ) (last : Option ℤ) (pushed : List Entry)
    → levels ≡ next ∷ above → is_interior kind ≡ true → HoldLevels levels usable kind todos
    → OpenPagesStand new (family_of kind) last (opened h todos ++ (record { height = h; leads = child m } ∷ [])) pushed
    → IsNextLevel new next above usable kind h m last pushed
next_level new next levels above usable kind todos h m last pushed parts inner hold st =
    let f = first_level next above usable kind todos (subst (λ l. HoldLevels l usable kind todos) parts hold) in
    let one : List Open = record { height = h; leads = child m } ∷ [] in
    record {
      todo = f.0;
      todos = f.1;
      is_kind = ap up_kind f.3 ∙ up_same kind inner;
      hold = f.4;
      holds = f.5;
      stands =
          subst (λ l. OpenPagesStand new (family_of kind) last l pushed)
          (ap (λ l. opened h l ++ one) f.2 ∙ append_assoc (opened (suc h) f.1) (at_height h f.0) one
          ∙ ap (λ r. opened (suc h) f.1 ++ (at_height h f.0 ++ at_height h (steps [] r))) (sym (right_is kind m inner) ∙ ap (λ k. right_child k m) (sym f.3)))
          st;
    }

pub leaf_right : (kind : Kind) (n : ℕ) → is_interior kind ≡ false → right_child kind n ≡ None
leaf_right TableLeaf n h = refl
leaf_right IndexLeaf n h = refl
leaf_right TableInterior n h = cc
leaf_right IndexInterior n h = cc
