-- A walk comes on by one step: what it met grows, and what is left shrinks.
use Rattle.std.proofs.Common.{◌≡◌, ℕ, suc, Bool, true, false, List, [], ◌∷◌, ◌++◌, ◌||◌, Some, None, Ok, Contains, if◌then◌else◌, refl, ap, sym, subst, ◌∙◌}
use Rattle.std.proofs.lemmas.List.{append_assoc, append-nil}
use Rattle.std.proofs.lemmas.List.Folds.{list_any-append}
use Rattle.std.proofs.lemmas.List.Elements.{Contains-append_right}
use Rattle.std.specs.List.{list_any}
use Rattle.btree_page.specs.declared.kind.Family.{Family}
use Rattle.db_format.specs.declared.defect.Defect.{Defect}
use Rattle.btree_page.specs.Page.{Node, read_node}
use Rattle.db_format.specs.Pages.{Pages, Test, nothing}
use Rattle.btree_model.specs.Range.{is_in_range}
use Rattle.btree_model.specs.Finding.{Finding, place, places, entries, faults, refusals, is_sound}
use Rattle.btree_page.specs.Step.{Step, child, steps}
use Rattle.btree_model.specs.Walk.{is_met, step, steps_of, walk}
use Rattle.btree_model.specs.Tree.{tree, tree_walk}
use Rattle.btree_model.specs.Rest.{Frame, rest, AreUnmarked, RestStands}
use Rattle.btree_model.proofs.FindingLemmas.{places-append, faults-append, refusals-append, sound_both}

or_left : (a b : Bool) → (a || b) ≡ false → a ≡ false
or_left false b h = refl
or_left true b h = h

or_right : (a b : Bool) → (a || b) ≡ false → b ≡ false
or_right false b h = h
or_right true b h = cc

pub none_marked : (ns : List ℕ) → AreUnmarked nothing ns
none_marked [] = refl
none_marked (n ∷ ns) = none_marked ns

module _ (pages : Pages) (family : Family) (taken : Test) where
  abbrev frame_of : ℕ → ℕ → List Step → Frame
  frame_of n left todo = record { page = n; left = left; todo = todo }

  -- findings, and behind them what a path still meets
  pub rest-joined : (met found after : List Finding) (path : List Frame)
      → (found ++ after) ++ rest pages family taken (met ++ (found ++ after)) path
      ≡ found ++ (after ++ rest pages family taken ((met ++ found) ++ after) path)
  rest-joined met found after path =
      append_assoc found after _ ∙ ap (λ m. found ++ (after ++ rest pages family taken m path)) (sym (append_assoc met found after))

  -- the next step of the deepest page
  pub rest-step : (met : List Finding) (n left : ℕ) (s : Step) (todo : List Step) (path : List Frame)
      → rest pages family taken met (frame_of n left (s ∷ todo) ∷ path)
      ≡ step pages taken (walk pages family taken left) met n s
      ++ rest pages family taken (met ++ step pages taken (walk pages family taken left) met n s) (frame_of n left todo ∷ path)
  rest-step met n left s todo path =
      let found : List Finding = step pages taken (walk pages family taken left) met n s in
      rest-joined met found (steps_of pages taken (walk pages family taken left) (met ++ found) n todo) path

  -- the walk goes down to a child
  pub rest-down : (met : List Finding) (n left c : ℕ) (page : Node) (todo : List Step) (path : List Frame)
      → is_in_range pages c ≡ true → is_met taken met c ≡ false → pages.accepts c ≡ true → read_node family c (pages.page c) ≡ Ok page
      → rest pages family taken met (frame_of n (suc left) (child c ∷ todo) ∷ path)
      ≡ place c ∷ rest pages family taken (met ++ place c ∷ []) (frame_of c left (steps page.cells page.right) ∷ (frame_of n (suc left) todo ∷ path))
  unfolding walk
  rest-down met n left c page todo path range fresh accepted reads =
      let below : List Finding = steps_of pages taken (walk pages family taken left) (met ++ place c ∷ []) c (steps page.cells page.right) in
      let down : step pages taken (walk pages family taken (suc left)) met n (child c) ≡ place c ∷ below = rw (range, fresh, accepted, reads) refl in
      rest-step met n (suc left) (child c) todo path
      ∙ ap (λ found. found ++ rest pages family taken (met ++ found) (frame_of n (suc left) todo ∷ path)) down
      ∙ ap (λ m. place c ∷ (below ++ rest pages family taken m (frame_of n (suc left) todo ∷ path))) (sym (append_assoc met (place c ∷ []) below))

module _ (pages : Pages) (family : Family) (root : ℕ) where
  -- the walk comes on by these findings, at each test of earlier parts that holds for none of the places
  pub Stands-on : (met found : List Finding) (path after : List Frame) → RestStands pages family root met path → is_sound found ≡ true
      → ((taken : Test) → AreUnmarked taken (places met) → AreUnmarked taken (places found)
      → rest pages family taken met path ≡ found ++ rest pages family taken (met ++ found) after)
      → RestStands pages family root (met ++ found) after
  Stands-on met found path after stands good comes =
      record {
        sound = sound_both met found stands.sound good;
        whole = λ taken unmarked.
            let parted : (list_any taken (places met) || list_any taken (places found)) ≡ false =
            sym (list_any-append taken (places met) (places found)) ∙ ap (list_any taken) (sym (places-append met found)) ∙ unmarked
            in
            let first : AreUnmarked taken (places met) = or_left _ _ parted in
            stands.whole taken first ∙ ap (λ l. met ++ l) (comes taken first (or_right _ _ parted)) ∙ sym (append_assoc met found _);
      }

  -- nothing is left: the tree is the list of what was given
  pub Stands-end : (met : List Finding) → RestStands pages family root met [] → tree pages family root ≡ Some (entries met)
  Stands-end met stands =
      let all : tree_walk pages family nothing root ≡ met = stands.whole nothing (none_marked (places met)) ∙ append-nil met in
      ap (λ found. if is_sound found then Some (entries found) else None) all ∙ ap (λ b. if b then Some (entries met) else None) stands.sound

  -- and the walk has met each place of the tree
  pub Stands-places : (met : List Finding) (taken : Test) → RestStands pages family root met [] → AreUnmarked taken (places met)
      → tree_walk pages family taken root ≡ met
  Stands-places met taken stands unmarked = stands.whole taken unmarked ∙ append-nil met

  -- a defect that is still met is one of the tree
  pub Stands-fault : (met : List Finding) (path : List Frame) (taken : Test) (d : Defect) → RestStands pages family root met path
      → AreUnmarked taken (places met) → Contains (faults (rest pages family taken met path)) d → Contains (faults (tree_walk pages family taken root)) d
  Stands-fault met path taken d stands unmarked among =
      subst (λ l. Contains l d) (sym (ap faults (stands.whole taken unmarked) ∙ faults-append met (rest pages family taken met path)))
      (Contains-append_right (faults met) _ d among)

  -- a page that is still refused is one that the tree has refused
  pub Stands-refused : (met : List Finding) (path : List Frame) (taken : Test) (n : ℕ) → RestStands pages family root met path
      → AreUnmarked taken (places met) → Contains (refusals (rest pages family taken met path)) n → Contains (refusals (tree_walk pages family taken root)) n
  Stands-refused met path taken n stands unmarked among =
      subst (λ l. Contains l n) (sym (ap refusals (stands.whole taken unmarked) ∙ refusals-append met (rest pages family taken met path)))
      (Contains-append_right (refusals met) _ n among)

  -- a place that is still met is a sound place of the tree
  pub Stands-place : (met : List Finding) (path : List Frame) (taken : Test) (n : ℕ) → RestStands pages family root met path
      → AreUnmarked taken (places met) → Contains (places (rest pages family taken met path)) n → Contains (places (tree_walk pages family taken root)) n
  Stands-place met path taken n stands unmarked among =
      subst (λ l. Contains l n) (sym (ap places (stands.whole taken unmarked) ∙ places-append met (rest pages family taken met path)))
      (Contains-append_right (places met) _ n among)

  -- before the first step
  pub Stands-start : (left : ℕ) (page : Node) → (taken : Test) → is_met taken [] root ≡ false → pages.accepts root ≡ true
      → read_node family root (pages.page root) ≡ Ok page
      → walk pages family taken (suc left) [] root
      ≡ (place root ∷ []) ++ rest pages family taken (place root ∷ []) (record { page = root; left = left; todo = steps page.cells page.right } ∷ [])
  unfolding walk
  Stands-start left page taken fresh accepted reads = rw (fresh, accepted, reads) (ap (λ l. place root ∷ l) (sym (append-nil _)))
