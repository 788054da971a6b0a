-- The last page: the tree that a finished loader leaves.
use Rattle.std.proofs.Common.{◌≡◌, ℕ, zero, suc, ◌+◌, ◌-◌, ◌≤◌, ℤ, Bool, true, false, List, [], ◌∷◌, ◌==◌, Option, Some, None, Ok, if◌then◌else◌, map, refl, ap, sym, subst, ◌∙◌, arith}
use Rattle.std.specs.Option.{option_map}
use Rattle.std.specs.List.{list_all, list_any}
use Rattle.btree_page.specs.declared.kind.Family.{Family}
use Rattle.btree_page.specs.declared.kind.Kind.{Kind}
use Rattle.btree_page.specs.Page.{Node, read_node}
use Rattle.std.proofs.lemmas.List.{append-nil}
use Rattle.db_format.specs.declared.defect.Defect.TheVariants.{ChildOutOfRange}
use Rattle.db_format.specs.Pages.{Pages, nothing}
use Rattle.btree_model.specs.Range.{is_in_range}
use Rattle.btree_model.specs.Finding.{Row, Finding, place, fault, places, entries, is_sound}
use Rattle.btree_page.specs.Step.{child, steps}
use Rattle.btree_model.specs.Walk.{steps_of, walk}
use Rattle.btree_model.specs.Rest.{AreUnmarked}
use Rattle.btree_model.specs.Tree.{tree, tree_walk}
use Rattle.btree_model.specs.Content.{Entry, entry_of}
use Rattle.load_model.specs.Open.{Open, raise, open_found, at_height, plain}
use Rattle.load_model.specs.Stands.{IsNonePut, IsPut, OpenPagesStand, StandsBut}
use Rattle.load_model.proofs.PlainLemmas.{places-plain, sound-plain, entries-plain}
use Rattle.load_model.proofs.AlikeLemmas.{steps_alike, walk_alike}
use Rattle.load_model.proofs.OpenLemmas.{open_level, page_walk, longer_by}
use Rattle.load_model.proofs.StandsLemmas.{put_listed, put_stands, put_found, not_among}

-- a loader that was given nothing, and has put nothing
pub nothing_stands : (pages : Pages) (family : Family) → IsNonePut pages → OpenPagesStand pages family None [] []
nothing_stands pages family none = record {
  sound = λ slack. refl;
  gives = λ slack. refl;
  put = λ slack. refl;
  order = λ slack. refl;
  whole = λ slack n put. let no : true ≡ false = sym put ∙ none n in cc;
}

raise_is : (slack h : ℕ) → raise slack h ≡ h + slack
raise_is slack zero = omega arith
raise_is slack (suc h) = let before : raise slack h ≡ h + slack = raise_is slack h in omega arith

pub raise_to : (h : ℕ) → h ≤ 19 → raise (19 - h) h ≡ 19
raise_to h le = let is : raise (19 - h) h ≡ h + (19 - h) = raise_is (19 - h) h in omega arith

some_if : (b : Bool) (rows : List Row) (pushed : List Entry) → b ≡ true → map entry_of rows ≡ pushed
    → option_map (map entry_of) (if b then Some rows else None) ≡ Some pushed
some_if true rows pushed is h = ap Some h
some_if false rows pushed is h = cc

-- the last page was put at r, and it reads as all that was left on the open pages
module _ (old new : Pages) (family : Family) (last : Option ℤ) (pushed : List Entry) (h r : ℕ) (one : Node)
    (put : IsPut old new r) (reads : read_node family r (new.page r) ≡ Ok one) (low : h ≤ 19)
    (s : OpenPagesStand old family last (at_height h (steps one.cells one.right)) pushed) where
  abbrev todo : List Open
  todo = at_height h (steps one.cells one.right)

  abbrev own : List Finding
  own = open_found new family (19 - h) [] todo

  now : StandsBut (r ∷ []) new family last todo pushed
  now = put_stands [] old new family last todo pushed r put s

  root_is : plain (tree_walk new family nothing r) ≡ place r ∷ plain own
  root_is =
      let level : own ≡ steps_of new nothing (walk new family nothing 19) [] 0 (steps one.cells one.right) =
      open_level new family (19 - h) [] h (steps one.cells one.right)
      ∙ ap (λ l. steps_of new nothing (walk new family nothing l) [] 0 (steps one.cells one.right)) (raise_to h low)
      in
      ap plain (page_walk new family 0 19 [] r one refl put.put reads)
      ∙ ap (λ l. place r ∷ l)
      (steps_alike new nothing (λ n. r == n) (walk new family nothing 19) (λ met again c longer. walk_alike new nothing (λ n. r == n) family 19 met again c longer)
      (steps one.cells one.right) [] (place r ∷ []) (longer_by new family 0 [] r) 0 r
      (ap is_sound (sym level) ∙ now.sound (19 - h))
      (subst (λ l. AreUnmarked (λ n. r == n) (places l)) level
      (not_among old.accepts r (places own) put.fresh (ap (λ l. list_all old.accepts (places l)) (put_found [] old new family last todo pushed r put s (19 - h)) ∙ s.put (19 - h))))
      ∙ ap plain (sym level))

  -- the tree from it is the pushed list
  pub root_tree : option_map (map entry_of) (tree new family r) ≡ Some pushed
  root_tree =
      some_if (is_sound (tree_walk new family nothing r)) (entries (tree_walk new family nothing r)) pushed
      (sym (sound-plain (tree_walk new family nothing r)) ∙ ap is_sound root_is ∙ sound-plain own ∙ now.sound (19 - h))
      (sym (entries-plain (tree_walk new family nothing r)) ∙ ap (λ l. map entry_of (entries l)) root_is ∙ entries-plain own ∙ now.gives (19 - h))

  -- and it stands on this page and on those that the open pages led to
  pub root_places : places (tree_walk new family nothing r) ≡ r ∷ places (open_found old family (19 - h) [] todo)
  root_places =
      sym (places-plain (tree_walk new family nothing r)) ∙ ap places root_is
      ∙ ap (λ l. r ∷ l) (places-plain own ∙ ap places (put_found [] old new family last todo pushed r put s (19 - h)))

  -- these are all that were put
  pub root_whole : (n : ℕ) → new.accepts n ≡ true → list_any (λ m. m == n) (places (tree_walk new family nothing r)) ≡ true
  root_whole n at =
      ap (list_any (λ m. m == n)) root_places
      ∙ put_listed old new r put n at (list_any (λ m. m == n) (places (open_found old family (19 - h) [] todo))) (s.whole (19 - h) n)

pub raise_to_20 : (h : ℕ) → h ≤ 20 → raise (20 - h) h ≡ 20
raise_to_20 h le = let is : raise (20 - h) h ≡ h + (20 - h) = raise_is (20 - h) h in omega arith

-- all that is left is one page that was put
module _ (pages : Pages) (family : Family) (last : Option ℤ) (pushed : List Entry) (h m : ℕ) (range : is_in_range pages m ≡ true) (low : h ≤ 20)
    (s : OpenPagesStand pages family last (record { height = h; leads = child m } ∷ []) pushed) where
  child_walk : open_found pages family (20 - h) [] (record { height = h; leads = child m } ∷ []) ≡ tree_walk pages family nothing m
  child_walk =
      append-nil _ ∙ ap (λ b. if b then walk pages family nothing (raise (20 - h) h) [] m else fault (ChildOutOfRange 0) ∷ []) range
      ∙ ap (λ l. walk pages family nothing l [] m) (raise_to_20 h low)

  -- the tree from it is the pushed list
  pub child_tree : option_map (map entry_of) (tree pages family m) ≡ Some pushed
  child_tree =
      some_if (is_sound (tree_walk pages family nothing m)) (entries (tree_walk pages family nothing m)) pushed
      (ap is_sound (sym child_walk) ∙ s.sound (20 - h)) (ap (λ l. map entry_of (entries l)) (sym child_walk) ∙ s.gives (20 - h))

  -- and it stands on every page that was put
  pub child_whole : (n : ℕ) → pages.accepts n ≡ true → list_any (λ m. m == n) (places (tree_walk pages family nothing m)) ≡ true
  child_whole n put = ap (λ l. list_any (λ k. k == n) (places l)) (sym child_walk) ∙ s.whole (20 - h) n put

-- the only child did not fit beside the database header: page 1 has no cell and one child
module _ (old new : Pages) (family : Family) (kind : Kind) (last : Option ℤ) (pushed : List Entry) (h m : ℕ) (put : IsPut old new 1)
    (reads : read_node family 1 (new.page 1) ≡ Ok (record { kind = kind; cells = []; right = Some m })) (low : h ≤ 19)
    (s : OpenPagesStand old family last (record { height = h; leads = child m } ∷ []) pushed) where
  pub lone_root : option_map (map entry_of) (tree new family 1) ≡ Some pushed
  lone_root = root_tree old new family last pushed h 1 (record { kind = kind; cells = []; right = Some m }) put reads low s

  pub lone_whole : (n : ℕ) → new.accepts n ≡ true → list_any (λ m. m == n) (places (tree_walk new family nothing 1)) ≡ true
  lone_whole = root_whole old new family last pushed h 1 (record { kind = kind; cells = []; right = Some m }) put reads low s
