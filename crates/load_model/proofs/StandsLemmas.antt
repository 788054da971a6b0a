-- What keeps the meaning of a loader: a page that is put, a page that is closed, an entry, a key, and the end.
use Rattle.std.proofs.Common.{◌≡◌, ℕ, suc, ℤ, Bool, true, false, List, [], ◌∷◌, ◌++◌, ◌||◌, ◌&&◌, ◌==◌, Option, Ok, map, refl, ap, sym, ◌∙◌}
use Rattle.std.specs.List.{list_any, list_all}
use Rattle.std.proofs.Math.Bool.{or-false, or_comm}
use Rattle.std.proofs.lemmas.List.Folds.{list_all-append, list_any-append}
use Rattle.std.proofs.lemmas.Bool.{eq-eqb, eqb-true}
use Rattle.btree_page.specs.declared.kind.Family.{Family}
use Rattle.btree_page.specs.Page.{Node, read_node}
use Rattle.db_format.specs.Pages.{Pages, Test, nothing}
use Rattle.btree_model.specs.Range.{is_in_range}
use Rattle.btree_model.specs.Finding.{Finding, place, places, entries, keys, is_sound}
use Rattle.btree_model.specs.Walk.{is_met}
use Rattle.btree_page.specs.Step.{child, steps}
use Rattle.btree_model.specs.Content.{Entry, entry_of}
use Rattle.btree_model.proofs.FindingLemmas.{places-append, entries-append, is_sound-append}
use Rattle.btree_model.proofs.UnmarkedLemmas.{or_left, or_right}
use Rattle.btree_model.proofs.ProperLemmas.{keys-append}
use Rattle.btree_model.proofs.ContextLemmas.{and_left, and_right}
use Rattle.btree_model.proofs.KeptLemmas.{AreSame}
use Rattle.load_model.specs.Open.{Open, open_found, at_height, plain}
use Rattle.load_model.specs.Stands.{IsPut, OpenPagesStand, StandsBut, is_at_most}
use Rattle.load_model.proofs.PlainLemmas.{places-plain, sound-plain, entries-plain, keys-plain}
use Rattle.load_model.proofs.OpenLemmas.{open-append, open_kept, contract}

-- a number that fails the test is none of those that pass it
pub not_among : (p : Test) (m : ℕ) (ns : List ℕ) → p m ≡ false → list_all p ns ≡ true → list_any (λ n. m == n) ns ≡ false
not_among p m [] h all = refl
not_among p m (n ∷ ns) h all =
    let other : (m == n) ≡ false = differs (m == n) refl in ap (λ b. b || list_any (λ n. m == n) ns) other ∙ not_among p m ns h (and_right (p n) _ all)
  where
    differs : (b : Bool) → (m == n) ≡ b → (m == n) ≡ false
    differs false is = is
    differs true is = let no : true ≡ false = sym (and_left (p n) _ all) ∙ ap p (sym (eqb-true m n is)) ∙ h in cc

any_flip : (m : ℕ) (ns : List ℕ) → list_any (λ n. m == n) ns ≡ false → list_any (λ n. n == m) ns ≡ false
any_flip m [] h = refl
any_flip m (n ∷ ns) h = ap (λ b. b || list_any (λ n. n == m) ns) (turned (n == m) refl) ∙ any_flip m ns (or_right (m == n) _ h)
  where
    turned : (b : Bool) → (n == m) ≡ b → (n == m) ≡ false
    turned false is = is
    turned true is = let no : true ≡ false = sym (eq-eqb m n (sym (eqb-true n m is))) ∙ or_left (m == n) _ h in cc

-- not put, so not met
pub not_met : (p : Test) (m : ℕ) (met : List Finding) → p m ≡ false → list_all p (places met) ≡ true → is_met nothing met m ≡ false
not_met p m met h all = or-false (list_any (λ n. n == m) (places met)) ∙ any_flip m (places met) (not_among p m (places met) h all)

pub same_pages : (old new : Pages) (m : ℕ) → IsPut old new m → (ns : List ℕ) → list_all old.accepts ns ≡ true → list_any (λ n. m == n) ns ≡ false → AreSame old new ns
same_pages old new m put [] all other = tt
same_pages old new m put (n ∷ ns) all other = (
  record {
    bytes = put.stays n (or_left (m == n) _ other);
    accepted = put.stays_put n (or_left (m == n) _ other) ∙ and_left (old.accepts n) _ all;
  },
  same_pages old new m put ns (and_right (old.accepts n) _ all) (or_right (m == n) _ other),
)

pub still_put : (old new : Pages) (m : ℕ) → IsPut old new m → (ns : List ℕ) → list_all old.accepts ns ≡ true → list_all new.accepts ns ≡ true
still_put old new m put [] all = refl
still_put old new m put (n ∷ ns) all =
    ap (λ b. b && list_all new.accepts ns) (here (m == n) refl) ∙ still_put old new m put ns (and_right (old.accepts n) _ all)
  where
    here : (b : Bool) → (m == n) ≡ b → new.accepts n ≡ true
    here false is = put.stays_put n is ∙ and_left (old.accepts n) _ all
    here true is = ap new.accepts (sym (eqb-true m n is)) ∙ put.put

-- ---- which numbers are in a list

swap_or : (a b c : Bool) → (a || (b || c)) ≡ (b || (a || c))
swap_or true true c = refl
swap_or true false c = refl
swap_or false true c = refl
swap_or false false c = refl

-- one number more in the midst of others
pub any_middle : (p : Test) (xs ys : List ℕ) (m : ℕ) → list_any p (xs ++ (m ∷ ys)) ≡ (p m || list_any p (xs ++ ys))
any_middle p [] ys m = refl
any_middle p (x ∷ xs) ys m = ap (λ b. p x || b) (any_middle p xs ys m) ∙ swap_or (p x) (p m) (list_any p (xs ++ ys))

pub any_turned : (p : Test) (xs ys : List ℕ) → list_any p (xs ++ ys) ≡ list_any p (ys ++ xs)
any_turned p xs ys = list_any-append p xs ys ∙ or_comm (list_any p xs) (list_any p ys) ∙ sym (list_any-append p ys xs)

-- a page that is put now is page m, or was put before
pub put_listed : (old new : Pages) (m : ℕ) → IsPut old new m → (n : ℕ) → new.accepts n ≡ true → (b : Bool)
    → (old.accepts n ≡ true → b ≡ true) → ((m == n) || b) ≡ true
put_listed old new m put n now b before = here (m == n) refl
  where
    here : (e : Bool) → (m == n) ≡ e → ((m == n) || b) ≡ true
    here true is = ap (λ c. c || b) is
    here false is = ap (λ c. c || b) is ∙ before (sym (put.stays_put n is) ∙ now)

-- ---- a page is put

-- the findings are as they were after a page was put
pub put_found : (loose : List ℕ) (old new : Pages) (family : Family) (last : Option ℤ) (todo : List Open) (pushed : List Entry) (m : ℕ) → IsPut old new m
    → StandsBut loose old family last todo pushed → (slack : ℕ) → open_found new family slack [] todo ≡ open_found old family slack [] todo
put_found loose old new family last todo pushed m put s slack =
    open_kept old new put.size put.range family slack todo [] (s.sound slack)
    (same_pages old new m put _ (s.put slack) (not_among old.accepts m _ put.fresh (s.put slack)))

-- a page that is put changes nothing, and nothing leads to it yet
pub put_stands : (loose : List ℕ) (old new : Pages) (family : Family) (last : Option ℤ) (todo : List Open) (pushed : List Entry) (m : ℕ) → IsPut old new m
    → StandsBut loose old family last todo pushed → StandsBut (m ∷ loose) new family last todo pushed
put_stands loose old new family last todo pushed m put s = record {
  sound = λ slack. ap is_sound (put_found loose old new family last todo pushed m put s slack) ∙ s.sound slack;
  gives = λ slack. ap (λ l. map entry_of (entries l)) (put_found loose old new family last todo pushed m put s slack) ∙ s.gives slack;
  put = λ slack.
      ap (λ l. list_all new.accepts (places l)) (put_found loose old new family last todo pushed m put s slack)
      ∙ still_put old new m put _ (s.put slack);
  order = λ slack. ap (λ l. list_all (is_at_most last) (keys l)) (put_found loose old new family last todo pushed m put s slack) ∙ s.order slack;
  whole = λ slack n now.
      ap (λ l. list_any (λ k. k == n) ((m ∷ loose) ++ places l)) (put_found loose old new family last todo pushed m put s slack)
      ∙ put_listed old new m put n now (list_any (λ k. k == n) (loose ++ places (open_found old family slack [] todo))) (s.whole slack n);
}

-- one place more in the midst of findings
sound_with : (before behind : List Finding) (m : ℕ) → is_sound (before ++ (place m ∷ behind)) ≡ is_sound (before ++ behind)
sound_with before behind m = is_sound-append before (place m ∷ behind) ∙ sym (is_sound-append before behind)

entries_with : (before behind : List Finding) (m : ℕ) → entries (before ++ (place m ∷ behind)) ≡ entries (before ++ behind)
entries_with before behind m = entries-append before (place m ∷ behind) ∙ sym (entries-append before behind)

keys_with : (before behind : List Finding) (m : ℕ) → keys (before ++ (place m ∷ behind)) ≡ keys (before ++ behind)
keys_with before behind m = keys-append before (place m ∷ behind) ∙ sym (keys-append before behind)

all_with : (p : Test) (before behind : List Finding) (m : ℕ) → p m ≡ true → list_all p (places (before ++ (place m ∷ behind))) ≡ list_all p (places (before ++ behind))
all_with p before behind m h =
    ap (list_all p) (places-append before (place m ∷ behind)) ∙ list_all-append p (places before) (m ∷ places behind)
    ∙ ap (λ b. list_all p (places before) && (b && list_all p (places behind))) h
    ∙ sym (ap (list_all p) (places-append before behind) ∙ list_all-append p (places before) (places behind))

-- what a walk meets that is `found` with one place more
module _ (found again before behind : List Finding) (m : ℕ) (is : found ≡ before ++ behind) (more : plain again ≡ plain (before ++ (place m ∷ behind))) where
  more_sound : is_sound again ≡ is_sound found
  more_sound = sym (sound-plain again) ∙ ap is_sound more ∙ sound-plain (before ++ (place m ∷ behind)) ∙ sound_with before behind m ∙ ap is_sound (sym is)

  more_gives : map entry_of (entries again) ≡ map entry_of (entries found)
  more_gives =
      sym (entries-plain again) ∙ ap (λ l. map entry_of (entries l)) more ∙ entries-plain (before ++ (place m ∷ behind))
      ∙ ap (map entry_of) (entries_with before behind m ∙ ap entries (sym is))

  more_keys : keys again ≡ keys found
  more_keys = sym (keys-plain again) ∙ ap keys more ∙ keys-plain (before ++ (place m ∷ behind)) ∙ keys_with before behind m ∙ ap keys (sym is)

  more_put : (p : Test) → p m ≡ true → list_all p (places again) ≡ list_all p (places found)
  more_put p h =
      ap (list_all p) (sym (places-plain again) ∙ ap places more ∙ places-plain (before ++ (place m ∷ behind))) ∙ all_with p before behind m h
      ∙ ap (λ l. list_all p (places l)) (sym is)

-- a page is closed: page m was put, and it reads as some of the steps on the open pages, all of one height
module _ (old new : Pages) (family : Family) (last : Option ℤ) (front back : List Open) (pushed : List Entry) (h m : ℕ) (one : Node)
    (put : IsPut old new m) (range : is_in_range new m ≡ true) (reads : read_node family m (new.page m) ≡ Ok one)
    (s : OpenPagesStand old family last (front ++ (at_height h (steps one.cells one.right) ++ back)) pushed) where
  abbrev level : List Open
  level = at_height h (steps one.cells one.right) ++ back

  abbrev found : ℕ → List Finding
  found slack = open_found new family slack [] (front ++ level)

  abbrev again : ℕ → List Finding
  again slack = open_found new family slack [] (front ++ (record { height = suc h; leads = child m } ∷ back))

  abbrev before : ℕ → List Finding
  before slack = open_found new family slack [] front

  abbrev behind : ℕ → List Finding
  behind slack = open_found new family slack (before slack) level

  now : StandsBut (m ∷ []) new family last (front ++ level) pushed
  now = put_stands [] old new family last (front ++ level) pushed m put s

  is : (slack : ℕ) → found slack ≡ before slack ++ behind slack
  is slack = open-append new family slack [] front level

  -- the places were put before page m was
  old_put : (slack : ℕ) → list_all old.accepts (places (found slack)) ≡ true
  old_put slack = ap (λ l. list_all old.accepts (places l)) (put_found [] old new family last (front ++ level) pushed m put s slack) ∙ s.put slack

  old_before : (slack : ℕ) → list_all old.accepts (places (before slack)) ≡ true
  old_before slack =
      and_left (list_all old.accepts (places (before slack))) _
      (sym (list_all-append old.accepts (places (before slack)) (places (behind slack))) ∙ ap (list_all old.accepts) (sym (places-append (before slack) (behind slack)))
      ∙ ap (λ l. list_all old.accepts (places l)) (sym (is slack)) ∙ old_put slack)

  more : (slack : ℕ) → plain (again slack) ≡ plain (before slack ++ (place m ∷ behind slack))
  more slack =
      contract new family slack front back h m one range put.put reads (now.sound slack) (not_among old.accepts m _ put.fresh (old_put slack))
      (not_met old.accepts m (before slack) put.fresh (old_before slack))

  -- which pages the loader's steps lead to: those of before, and page m
  pub close_places : (slack : ℕ) → places (again slack) ≡ places (before slack) ++ (m ∷ places (behind slack))
  close_places slack =
      sym (places-plain (again slack)) ∙ ap places (more slack) ∙ places-plain (before slack ++ (place m ∷ behind slack))
      ∙ places-append (before slack) (place m ∷ behind slack)

  pub close_places_before : (slack : ℕ) → places (open_found old family slack [] (front ++ level)) ≡ places (before slack) ++ places (behind slack)
  close_places_before slack =
      ap places (sym (put_found [] old new family last (front ++ level) pushed m put s slack) ∙ is slack) ∙ places-append (before slack) (behind slack)

  pub close_stands : OpenPagesStand new family last (front ++ (record { height = suc h; leads = child m } ∷ back)) pushed
  close_stands =
      record {
        sound = λ slack. more_sound (found slack) (again slack) (before slack) (behind slack) m (is slack) (more slack) ∙ now.sound slack;
        gives = λ slack. more_gives (found slack) (again slack) (before slack) (behind slack) m (is slack) (more slack) ∙ now.gives slack;
        put = λ slack. more_put (found slack) (again slack) (before slack) (behind slack) m (is slack) (more slack) new.accepts put.put ∙ now.put slack;
        order = λ slack. ap (list_all (is_at_most last)) (more_keys (found slack) (again slack) (before slack) (behind slack) m (is slack) (more slack)) ∙ now.order slack;
        whole = λ slack n put_now.
            ap (list_any (λ k. k == n)) (close_places slack) ∙ any_middle (λ k. k == n) (places (before slack)) (places (behind slack)) m
            ∙ put_listed old new m put n put_now (list_any (λ k. k == n) (places (before slack) ++ places (behind slack)))
            (λ was. ap (list_any (λ k. k == n)) (sym (close_places_before slack)) ∙ s.whole slack n was);
      }
