-- A walk without a defect is the same after other findings that have the same rowids and keys, and the same places and some
-- more, where no place of the walk is among these; and on another page but for the number of that page in its rows.
use Rattle.std.proofs.Common.{◌≡◌, ℕ, zero, suc, ℤ, Bool, true, false, List, [], ◌∷◌, ◌++◌, ◌||◌, ◌==◌, Option, Some, None, Result, Ok, Err, map, if◌then◌else◌, refl, ap, sym, ◌∙◌}
use Rattle.std.specs.Prelude.{int_le, int_lt}
use Rattle.std.specs.Option.{option_map_or}
use Rattle.std.specs.List.{list_any}
use Rattle.std.proofs.Math.Bool.{or_assoc}
use Rattle.std.proofs.lemmas.List.Folds.{list_any-append}
use Rattle.btree_page.specs.declared.kind.Family.{Family}
use Rattle.db_format.specs.declared.defect.Defect.{Defect}
use Rattle.db_format.specs.declared.defect.Defect.TheVariants.{RowidOrder}
use Rattle.db_format.specs.Bytes.{u32_at}
use Rattle.btree_page.specs.Cell.{StoredCell}
use Rattle.btree_page.specs.declared.page.PageFault.{PageFault}
use Rattle.btree_page.specs.Page.{Node, read_node}
use Rattle.db_format.specs.Pages.{Pages, Test}
use Rattle.btree_model.specs.Range.{is_in_range}
use Rattle.btree_model.specs.Finding.{Row, Finding, place, entry, key, fault, places, entries, keys, is_sound}
use Rattle.btree_model.specs.Walk.{is_met, step, steps_of, walk, visit, inside, given, chain, chain_of, payload_of, links_needed, order_faults, late_faults, too_deep, Below}
use Rattle.btree_page.specs.Step.{Step, child, divider, entry as cell, steps}
use Rattle.btree_model.specs.Rest.{AreUnmarked}
use Rattle.btree_model.proofs.FindingLemmas.{places-append, entries-append}
use Rattle.btree_model.proofs.UnmarkedLemmas.{Stays, sound_left, sound_right, unmarked_left, unmarked_right, stays_same, if_stays, link_stays, or_left, or_right}
use Rattle.btree_model.proofs.ProperLemmas.{keys-append}
use Rattle.load_model.specs.Open.{plain}
use Rattle.load_model.proofs.PlainLemmas.{plain-append, places-plain, keys-plain, rowids-plain}

-- the same rowids and keys, and besides the places for which `extra` holds
pub record IsLonger (taken extra : Test) (met again : List Finding) : Type 0 where
  pub met_as : (n : ℕ) → is_met taken again n ≡ (extra n || is_met taken met n)
  pub keys_as : keys again ≡ keys met
  pub rowids_as : map (λ row. row.rowid) (entries again) ≡ map (λ row. row.rowid) (entries met)

swap_or : (p x t : Bool) → ((p || x) || t) ≡ ((p || t) || x)
swap_or true true true = refl
swap_or true true false = refl
swap_or true false true = refl
swap_or true false false = refl
swap_or false true true = refl
swap_or false true false = refl
swap_or false false true = refl
swap_or false false false = refl

pub met-append : (taken : Test) (met more : List Finding) (n : ℕ) → is_met taken (met ++ more) n ≡ (is_met taken met n || list_any (λ m. m == n) (places more))
met-append taken met more n =
    ap (λ b. b || taken n) (ap (list_any (λ m. m == n)) (places-append met more) ∙ list_any-append (λ m. m == n) (places met) (places more))
    ∙ swap_or (list_any (λ m. m == n) (places met)) (list_any (λ m. m == n) (places more)) (taken n)

map-append : (xs ys : List Row) → map (λ row. row.rowid) (xs ++ ys) ≡ map (λ row. row.rowid) xs ++ map (λ row. row.rowid) ys
map-append [] ys = refl
map-append (x ∷ xs) ys = ap (λ l. x.rowid ∷ l) (map-append xs ys)

pub longer-append : (taken extra : Test) (met again found found' : List Finding) → IsLonger taken extra met again → plain found' ≡ plain found
    → IsLonger taken extra (met ++ found) (again ++ found')
longer-append taken extra met again found found' h same = record {
  met_as = λ n.
      met-append taken again found' n
      ∙ ap (λ ps. is_met taken again n || list_any (λ m. m == n) ps) (sym (places-plain found') ∙ ap places same ∙ places-plain found)
      ∙ ap (λ b. b || list_any (λ m. m == n) (places found)) (h.met_as n)
      ∙ or_assoc (extra n) (is_met taken met n) (list_any (λ m. m == n) (places found))
      ∙ ap (λ b. extra n || b) (sym (met-append taken met found n));
  keys_as =
      keys-append again found' ∙ ap (λ l. l ++ keys found') h.keys_as
      ∙ ap (λ l. keys met ++ l) (sym (keys-plain found') ∙ ap keys same ∙ keys-plain found) ∙ sym (keys-append met found);
  rowids_as =
      ap (map (λ row. row.rowid)) (entries-append again found') ∙ map-append (entries again) (entries found')
      ∙ ap (λ l. l ++ map (λ row. row.rowid) (entries found')) h.rowids_as
      ∙ ap (λ l. map (λ row. row.rowid) (entries met) ++ l)
      (sym (rowids-plain found') ∙ ap (λ l. map (λ row. row.rowid) (entries l)) same ∙ rowids-plain found)
      ∙ sym (map-append (entries met) (entries found)) ∙ ap (map (λ row. row.rowid)) (sym (entries-append met found));
}

-- the same findings but for the pages of rows
abbrev pub Alike : Test → List Finding → List Finding → Type 0
Alike extra found again = is_sound found ≡ true → AreUnmarked extra (places found) → plain again ≡ plain found

from_stays : (extra : Test) (found again : List Finding) → Stays extra found again → Alike extra found again
from_stays extra found again p sound unmarked = ap plain (p sound unmarked)

if_alike : (extra : Test) (c : Bool) (one one' other other' : List Finding) → Alike extra one one' → Alike extra other other'
    → Alike extra (if c then one else other) (if c then one' else other')
if_alike extra true one one' other other' p q = p
if_alike extra false one one' other other' p q = q

pub append_alike : (extra : Test) (one one' other other' : List Finding) → Alike extra one one' → (plain one' ≡ plain one → Alike extra other other')
    → Alike extra (one ++ other) (one' ++ other')
append_alike extra one one' other other' p q sound unmarked =
    let first : plain one' ≡ plain one = p (sound_left one other sound) (unmarked_left extra one other unmarked) in
    plain-append one' other' ∙ ap (λ l. l ++ plain other') first
    ∙ ap (λ l. plain one ++ l) (q first (sound_right one other sound) (unmarked_right extra one other unmarked)) ∙ sym (plain-append one other)

fault_alike : (extra : Test) (d d' : Defect) (xs ys : List Finding) → Alike extra (fault d ∷ xs) (fault d' ∷ ys)
fault_alike extra d d' xs ys sound unmarked = cc

fault_stays : (extra : Test) (d d' : Defect) (xs ys : List Finding) → Stays extra (fault d ∷ xs) (fault d' ∷ ys)
fault_stays extra d d' xs ys sound unmarked = cc

if_fault : (extra : Test) (c : Bool) (d d' : Defect) → Stays extra (if c then fault d ∷ [] else []) (if c then fault d' ∷ [] else [])
if_fault extra true d d' = fault_stays extra d d' [] []
if_fault extra false d d' = λ sound unmarked. refl

late_alike : (k : ℤ) (rows again : List Row) → map (λ row. row.rowid) again ≡ map (λ row. row.rowid) rows → is_sound (late_faults k rows) ≡ true
    → late_faults k again ≡ late_faults k rows
late_alike k [] [] same sound = refl
late_alike k [] (row' ∷ again) same sound = cc
late_alike k (row ∷ rows) [] same sound = cc
late_alike k (row ∷ rows) (row' ∷ again) same sound =
    let first : row'.rowid ≡ row.rowid = cc in
    let others : map (λ r. r.rowid) again ≡ map (λ r. r.rowid) rows = cc in
    let cond : option_map_or (λ rowid. int_lt k rowid) row'.rowid false ≡ option_map_or (λ rowid. int_lt k rowid) row.rowid false =
    ap (λ r. option_map_or (λ rowid. int_lt k rowid) r false) first
    in
    let front : List Finding = if option_map_or (λ rowid. int_lt k rowid) row.rowid false then fault (RowidOrder row.page) ∷ [] else [] in
    rw cond
    (ap (λ l. l ++ late_faults k again)
    (if_fault (λ n. false) (option_map_or (λ rowid. int_lt k rowid) row.rowid false) (RowidOrder row.page) (RowidOrder row'.page)
    (sound_left front (late_faults k rows) sound) (nothing_marked (places front)))
    ∙ ap (λ l. front ++ l) (late_alike k rows again others (sound_right front (late_faults k rows) sound)))
  where
    nothing_marked : (ns : List ℕ) → list_any (λ n. false) ns ≡ false
    nothing_marked [] = refl
    nothing_marked (n ∷ ns) = nothing_marked ns

last_alike : (b : Bool) (rowid : Option ℤ) (payload : List ℕ) (n n' : ℕ)
    → plain (if b then entry (record { rowid = rowid; payload = payload; page = n' }) ∷ [] else [])
    ≡ plain (if b then entry (record { rowid = rowid; payload = payload; page = n }) ∷ [] else [])
last_alike true rowid payload n n' = refl
last_alike false rowid payload n n' = refl

module _ (pages : Pages) (taken extra : Test) where
  abbrev Longer : List Finding → List Finding → Type 0
  Longer met again = IsLonger taken extra met again

  order_alike : (met again : List Finding) (n n' : ℕ) (rowid : Option ℤ) → Longer met again → Stays extra (order_faults met n rowid) (order_faults again n' rowid)
  order_alike met again n n' None h = stays_same extra _
  order_alike met again n n' (Some rowid) h = rw h.keys_as (if_fault extra (list_any (λ k. int_le rowid k) (keys met)) (RowidOrder n) (RowidOrder n'))

  chain_alike : (met again : List Finding) → Longer met again → (more holder holder' n : ℕ) → Stays extra (chain pages taken met more holder n) (chain pages taken again more holder' n)
  chain_alike met again h zero holder holder' n = if_stays extra (n == 0) _ _ _ _ (stays_same extra _) (fault_stays extra _ _ [] [])
  chain_alike met again h (suc more) holder holder' n =
      if_stays extra (n == 0) _ _ _ _ (fault_stays extra _ _ [] [])
      (if_stays extra (is_in_range pages n) _ _ _ _
      (rw (h.met_as n)
      (link_stays extra n (extra n) (is_met taken met n) (pages.accepts n) _ _ refl
      (chain_alike (met ++ place n ∷ []) (again ++ place n ∷ []) (longer-append taken extra met again (place n ∷ []) (place n ∷ []) h refl) more n n (u32_at (pages.page n) 0))))
      (fault_stays extra _ _ [] []))

  chain_of_alike : (met again : List Finding) → Longer met again → (n n' : ℕ) (stored : StoredCell) → Stays extra (chain_of pages taken met n stored) (chain_of pages taken again n' stored)
  chain_of_alike met again h n n' stored =
      if_stays extra (links_needed pages.usable stored == 0) _ _ _ _ (stays_same extra _)
      (if_stays extra (stored.first == 0) _ _ _ _ (fault_stays extra _ _ [] []) (chain_alike met again h (links_needed pages.usable stored) n n' stored.first))

  given_alike : (met again : List Finding) → Longer met again → (n n' : ℕ) (rowid : Option ℤ) (stored : StoredCell)
      → Alike extra (given pages taken met n rowid stored) (given pages taken again n' rowid stored)
  given_alike met again h n n' rowid stored sound unmarked =
      let first : List Finding = order_faults met n rowid in
      let found : List Finding = chain_of pages taken met n stored in
      let last : List Finding = if is_sound found then entry (record { rowid = rowid; payload = payload_of pages stored; page = n }) ∷ [] else [] in
      let behind : is_sound (found ++ last) ≡ true = sound_right first (found ++ last) sound in
      let free : AreUnmarked extra (places (found ++ last)) = unmarked_right extra first (found ++ last) unmarked in
      let chains : chain_of pages taken again n' stored ≡ found =
      chain_of_alike met again h n n' stored (sound_left found last behind) (unmarked_left extra found last free)
      in
      let orders : order_faults again n' rowid ≡ first =
      order_alike met again n n' rowid h (sound_left first (found ++ last) sound) (unmarked_left extra first (found ++ last) unmarked)
      in
      let last' : List Finding = if is_sound found then entry (record { rowid = rowid; payload = payload_of pages stored; page = n' }) ∷ [] else [] in
      rw (orders, chains)
      (plain-append first (found ++ last') ∙ ap (λ l. plain first ++ l) (plain-append found last')
      ∙ ap (λ l. plain first ++ (plain found ++ l)) (last_alike (is_sound found) rowid (payload_of pages stored) n n')
      ∙ sym (plain-append first (found ++ last) ∙ ap (λ l. plain first ++ l) (plain-append found last)))

  module _ (below : Below) (alike_below : (met again : List Finding) (c : ℕ) → Longer met again → Alike extra (below met c) (below again c)) where
    pub step_alike : (met again : List Finding) → Longer met again → (n n' : ℕ) (s : Step) → Alike extra (step pages taken below met n s) (step pages taken below again n' s)
    step_alike met again h n n' (child c) = if_alike extra (is_in_range pages c) _ _ _ _ (alike_below met again c h) (fault_alike extra _ _ [] [])
    step_alike met again h n n' (divider k) =
        λ sound unmarked. ap (λ l. key k ∷ plain l) (late_alike k (entries met) (entries again) h.rowids_as sound)
    step_alike met again h n n' (cell rowid stored) = given_alike met again h n n' rowid stored

    pub steps_alike : (todo : List Step) (met again : List Finding) → Longer met again → (n n' : ℕ)
        → Alike extra (steps_of pages taken below met n todo) (steps_of pages taken below again n' todo)
    steps_alike [] met again h n n' = λ sound unmarked. refl
    steps_alike (s ∷ todo) met again h n n' =
        append_alike extra (step pages taken below met n s) (step pages taken below again n' s) _ _ (step_alike met again h n n' s) (λ first.
        steps_alike todo _ _ (longer-append taken extra met again _ _ h first) n n')

    inside_alike : (met again : List Finding) → Longer met again → (n : ℕ) (reading : Result Node PageFault)
        → Alike extra (inside pages taken below met n reading) (inside pages taken below again n reading)
    inside_alike met again h n (Err why) = fault_alike extra _ _ [] []
    inside_alike met again h n (Ok page) =
        steps_alike (steps page.cells page.right) (met ++ place n ∷ []) (again ++ place n ∷ [])
        (longer-append taken extra met again (place n ∷ []) (place n ∷ []) h refl) n n

    visit_alike : (family : Family) (met again : List Finding) → Longer met again → (n : ℕ) (e m accepted : Bool) → extra n ≡ e
        → Alike extra (place n ∷ visit pages family taken below met n m accepted) (place n ∷ visit pages family taken below again n (e || m) accepted)
    visit_alike family met again h n true m accepted is sound unmarked = let no : true ≡ false = sym is ∙ or_left _ _ unmarked in cc
    visit_alike family met again h n false true accepted is sound unmarked = cc
    visit_alike family met again h n false false false is sound unmarked = cc
    visit_alike family met again h n false false true is sound unmarked =
        ap (λ l. place n ∷ l) (inside_alike met again h n (read_node family n (pages.page n)) sound (or_right _ _ unmarked))

  deep_alike : (n : ℕ) (e m : Bool) → extra n ≡ e → Alike extra (place n ∷ too_deep n m) (place n ∷ too_deep n (e || m))
  deep_alike n true m is sound unmarked = let no : true ≡ false = sym is ∙ or_left _ _ unmarked in cc
  deep_alike n false true is sound unmarked = cc
  deep_alike n false false is sound unmarked = cc

  pub walk_alike : (family : Family) (left : ℕ) (met again : List Finding) (n : ℕ) → Longer met again
      → Alike extra (walk pages family taken left met n) (walk pages family taken left again n)
  unfolding walk
  walk_alike family zero met again n h = rw (h.met_as n) (deep_alike n (extra n) (is_met taken met n) refl)
  walk_alike family (suc left) met again n h =
      rw (h.met_as n)
      (visit_alike (walk pages family taken left) (λ met again c h. walk_alike family left met again c h) family met again h n (extra n) (is_met taken met n) (pages.accepts n) refl)
