-- The rule of rowids, a finding further.
use Rattle.std.proofs.Common.{◌≡◌, ℕ, ℤ, pos, negsuc, Bool, true, false, List, [], ◌∷◌, ◌++◌, Option, Some, None, Contains, if◌then◌else◌, refl, ap, sym, subst, ◌∙◌, arith}
use Rattle.std.specs.Prelude.{int_le, int_lt}
use Rattle.std.specs.List.{list_any}
use Rattle.std.specs.Option.{option_map_or, option_to_list}
use Rattle.std.proofs.lemmas.List.{append-nil}
use Rattle.db_format.specs.declared.defect.Defect.TheVariants.{RowidOrder}
use Rattle.btree_model.specs.Finding.{Row, Finding, place, leaf, entry, key, fault, refused, entries, keys, faults}
use Rattle.btree_model.specs.Walk.{late_faults, order_faults}
use Rattle.btree_model.proofs.FindingLemmas.{entries-append}
use Rattle.btree_model.proofs.ProperLemmas.{keys-append}
use Rattle.btree_model.proofs.UnmarkedLemmas.{or_left, or_right}
use Rattle.btree_model.proofs.OrderLemmas.{IsFloor, floor_rises, floor_stays, AreAtMost, none_late, last_late, is_at_most}
use Rattle.btree_model.specs.Content.{last_after}
use Rattle.btree_walk.specs.Order.{IsCovered, IsAfter, IsOrdered, low_by, low_of, raised_of, page_after}

-- the two spellings of the test
low_is : (floor : Option ℤ) (r : ℤ) → low_by floor r ≡ is_at_most r floor
low_is None r = refl
low_is (Some f) r = refl

floor_of : (floor last : Option ℤ) (page : ℕ) (met : List Finding) → IsOrdered floor last page met → IsFloor floor (keys met)
floor_of floor last page met o = record { is = λ r. o.low r ∙ low_is floor r }

-- nothing was met
pub ordered_none : (page : ℕ) → IsOrdered None None page []
ordered_none page = record { low = λ r. refl; timely = λ k h. refl; late = λ k h. cc }

-- findings without a key or an entry
pub ordered_plain : (floor last : Option ℤ) (page : ℕ) (met found : List Finding) → IsOrdered floor last page met → keys found ≡ [] → entries found ≡ []
    → IsOrdered floor last page (met ++ found)
ordered_plain floor last page met found o keyless entryless =
    let ks : keys (met ++ found) ≡ keys met = keys-append met found ∙ ap (λ l. keys met ++ l) keyless ∙ append-nil (keys met) in
    let rows : entries (met ++ found) ≡ entries met = entries-append met found ∙ ap (λ l. entries met ++ l) entryless ∙ append-nil (entries met) in
    record {
      low = λ r. ap (list_any (λ k. int_le r k)) ks ∙ o.low r;
      timely = λ k h. ap (late_faults k) rows ∙ o.timely k h;
      late = λ k h. subst (λ l. Contains (faults (late_faults k l)) (RowidOrder page)) (sym rows) (o.late k h);
    }

-- a key
raised_low : (floor : Option ℤ) (ks : List ℤ) (k : ℤ) (b : Bool) → is_at_most k floor ≡ b → IsFloor floor ks → IsFloor (raised_of floor k) (ks ++ k ∷ [])
raised_low None ks k b h floor = floor_rises None ks k floor refl
raised_low (Some f) ks k true h floor = rw h (floor_stays f ks k floor h)
raised_low (Some f) ks k false h floor = rw h (floor_rises (Some f) ks k floor h)

pub ordered_key : (floor last : Option ℤ) (page : ℕ) (met : List Finding) (k : ℤ) → IsOrdered floor last page met → IsOrdered (raised_of floor k) last page (met ++ key k ∷ [])
ordered_key floor last page met k o =
    let up : IsFloor (raised_of floor k) (keys met ++ k ∷ []) = raised_low floor (keys met) k _ refl (floor_of floor last page met o) in
    let rows : entries (met ++ key k ∷ []) ≡ entries met = entries-append met (key k ∷ []) ∙ append-nil (entries met) in
    record {
      low = λ r. ap (list_any (λ k. int_le r k)) (keys-append met (key k ∷ [])) ∙ up.is r ∙ sym (low_is (raised_of floor k) r);
      timely = λ k h. ap (late_faults k) rows ∙ o.timely k h;
      late = λ k h. subst (λ l. Contains (faults (late_faults k l)) (RowidOrder page)) (sym rows) (o.late k h);
    }

-- rowids that are met are keys: none is above one that is above all keys
not_le : (r x : ℤ) → int_le r x ≡ false → int_le x r ≡ true
not_le (pos r) (pos x) h = grind arith
not_le (pos r) (negsuc x) h = grind arith
not_le (negsuc r) (pos x) h = grind arith
not_le (negsuc r) (negsuc x) h = grind arith

not_lt : (k r : ℤ) → int_lt k r ≡ false → int_le r k ≡ true
not_lt (pos k) (pos r) h = grind arith
not_lt (pos k) (negsuc r) h = grind arith
not_lt (negsuc k) (pos r) h = grind arith
not_lt (negsuc k) (negsuc r) h = grind arith

le_through : (a b c : ℤ) → int_le a b ≡ true → int_le c b ≡ false → int_le a c ≡ true
le_through (pos a) (pos b) (pos c) h g = grind arith
le_through (pos a) (pos b) (negsuc c) h g = grind arith
le_through (pos a) (negsuc b) (pos c) h g = grind arith
le_through (pos a) (negsuc b) (negsuc c) h g = grind arith
le_through (negsuc a) (pos b) (pos c) h g = grind arith
le_through (negsuc a) (pos b) (negsuc c) h g = grind arith
le_through (negsuc a) (negsuc b) (pos c) h g = grind arith
le_through (negsuc a) (negsuc b) (negsuc c) h g = grind arith

lt_through : (a b c : ℤ) → int_le a b ≡ true → int_le c b ≡ false → int_lt a c ≡ true
lt_through (pos a) (pos b) (pos c) h g = grind arith
lt_through (pos a) (pos b) (negsuc c) h g = grind arith
lt_through (pos a) (negsuc b) (pos c) h g = grind arith
lt_through (pos a) (negsuc b) (negsuc c) h g = grind arith
lt_through (negsuc a) (pos b) (pos c) h g = grind arith
lt_through (negsuc a) (pos b) (negsuc c) h g = grind arith
lt_through (negsuc a) (negsuc b) (pos c) h g = grind arith
lt_through (negsuc a) (negsuc b) (negsuc c) h g = grind arith

self_le : (r : ℤ) → int_le r r ≡ true
self_le (pos r) = grind arith
self_le (negsuc r) = grind arith

below_row : (r : ℤ) (rowid : Option ℤ) (ks : List ℤ) → list_any (λ k. int_le r k) (option_to_list rowid ++ ks) ≡ false → option_map_or (λ x. int_le x r) rowid true ≡ true
below_row r None ks h = refl
below_row r (Some x) ks h = not_le r x (or_left _ _ h)

below_rest : (r : ℤ) (rowid : Option ℤ) (ks : List ℤ) → list_any (λ k. int_le r k) (option_to_list rowid ++ ks) ≡ false → list_any (λ k. int_le r k) ks ≡ false
below_rest r None ks h = h
below_rest r (Some x) ks h = or_right _ _ h

at_most_keys : (r : ℤ) (met : List Finding) → list_any (λ k. int_le r k) (keys met) ≡ false → AreAtMost r (entries met)
at_most_keys r [] h = tt
at_most_keys r (key k ∷ met) h = at_most_keys r met (or_right _ _ h)
at_most_keys r (place n ∷ met) h = at_most_keys r met h
at_most_keys r (leaf n ∷ met) h = at_most_keys r met h
at_most_keys r (fault d ∷ met) h = at_most_keys r met h
at_most_keys r (refused n ∷ met) h = at_most_keys r met h
at_most_keys r (entry row ∷ met) h = (below_row r row.rowid (keys met) h, at_most_keys r met (below_rest r row.rowid (keys met) h))

at_most_more : (r : ℤ) (rows : List Row) (row : Row) → AreAtMost r rows → row.rowid ≡ Some r → AreAtMost r (rows ++ row ∷ [])
at_most_more r [] row h is = (rw is (self_le r), tt)
at_most_more r (first ∷ rows) row h is = (h.0, at_most_more r rows row h.1 is)

late_none : (k : ℤ) (rows : List Row) (row : Row) → row.rowid ≡ None → late_faults k (rows ++ row ∷ []) ≡ late_faults k rows
late_none k [] row is = rw is refl
late_none k (first ∷ rows) row is = ap (λ l. (if option_map_or (λ rowid. int_lt k rowid) first.rowid false then fault (RowidOrder first.page) ∷ [] else []) ++ l) (late_none k rows row is)

-- an entry, whose rowid is above all
pub ordered_entry : (floor last : Option ℤ) (page : ℕ) (met found : List Finding) (rowid : Option ℤ) (row : Row) → IsOrdered floor last page met → low_of floor rowid ≡ false
    → row.rowid ≡ rowid → keys found ≡ option_to_list rowid → entries found ≡ row ∷ []
    → IsOrdered (last_after floor rowid) (last_after last rowid) (page_after page rowid row.page) (met ++ found)
ordered_entry floor last page met found None row o above is ks rows =
    let kept : keys (met ++ found) ≡ keys met = keys-append met found ∙ ap (λ l. keys met ++ l) ks ∙ append-nil (keys met) in
    let more : entries (met ++ found) ≡ entries met ++ row ∷ [] = entries-append met found ∙ ap (λ l. entries met ++ l) rows in
    record {
      low = λ r. ap (list_any (λ k. int_le r k)) kept ∙ o.low r;
      timely = λ k h. ap (late_faults k) more ∙ late_none k (entries met) row is ∙ o.timely k h;
      late = λ k h. subst (λ l. Contains (faults l) (RowidOrder page)) (sym (ap (late_faults k) more ∙ late_none k (entries met) row is)) (o.late k h);
    }
ordered_entry floor last page met found (Some r) row o above is ks rows =
    let kept : keys (met ++ found) ≡ keys met ++ r ∷ [] = keys-append met found ∙ ap (λ l. keys met ++ l) ks in
    let more : entries (met ++ found) ≡ entries met ++ row ∷ [] = entries-append met found ∙ ap (λ l. entries met ++ l) rows in
    let up : IsFloor (Some r) (keys met ++ r ∷ []) = floor_rises floor (keys met) r (floor_of floor last page met o) (sym (low_is floor r) ∙ above) in
    let most : AreAtMost r (entries met ++ row ∷ []) = at_most_more r (entries met) row (at_most_keys r met (o.low r ∙ above)) is in
    record {
      low = λ x. ap (list_any (λ k. int_le x k)) kept ∙ up.is x;
      timely = λ k h. ap (late_faults k) more ∙ none_late k r (entries met ++ row ∷ []) most (not_lt k r h);
      late = λ k h. subst (λ l. Contains (faults (late_faults k l)) (RowidOrder row.page)) (sym more)
          (last_late k (entries met) row (ap (λ o. option_map_or (λ x. int_lt k x) o false) is ∙ h));
    }

-- what the rule says of an entry
pub order_none : (floor last : Option ℤ) (page n : ℕ) (met : List Finding) (rowid : Option ℤ) → IsOrdered floor last page met → low_of floor rowid ≡ false → order_faults met n rowid ≡ []
order_none floor last page n met None o h = refl
order_none floor last page n met (Some r) o h = let e : list_any (λ k. int_le r k) (keys met) ≡ false = o.low r ∙ h in rw e refl

pub order_some : (floor last : Option ℤ) (page n : ℕ) (met : List Finding) (rowid : Option ℤ) → IsOrdered floor last page met → low_of floor rowid ≡ true
    → order_faults met n rowid ≡ fault (RowidOrder n) ∷ []
order_some floor last page n met None o h = cc
order_some floor last page n met (Some r) o h = let e : list_any (λ k. int_le r k) (keys met) ≡ true = o.low r ∙ h in rw e refl

-- ---- the last rowid is at most the floor

raised_covers : (last most k : ℤ) (b : Bool) → int_le k most ≡ b → int_le last most ≡ true → low_by (if b then Some most else Some k) last ≡ true
raised_covers last most k true h covered = covered
raised_covers last most k false h covered = le_through last most k covered h

pub covered_key : (last floor : Option ℤ) (k : ℤ) → IsCovered last floor → IsCovered last (raised_of floor k)
covered_key None floor k covered = tt
covered_key (Some last) None k covered = cc
covered_key (Some last) (Some most) k covered = raised_covers last most k _ refl covered

pub covered_entry : (last floor rowid : Option ℤ) → IsCovered last floor → IsCovered (last_after last rowid) (last_after floor rowid)
covered_entry last floor None covered = covered
covered_entry last floor (Some rowid) covered = self_le rowid

-- a rowid above the floor is above the last
pub above_last : (last floor rowid : Option ℤ) → IsCovered last floor → low_of floor rowid ≡ false → IsAfter last rowid
above_last None floor rowid covered above = tt
above_last (Some last) floor None covered above = tt
above_last (Some last) None (Some rowid) covered above = cc
above_last (Some last) (Some most) (Some rowid) covered above = lt_through last most rowid covered above
