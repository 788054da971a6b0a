-- Rowids and keys up to a last one.
use Rattle.std.proofs.Common.{◌≡◌, ℕ, ℤ, pos, negsuc, true, false, List, [], ◌∷◌, ◌++◌, ◌||◌, ◌&&◌, Option, Some, None, if◌then◌else◌, refl, ap, sym, ◌∙◌, arith}
use Rattle.std.specs.Prelude.{int_le, int_lt}
use Rattle.std.specs.List.{list_any, list_all}
use Rattle.std.specs.Option.{option_map_or, option_to_list}
use Rattle.std.proofs.lemmas.List.Folds.{list_all-append}
use Rattle.db_format.specs.declared.defect.Defect.TheVariants.{RowidOrder}
use Rattle.btree_model.specs.Finding.{Finding, place, leaf, entry, key, fault, refused, entries, keys}
use Rattle.btree_model.specs.Walk.{late_faults, order_faults}
use Rattle.btree_model.proofs.ContextLemmas.{and_left, and_right}
use Rattle.btree_model.specs.Content.{last_after}
use Rattle.load_model.specs.Stands.{is_at_most}

above : (r l k : ℤ) → int_le r l ≡ false → int_le k l ≡ true → int_le r k ≡ false
above (pos r) (pos f) (pos k) h g = grind arith
above (pos r) (pos f) (negsuc k) h g = grind arith
above (pos r) (negsuc f) (pos k) h g = grind arith
above (pos r) (negsuc f) (negsuc k) h g = grind arith
above (negsuc r) (pos f) (pos k) h g = grind arith
above (negsuc r) (pos f) (negsuc k) h g = grind arith
above (negsuc r) (negsuc f) (pos k) h g = grind arith
above (negsuc r) (negsuc f) (negsuc k) h g = grind arith

before : (r l k : ℤ) → int_le r l ≡ false → int_le k l ≡ true → int_le k r ≡ true
before (pos r) (pos f) (pos k) h g = grind arith
before (pos r) (pos f) (negsuc k) h g = grind arith
before (pos r) (negsuc f) (pos k) h g = grind arith
before (pos r) (negsuc f) (negsuc k) h g = grind arith
before (negsuc r) (pos f) (pos k) h g = grind arith
before (negsuc r) (pos f) (negsuc k) h g = grind arith
before (negsuc r) (negsuc f) (pos k) h g = grind arith
before (negsuc r) (negsuc f) (negsuc k) h g = grind arith

le_refl : (r : ℤ) → int_le r r ≡ true
le_refl (pos r) = grind arith
le_refl (negsuc r) = grind arith

not_below : (r k : ℤ) → int_le r k ≡ true → int_lt k r ≡ false
not_below (pos r) (pos k) h = grind arith
not_below (pos r) (negsuc k) h = grind arith
not_below (negsuc r) (pos k) h = grind arith
not_below (negsuc r) (negsuc k) h = grind arith

-- a rowid above the last is above all
pub above_all : (last : Option ℤ) (r : ℤ) (ks : List ℤ) → is_at_most last r ≡ false → list_all (is_at_most last) ks ≡ true → list_any (λ k. int_le r k) ks ≡ false
above_all last r [] h all = refl
above_all None r (k ∷ ks) h all = cc
above_all (Some l) r (k ∷ ks) h all =
    ap (λ b. b || list_any (λ k. int_le r k) ks) (above r l k h (and_left _ _ all)) ∙ above_all (Some l) r ks h (and_right (int_le k l) _ all)

-- and becomes the last
pub up_to_next : (last : Option ℤ) (r : ℤ) (ks : List ℤ) → is_at_most last r ≡ false → list_all (is_at_most last) ks ≡ true → list_all (is_at_most (Some r)) ks ≡ true
up_to_next last r [] h all = refl
up_to_next None r (k ∷ ks) h all = cc
up_to_next (Some l) r (k ∷ ks) h all =
    ap (λ b. b && list_all (is_at_most (Some r)) ks) (before r l k h (and_left _ _ all)) ∙ up_to_next (Some l) r ks h (and_right (int_le k l) _ all)

-- a rowid that may be none: it gives no defect
abbrev pub IsAbove : Option ℤ → Option ℤ → Type 0
IsAbove last rowid = option_map_or (is_at_most last) rowid false ≡ false

pub no_order_fault : (last rowid : Option ℤ) (met : List Finding) (n : ℕ) → IsAbove last rowid → list_all (is_at_most last) (keys met) ≡ true → order_faults met n rowid ≡ []
no_order_fault last None met n h all = refl
no_order_fault last (Some r) met n h all = ap (λ b. if b then fault (RowidOrder n) ∷ [] else []) (above_all last r (keys met) h all)

pub up_to_after : (last rowid : Option ℤ) (ks : List ℤ) → IsAbove last rowid → list_all (is_at_most last) ks ≡ true
    → list_all (is_at_most (last_after last rowid)) (ks ++ option_to_list rowid) ≡ true
up_to_after last None ks h all = list_all-append (is_at_most last) ks [] ∙ ap (λ b. b && true) all
up_to_after last (Some r) ks h all =
    list_all-append (is_at_most (Some r)) ks (r ∷ []) ∙ ap (λ b. b && (int_le r r && true)) (up_to_next last r ks h all) ∙ ap (λ b. b && true) (le_refl r)

late_one : (k : ℤ) (rowid : Option ℤ) (page : ℕ) (rest : List Finding) → list_all (is_at_most (Some k)) (option_to_list rowid) ≡ true
    → (if option_map_or (λ r. int_lt k r) rowid false then fault (RowidOrder page) ∷ [] else []) ++ rest ≡ rest
late_one k None page rest h = refl
late_one k (Some r) page rest h = ap (λ b. (if b then fault (RowidOrder page) ∷ [] else []) ++ rest) (not_below r k (and_left _ _ h))

-- the last rowid as a key between children
pub none_late : (k : ℤ) (found : List Finding) → list_all (is_at_most (Some k)) (keys found) ≡ true → late_faults k (entries found) ≡ []
none_late k [] h = refl
none_late k (place n ∷ xs) h = none_late k xs h
none_late k (leaf n ∷ xs) h = none_late k xs h
none_late k (fault d ∷ xs) h = none_late k xs h
none_late k (refused n ∷ xs) h = none_late k xs h
none_late k (key j ∷ xs) h = none_late k xs (and_right (int_le j k) _ h)
none_late k (entry row ∷ xs) h =
    let both : (list_all (is_at_most (Some k)) (option_to_list row.rowid) && list_all (is_at_most (Some k)) (keys xs)) ≡ true =
    sym (list_all-append (is_at_most (Some k)) (option_to_list row.rowid) (keys xs)) ∙ h
    in
    late_one k row.rowid row.page (late_faults k (entries xs)) (and_left _ _ both)
    ∙ none_late k xs (and_right (list_all (is_at_most (Some k)) (option_to_list row.rowid)) _ both)

pub key_up_to : (k : ℤ) (ks : List ℤ) → list_all (is_at_most (Some k)) ks ≡ true → list_all (is_at_most (Some k)) (ks ++ k ∷ []) ≡ true
key_up_to k ks all = list_all-append (is_at_most (Some k)) ks (k ∷ []) ∙ ap (λ b. b && (int_le k k && true)) all ∙ ap (λ b. b && true) (le_refl k)
