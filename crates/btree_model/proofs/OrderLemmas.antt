-- The rule of rowids, kept by two numbers: the greatest rowid or key that was met, and the last rowid.
use Rattle.std.proofs.Common.{◌≡◌, ℕ, ℤ, pos, negsuc, Bool, true, false, List, [], ◌∷◌, ◌++◌, ◌||◌, Option, Some, None, Contains, if◌then◌else◌, refl, ap, sym, subst, ◌∙◌, arith}
use Rattle.std.specs.Prelude.{int_le, int_lt}
use Rattle.std.specs.List.{list_any}
use Rattle.std.specs.Option.{option_map_or}
use Rattle.std.proofs.Math.Bool.{or-false}
use Rattle.std.proofs.lemmas.List.Folds.{list_any-append}
use Rattle.std.proofs.lemmas.List.Elements.{Contains-append_right}
use Rattle.db_format.specs.declared.defect.Defect.{Defect}
use Rattle.db_format.specs.declared.defect.Defect.TheVariants.{RowidOrder}
use Rattle.btree_model.specs.Finding.{Row, Finding, fault, faults}
use Rattle.btree_model.specs.Walk.{late_faults}

-- a number that is at most the lesser is at most the greater
absorbed : (r f k : ℤ) → int_le k f ≡ false → (int_le r f || int_le r k) ≡ int_le r k
absorbed (pos r) (pos f) (pos k) h = grind arith
absorbed (pos r) (pos f) (negsuc k) h = grind arith
absorbed (pos r) (negsuc f) (pos k) h = grind arith
absorbed (pos r) (negsuc f) (negsuc k) h = grind arith
absorbed (negsuc r) (pos f) (pos k) h = grind arith
absorbed (negsuc r) (pos f) (negsuc k) h = grind arith
absorbed (negsuc r) (negsuc f) (pos k) h = grind arith
absorbed (negsuc r) (negsuc f) (negsuc k) h = grind arith

kept : (r f k : ℤ) → int_le k f ≡ true → (int_le r f || int_le r k) ≡ int_le r f
kept (pos r) (pos f) (pos k) h = grind arith
kept (pos r) (pos f) (negsuc k) h = grind arith
kept (pos r) (negsuc f) (pos k) h = grind arith
kept (pos r) (negsuc f) (negsuc k) h = grind arith
kept (negsuc r) (pos f) (pos k) h = grind arith
kept (negsuc r) (pos f) (negsuc k) h = grind arith
kept (negsuc r) (negsuc f) (pos k) h = grind arith
kept (negsuc r) (negsuc f) (negsuc k) h = grind arith

-- x is not above k, where x is at most r and r at most k
not_late : (x r k : ℤ) → int_le x r ≡ true → int_le r k ≡ true → int_lt k x ≡ false
not_late (pos x) (pos r) (pos k) h g = grind arith
not_late (pos x) (pos r) (negsuc k) h g = grind arith
not_late (pos x) (negsuc r) (pos k) h g = grind arith
not_late (pos x) (negsuc r) (negsuc k) h g = grind arith
not_late (negsuc x) (pos r) (pos k) h g = grind arith
not_late (negsuc x) (pos r) (negsuc k) h g = grind arith
not_late (negsuc x) (negsuc r) (pos k) h g = grind arith
not_late (negsuc x) (negsuc r) (negsuc k) h g = grind arith

abbrev pub is_at_most : ℤ → Option ℤ → Bool
is_at_most r floor = option_map_or (λ f. int_le r f) floor false

-- at most one of these rowids and keys is at most the floor
pub record IsFloor (floor : Option ℤ) (ks : List ℤ) : Type 0 where
  pub is : (r : ℤ) → list_any (λ k. int_le r k) ks ≡ is_at_most r floor

-- a number above the floor is the next floor
pub floor_rises : (floor : Option ℤ) (ks : List ℤ) (k : ℤ) → IsFloor floor ks → is_at_most k floor ≡ false → IsFloor (Some k) (ks ++ k ∷ [])
floor_rises None ks k floor h =
    record {
      is = λ r.
          list_any-append (λ x. int_le r x) ks (k ∷ []) ∙ ap (λ b. b || (int_le r k || false)) (floor.is r) ∙ or-false (int_le r k);
    }
floor_rises (Some f) ks k floor h =
    record {
      is = λ r.
          list_any-append (λ x. int_le r x) ks (k ∷ []) ∙ ap (λ b. b || (int_le r k || false)) (floor.is r)
          ∙ ap (λ b. int_le r f || b) (or-false (int_le r k)) ∙ absorbed r f k h;
    }

-- one that is at most the floor leaves it
pub floor_stays : (f : ℤ) (ks : List ℤ) (k : ℤ) → IsFloor (Some f) ks → int_le k f ≡ true → IsFloor (Some f) (ks ++ k ∷ [])
floor_stays f ks k floor h =
    record {
      is = λ r.
          list_any-append (λ x. int_le r x) ks (k ∷ []) ∙ ap (λ b. b || (int_le r k || false)) (floor.is r)
          ∙ ap (λ b. int_le r f || b) (or-false (int_le r k)) ∙ kept r f k h;
    }

-- no rowid of these entries is above r
abbrev pub AreAtMost : ℤ → List Row → Type 0
AreAtMost r [] = Unit {0}
AreAtMost r (row ∷ rows) = (option_map_or (λ x. int_le x r) row.rowid true ≡ true) × AreAtMost r rows

not_late_row : (k r : ℤ) (rowid : Option ℤ) → option_map_or (λ x. int_le x r) rowid true ≡ true → int_le r k ≡ true
    → option_map_or (λ x. int_lt k x) rowid false ≡ false
not_late_row k r None h g = refl
not_late_row k r (Some x) h g = not_late x r k h g

-- where the last rowid is not above the key, no entry is late
pub none_late : (k r : ℤ) (rows : List Row) → AreAtMost r rows → int_le r k ≡ true → late_faults k rows ≡ []
none_late k r [] low h = refl
none_late k r (row ∷ rows) low h = rw (not_late_row k r row.rowid low.0 h) (none_late k r rows low.1 h)

late_row : (b : Bool) (n : ℕ) (all xs : List Finding) (ys : List Defect) → faults all ≡ faults xs ++ ys
    → faults ((if b then fault (RowidOrder n) ∷ [] else []) ++ all) ≡ faults ((if b then fault (RowidOrder n) ∷ [] else []) ++ xs) ++ ys
late_row true n all xs ys h = ap (λ l. RowidOrder n ∷ l) h
late_row false n all xs ys h = h

late-append : (k : ℤ) (xs ys : List Row) → faults (late_faults k (xs ++ ys)) ≡ faults (late_faults k xs) ++ faults (late_faults k ys)
late-append k [] ys = refl
late-append k (row ∷ xs) ys = late_row (option_map_or (λ x. int_lt k x) row.rowid false) row.page (late_faults k (xs ++ ys)) (late_faults k xs) (faults (late_faults k ys)) (late-append k xs ys)

-- where it is, the last entry is late
pub last_late : (k : ℤ) (rows : List Row) (row : Row) → option_map_or (λ x. int_lt k x) row.rowid false ≡ true
    → Contains (faults (late_faults k (rows ++ row ∷ []))) (RowidOrder row.page)
last_late k rows row h =
    subst (λ l. Contains l (RowidOrder row.page)) (sym (late-append k rows (row ∷ [])))
    (Contains-append_right (faults (late_faults k rows)) _ (RowidOrder row.page) (rw h (0, omega arith, refl)))
