-- Values that are written one after another.
use Rattle.std.proofs.Common.{◌≡◌, ◌≤◌, ℕ, suc, ◌+◌, List, [], ◌∷◌, ◌++◌, Option, Some, None, length, take, drop, refl, sym, ap, ◌∙◌, arith}
use Rattle.std.specs.Prelude.{codes}
use Rattle.std.proofs.lemmas.List.{drop-drop, drop_all, length-drop, take_all}
use Rattle.db_format.specs.declared.value.Value.{Value}
use Rattle.db_format.specs.declared.values.Values.{Values}
use Rattle.db_format.specs.Value.{Datum}
use Rattle.db_format.specs.Values.{GivesValue, values_left}
use Rattle.db_format.specs.Text.{spaced, value_text}

-- the first of the values that are left
pub values_more : (k m : ℕ) (left later : List Datum) (value : Datum) → left ≡ value ∷ later → k ≡ suc m
    → spaced (take k left) ≡ (codes " " ++ value_text value) ++ spaced (take m later)
values_more k m left later value is more = rw (is, more) refl

-- and those behind it
pub next_left : (n : ℕ) (all left later : List Datum) (value : Datum) → left ≡ drop n all → left ≡ value ∷ later → later ≡ drop (n + 1) all
next_left n all left later value is first = ap (λ (l : List Datum). drop 1 l) (sym first ∙ is) ∙ drop-drop 1 n all

-- at the end none is left, however many are passed over
pub none_left : (n most : ℕ) (all left new : List Datum) → left ≡ drop n all → n ≤ most → left ≡ [] → new ≡ [] → new ≡ drop most all
none_left n most all left new is within none end =
    end ∙ sym (drop_all most all (omega (arith, sym (length-drop n all) ∙ ap length (sym is ∙ none))))

-- what a call of `next` leaves
pub passed_one : (old new : Values) (result : Option Value) → GivesValue old result new → values_left new ≡ drop 1 (values_left old)
passed_one old new None gives = gives.1 ∙ sym (ap (λ (l : List Datum). drop 1 l) gives.0)
passed_one old new (Some value) gives = sym (ap (λ (l : List Datum). drop 1 l) gives)

-- all values are written
pub spaced_whole : (row values : List Datum) (n : ℕ) → values ≡ row → n ≡ length row → spaced (take n values) ≡ spaced row
spaced_whole row values n is count = rw (is, count) (ap spaced (take_all (length row) row (omega arith)))
