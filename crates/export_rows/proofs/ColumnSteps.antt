-- The columns of a schema row without its root page.
use Rattle.std.proofs.Common.{◌≡◌, List, [], ◌∷◌, take, drop, refl, sym, ap, ◌∙◌}
use Rattle.std.proofs.lemmas.List.{drop-drop}
use Rattle.db_format.specs.Text.{spaced}
use Rattle.db_format.specs.Value.{Datum}
use Rattle.btree_model.specs.Content.{without_fourth}

-- the columns of a schema row without the root page: those before it, and those behind it
pub columns_before : (row : List Datum) → take 3 (without_fourth row) ≡ take 3 row
columns_before [] = refl
columns_before (a ∷ []) = refl
columns_before (a ∷ (b ∷ [])) = refl
columns_before (a ∷ (b ∷ (c ∷ rest))) = refl

pub columns_behind : (row : List Datum) → drop 3 (without_fourth row) ≡ drop 4 row
columns_behind [] = refl
columns_behind (a ∷ []) = refl
columns_behind (a ∷ (b ∷ [])) = refl
columns_behind (a ∷ (b ∷ (c ∷ rest))) = refl

pub spaced_before : (row values : List Datum) → values ≡ row → spaced (take 3 values) ≡ spaced (take 3 (without_fourth row))
spaced_before row values is = rw is (ap spaced (sym (columns_before row)))

pub spaced_behind : (row first second third : List Datum) → first ≡ row → second ≡ drop 3 first → third ≡ drop 1 second
    → spaced (take 1 third) ≡ spaced (take 1 (drop 3 (without_fourth row)))
spaced_behind row first second third is later last =
    rw (last, later, is) (ap (λ (l : List Datum). spaced (take 1 l)) (drop-drop 1 3 row ∙ sym (columns_behind row)))
