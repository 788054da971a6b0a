-- The rows of a schema, by their entries alone: the page on which a row stands changes nothing.
use Rattle.std.proofs.Common.{◌≡◌, ◌≤◌, ℕ, zero, suc, pos, List, [], ◌∷◌, ◌++◌, Option, Some, None, map, refl, ap, ◌∙◌, arith}
use Rattle.std.specs.List.{flat_map}
use Rattle.db_format.specs.Pages.{Pages}
use Rattle.db_format.specs.Record.{columns}
use Rattle.db_format.specs.Value.{Datum}
use Rattle.db_format.specs.Value.Datum.{int}
use Rattle.btree_model.specs.Content.{Entry, entry_of, item_of}
use Rattle.btree_model.specs.Finding.{Row}
use Rattle.btree_model.specs.Schema.{at_page, root_of_value, roots, roots_of_row, rowid_or_0, schema_fault, schema_faults}

-- an entry as a row of any page
abbrev pub row_of : Entry → Row
row_of e = record { rowid = e.rowid; payload = e.payload; page = 0 }

pub faults_by_entry : (pages : Pages) (rows : List Row)
    → schema_faults pages rows ≡ flat_map (λ (e : Entry). schema_fault pages (rowid_or_0 e.rowid) (columns e.payload)) (map entry_of rows)
faults_by_entry pages [] = refl
faults_by_entry pages (row ∷ rows) = ap (λ l. schema_fault pages (rowid_or_0 row.rowid) (columns row.payload) ++ l) (faults_by_entry pages rows)

pub roots_by_entry : (rows : List Row) → roots rows ≡ flat_map (λ (e : Entry). roots_of_row (columns e.payload)) (map entry_of rows)
roots_by_entry [] = refl
roots_by_entry (row ∷ rows) = ap (λ l. roots_of_row (columns row.payload) ++ l) (roots_by_entry rows)

item_by : (pages : Pages) (row : Row) (values : Option (List Datum)) → item_of pages row values ≡ item_of pages (row_of (entry_of row)) values
item_by pages row None = refl
item_by pages row (Some values) = refl

pub items_by_entry : (pages : Pages) (rows : List Row)
    → map (λ (row : Row). item_of pages row (columns row.payload)) rows ≡ map (λ (e : Entry). item_of pages (row_of e) (columns e.payload)) (map entry_of rows)
items_by_entry pages [] = refl
items_by_entry pages (row ∷ rows) =
    ap (λ i. i ∷ map (λ (row : Row). item_of pages row (columns row.payload)) rows) (item_by pages row (columns row.payload))
    ∙ ap (λ l. item_of pages (row_of (entry_of row)) (columns row.payload) ∷ l) (items_by_entry pages rows)

-- a number that can be that of a root page
pub root_is : (n : ℕ) → 2 ≤ n → root_of_value (int (pos n)) ≡ at_page (pos n)
root_is zero low = absurd (omega arith)
root_is (suc n) low = refl

pub cons_same : {A : Type 0} {x y : A} {xs ys : List A} → x ≡ y → xs ≡ ys → x ∷ xs ≡ y ∷ ys
cons_same {A} {x} {y} {xs} {ys} p q = ap (λ z. z ∷ xs) p ∙ ap (λ l. y ∷ l) q
