-- The search of the rows of a schema for a name.
use Rattle.std.proofs.Common.{◌≡◌, ◌≤◌, ◌<◌, ◌+◌, ◌&&◌, ℕ, ℤ, suc, Bool, true, false, List, [], ◌∷◌, drop, length, Option, Some, Err, if◌then◌else◌, refl, ap, sym, subst, ◌∙◌, arith}
use Rattle.std.specs.Prelude.{codes, slice_index_or}
use Rattle.std.specs.List.{find}
use Rattle.std.proofs.Math.Seq.{drop-cons}
use Rattle.db_format.specs.Pages.{Pages}
use Rattle.db_format.specs.Value.{Datum}
use Rattle.db_format.specs.Value.Datum.{null}
use Rattle.btree_walk.specs.declared.error.WalkError.{WalkError}
use Rattle.btree_walk.specs.declared.error.WalkError.TheVariants.{Defect, Source, OutOfMemory}
use Rattle.schema_map.specs.declared.schema.SchemaRow.{SchemaRow}
use Rattle.rowid_find.specs.Table.{IsRowTried, IsTableStop, Table, is_text, is_tried, names_table, root_found, row_found, table_of}

-- the first two columns
pub two_columns : (name : List ℕ) (row : List Datum) (a b : Datum) → 2 ≤ length row → a ≡ slice_index_or row 0 null → b ≡ slice_index_or row 1 null
    → (is_text (codes "table") a && is_text name b) ≡ names_table name (Some row)
two_columns name [] a b long first second = absurd (omega (arith, long))
two_columns name (kind ∷ []) a b long first second = absurd (omega (arith, long))
two_columns name (kind ∷ (own ∷ rest)) a b long first second = ap (λ (x : Datum). is_text (codes "table") x && is_text name b) first ∙ ap (λ (y : Datum). is_text (codes "table") kind && is_text name y) second

pub few_columns : (name : List ℕ) (row : List Datum) → length row < 2 → names_table name (Some row) ≡ false
few_columns name [] short = refl
few_columns name (kind ∷ []) short = refl
few_columns name (kind ∷ (own ∷ rest)) short = absurd (omega (arith, short))

-- a row that is passed over
passed_by : (b : Bool) (row : SchemaRow) (rest : Option SchemaRow) → b ≡ false → (if b then Some row else rest) ≡ rest
passed_by true row rest is = cc
passed_by false row rest is = refl

taken_by : (b : Bool) (row : SchemaRow) (rest : Option SchemaRow) → b ≡ true → (if b then Some row else rest) ≡ Some row
taken_by true row rest is = refl
taken_by false row rest is = cc

pub row_passed : (pages : Pages) (name : List ℕ) (row : SchemaRow) (rows : List SchemaRow) → is_tried pages name row ≡ false
    → table_of pages name (row ∷ rows) ≡ table_of pages name rows
row_passed pages name row rows is = ap (row_found pages) (passed_by (is_tried pages name row) row (find (is_tried pages name) rows) is)

pub row_taken : (pages : Pages) (name : List ℕ) (row : SchemaRow) (rows : List SchemaRow) → is_tried pages name row ≡ true
    → table_of pages name (row ∷ rows) ≡ root_found pages row.root
row_taken pages name row rows is = ap (row_found pages) (taken_by (is_tried pages name row) row (find (is_tried pages name) rows) is)

-- what one row came to, as what the search came to
pub row_stops : {R : Type 0} (refuses : Pages → ℕ → R → Type 0) (pages : Pages) (name : List ℕ) (row : SchemaRow) (rows : List SchemaRow) (error : WalkError R)
    → IsRowTried refuses pages name row (Err error) → IsTableStop refuses pages (table_of pages name (row ∷ rows)) error
row_stops refuses pages name row rows (Defect d) tried = (row.root, row_taken pages name row rows tried.0 ∙ tried.1, tried.2)
row_stops refuses pages name row rows (Source refusal) tried =
    record {
      page = row.root;
      range = tried.0;
      refused = tried.1;
      listed = λ unaccepted. let both = tried.2 unaccepted in row_taken pages name row rows both.0 ∙ both.1;
    }
row_stops refuses pages name row rows OutOfMemory tried = tt

-- ---- the rows from one on

at_row : (rows : List SchemaRow) (i : ℕ) (row : SchemaRow) → i < length rows → row ≡ slice_index_or rows i row → drop i rows ≡ row ∷ drop (i + 1) rows
at_row rows i row less is =
    let e : suc i ≡ i + 1 = omega arith in
    drop-cons rows i row less ∙ ap (λ r. r ∷ drop (suc i) rows) (sym is) ∙ ap (λ k. row ∷ drop k rows) e

module _ (pages : Pages) (name : List ℕ) (rows : List SchemaRow) (i : ℕ) (row : SchemaRow) (less : i < length rows) (is : row ≡ slice_index_or rows i row)
    (on : table_of pages name (drop i rows) ≡ table_of pages name rows) where
  here : table_of pages name (row ∷ drop (i + 1) rows) ≡ table_of pages name rows
  here = sym (ap (table_of pages name) (at_row rows i row less is)) ∙ on

  pub goes_on : is_tried pages name row ≡ false → table_of pages name (drop (i + 1) rows) ≡ table_of pages name rows
  goes_on passed = sym (row_passed pages name row (drop (i + 1) rows) passed) ∙ here

  pub stops_at : {R : Type 0} (refuses : Pages → ℕ → R → Type 0) (error : WalkError R) → IsRowTried refuses pages name row (Err error)
      → IsTableStop refuses pages (table_of pages name rows) error
  stops_at refuses error tried =
      subst (λ (found : Table). IsTableStop refuses pages found error) here (row_stops refuses pages name row (drop (i + 1) rows) error tried)

-- what one row came to goes by its root and its payload alone
same_row : {R : Type 0} (refuses : Pages → ℕ → R → Type 0) (pages : Pages) (name : List ℕ) (a b : ℤ) (root : ℕ) (payload : List ℕ) (error : WalkError R)
    → IsRowTried refuses pages name (record { rowid = a; root = root; payload = payload }) (Err error)
    → IsRowTried refuses pages name (record { rowid = b; root = root; payload = payload }) (Err error)
same_row refuses pages name a b root payload (Defect d) tried = tried
same_row refuses pages name a b root payload (Source refusal) tried = tried
same_row refuses pages name a b root payload OutOfMemory tried = tt

pub passed_row : {R : Type 0} (refuses : Pages → ℕ → R → Type 0) (pages : Pages) (name : List ℕ) (a : ℤ) (row : SchemaRow) (lent : List ℕ) (error : WalkError R) → lent ≡ row.payload
    → IsRowTried refuses pages name (record { rowid = a; root = row.root; payload = lent }) (Err error) → IsRowTried refuses pages name row (Err error)
passed_row refuses pages name a row lent error is tried =
    same_row refuses pages name a row.rowid row.root row.payload error
    (subst (λ (p : List ℕ). IsRowTried refuses pages name (record { rowid = a; root = row.root; payload = p }) (Err error)) is tried)
