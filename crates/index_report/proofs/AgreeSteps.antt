-- The counts of a report, and the rows and entries of its indexes.
use Rattle.std.proofs.Common.{◌≡◌, ◌≢◌, ℕ, ℤ, ◌+◌, ◌==◌, Option, Bool, true, false, not, cond, List, [], ◌∷◌, map, if◌then◌else◌, arith, refl, ap, sym, subst, ◌∙◌}
use Rattle.std.specs.Prelude.{count_by}
use Rattle.std.specs.List.{All, Contains}
use Rattle.std.proofs.lemmas.Bool.{eqb-false}
use Rattle.std.proofs.lemmas.List.Elements.{All-cons, All-contains, All-head, All-nil, All-tail}
use Rattle.std.proofs.lemmas.List.Sums.{sum_by-append, sum_by-cons}
use Rattle.db_format.specs.Pages.{Pages, nothing}
use Rattle.db_format.specs.Record.{columns}
use Rattle.db_format.specs.Value.{Datum}
use Rattle.btree_page.specs.declared.kind.Family.{Family}
use Rattle.btree_page.specs.declared.kind.Family.TheVariants.{Table, Index}
use Rattle.btree_model.specs.Finding.{entries, is_sound}
use Rattle.btree_model.specs.Records.{record_faults}
use Rattle.btree_model.specs.Schema.{roots}
use Rattle.btree_model.specs.Tree.{root_family, tree_walk}
use Rattle.btree_model.proofs.UnmarkedLemmas.{sound_left}
use Rattle.schema_map.specs.Alone.{schema_rows}
use Rattle.schema_map.specs.declared.schema.SchemaRow.{SchemaRow}
use Rattle.schema_map.proofs.SoundParts.{database_trees, root_part}
use Rattle.export_rows.specs.Schema.{IsSchemaOf}
use Rattle.index_check.specs.Agree.{owners, rowids}
use Rattle.index_check.specs.Checked.{IsAgreement, IsRising, agreement_of, is_whole}
use Rattle.index_check.specs.declared.agreement.Agreement.{Agreement}
use Rattle.index_check.proofs.CountLemmas.{counts_whole, whole_counts}
use Rattle.index_report.specs.Agreeing.{AreOneByOne, IsOneByOne}
use Rattle.index_report.specs.Report.{found_of, row_verdicts, rows_verdicts, values_in}
use Rattle.index_report.specs.Summary.{differs}
use Rattle.index_report.specs.Verdicts.{agreement, beside, column, is_index, is_read, of_table, of_tree, table_named, verdict}
use Rattle.index_report.specs.declared.verdict.Unchecked.{Unchecked as Why}
use Rattle.index_report.specs.declared.verdict.Unchecked.TheVariants.{NoTable, NoTree, NotRead}
use Rattle.index_report.specs.declared.verdict.Verdict.{Verdict}
use Rattle.index_report.specs.declared.verdict.Verdict.TheVariants.{Unchecked, Checked}
use Rattle.index_report.proofs.JudgeSteps.{table_listed}
use Rattle.index_report.proofs.RiseSteps.{table_rises}
use Rattle.index_report.proofs.RowSteps.{all_listed}

-- ---- an index that is checked

-- its counts are those of these trees
record IsChecked (pages : Pages) (rows : List SchemaRow) (root : ℕ) (values : List Datum) (found : Agreement) : Type 0 where
  some : table_named rows (column values 2) ≢ 0
  family : root_family (table_named rows (column values 2)) (pages.page (table_named rows (column values 2))) ≡ Table
  is : found ≡ agreement pages (table_named rows (column values 2)) root

passed : (b : Bool) (why : Why) (later : Verdict) (found : Agreement) → (if b then Unchecked why else later) ≡ Checked found → (b ≡ false) × (later ≡ Checked found)
passed true why later found is = cc
passed false why later found is = (refl, is)

read_by : (b : Bool) (a found : Agreement) → (if b then Checked a else Unchecked NotRead) ≡ Checked found → found ≡ a
read_by true a found is = cc
read_by false a found is = cc

by_table : (pages : Pages) (root : ℕ) (values : List Datum) (table : ℕ) (found : Agreement) (family : Family) → beside pages root values table family ≡ Checked found
    → (family ≡ Table) × (found ≡ agreement pages table root)
by_table pages root values table found Table is = (refl, read_by (is_read (column values 4)) (agreement pages table root) found is)
by_table pages root values table found Index is = cc

by_tree : (pages : Pages) (rows : List SchemaRow) (root : ℕ) (values : List Datum) (found : Agreement) (family : Family) → of_tree pages rows root values family ≡ Checked found
    → of_table pages root values (table_named rows (column values 2)) ≡ Checked found
by_tree pages rows root values found Table is = cc
by_tree pages rows root values found Index is = is

checked_so : (pages : Pages) (rows : List SchemaRow) (root : ℕ) (values : List Datum) (found : Agreement) → verdict pages rows root values ≡ Checked found
    → IsChecked pages rows root values found
checked_so pages rows root values found is =
    let table = table_named rows (column values 2) in
    let own = passed (root == 0) NoTree (of_tree pages rows root values (root_family root (pages.page root))) found is in
    let of = by_tree pages rows root values found (root_family root (pages.page root)) own.1 in
    let named = passed (table == 0) NoTable (beside pages root values table (root_family table (pages.page table))) found of in
    let both = by_table pages root values table found (root_family table (pages.page table)) named.1 in
    record { some = eqb-false table 0 named.0; family = both.0; is = both.1 }

-- ---- its table

table_sound : (pages : Pages) (rows : List SchemaRow) (schema : IsSchemaOf pages rows) (value : Datum) → table_named rows value ≢ 0
    → root_family (table_named rows value) (pages.page (table_named rows value)) ≡ Table → is_sound (tree_walk pages Table nothing (table_named rows value)) ≡ true
table_sound pages rows schema value some family =
    let table = table_named rows value in
    let listed : Contains (roots (schema_rows pages)) table =
    All-contains (λ (n : ℕ). (n ≡ 0 → ⊥) → Contains (roots (schema_rows pages)) n) (map (λ (row : SchemaRow). row.root) rows) table (all_listed pages rows schema) (table_listed rows value some) some in
    let part : is_sound (root_part pages table) ≡ true =
    All-contains (λ (n : ℕ). is_sound (root_part pages n) ≡ true) (roots (schema_rows pages)) table (database_trees pages schema.sound) listed in
    subst (λ (f : Family). is_sound (tree_walk pages f nothing table) ≡ true) family
    (sound_left (tree_walk pages (root_family table (pages.page table)) nothing table) (record_faults (entries (tree_walk pages (root_family table (pages.page table)) nothing table))) part)

-- the counts of an index that is checked are those of its rows and entries, and the rowids of the rows rise
record IsCounted (pages : Pages) (rows : List SchemaRow) (root : ℕ) (values : List Datum) (found : Agreement) : Type 0 where
  rising : IsRising (rowids (entries (tree_walk pages Table nothing (table_named rows (column values 2)))))
  counts : IsAgreement (rowids (entries (tree_walk pages Table nothing (table_named rows (column values 2))))) (owners (entries (tree_walk pages Index nothing root))) found

counts_of : (rows : List ℤ) (owned : List (Option ℤ)) → IsAgreement rows owned (agreement_of rows owned)
counts_of rows owned = record {
  rows_are = refl;
  entries_are = refl;
  missing_are = record { count_is = refl; least_is = refl };
  strangers_are = record { count_is = refl; least_is = refl };
  nameless_are = refl;
}

counted_so : (pages : Pages) (rows : List SchemaRow) (root : ℕ) (values : List Datum) (found : Agreement) → IsSchemaOf pages rows → verdict pages rows root values ≡ Checked found
    → IsCounted pages rows root values found
counted_so pages rows root values found schema is =
    let so = checked_so pages rows root values found is in
    let table = table_named rows (column values 2) in
    let all = rowids (entries (tree_walk pages Table nothing table)) in
    let owned = owners (entries (tree_walk pages Index nothing root)) in
    record {
      rising = table_rises pages table (table_sound pages rows schema (column values 2) so.some so.family);
      counts = subst (IsAgreement all owned) (sym so.is) (counts_of all owned);
    }

-- ---- one row of the schema

abbrev one_if : Bool → ℕ
one_if b = cond b 1 0

one_count : (v : Verdict) → count_by differs (v ∷ []) ≡ one_if (differs v)
one_count v = sum_by-cons (λ (x : Verdict). cond (differs x) 1 0) v [] ∙ (omega arith)

whole_by : (b : Bool) → one_if (not b) ≡ 0 → b ≡ true
whole_by true is = refl
whole_by false is = absurd (omega (arith, is))

verdict_by : (b : Bool) (v : Verdict) (found : Agreement) → (if b then v ∷ [] else []) ≡ Checked found ∷ [] → v ≡ Checked found
verdict_by true v found is = cc
verdict_by false v found is = cc

row_one : (pages : Pages) (rows : List SchemaRow) (row : SchemaRow) → IsSchemaOf pages rows → count_by differs (row_verdicts pages rows row) ≡ 0 → IsOneByOne pages rows row
row_one pages rows row schema none found is =
    let values = values_in row.payload in
    let so = counted_so pages rows row.root values found schema (verdict_by (is_index (columns row.payload)) (verdict pages rows row.root values) found is) in
    let all = rowids (entries (tree_walk pages Table nothing (table_named rows (column values 2)))) in
    let owned = owners (entries (tree_walk pages Index nothing row.root)) in
    let count : one_if (not (is_whole found)) ≡ 0 = sym (one_count (Checked found)) ∙ ap (count_by differs) (sym is) ∙ none in
    counts_whole all owned found so.rising so.counts (whole_by (is_whole found) count)

-- what is found of it
none_by : (pages : Pages) (rows : List SchemaRow) (row : SchemaRow) → IsSchemaOf pages rows → IsOneByOne pages rows row
    → (v : Verdict) → verdict pages rows row.root (values_in row.payload) ≡ v → row_verdicts pages rows row ≡ v ∷ [] → count_by differs (v ∷ []) ≡ 0
none_by pages rows row schema one (Unchecked why) is found = one_count (Unchecked why)
none_by pages rows row schema one (Checked found) is here =
    let values = values_in row.payload in
    let so = counted_so pages rows row.root values found schema is in
    let all = rowids (entries (tree_walk pages Table nothing (table_named rows (column values 2)))) in
    let owned = owners (entries (tree_walk pages Index nothing row.root)) in
    let whole : is_whole found ≡ true = whole_counts all owned found so.rising so.counts (one found here) in
    one_count (Checked found) ∙ ap (λ (b : Bool). one_if (not b)) whole

row_by : (pages : Pages) (rows : List SchemaRow) (row : SchemaRow) → IsSchemaOf pages rows → IsOneByOne pages rows row
    → (b : Bool) → is_index (columns row.payload) ≡ b → count_by differs (if b then verdict pages rows row.root (values_in row.payload) ∷ [] else []) ≡ 0
row_by pages rows row schema one false is = refl
row_by pages rows row schema one true is =
    let v = verdict pages rows row.root (values_in row.payload) in
    none_by pages rows row schema one v refl (ap (λ (b : Bool). if b then v ∷ [] else []) is)

-- ---- all rows

abbrev AreAll : Pages → List SchemaRow → List SchemaRow → Type 0
AreAll pages all rows = All (IsOneByOne pages all) rows

more : (pages : Pages) (all : List SchemaRow) (row : SchemaRow) (rows : List SchemaRow)
    → count_by differs (rows_verdicts pages all (row ∷ rows)) ≡ count_by differs (row_verdicts pages all row) + count_by differs (rows_verdicts pages all rows)
more pages all row rows = sum_by-append (λ (x : Verdict). cond (differs x) 1 0) (row_verdicts pages all row) (rows_verdicts pages all rows)

all_one : (pages : Pages) (all : List SchemaRow) → IsSchemaOf pages all → (rows : List SchemaRow) → count_by differs (rows_verdicts pages all rows) ≡ 0 → AreAll pages all rows
all_one pages all schema [] none = All-nil (IsOneByOne pages all)
all_one pages all schema (row ∷ rows) none =
    let parted = more pages all row rows in
    All-cons (IsOneByOne pages all) row rows (row_one pages all row schema (omega (arith, parted, none))) (all_one pages all schema rows (omega (arith, parted, none)))

none_all : (pages : Pages) (all : List SchemaRow) → IsSchemaOf pages all → (rows : List SchemaRow) → AreAll pages all rows → count_by differs (rows_verdicts pages all rows) ≡ 0
none_all pages all schema [] one = refl
none_all pages all schema (row ∷ rows) one =
    let first : count_by differs (row_verdicts pages all row) ≡ 0 =
    row_by pages all row schema (All-head (IsOneByOne pages all) row rows one) (is_index (columns row.payload)) refl in
    let rest : count_by differs (rows_verdicts pages all rows) ≡ 0 = none_all pages all schema rows (All-tail (IsOneByOne pages all) row rows one) in
    omega (arith, more pages all row rows, first, rest)

pub agreeing : (pages : Pages) (rows : List SchemaRow) → IsSchemaOf pages rows → (found_of pages rows).differing ≡ 0 → AreOneByOne pages rows
agreeing pages rows schema none = all_one pages rows schema rows none

pub agreeing_only : (pages : Pages) (rows : List SchemaRow) → IsSchemaOf pages rows → AreOneByOne pages rows → (found_of pages rows).differing ≡ 0
agreeing_only pages rows schema one = none_all pages rows schema rows one
