-- One index beside its table.
use Rattle.std.proofs.Common.{◌≡◌, ◌≢◌, ◌≤◌, ℕ, Bool, true, false, List, [], ◌∷◌, map, length, Option, Some, Result, Ok, Err, if◌then◌else◌, arith, refl, ap, sym, subst, ◌∙◌, inl, inr}
use Rattle.std.specs.List.{All, Contains, find}
use Rattle.std.proofs.lemmas.List.Elements.{All-head, All-tail, Contains-append_right}
use Rattle.db_format.specs.Pages.{Pages, nothing}
use Rattle.btree_page.specs.declared.kind.Family.{Family}
use Rattle.btree_page.specs.declared.kind.Family.TheVariants.{Table, Index}
use Rattle.btree_model.specs.Tree.{root_family, tree_walk}
use Rattle.btree_walk.specs.Causes.{IsAmong}
use Rattle.btree_walk.specs.declared.error.WalkError.{WalkError}
use Rattle.btree_walk.specs.declared.error.WalkError.TheVariants.{Source}
use Rattle.btree_walk.proofs.PathLemmas.{number_is_page}
use Rattle.btree_walk.proofs.TurnLemmas.{start_shut}
use Rattle.schema_map.specs.declared.schema.SchemaRow.{SchemaRow}
use Rattle.schema_map.proofs.PartLemmas.{among_joined}
use Rattle.rowid_find.specs.Table.{is_candidate}
use Rattle.index_check.specs.Agree.{missing, owners, rowids, strangers}
use Rattle.index_check.specs.Checked.{AreCounted, IsAgreement, agreement_of, counted}
use Rattle.index_check.specs.declared.agreement.Agreement.{Agreement}
use Rattle.index_check.specs.declared.rowids.Rowids.{Rowids}
use Rattle.db_format.specs.Value.{Datum}
use Rattle.db_format.specs.Value.Datum.{null, int, float, text, blob}
use Rattle.index_report.specs.Verdicts.{IsJudged, IsJudgedBeside, IsTreeStop, agreement, beside, column, is_read, named_root, of_table, of_tree, root_or_0, table_named, verdict}
use Rattle.index_report.proofs.LineSteps.{first_if, second_if}
use Rattle.index_report.specs.declared.verdict.Unchecked.TheVariants.{NoTree, NoTable, NotRead}
use Rattle.index_report.specs.declared.verdict.Verdict.{Verdict}
use Rattle.index_report.specs.declared.verdict.Verdict.TheVariants.{Unchecked, Checked}

-- ---- why a walk stops

pub shut : {R : Type 0} (refuses : Pages → ℕ → R → Type 0) (pages : Pages) (root : ℕ) (refusal : R) → 1 ≤ root → root ≤ pages.count → refuses pages root refusal
    → IsTreeStop refuses pages (Source refusal) root
shut refuses pages root refusal low high refused =
    among_joined refuses pages (tree_walk pages (root_family root (pages.page root)) nothing root) _ (Source refusal)
    (start_shut pages (root_family root (pages.page root)) root nothing refuses (Source refusal) refl (number_is_page pages root low high) refused)

pub walked : {R : Type 0} (refuses : Pages → ℕ → R → Type 0) (pages : Pages) (root : ℕ) (family : Family) (error : WalkError R) → root_family root (pages.page root) ≡ family
    → IsAmong refuses pages (tree_walk pages family nothing root) error → IsTreeStop refuses pages error root
walked refuses pages root family error is among =
    among_joined refuses pages (tree_walk pages (root_family root (pages.page root)) nothing root) _ error
    (subst (λ (f : Family). IsAmong refuses pages (tree_walk pages f nothing root) error) (sym is) among)

-- ---- the counts as one value

same_counts : (rowids : List _) (found : Rowids) → AreCounted rowids found → found ≡ counted rowids
same_counts rowids found are =
    ap (λ n. record { count = n; least = found.least }) are.count_is ∙ ap (λ l. record { count = length rowids; least = l }) are.least_is

pub same_agreement : (rows : List _) (owners : List _) (found : Agreement) → IsAgreement rows owners found → found ≡ agreement_of rows owners
same_agreement rows owners found is =
    ap (λ n. record { rows = n; entries = found.entries; missing = found.missing; strangers = found.strangers; nameless = found.nameless }) is.rows_are
    ∙ ap (λ n. record { rows = length rows; entries = n; missing = found.missing; strangers = found.strangers; nameless = found.nameless }) is.entries_are
    ∙ ap (λ m. record { rows = length rows; entries = length owners; missing = m; strangers = found.strangers; nameless = found.nameless }) (same_counts (missing rows owners) found.missing is.missing_are)
    ∙ ap (λ m. record { rows = length rows; entries = length owners; missing = counted (missing rows owners); strangers = m; nameless = found.nameless })
    (same_counts (strangers rows owners) found.strangers is.strangers_are)
    ∙ ap (λ n. record { rows = length rows; entries = length owners; missing = counted (missing rows owners); strangers = counted (strangers rows owners); nameless = n }) is.nameless_are

-- ---- the table of a name

-- a bound of all roots is one of it
high_by : (b : Bool) (row : SchemaRow) (rest : Option SchemaRow) (n : ℕ) → row.root ≤ n → root_or_0 rest ≤ n → root_or_0 (if b then Some row else rest) ≤ n
high_by true row rest n first later = first
high_by false row rest n first later = later

pub named_high : (name : List ℕ) (rows : List SchemaRow) (n : ℕ) → All (λ (row : SchemaRow). row.root ≤ n) rows → named_root name rows ≤ n
named_high name [] n all = omega arith
named_high name (row ∷ rows) n all =
    high_by (is_candidate name row) row (find (is_candidate name) rows) n (All-head (λ (r : SchemaRow). r.root ≤ n) row rows all)
    (named_high name rows n (All-tail (λ (r : SchemaRow). r.root ≤ n) row rows all))

-- it is one of them
listed_by : (b : Bool) (row : SchemaRow) (rest : Option SchemaRow) (roots : List ℕ) → (root_or_0 rest ≢ 0 → Contains roots (root_or_0 rest))
    → root_or_0 (if b then Some row else rest) ≢ 0 → Contains (row.root ∷ roots) (root_or_0 (if b then Some row else rest))
listed_by true row rest roots later some = (0, omega arith, refl)
listed_by false row rest roots later some = Contains-append_right (row.root ∷ []) roots (root_or_0 rest) (later some)

pub named_listed : (name : List ℕ) (rows : List SchemaRow) → named_root name rows ≢ 0 → Contains (map (λ (row : SchemaRow). row.root) rows) (named_root name rows)
named_listed name [] some = absurd (some refl)
named_listed name (row ∷ rows) some =
    listed_by (is_candidate name row) row (find (is_candidate name) rows) (map (λ (r : SchemaRow). r.root) rows) (named_listed name rows) some

pub table_high : (rows : List SchemaRow) (value : Datum) (n : ℕ) → All (λ (row : SchemaRow). row.root ≤ n) rows → table_named rows value ≤ n
table_high rows null n all = omega arith
table_high rows (int number) n all = omega arith
table_high rows (float bytes) n all = omega arith
table_high rows (text name) n all = named_high name rows n all
table_high rows (blob bytes) n all = omega arith

pub table_listed : (rows : List SchemaRow) (value : Datum) → table_named rows value ≢ 0 → Contains (map (λ (row : SchemaRow). row.root) rows) (table_named rows value)
table_listed rows null some = absurd (some refl)
table_listed rows (int number) some = absurd (some refl)
table_listed rows (float bytes) some = absurd (some refl)
table_listed rows (text name) some = named_listed name rows some
table_listed rows (blob bytes) some = absurd (some refl)

-- ---- by the table

unread_by : (b : Bool) (found : Agreement) → b ≡ false → Unchecked NotRead ≡ (if b then Checked found else Unchecked NotRead)
unread_by true found is = cc
unread_by false found is = refl

read_by : (b : Bool) (found : Agreement) → b ≡ true → Checked found ≡ (if b then Checked found else Unchecked NotRead)
read_by true found is = refl
read_by false found is = cc

module _ (pages : Pages) (root : ℕ) (values : List Datum) (table : ℕ) where
  pub beside_read : Table ≡ root_family table (pages.page table) → true ≡ is_read (column values 4) → (found : Agreement) → found ≡ agreement pages table root
      → Checked found ≡ beside pages root values table (root_family table (pages.page table))
  beside_read family plain found is =
      ap (λ (a : Agreement). Checked a) is ∙ read_by (is_read (column values 4)) (agreement pages table root) (sym plain) ∙ ap (beside pages root values table) family

-- ---- by the tree

module _ (pages : Pages) (rows : List SchemaRow) (root : ℕ) (values : List Datum) (some : root ≢ 0) where
  tree_is : (family : Family) → family ≡ root_family root (pages.page root) → of_tree pages rows root values family ≡ verdict pages rows root values
  tree_is family is =
      ap (of_tree pages rows root values) is ∙ second_if root (Unchecked NoTree) (of_tree pages rows root values (root_family root (pages.page root))) some

  module _ (family : Index ≡ root_family root (pages.page root)) (table : ℕ) (named : table ≡ table_named rows (column values 2)) where
    table_is : of_table pages root values table ≡ verdict pages rows root values
    table_is = ap (of_table pages root values) named ∙ tree_is Index family

    pub judged_no_table : table ≡ 0 → Unchecked NoTable ≡ verdict pages rows root values
    judged_no_table none =
        first_if table (Unchecked NoTable) (beside pages root values table (root_family table (pages.page table))) none ∙ table_is

    pub judged_beside : {R : Type 0} (refuses : Pages → ℕ → R → Type 0) (result : Result Verdict (WalkError R)) → table ≢ 0
        → IsJudgedBeside refuses pages table root values result → IsJudged refuses pages rows root values result
    judged_beside refuses (Ok found) is judged =
        judged ∙ second_if table (Unchecked NoTable) (beside pages root values table (root_family table (pages.page table))) is ∙ table_is
    judged_beside refuses (Err error) is (inl stop) =
        record {
          tree = table;
          some = is;
          listed = inr (subst (λ (n : ℕ). Contains (map (λ (row : SchemaRow). row.root) rows) n) (sym named) (table_listed rows (column values 2) (λ none. is (named ∙ none))));
          stop = stop;
        }
    judged_beside refuses (Err error) is (inr stop) = record { tree = root; some = some; listed = inl refl; stop = stop }
