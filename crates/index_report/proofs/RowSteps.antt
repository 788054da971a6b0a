-- The lines of indexes, row by row.
use Rattle.std.proofs.Common.{◌≡◌, ℕ, ◌+◌, ◌-◌, ◌<◌, ◌≤◌, ◌^◌, Bool, true, false, List, [], ◌∷◌, ◌++◌, Option, Some, None, Result, Ok, Err, length, map, take, drop, if◌then◌else◌, arith, refl, ap, sym, subst, ◌∙◌, ⊎_elim}
use Rattle.std.specs.Prelude.{codes, unwrap_or, slice_index_or, IfErr, IsTrue}
use Rattle.std.specs.List.{All, Contains, flat_map}
use Rattle.std.proofs.lemmas.List.{append-nil, length-append, length-take, take-append-drop, take_all, take_more}
use Rattle.std.proofs.lemmas.List.Concat.{flat_map-append}
use Rattle.std.proofs.lemmas.List.Elements.{All-contains, All-map}
use Rattle.db_format.specs.Pages.{Pages}
use Rattle.db_format.specs.Record.{columns}
use Rattle.db_format.specs.Value.{Datum}
use Rattle.btree_model.specs.Schema.{roots}
use Rattle.rowid_find.specs.Table.{is_text}
use Rattle.row_text.specs.Out.{Moves, MovesPart}
use Rattle.row_text.proofs.Moving.{cut, restated, restated_part, then, then_part, waits}
use Rattle.schema_map.specs.Alone.{schema_rows}
use Rattle.schema_map.specs.declared.schema.SchemaRow.{SchemaRow}
use Rattle.export_rows.specs.Causes.{IfWalk, IsLateWalk, after_check}
use Rattle.export_rows.specs.Schema.{IsSchemaOf}
use Rattle.export_rows.specs.declared.error.ExportError.{ExportError}
use Rattle.export_rows.specs.declared.error.ExportError.TheVariants.{Walk, OutputFault}
use Rattle.export_rows.proofs.SchemaText.{IsKeptRow, late_stop, rows_kept}
use Rattle.db_format.specs.Source.{Rose}
use Rattle.btree_walk.specs.Causes.{is_failure}
use Rattle.btree_walk.specs.declared.error.WalkError.{WalkError}
use Rattle.btree_walk.specs.declared.error.WalkError.TheVariants.{Defect, Source, OutOfMemory}
use Rattle.export_rows.proofs.Handing.{walk_fault_later}
use Rattle.index_report.specs.Lines.{verdict_text}
use Rattle.index_report.specs.Report.{found_of, payload_text, payload_verdicts, row_text, row_verdicts, rows_text, rows_verdicts, values_in}
use Rattle.index_report.specs.Summary.{summary}
use Rattle.index_report.specs.Verdicts.{IsRowStop, column, is_index, verdict}
use Rattle.index_report.specs.declared.summary.Summary.{Summary}
use Rattle.index_report.specs.declared.verdict.Verdict.{Verdict}

-- ---- one row

none_by : (b : Bool) (found : Verdict) → b ≡ false → (if b then found ∷ [] else []) ≡ []
none_by true found is = cc
none_by false found is = refl

one_by : (b : Bool) (found : Verdict) → b ≡ true → (if b then found ∷ [] else []) ≡ found ∷ []
one_by true found is = refl
one_by false found is = cc

one_most : (b : Bool) (found : Verdict) → length (if b then found ∷ [] else []) ≤ 1
one_most true found = omega arith
one_most false found = omega arith

module _ (pages : Pages) (rows : List SchemaRow) (root : ℕ) (payload : List ℕ) where
  pub no_record : columns payload ≡ None → payload_verdicts pages rows root payload ≡ []
  no_record none = none_by (is_index (columns payload)) (verdict pages rows root (values_in payload)) (ap is_index none)

  -- a row without a line
  pub no_line : payload_verdicts pages rows root payload ≡ [] → (before waiting : List ℕ)
      → Moves (payload_text payload (payload_verdicts pages rows root payload)) before waiting before waiting
  no_line none before waiting = restated (ap (payload_text payload) (sym none)) (waits before (sym (append-nil waiting)))

  module _ (values : List Datum) (is : columns payload ≡ Some values) where
    pub no_index : is_text (codes "index") (column values 0) ≡ false → payload_verdicts pages rows root payload ≡ []
    no_index other = none_by (is_index (columns payload)) (verdict pages rows root (values_in payload)) (ap is_index is ∙ other)

    pub one_index : (found : Verdict) → is_text (codes "index") (column values 0) ≡ true → found ≡ verdict pages rows root values
        → payload_verdicts pages rows root payload ≡ found ∷ []
    one_index found index judged =
        one_by (is_index (columns payload)) (verdict pages rows root (values_in payload)) (ap is_index is ∙ index)
        ∙ ap (λ (v : Verdict). v ∷ []) (ap (λ (read : Option (List Datum)). verdict pages rows root (unwrap_or read [])) is ∙ sym judged)

    pub one_text : (found : Verdict) → is_text (codes "index") (column values 0) ≡ true → found ≡ verdict pages rows root values
        → verdict_text (column values 1) found ≡ payload_text payload (payload_verdicts pages rows root payload)
    one_text found index judged =
        sym (append-nil (verdict_text (column values 1) found))
        ∙ ap (λ (read : Option (List Datum)). flat_map (verdict_text (column (unwrap_or read []) 1)) (found ∷ [])) (sym is)
        ∙ ap (payload_text payload) (sym (one_index found index judged))

-- ---- why it stops

module _ (pages : Pages) (rows : List SchemaRow) (schema : IsSchemaOf pages rows) where
  abbrev pub IsListed : ℕ → Type 0
  IsListed root = (root ≡ 0 → ⊥) → Contains (roots (schema_rows pages)) root

  pub all_listed : All IsListed (map (λ (row : SchemaRow). row.root) rows)
  all_listed = All-map IsListed (λ (row : SchemaRow). row.root) rows (λ k d less. (rows_kept pages rows schema k d less).listed)

  -- a tree that is walked is one of the schema
  pub row_late : {R : Type 0} (refuses : Pages → ℕ → R → Type 0) (kept : SchemaRow) (error : WalkError R) → IsKeptRow pages kept
      → IsRowStop refuses pages rows kept.root error → IsLateWalk refuses pages error
  row_late refuses kept error here stop =
      late_stop refuses pages stop.tree error schema.sound
      (⊎_elim (λ (same : stop.tree ≡ kept.root). subst IsListed (sym same) here.listed stop.some)
      (λ (listed : Contains (map (λ (row : SchemaRow). row.root) rows) stop.tree). All-contains IsListed (map (λ (row : SchemaRow). row.root) rows) stop.tree all_listed listed stop.some)
      stop.listed)
      stop.stop

pub walk_row_late : {R : Type 0} (refuses : Pages → ℕ → R → Type 0) (before middle : Pages) (tells : Type 0) (rows : List SchemaRow) (kept : SchemaRow) (error : ExportError R)
    → (tells → middle ≡ before) → (tells → IsSchemaOf before rows) → (tells → IsKeptRow before kept)
    → IfWalk (λ e. tells → IsRowStop refuses middle rows kept.root e) error → IfWalk (λ e. tells → IsLateWalk refuses before e) error
walk_row_late refuses before middle tells rows kept (Walk error) same schema here stop = λ told.
    row_late before rows (schema told) refuses kept error (here told) (subst (λ p. IsRowStop refuses p rows kept.root error) (same told) (stop told))
walk_row_late refuses before middle tells rows kept OutputFault same schema here stop = tt

-- ---- the rows so far

pub record IsReported (pages : Pages) (all : List SchemaRow) (i : ℕ) (found : Summary) (told : Bool) (before waiting after left : List ℕ) : Type 0 where
  pub moved : IsTrue told → Moves (rows_text pages all (take i all)) before waiting after left
  pub found_is : found ≡ summary (rows_verdicts pages all (take i all))

pub reported_none : (pages : Pages) (all : List SchemaRow) (found : Summary) (told : Bool) (before waiting : List ℕ) → found ≡ summary []
    → IsReported pages all 0 found told before waiting before waiting
reported_none pages all found told before waiting none = record { moved = λ t. waits before (sym (append-nil waiting)); found_is = none }

-- a row has one verdict at most
verdicts_few : (pages : Pages) (all rows : List SchemaRow) → length (rows_verdicts pages all rows) ≤ length rows
verdicts_few pages all [] = omega arith
verdicts_few pages all (row ∷ rows) =
    omega (
      arith,
      length-append (row_verdicts pages all row) (rows_verdicts pages all rows),
      one_most (is_index (columns row.payload)) (verdict pages all row.root (values_in row.payload)),
      verdicts_few pages all rows,
    )

pub verdicts_fit : (pages : Pages) (all : List SchemaRow) (i : ℕ) → i < 2 ^ 64 - 1 → length (rows_verdicts pages all (take i all)) < 2 ^ 64 - 1
verdicts_fit pages all i less = omega (arith, verdicts_few pages all (take i all), length-take i all)

module _ (pages : Pages) (all : List SchemaRow) (i : ℕ) (found : Summary) (told : Bool) (before waiting after left : List ℕ) (so : IsReported pages all i found told before waiting after left) where
  whole : rows_text pages all all ≡ rows_text pages all (take i all) ++ rows_text pages all (drop i all)
  whole = ap (rows_text pages all) (sym (take-append-drop i all)) ∙ flat_map-append (row_text pages all) (take i all) (drop i all)

  -- the end
  pub reported_all : length all ≤ i → IsTrue told → Moves (rows_text pages all all) before waiting after left
  reported_all end t = restated (ap (rows_text pages all) (take_all i all end)) (so.moved t)

  pub reported_found : length all ≤ i → found ≡ found_of pages all
  reported_found end = so.found_is ∙ ap (λ (l : List SchemaRow). summary (rows_verdicts pages all l)) (take_all i all end)

  module _ (kept : SchemaRow) (less : i < length all) (is : kept ≡ slice_index_or all i kept) where
    one_more : take (i + 1) all ≡ take i all ++ kept ∷ []
    one_more = take_more all i kept less ∙ ap (λ (r : SchemaRow). take i all ++ r ∷ []) (sym is)

    text_more : rows_text pages all (take (i + 1) all) ≡ rows_text pages all (take i all) ++ row_text pages all kept
    text_more =
        ap (rows_text pages all) one_more ∙ flat_map-append (row_text pages all) (take i all) (kept ∷ [])
        ∙ ap (λ l. rows_text pages all (take i all) ++ l) (append-nil (row_text pages all kept))

    verdicts_more : rows_verdicts pages all (take (i + 1) all) ≡ rows_verdicts pages all (take i all) ++ row_verdicts pages all kept
    verdicts_more =
        ap (rows_verdicts pages all) one_more ∙ flat_map-append (row_verdicts pages all) (take i all) (kept ∷ [])
        ∙ ap (λ l. rows_verdicts pages all (take i all) ++ l) (append-nil (row_verdicts pages all kept))

    -- a failure in the next row
    pub reported_failed : (after' : List ℕ) → (IsTrue told → MovesPart (row_text pages all kept) after left after') → IsTrue told → MovesPart (rows_text pages all all) before waiting after'
    reported_failed after' part t =
        restated_part (
        ap (λ l. l ++ rows_text pages all (drop (i + 1) all)) (sym text_more)
        ∙ sym (flat_map-append (row_text pages all) (take (i + 1) all) (drop (i + 1) all))
        ∙ ap (rows_text pages all) (take-append-drop (i + 1) all)
        ) (cut (rows_text pages all (drop (i + 1) all)) (then_part (so.moved t) (part t)))

    -- the next row, of which this is found
    pub reported_on : (next : Summary) (more : List Verdict) → more ≡ row_verdicts pages all kept
        → next ≡ summary (rows_verdicts pages all (take i all) ++ more)
        → (after' left' : List ℕ) → (IsTrue told → Moves (row_text pages all kept) after left after' left')
        → IsReported pages all (i + 1) next told before waiting after' left'
    reported_on next more are is-next after' left' moved =
        record {
          moved = λ t. restated (sym text_more) ((then) (so.moved t) (moved t));
          found_is = is-next ∙ ap summary (ap (λ l. rows_verdicts pages all (take i all) ++ l) are ∙ sym verdicts_more);
        }

-- ---- a row whose payload is lent, of pages that are the same

pub lent_verdicts : (before middle : Pages) (rows : List SchemaRow) (row : SchemaRow) (lent : List ℕ) → middle ≡ before → lent ≡ row.payload
    → payload_verdicts middle rows row.root lent ≡ row_verdicts before rows row
lent_verdicts before middle rows row lent same is =
    ap (λ (bytes : List ℕ). payload_verdicts middle rows row.root bytes) is ∙ ap (λ (p : Pages). row_verdicts p rows row) same

pub lent_text : (before middle : Pages) (rows : List SchemaRow) (row : SchemaRow) (lent : List ℕ) → middle ≡ before → lent ≡ row.payload
    → payload_text lent (payload_verdicts middle rows row.root lent) ≡ row_text before rows row
lent_text before middle rows row lent same is =
    ap (λ (bytes : List ℕ). payload_text bytes (payload_verdicts middle rows row.root bytes)) is ∙ ap (λ (p : Pages). row_text p rows row) same

-- ---- causes that are handed on

pub if_fault_later : {R A : Type 0} (is_fault : R → Bool) (before middle now : ℕ) (result : Result A (ExportError R)) → before ≤ middle
    → IfErr result (IfWalk (λ e. IsTrue (is_failure is_fault e) → Rose middle now)) → IfErr result (IfWalk (λ e. IsTrue (is_failure is_fault e) → Rose before now))
if_fault_later is_fault before middle now (Ok value) less fault = tt
if_fault_later is_fault before middle now (Err error) less fault = walk_fault_later is_fault before middle now error less fault

-- an error as what a call came to
abbrev failed : {R : Type 0} (A : Type 0) → ExportError R → Result A (ExportError R)
failed A error = Err error

-- the sink failed only where it did so before the check too
pub output_stays : {R A B : Type 0} (error checked : ExportError R) → checked ≡ after_check error → failed A checked ≡ Err OutputFault → failed B error ≡ Err OutputFault
output_stays (Walk (Defect d)) checked same is = cc
output_stays (Walk (Source refusal)) checked same is = cc
output_stays (Walk OutOfMemory) checked same is = cc
output_stays OutputFault checked same is = refl
