-- The lines of the schema's rows and of their trees, row by row.
use Rattle.std.proofs.Common.{◌≡◌, ◌≢◌, ℕ, zero, suc, ◌+◌, ◌<◌, ◌≤◌, ◌^◌, Bool, true, List, [], ◌∷◌, ◌++◌, Option, Some, None, length, map, take, drop, arith, refl, ap, sym, subst, ◌∙◌}
use Rattle.std.specs.Prelude.{ℤ, pos, negsuc, is_some, sum_by, IsTrue, slice_index_or}
use Rattle.std.specs.List.{All, Contains, flat_map}
use Rattle.std.proofs.lemmas.List.{append-nil, length-map, take-append-drop, take_all, take_more}
use Rattle.std.proofs.lemmas.List.Concat.{flat_map-append}
use Rattle.std.proofs.lemmas.List.Elements.{All-contains, All-contains_itself, All-map, All-same, Contains-append_left, Contains-append_right}
use Rattle.std.proofs.lemmas.List.Sums.{sum_by-append, sum_by-cons}
use Rattle.db_format.specs.Pages.{Pages, also, nothing}
use Rattle.db_format.specs.Record.{columns}
use Rattle.db_format.specs.Value.{Datum}
use Rattle.btree_model.specs.Content.{item_of, item_with}
use Rattle.btree_model.specs.Finding.{Row, entries, is_sound, places}
use Rattle.btree_model.specs.Freelist.{freelist_walk}
use Rattle.btree_model.specs.Parts.{counts, is_database}
use Rattle.btree_model.specs.Schema.{Root, schema_part, no_column, no_tree, at_page, root_of, numbers_of, roots, roots_of_row, rowid_or_0}
use Rattle.btree_walk.specs.Causes.{IsAmong}
use Rattle.btree_walk.specs.declared.error.WalkError.{WalkError}
use Rattle.btree_walk.specs.declared.error.WalkError.TheVariants.{Defect, Source, OutOfMemory}
use Rattle.schema_map.specs.Root.{number_of, root_number}
use Rattle.schema_map.specs.Schema.{schema_row}
use Rattle.schema_map.specs.declared.schema.SchemaRow.{SchemaRow}
use Rattle.export_rows.specs.Causes.{IfWalk, IsLateWalk}
use Rattle.row_text.specs.Out.{Moves, MovesPart}
use Rattle.export_rows.specs.Report.{item_at, item_count, item_text}
use Rattle.schema_map.specs.Alone.{tree_rows}
use Rattle.export_rows.specs.Schema.{IsSchemaOf, kept_text, row_count, schema_rows_text}
use Rattle.schema_map.specs.Alone.{schema_rows}
use Rattle.export_rows.specs.declared.error.ExportError.{ExportError}
use Rattle.export_rows.specs.declared.error.ExportError.TheVariants.{Walk, OutputFault}
use Rattle.row_text.proofs.Moving.{cut, restated, restated_part, then, then_part, waits}
use Rattle.schema_map.proofs.SoundParts.{database_few, database_schema, database_place, database_recorded, database_trees, none_contained, root_part, sound_faults, sound_refusals}

-- ---- a kept row is the row of the content

module _ (pages : Pages) (row : Row) where
  kept_by : (read : Option (List Datum))
      → item_of pages (record { rowid = Some (rowid_or_0 row.rowid); payload = row.payload; page = 0 }) read ≡ item_of pages row read
  kept_by None = refl
  kept_by (Some values) = refl

  pub kept_is : item_at pages (rowid_or_0 row.rowid) row.payload ≡ item_of pages row (columns row.payload)
  kept_is = kept_by (columns row.payload)

pub text_of_content : (pages : Pages) (rows : List Row)
    → schema_rows_text pages (map schema_row rows) ≡ flat_map item_text (map (λ row. item_of pages row (columns row.payload)) rows)
text_of_content pages [] = refl
text_of_content pages (row ∷ rows) =
    ap (λ item. item_text item ++ schema_rows_text pages (map schema_row rows)) (kept_is pages row)
    ∙ ap (λ l. item_text (item_of pages row (columns row.payload)) ++ l) (text_of_content pages rows)

pub count_of_content : (pages : Pages) (rows : List Row)
    → sum_by (row_count pages) (map schema_row rows) ≡ sum_by item_count (map (λ row. item_of pages row (columns row.payload)) rows)
count_of_content pages [] = refl
count_of_content pages (row ∷ rows) =
    sum_by-cons (row_count pages) (schema_row row) (map schema_row rows)
    ∙ ap (λ item. item_count item + sum_by (row_count pages) (map schema_row rows)) (kept_is pages row)
    ∙ ap (λ n. item_count (item_of pages row (columns row.payload)) + n) (count_of_content pages rows)
    ∙ sym (sum_by-cons item_count (item_of pages row (columns row.payload)) (map (λ row. item_of pages row (columns row.payload)) rows))

-- ---- how many entries the trees have

module _ (pages : Pages) where
  abbrev tree_count : ℕ → ℕ
  tree_count root = length (tree_rows pages root)

  one : (n : ℕ) → sum_by tree_count (n ∷ []) ≡ tree_count n
  one n = sum_by-cons tree_count n [] ∙ (omega arith)

  count_by_root : (rowid : ℤ) (payload : List ℕ) (values : List Datum) (root : Root) → item_count (item_with pages rowid payload values root) ≡ sum_by tree_count (numbers_of root)
  count_by_root rowid payload values no_column = refl
  count_by_root rowid payload values no_tree = refl
  count_by_root rowid payload values (at_page (negsuc n)) = refl
  count_by_root rowid payload values (at_page (pos n)) = length-map (tree_rows pages n) _ ∙ sym (one n)

  count_by_read : (row : Row) (read : Option (List Datum)) → item_count (item_of pages row read) ≡ sum_by tree_count (roots_of_row read)
  count_by_read row None = refl
  count_by_read row (Some values) = count_by_root (rowid_or_0 row.rowid) row.payload values (root_of values)

  counts_of_trees : (rows : List Row) → sum_by item_count (map (λ row. item_of pages row (columns row.payload)) rows) ≡ sum_by tree_count (roots rows)
  counts_of_trees [] = refl
  counts_of_trees (row ∷ rows) =
      sum_by-cons item_count (item_of pages row (columns row.payload)) (map (λ row. item_of pages row (columns row.payload)) rows)
      ∙ ap (λ n. n + sum_by item_count (map (λ row. item_of pages row (columns row.payload)) rows)) (count_by_read row (columns row.payload))
      ∙ ap (λ n. sum_by tree_count (roots_of_row (columns row.payload)) + n) (counts_of_trees rows)
      ∙ sym (sum_by-append tree_count (roots_of_row (columns row.payload)) (roots rows))

  pub total_few : (rows : List SchemaRow) → IsSchemaOf pages rows → sum_by (row_count pages) rows < 2 ^ 64
  total_few rows schema =
      let is : sum_by (row_count pages) rows ≡ sum_by tree_count (roots (schema_rows pages)) =
      ap (sum_by (row_count pages)) schema.are ∙ count_of_content pages (schema_rows pages) ∙ counts_of_trees (schema_rows pages) in
      omega (arith, database_few pages schema.sound, schema.few)

-- ---- one row

-- the root of a row is among those of all
root_named_by : (root : Root) → (root_number root ≡ 0 → ⊥) → Contains (numbers_of root) (root_number root)
root_named_by no_column some = absurd (some refl)
root_named_by no_tree some = absurd (some refl)
root_named_by (at_page (negsuc n)) some = absurd (some refl)
root_named_by (at_page (pos n)) some = (0, omega arith, refl)

root_named : (read : Option (List Datum)) → (number_of read ≡ 0 → ⊥) → Contains (roots_of_row read) (number_of read)
root_named None some = absurd (some refl)
root_named (Some values) some = root_named_by (root_of values) some

root_listed : (rows : List Row) (row : Row) → Contains rows row → (number_of (columns row.payload) ≡ 0 → ⊥) → Contains (roots rows) (number_of (columns row.payload))
root_listed [] row (k, less, is) some = absurd (omega arith)
root_listed (first ∷ rows) row (zero, less, is) some =
    Contains-append_left (roots_of_row (columns first.payload)) (roots rows) (number_of (columns row.payload))
    (subst (λ (r : Row). Contains (roots_of_row (columns r.payload)) (number_of (columns row.payload))) (sym is) (root_named (columns row.payload) some))
root_listed (first ∷ rows) row (suc k, less, is) some =
    Contains-append_right (roots_of_row (columns first.payload)) (roots rows) (number_of (columns row.payload))
    (root_listed rows row (k, omega arith, is) some)

pub record IsKeptRow (pages : Pages) (kept : SchemaRow) : Type 0 where
  pub recorded : is_some (columns kept.payload) ≡ true
  pub number : kept.root ≡ number_of (columns kept.payload)
  pub listed : (kept.root ≡ 0 → ⊥) → Contains (roots (schema_rows pages)) kept.root

pub rows_kept : (pages : Pages) (rows : List SchemaRow) → IsSchemaOf pages rows → All (IsKeptRow pages) rows
rows_kept pages rows schema =
    All-same (IsKeptRow pages) rows (map schema_row (schema_rows pages)) schema.are
    (All-map (IsKeptRow pages) schema_row (schema_rows pages) (λ k d less.
    record {
      recorded = database_recorded pages schema.sound k d less;
      number = refl;
      listed = root_listed (schema_rows pages) (slice_index_or (schema_rows pages) k d) (All-contains_itself (schema_rows pages) k d less);
    }))

pub kept_at : (pages : Pages) (rows : List SchemaRow) (i : ℕ) (kept : SchemaRow) → IsSchemaOf pages rows → i < length rows → kept ≡ slice_index_or rows i kept → IsKeptRow pages kept
kept_at pages rows i kept schema less is = subst (IsKeptRow pages) (sym is) (rows_kept pages rows schema i kept less)

-- ---- why it stops

pub late_stop : {R : Type 0} (refuses : Pages → ℕ → R → Type 0) (pages : Pages) (root : ℕ) (error : WalkError R) → is_database pages ≡ true → Contains (roots (schema_rows pages)) root
    → IsAmong refuses pages (root_part pages root) error → IsLateWalk refuses pages error
late_stop refuses pages root (Defect d) sound listed among =
    none_contained d (subst (λ l. Contains l d) (sound_faults (root_part pages root) (All-contains (λ n. is_sound (root_part pages n) ≡ true) (roots (schema_rows pages)) root (database_trees pages sound) listed)) among)
late_stop refuses pages root (Source refusal) sound listed among =
    record {
      page = among.page;
      range = among.range;
      placed = database_place pages sound root among.page listed among.placed;
      refused = among.refused;
      listed = λ no.
          absurd (none_contained among.page
          (subst (λ l. Contains l among.page) (sound_refusals (root_part pages root) (All-contains (λ n. is_sound (root_part pages n) ≡ true) (roots (schema_rows pages)) root (database_trees pages sound) listed)) (among.listed no)));
    }
late_stop refuses pages root OutOfMemory sound listed among = tt

pub walk_late : {R : Type 0} (refuses : Pages → ℕ → R → Type 0) (before middle : Pages) (tells : Type 0) (kept : SchemaRow) (error : ExportError R)
    → (tells → middle ≡ before) → (tells → is_database before ≡ true) → (tells → IsKeptRow before kept)
    → IfWalk (λ e. tells → (kept.root ≢ 0) × IsAmong refuses middle (root_part middle kept.root) e) error → IfWalk (λ e. tells → IsLateWalk refuses before e) error
walk_late refuses before middle tells kept (Walk error) same sound here among = λ told.
    late_stop refuses before kept.root error (sound told) ((here told).listed (among told).0)
    (subst (λ p. IsAmong refuses p (root_part p kept.root) error) (same told) (among told).1)
walk_late refuses before middle tells kept OutputFault same sound here among = tt

-- ---- the lines so far

pub record IsWritten (pages : Pages) (rows : List SchemaRow) (i count : ℕ) (told : Bool) (before waiting after left : List ℕ) : Type 0 where
  pub moved : IsTrue told → Moves (schema_rows_text pages (take i rows)) before waiting after left
  pub counted : count ≡ sum_by (row_count pages) (take i rows)

pub written_none : (pages : Pages) (rows : List SchemaRow) (told : Bool) (before waiting : List ℕ) → IsWritten pages rows 0 0 told before waiting before waiting
written_none pages rows told before waiting = record { moved = λ t. waits before (sym (append-nil waiting)); counted = refl }

module _ (pages : Pages) (rows : List SchemaRow) (i count : ℕ) (told : Bool) (before waiting after left : List ℕ) (so : IsWritten pages rows i count told before waiting after left) where
  whole : schema_rows_text pages rows ≡ schema_rows_text pages (take i rows) ++ schema_rows_text pages (drop i rows)
  whole = ap (schema_rows_text pages) (sym (take-append-drop i rows)) ∙ flat_map-append (kept_text pages) (take i rows) (drop i rows)

  -- a failure before the next row
  pub written_stopped : IsTrue told → MovesPart (schema_rows_text pages rows) before waiting after
  written_stopped t = restated_part (sym whole) (cut (schema_rows_text pages (drop i rows)) (record { lost = left; moves = so.moved t }))

  pub written_count : length rows ≤ i → count ≡ sum_by (row_count pages) rows
  written_count end = so.counted ∙ ap (sum_by (row_count pages)) (take_all i rows end)

  module _ (kept : SchemaRow) (less : i < length rows) (is : kept ≡ slice_index_or rows i kept) where
    one_more : take (i + 1) rows ≡ take i rows ++ kept ∷ []
    one_more = take_more rows i kept less ∙ ap (λ (r : SchemaRow). take i rows ++ r ∷ []) (sym is)

    text_more : schema_rows_text pages (take (i + 1) rows) ≡ schema_rows_text pages (take i rows) ++ kept_text pages kept
    text_more =
        ap (schema_rows_text pages) one_more ∙ flat_map-append (kept_text pages) (take i rows) (kept ∷ [])
        ∙ ap (λ l. schema_rows_text pages (take i rows) ++ l) (append-nil (kept_text pages kept))

    -- a failure in the next row
    pub written_failed : (after' : List ℕ) → (IsTrue told → MovesPart (kept_text pages kept) after left after') → IsTrue told → MovesPart (schema_rows_text pages rows) before waiting after'
    written_failed after' part t =
        restated_part (
        ap (λ l. l ++ schema_rows_text pages (drop (i + 1) rows)) (sym text_more)
        ∙ sym (flat_map-append (kept_text pages) (take (i + 1) rows) (drop (i + 1) rows))
        ∙ ap (schema_rows_text pages) (take-append-drop (i + 1) rows)
        ) (cut (schema_rows_text pages (drop (i + 1) rows)) (then_part (so.moved t) (part t)))

    count_more : sum_by (row_count pages) (take (i + 1) rows) ≡ sum_by (row_count pages) (take i rows) + row_count pages kept
    count_more =
        ap (sum_by (row_count pages)) one_more ∙ sum_by-append (row_count pages) (take i rows) (kept ∷ [])
        ∙ ap (λ n. sum_by (row_count pages) (take i rows) + n) (sum_by-cons (row_count pages) kept [] ∙ (omega arith))

    pub count_fits : IsSchemaOf pages rows → count + row_count pages kept < 2 ^ 64
    count_fits schema =
        let parted : sum_by (row_count pages) rows ≡ sum_by (row_count pages) (take (i + 1) rows) + sum_by (row_count pages) (drop (i + 1) rows) =
        ap (sum_by (row_count pages)) (sym (take-append-drop (i + 1) rows)) ∙ sum_by-append (row_count pages) (take (i + 1) rows) (drop (i + 1) rows) in
        omega (arith, so.counted, count_more, total_few pages rows schema)

    -- the next row
    pub written_on : (next : ℕ) → next ≡ count + row_count pages kept → (after' left' : List ℕ) → (IsTrue told → Moves (kept_text pages kept) after left after' left')
        → IsWritten pages rows (i + 1) next told before waiting after' left'
    written_on next is-next after' left' moved =
        record {
          moved = λ t. restated (sym text_more) (then (so.moved t) (moved t));
          counted = is-next ∙ ap (λ n. n + row_count pages kept) so.counted ∙ sym count_more;
        }

-- the rows that the census gives
pub schema_of : (pages : Pages) (kept rows : List SchemaRow) (entry_total : ℕ) → is_database pages ≡ true
    → kept ≡ map schema_row (entries (schema_part pages (also (places (freelist_walk pages nothing)) nothing)))
    → entry_total ≡ (counts pages).rows → entry_total < 2 ^ 64 → rows ≡ kept → IsSchemaOf pages rows
schema_of pages kept rows entry_total sound is total fits same =
    record {
      sound = sound;
      are = same ∙ is ∙ ap (map schema_row) (database_schema pages sound);
      few = omega (arith, total);
    }
