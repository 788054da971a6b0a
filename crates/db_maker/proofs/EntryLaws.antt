-- The entries of a made database as records.
use Rattle.std.proofs.Common.{◌≡◌, ◌≤◌, ◌<◌, ℕ, zero, suc, ◌+◌, ◌*◌, ◌^◌, ◌%◌, pos, true, List, [], ◌++◌, Some, map, length, refl, ap, ◌∙◌, arith, length-append}
use Rattle.std.specs.Prelude.{is_some}
use Rattle.std.specs.Cmp.Derive.{both_true}
use Rattle.std.specs.List.{list_all, range_with_len}
use Rattle.std.proofs.lemmas.List.FromFn.{length-map-range_with_len}
use Rattle.db_format.specs.Record.{columns}
use Rattle.btree_page.specs.Payload.{max_payload}
use Rattle.db_format.specs.Row.{AreStorable, body_written, datum_bytes, record_bytes, types_written}
use Rattle.db_format.specs.Value.{Datum}
use Rattle.db_format.specs.Value.Datum.{int}
use Rattle.db_format.proofs.RelationLemmas.{columns-IsRecordOf}
use Rattle.db_format.proofs.RowLemmas.{IsRecordOf-record_bytes}
use Rattle.bulk_load.specs.Found.{is_record}
use Rattle.db_maker.specs.declared.part.Part.{Part}
use Rattle.db_maker.specs.declared.part.Part.TheVariants.{Items, Names, Codes}
use Rattle.db_maker.specs.Parts.{entries_in, entry_in, part_values, view_values}
use Rattle.db_maker.specs.Rows.{code_name, code_values, data_byte, data_bytes, data_len, item_name, item_values, name_values}
use Rattle.db_maker.proofs.RowLaws.{number_short, record_short, types_short}

-- a few values in memory are read back
pub values_read : (values : List Datum) → AreStorable values → length values ≤ 1000 → columns (record_bytes values) ≡ Some values
values_read values storable few =
    let short : length (types_written values) ≤ 9 * length values = types_short values in
    columns-IsRecordOf (record_bytes values) values (IsRecordOf-record_bytes values storable (omega arith))

data_short : (i : ℕ) → 12 + 2 * length (data_bytes i) < 2 ^ 64
data_short i =
    let long : length (data_bytes i) ≡ i % 10 * 500 = length-map-range_with_len (data_byte i) 0 (data_len i) in
    let few : i % 10 < 10 = omega arith in
    omega arith

data_small : (i : ℕ) → i % 10 * 500 < 2 ^ 63
data_small i = let few : i % 10 < 10 = omega arith in omega arith

entry_read : (part : Part) (i : ℕ) → i < 2 ^ 63 → is_record (entry_in part i) ≡ true
entry_read Items i small = ap is_some (values_read (item_values i) (tt, (omega arith, (data_short i, (data_small i, tt)))) (omega arith))
entry_read Names i small = ap is_some (values_read (name_values i) (omega arith, (small, tt)) (omega arith))
entry_read Codes i small = ap is_some (values_read (code_values i) (omega arith, (small, tt)) (omega arith))

pub entry_short : (part : Part) (i : ℕ) → i < 2 ^ 63 → length (entry_in part i).payload ≤ max_payload
entry_short Items i small =
    let long : length (data_bytes i) ≡ i % 10 * 500 = length-map-range_with_len (data_byte i) 0 (data_len i) in
    let few : i % 10 < 10 = omega arith in
    let number : length (datum_bytes (int (pos (data_len i)))) ≤ 8 = number_short (data_len i) (data_small i) in
    let name : length (item_name i) ≡ 15 = refl in
    let body : length (body_written (item_values i)) ≡ length (item_name i) + (length (data_bytes i) + (length (datum_bytes (int (pos (data_len i)))) + 0)) =
    length-append (item_name i) (data_bytes i ++ (datum_bytes (int (pos (data_len i))) ++ []))
    ∙ ap (λ n. length (item_name i) + n)
    (length-append (data_bytes i) (datum_bytes (int (pos (data_len i))) ++ []) ∙ ap (λ n. length (data_bytes i) + n) (length-append (datum_bytes (int (pos (data_len i)))) [])) in
    let whole : length (record_bytes (item_values i)) ≤ 9 + 9 * 4 + length (body_written (item_values i)) = record_short (item_values i) in
    omega arith
entry_short Names i small =
    let number : length (datum_bytes (int (pos i))) ≤ 8 = number_short i small in
    let name : length (item_name i) ≡ 15 = refl in
    let body : length (body_written (name_values i)) ≡ length (item_name i) + (length (datum_bytes (int (pos i))) + 0) =
    length-append (item_name i) (datum_bytes (int (pos i)) ++ []) ∙ ap (λ n. length (item_name i) + n) (length-append (datum_bytes (int (pos i))) []) in
    let whole : length (record_bytes (name_values i)) ≤ 9 + 9 * 2 + length (body_written (name_values i)) = record_short (name_values i) in
    omega arith
entry_short Codes i small =
    let number : length (datum_bytes (int (pos i))) ≤ 8 = number_short i small in
    let name : length (code_name i) ≡ 11 = refl in
    let body : length (body_written (code_values i)) ≡ length (code_name i) + (length (datum_bytes (int (pos i))) + 0) =
    length-append (code_name i) (datum_bytes (int (pos i)) ++ []) ∙ ap (λ n. length (code_name i) + n) (length-append (datum_bytes (int (pos i))) []) in
    let whole : length (record_bytes (code_values i)) ≤ 9 + 9 * 2 + length (body_written (code_values i)) = record_short (code_values i) in
    omega arith

all_read : (part : Part) (from len : ℕ) → from + len ≤ 2 ^ 63 → list_all is_record (map (entry_in part) (range_with_len from len)) ≡ true
all_read part from zero small = refl
all_read part from (suc len) small = both_true (entry_read part from (omega arith)) (all_read part (from + 1) len (omega arith))

pub entries_read : (part : Part) (rows : ℕ) → rows < 2 ^ 32 → list_all is_record (entries_in part rows) ≡ true
entries_read part rows small = all_read part 1 rows (omega arith)

-- ---- the schema

pub row_read : (part : Part) (root : ℕ) → root < 2 ^ 63 → columns (record_bytes (part_values part root)) ≡ Some (part_values part root)
row_read Items root small = values_read (part_values Items root) (omega arith, (omega arith, (omega arith, (small, (omega arith, tt))))) (omega arith)
row_read Names root small = values_read (part_values Names root) (omega arith, (omega arith, (omega arith, (small, (omega arith, tt))))) (omega arith)
row_read Codes root small = values_read (part_values Codes root) (omega arith, (omega arith, (omega arith, (small, (omega arith, tt))))) (omega arith)

pub view_read : columns (record_bytes view_values) ≡ Some view_values
view_read = values_read view_values (omega arith, (omega arith, (omega arith, (omega arith, (omega arith, tt))))) (omega arith)
