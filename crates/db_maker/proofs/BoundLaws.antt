-- How many pages a made database has at most, by the count of its rows.
use Rattle.std.proofs.Common.{◌≡◌, ◌≤◌, ◌<◌, ◌+◌, ◌-◌, ◌*◌, ◌/◌, ◌%◌, ◌^◌, ◌==◌, ℕ, zero, suc, Bool, true, false, List, [], ◌++◌, pos, length, map, refl, ap, ◌∙◌, arith, length-append, if◌then◌else◌}
use Rattle.std.specs.Prelude.{sum}
use Rattle.std.specs.List.{range_with_len}
use Rattle.std.proofs.Math.Nat.{min-le_left}
use Rattle.std.proofs.lemmas.List.FromFn.{length-map-range_with_len}
use Rattle.std.proofs.lemmas.List.Sums.{sum_by-cons}
use Rattle.std.proofs.lemmas.Nat.{div_below}
use Rattle.btree_model.specs.Content.{Entry}
use Rattle.btree_page.specs.Payload.{local_len, most_local}
use Rattle.btree_page.specs.declared.kind.Family.TheVariants.{Index, Table}
use Rattle.bulk_load.specs.Bound.{chain_pages, tree_pages, weights}
use Rattle.bulk_load.specs.Count.{overflow_pages, pages_for}
use Rattle.db_format.specs.Row.{body_written, datum_bytes, record_bytes}
use Rattle.db_format.specs.Value.Datum.{int}
use Rattle.db_maker.specs.Pages.{made_pages, part_pages}
use Rattle.db_maker.specs.Parts.{entries_in, entry_in, family_in}
use Rattle.db_maker.specs.Rows.{code_name, code_values, data_byte, data_bytes, data_len, item_name, item_values, name_values}
use Rattle.db_maker.specs.declared.part.Part.{Part}
use Rattle.db_maker.specs.declared.part.Part.TheVariants.{Items, Names, Codes}
use Rattle.db_maker.proofs.RowLaws.{number_short, record_short}
use Rattle.db_maker.proofs.SchemaLaws.{local_whole, no_pages}

-- ---- how long an entry is

item_len : (i : ℕ) → length (entry_in Items i).payload ≤ 4568
item_len i =
    let long : length (data_bytes i) ≡ i % 10 * 500 = length-map-range_with_len (data_byte i) 0 (data_len i) in
    let few : i % 10 < 10 = omega arith in
    let number : length (datum_bytes (int (pos (data_len i)))) ≤ 8 = number_short (data_len i) (omega (arith, few)) in
    let name : length (item_name i) ≡ 15 = refl in
    let whole : length (record_bytes (item_values i)) ≤ 9 + 9 * 4 + length (body_written (item_values i)) = record_short (item_values i) in
    omega (
      arith,
      whole,
      number,
      long,
      few,
      length-append (item_name i) (data_bytes i ++ (datum_bytes (int (pos (data_len i))) ++ [])),
      length-append (data_bytes i) (datum_bytes (int (pos (data_len i))) ++ []),
      length-append (datum_bytes (int (pos (data_len i)))) [],
    )

name_len : (i : ℕ) → i < 2 ^ 63 → length (entry_in Names i).payload ≤ 50
name_len i small =
    let number : length (datum_bytes (int (pos i))) ≤ 8 = number_short i small in
    let whole : length (record_bytes (name_values i)) ≤ 9 + 9 * 2 + length (body_written (name_values i)) = record_short (name_values i) in
    omega (arith, whole, number, length-append (item_name i) (datum_bytes (int (pos i)) ++ []), length-append (datum_bytes (int (pos i))) [])

code_len : (i : ℕ) → i < 2 ^ 63 → length (entry_in Codes i).payload ≤ 50
code_len i small =
    let number : length (datum_bytes (int (pos i))) ≤ 8 = number_short i small in
    let whole : length (record_bytes (code_values i)) ≤ 9 + 9 * 2 + length (body_written (code_values i)) = record_short (code_values i) in
    omega (arith, whole, number, length-append (code_name i) (datum_bytes (int (pos i)) ++ []), length-append (datum_bytes (int (pos i))) [])

-- ---- its overflow pages

at_most_one : (none : Bool) → (if none then 0 else 1) ≤ 1
at_most_one true = omega arith
at_most_one false = omega arith

-- fewer bytes than so many pages have
pages_few : (size bytes most : ℕ) → 1 ≤ size → bytes < most * size → pages_for size bytes ≤ most
pages_few size bytes most some few =
    let whole : bytes / size < most = div_below bytes size most (omega arith) few in
    let rest : (if bytes % size == 0 then 0 else 1) ≤ 1 = at_most_one (bytes % size == 0) in
    omega arith

item_chain : (usable i : ℕ) → 512 ≤ usable → overflow_pages Table usable (length (entry_in Items i).payload) ≤ 9
item_chain usable i large =
    let len : ℕ = length (entry_in Items i).payload in
    let short : len ≤ 4568 = item_len i in
    pages_few (usable - 4) (len - local_len Table usable len) 9 (omega arith) (omega (arith, short, large))

-- a payload that fits stays in its cell
no_chain : (usable len : ℕ) → 512 ≤ usable → len ≤ 50 → overflow_pages Index usable len ≡ 0
no_chain usable len large few = whole (local_len Index usable len) (local_whole len (most_local Index usable) _ (omega arith))
  where
    whole : (local : ℕ) → local ≡ len → pages_for (usable - 4) (len - local) ≡ 0
    whole local is = let none : len - local ≡ 0 = omega arith in ap (pages_for (usable - 4)) none ∙ no_pages (usable - 4) (omega arith)

-- ---- the pages of a tree

-- each of these entries has so many at most
chains_few : (part : Part) (usable most from rows : ℕ) → ((i : ℕ) → i < from + rows → overflow_pages (family_in part) usable (length (entry_in part i).payload) ≤ most)
    → chain_pages (family_in part) usable (map (entry_in part) (range_with_len from rows)) ≤ most * rows
chains_few part usable most from zero each = omega arith
chains_few part usable most from (suc rows) each =
    let chain = λ (e : Entry). overflow_pages (family_in part) usable (length e.payload) in
    let rest : List Entry = map (entry_in part) (range_with_len (from + 1) rows) in
    let here : chain (entry_in part from) ≤ most = each from (omega arith) in
    let later : sum (map chain rest) ≤ most * rows = chains_few part usable most (from + 1) rows (λ i less. each i (omega (arith, less))) in
    omega (arith, here, later, sum_by-cons (λ (n : ℕ). n) (chain (entry_in part from)) (map chain rest))

tree_few : (part : Part) (usable most rows : ℕ) → ((i : ℕ) → i < 1 + rows → overflow_pages (family_in part) usable (length (entry_in part i).payload) ≤ most)
    → part_pages usable part rows ≤ 2 * rows + 1 + most * rows
tree_few part usable most rows each =
    let many : length (entries_in part rows) ≡ rows = length-map-range_with_len (entry_in part) 1 rows in
    let entries : List Entry = entries_in part rows in
    let tree : tree_pages (family_in part) usable entries ≤ 2 * length entries + 1 =
    min-le_left (2 * length entries + 1) (3 * weights (family_in part) usable entries / usable + 64) in
    let chains : chain_pages (family_in part) usable entries ≤ most * rows = chains_few part usable most 1 rows each in
    omega (arith, many, tree, chains)

-- a made database has 15 pages for each row and 13 at most
pub made_few : (usable rows : ℕ) → 512 ≤ usable → rows < 2 ^ 32 → made_pages usable rows ≤ 15 * rows + 13
made_few usable rows large small =
    let items : part_pages usable Items rows ≤ 2 * rows + 1 + 9 * rows = tree_few Items usable 9 rows (λ i less. item_chain usable i large) in
    let names : part_pages usable Names rows ≤ 2 * rows + 1 + 0 * rows =
    tree_few Names usable 0 rows (λ i less. omega (arith, no_chain usable (length (entry_in Names i).payload) large (name_len i (omega (arith, less, small))))) in
    let codes : part_pages usable Codes rows ≤ 2 * rows + 1 + 0 * rows =
    tree_few Codes usable 0 rows (λ i less. omega (arith, no_chain usable (length (entry_in Codes i).payload) large (code_len i (omega (arith, less, small))))) in
    omega (arith, items, names, codes)
