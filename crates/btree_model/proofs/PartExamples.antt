-- The parts of a database, computed on pages of 256 bytes.
use Rattle.std.proofs.Common.{◌≡◌, ℕ, zero, suc, true, List, [], ◌∷◌, ◌++◌, pos, Some, replicate, map, refl, unwrap_or}
use Rattle.std.specs.Prelude.{slice_get}
use Rattle.std.specs.Option.{option_map_or}
use Rattle.btree_page.specs.declared.kind.Family.TheVariants.{Table, Index}
use Rattle.db_format.specs.declared.defect.Defect.TheVariants.{TrunkFault, FreeCount, PageTwice, RecordFault, SchemaRow, RootFault}
use Rattle.db_format.specs.Pages.{Pages}
use Rattle.btree_model.specs.Finding.{Row, places}
use Rattle.db_format.specs.Record.{columns, values_in}
use Rattle.db_format.specs.Serial.{size_of, value_of}
use Rattle.db_format.specs.Varint.{varint}
use Rattle.btree_model.specs.Walk.{walk}
use Rattle.btree_model.specs.Tree.{tree}
use Rattle.db_format.specs.Value.Datum.{text}
use Rattle.btree_model.specs.Content.{content, with_tree, alone}
use Rattle.btree_model.specs.Parts.{parts, first_faults, is_database, counts}

-- page n of a list whose first page is page 1
abbrev listed : List (List ℕ) → ℕ → List ℕ
listed pages zero = []
listed pages (suc k) = unwrap_or (slice_get pages k) []

abbrev of_pages : List (List ℕ) → ℕ → Pages
of_pages pages count = record { count = count; usable = 256; page = listed pages; accepts = λ n. true }

abbrev zeros : List ℕ
zeros = replicate 256 0

abbrev page1 : List ℕ
page1 = replicate 35 0 ++ (3 ∷ 0 ∷ 0 ∷ 0 ∷ 2 ∷ []) ++ replicate 60 0 ++ (13 ∷ 0 ∷ 0 ∷ 0 ∷ 2 ∷ 0 ∷ 0 ∷ 0 ∷ 0 ∷ 239 ∷ 0 ∷ 223 ∷ []) ++ replicate 111 0 ++ (14 ∷ 2 ∷ 6 ∷ 23 ∷ 15 ∷ 15 ∷ 0 ∷ 15 ∷ 116 ∷ 97 ∷ 98 ∷ 108 ∷ 101 ∷ 116 ∷ 116 ∷ 120 ∷ 15 ∷ 1 ∷ 6 ∷ 23 ∷ 15 ∷ 15 ∷ 1 ∷ 15 ∷ 116 ∷ 97 ∷ 98 ∷ 108 ∷ 101 ∷ 116 ∷ 116 ∷ 2 ∷ 120 ∷ [])

abbrev rows : List ℕ
rows = (13 ∷ 0 ∷ 0 ∷ 0 ∷ 2 ∷ 0 ∷ 0 ∷ 0 ∷ 0 ∷ 251 ∷ 0 ∷ 246 ∷ []) ++ replicate 234 0 ++ (3 ∷ 6 ∷ 2 ∷ 1 ∷ 8 ∷ 3 ∷ 5 ∷ 2 ∷ 1 ∷ 7 ∷ [])

abbrev trunk : List ℕ
trunk = replicate 7 0 ++ (1 ∷ 0 ∷ 0 ∷ 0 ∷ 4 ∷ []) ++ replicate 244 0

abbrev own_trunk : List ℕ
own_trunk = (0 ∷ 0 ∷ 0 ∷ 3 ∷ 0 ∷ 0 ∷ 0 ∷ 1 ∷ 0 ∷ 0 ∷ 0 ∷ 4 ∷ []) ++ replicate 244 0

abbrev bad_trunk : List ℕ
bad_trunk = replicate 7 0 ++ (1 ∷ 0 ∷ 0 ∷ 0 ∷ 9 ∷ []) ++ replicate 244 0

abbrev own_tree : List ℕ
own_tree = replicate 7 0 ++ (1 ∷ 0 ∷ 0 ∷ 0 ∷ 2 ∷ []) ++ replicate 244 0

abbrev page1_short : List ℕ
page1_short = replicate 35 0 ++ (3 ∷ 0 ∷ 0 ∷ 0 ∷ 3 ∷ []) ++ replicate 60 0 ++ (13 ∷ 0 ∷ 0 ∷ 0 ∷ 2 ∷ 0 ∷ 0 ∷ 0 ∷ 0 ∷ 239 ∷ 0 ∷ 223 ∷ []) ++ replicate 111 0 ++ (14 ∷ 2 ∷ 6 ∷ 23 ∷ 15 ∷ 15 ∷ 0 ∷ 15 ∷ 116 ∷ 97 ∷ 98 ∷ 108 ∷ 101 ∷ 116 ∷ 116 ∷ 120 ∷ 15 ∷ 1 ∷ 6 ∷ 23 ∷ 15 ∷ 15 ∷ 1 ∷ 15 ∷ 116 ∷ 97 ∷ 98 ∷ 108 ∷ 101 ∷ 116 ∷ 116 ∷ 2 ∷ 120 ∷ [])

abbrev page1_twice : List ℕ
page1_twice = replicate 35 0 ++ (3 ∷ 0 ∷ 0 ∷ 0 ∷ 2 ∷ []) ++ replicate 60 0 ++ (13 ∷ 0 ∷ 0 ∷ 0 ∷ 2 ∷ 0 ∷ 0 ∷ 0 ∷ 0 ∷ 239 ∷ 0 ∷ 222 ∷ []) ++ replicate 110 0 ++ (15 ∷ 2 ∷ 6 ∷ 23 ∷ 15 ∷ 15 ∷ 1 ∷ 15 ∷ 116 ∷ 97 ∷ 98 ∷ 108 ∷ 101 ∷ 116 ∷ 116 ∷ 2 ∷ 120 ∷ 15 ∷ 1 ∷ 6 ∷ 23 ∷ 15 ∷ 15 ∷ 1 ∷ 15 ∷ 116 ∷ 97 ∷ 98 ∷ 108 ∷ 101 ∷ 116 ∷ 116 ∷ 2 ∷ 120 ∷ [])

abbrev page1_root : List ℕ
page1_root = replicate 35 0 ++ (3 ∷ 0 ∷ 0 ∷ 0 ∷ 2 ∷ []) ++ replicate 60 0 ++ (13 ∷ 0 ∷ 0 ∷ 0 ∷ 2 ∷ 0 ∷ 0 ∷ 0 ∷ 0 ∷ 239 ∷ 0 ∷ 223 ∷ []) ++ replicate 111 0 ++ (14 ∷ 2 ∷ 6 ∷ 23 ∷ 15 ∷ 15 ∷ 0 ∷ 15 ∷ 116 ∷ 97 ∷ 98 ∷ 108 ∷ 101 ∷ 116 ∷ 116 ∷ 120 ∷ 15 ∷ 1 ∷ 6 ∷ 23 ∷ 15 ∷ 15 ∷ 1 ∷ 15 ∷ 116 ∷ 97 ∷ 98 ∷ 108 ∷ 101 ∷ 116 ∷ 116 ∷ 9 ∷ 120 ∷ [])

abbrev page1_four : List ℕ
page1_four = replicate 35 0 ++ (3 ∷ 0 ∷ 0 ∷ 0 ∷ 2 ∷ []) ++ replicate 60 0 ++ (13 ∷ 0 ∷ 0 ∷ 0 ∷ 2 ∷ 0 ∷ 0 ∷ 0 ∷ 0 ∷ 239 ∷ 0 ∷ 225 ∷ []) ++ replicate 113 0 ++ (12 ∷ 2 ∷ 5 ∷ 23 ∷ 15 ∷ 15 ∷ 0 ∷ 116 ∷ 97 ∷ 98 ∷ 108 ∷ 101 ∷ 116 ∷ 116 ∷ 15 ∷ 1 ∷ 6 ∷ 23 ∷ 15 ∷ 15 ∷ 1 ∷ 15 ∷ 116 ∷ 97 ∷ 98 ∷ 108 ∷ 101 ∷ 116 ∷ 116 ∷ 2 ∷ 120 ∷ [])

abbrev no_record : List ℕ
no_record = (13 ∷ 0 ∷ 0 ∷ 0 ∷ 1 ∷ 0 ∷ 0 ∷ 0 ∷ 0 ∷ 252 ∷ []) ++ replicate 242 0 ++ (2 ∷ 5 ∷ 9 ∷ 1 ∷ [])

abbrev index_root : List ℕ
index_root = (2 ∷ 0 ∷ 0 ∷ 0 ∷ 1 ∷ []) ++ replicate 6 0 ++ (5 ∷ 0 ∷ 248 ∷ []) ++ replicate 237 0 ++ (4 ∷ 3 ∷ 2 ∷ 1 ∷ 2 ∷ [])

abbrev index_low : List ℕ
index_low = (10 ∷ 0 ∷ 0 ∷ 0 ∷ 1 ∷ 0 ∷ 0 ∷ 0 ∷ 0 ∷ 252 ∷ []) ++ replicate 242 0 ++ (3 ∷ 2 ∷ 1 ∷ 1 ∷ [])

abbrev index_high : List ℕ
index_high = (10 ∷ 0 ∷ 0 ∷ 0 ∷ 2 ∷ 0 ∷ 0 ∷ 0 ∷ 0 ∷ 252 ∷ 0 ∷ 248 ∷ []) ++ replicate 236 0 ++ (3 ∷ 2 ∷ 1 ∷ 4 ∷ 3 ∷ 2 ∷ 1 ∷ 3 ∷ [])

-- page 1 the schema, page 2 a table of two rows, page 3 a trunk with the leaf 4, page 5 unused
abbrev sound : Pages
sound = of_pages (page1 ∷ rows ∷ trunk ∷ zeros ∷ zeros ∷ []) 5

pub sound_is : is_database sound ≡ true
unfolding walk columns values_in varint value_of size_of
sound_is = refl

pub sound_parts : map places (parts sound) ≡ (3 ∷ 4 ∷ []) ∷ (1 ∷ []) ∷ (2 ∷ []) ∷ []
unfolding walk columns values_in varint value_of size_of
sound_parts = refl

pub sound_counts : counts sound ≡ record { trees = 2; rows = 4; free = 2; unused = 1 }
unfolding walk columns values_in varint value_of size_of
sound_counts = refl

pub trunk_twice : first_faults (parts (of_pages (page1 ∷ rows ∷ own_trunk ∷ zeros ∷ zeros ∷ []) 5)) ≡ PageTwice 3 ∷ []
unfolding walk columns values_in varint value_of size_of
trunk_twice = refl

pub leaf_out_of_range : first_faults (parts (of_pages (page1 ∷ rows ∷ bad_trunk ∷ zeros ∷ zeros ∷ []) 5)) ≡ TrunkFault 3 ∷ []
unfolding walk columns values_in varint value_of size_of
leaf_out_of_range = refl

-- the table's root is a leaf of the freelist: its third part has the page twice
pub free_and_used : first_faults (parts (of_pages (page1 ∷ rows ∷ own_tree ∷ zeros ∷ zeros ∷ []) 5)) ≡ PageTwice 2 ∷ []
unfolding walk columns values_in varint value_of size_of
free_and_used = refl

pub wrong_count : first_faults (parts (of_pages (page1_short ∷ rows ∷ trunk ∷ zeros ∷ zeros ∷ []) 5)) ≡ FreeCount 3 2 ∷ []
unfolding walk columns values_in varint value_of size_of
wrong_count = refl

pub root_twice : first_faults (parts (of_pages (page1_twice ∷ rows ∷ trunk ∷ zeros ∷ zeros ∷ []) 5)) ≡ PageTwice 2 ∷ []
unfolding walk columns values_in varint value_of size_of
root_twice = refl

pub root_out_of_range : first_faults (parts (of_pages (page1_root ∷ rows ∷ trunk ∷ zeros ∷ zeros ∷ []) 5)) ≡ RootFault (pos 1) ∷ []
unfolding walk columns values_in varint value_of size_of
root_out_of_range = refl

pub four_columns : first_faults (parts (of_pages (page1_four ∷ rows ∷ trunk ∷ zeros ∷ zeros ∷ []) 5)) ≡ SchemaRow (pos 2) ∷ []
unfolding walk columns values_in varint value_of size_of
four_columns = refl

pub no_columns : first_faults (parts (of_pages (page1 ∷ no_record ∷ trunk ∷ zeros ∷ zeros ∷ []) 5)) ≡ RecordFault 2 ∷ []
unfolding walk columns values_in varint value_of size_of
no_columns = refl

-- what the database holds
pub sound_content : content sound ≡ record {
  kept = 0 ∷ 0 ∷ 0 ∷ 0 ∷ 0 ∷ 0 ∷ 0 ∷ [];
  rows = with_tree (pos 1) (text (116 ∷ 97 ∷ 98 ∷ 108 ∷ 101 ∷ []) ∷ text (116 ∷ []) ∷ text (116 ∷ []) ∷ text (120 ∷ []) ∷ []) Table
      (record { rowid = Some (pos 5); payload = 2 ∷ 1 ∷ 7 ∷ [] } ∷ record { rowid = Some (pos 6); payload = 2 ∷ 1 ∷ 8 ∷ [] } ∷ [])
      ∷ alone (pos 2) (6 ∷ 23 ∷ 15 ∷ 15 ∷ 0 ∷ 15 ∷ 116 ∷ 97 ∷ 98 ∷ 108 ∷ 101 ∷ 116 ∷ 116 ∷ 120 ∷ []) ∷ [];
}
unfolding walk columns values_in varint value_of size_of
sound_content = refl

-- an index: left child, cell, right child
pub index_order : option_map_or (map (λ (r : Row). r.payload)) (tree (of_pages (zeros ∷ zeros ∷ index_root ∷ index_low ∷ index_high ∷ []) 5) Index 3) []
    ≡ (2 ∷ 1 ∷ 1 ∷ []) ∷ (2 ∷ 1 ∷ 2 ∷ []) ∷ (2 ∷ 1 ∷ 3 ∷ []) ∷ (2 ∷ 1 ∷ 4 ∷ []) ∷ []
unfolding walk columns values_in varint value_of size_of
index_order = refl
