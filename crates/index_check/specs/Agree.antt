-- Whether the entries of an index belong to the rows of its table, by rowids alone (Database File Format, section 2.4): the last
-- value of an entry is the rowid of its row.
use Rattle.std.specs.Prelude.{◌≡◌, ℕ, ℤ, ◌-◌, Bool, true, false, not, All, count_by, sum_by, List, [], ◌∷◌, map, length, slice_index_or, Option, Some, None, is_some, int_le, option_to_list, flat_map, filter, if◌then◌else◌}
use Rattle.std.specs.List.{list_any}
use Rattle.std.specs.Option.{option_map_or}
use Rattle.std.specs.Ordering.{int_eq}
use Rattle.db_format.specs.Record.{columns}
use Rattle.db_format.specs.Value.{Datum}
use Rattle.db_format.specs.Value.Datum.{null, int, float, text, blob}
use Rattle.btree_model.specs.Finding.{Row}

abbrev pub int_of : Datum → Option ℤ
int_of null = None
int_of (int number) = Some number
int_of (float bytes) = None
int_of (text bytes) = None
int_of (blob bytes) = None

-- the last of these values, where it is an integer
abbrev pub last_int : List Datum → Option ℤ
last_int values = int_of (slice_index_or values (length values - 1) null)

-- the rowid that a record ends with
abbrev pub owner_of : Option (List Datum) → Option ℤ
owner_of None = None
owner_of (Some values) = last_int values

-- the rowids to which the entries of an index belong, each None where it ends in no integer
abbrev pub owners : List Row → List (Option ℤ)
owners entries = map (λ (entry : Row). owner_of (columns entry.payload)) entries

-- the rowids of a table
abbrev pub rowids : List Row → List ℤ
rowids rows = flat_map (λ (row : Row). option_to_list row.rowid) rows

-- the entry belongs to this row
abbrev pub is_of : ℤ → Option ℤ → Bool
is_of rowid owner = option_map_or (λ own. int_eq own rowid) owner false

-- some entry belongs to this row
abbrev pub has_entry : List (Option ℤ) → ℤ → Bool
has_entry owners rowid = list_any (is_of rowid) owners

-- some row has this entry
abbrev pub has_row : List ℤ → Option ℤ → Bool
has_row rows owner = list_any (λ rowid. is_of rowid owner) rows

-- the rows to which no entry belongs
abbrev pub missing : List ℤ → List (Option ℤ) → List ℤ
missing rows owners = filter (λ rowid. not (has_entry owners rowid)) rows

-- the rowids of the entries that end with one which no row has
abbrev pub strangers : List ℤ → List (Option ℤ) → List ℤ
strangers rows owners = filter (λ rowid. not (has_row rows (Some rowid))) (flat_map option_to_list owners)

-- the entries that end in no integer
abbrev pub nameless : List (Option ℤ) → List (Option ℤ)
nameless owners = filter (λ owner. not (is_some owner)) owners

-- how many entries belong to this row
abbrev pub entries_of : List (Option ℤ) → ℤ → ℕ
entries_of owners rowid = count_by (is_of rowid) owners

-- how many entries there are of all rows beyond one a row
abbrev pub beyond : List ℤ → List (Option ℤ) → ℕ
beyond rows owners = sum_by (λ rowid. entries_of owners rowid - 1) rows

-- each row has one entry, and each entry has a row
pub record IsOneForOne (rows : List ℤ) (owners : List (Option ℤ)) : Type 0 where
  pub one : All (λ rowid. entries_of owners rowid ≡ 1) rows
  pub known : All (λ owner. has_row rows owner ≡ true) owners

-- ---- the least of some rowids

-- the lesser of two, where there are two
abbrev pub lesser : Option ℤ → Option ℤ → Option ℤ
lesser None other = other
lesser (Some rowid) None = Some rowid
lesser (Some rowid) (Some other) = if int_le rowid other then Some rowid else Some other

abbrev pub least : List ℤ → Option ℤ
least [] = None
least (rowid ∷ rowids) = lesser (Some rowid) (least rowids)
