-- The rows of a made database, by their number from 1 on.
use Rattle.std.specs.Prelude.{ℕ, ◌+◌, ◌*◌, ◌/◌, ◌%◌, pos, List, [], ◌∷◌, ◌++◌, codes, map, sum}
use Rattle.std.specs.List.{range_with_len}
use Rattle.db_format.specs.Value.{Datum}
use Rattle.db_format.specs.Value.Datum.{null, int, text, blob}

-- the decimal digit of a number at 1, 10, 100 and so on, as a character
abbrev pub digit : ℕ → ℕ → ℕ
digit i unit = 48 + i / unit % 10

-- a number in ten digits, with zeros in front
abbrev pub ten_digits : ℕ → List ℕ
ten_digits i =
    map (digit i) (1000000000 ∷ 100000000 ∷ 10000000 ∷ 1000000 ∷ 100000 ∷ 10000 ∷ 1000 ∷ 100 ∷ 10 ∷ 1 ∷ [])

abbrev pub item_name : ℕ → List ℕ
item_name i = codes "item-" ++ ten_digits i

abbrev pub code_name : ℕ → List ℕ
code_name i = codes "c" ++ ten_digits i

-- how many bytes the data of an item has
abbrev pub data_len : ℕ → ℕ
data_len i = i % 10 * 500

abbrev pub data_byte : ℕ → ℕ → ℕ
data_byte i k = (i + k) % 256

abbrev pub data_bytes : ℕ → List ℕ
data_bytes i = map (data_byte i) (range_with_len 0 (data_len i))

-- a row of the table `items`: the rowid stands for its first column
abbrev pub item_values : ℕ → List Datum
item_values i = null ∷ text (item_name i) ∷ blob (data_bytes i) ∷ int (pos (data_len i)) ∷ []

-- an entry of its index
abbrev pub name_values : ℕ → List Datum
name_values i = text (item_name i) ∷ int (pos i) ∷ []

-- a row of the table `codes`, which has no rowid
abbrev pub code_values : ℕ → List Datum
code_values i = text (code_name i) ∷ int (pos i) ∷ []

-- what the data of so many items have together
abbrev pub total_len : ℕ → ℕ
total_len rows = sum (map data_len (range_with_len 1 rows))
