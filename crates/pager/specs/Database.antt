-- The database of a file under its keys, as it is stored.
use Rattle.std.specs.Prelude.{ℕ, List, map, length, nat_lt, Option, Some, None, Result, Ok, Err, if◌then◌else◌}
use Rattle.std.specs.List.{range_with_len}
use Rattle.db_format.specs.Count.{count_of_pages}
use Rattle.db_format.specs.declared.count.CountRefusal.{CountRefusal}
use Rattle.db_format.specs.declared.header.Header.{Header}
use Rattle.db_format.specs.declared.header.HeaderRefusal.{HeaderRefusal}
use Rattle.db_format.specs.Header.{header_read_as}
use Rattle.page_codec.specs.Page.{FileKeys, opened}
use Rattle.pager.specs.File.{page_stored}

abbrev pub ok_count : Result ℕ CountRefusal → Option ℕ
ok_count (Ok count) = Some count
ok_count (Err refusal) = None

abbrev pub counted : ℕ → Result Header HeaderRefusal → Option ℕ
counted len (Err refusal) = None
counted len (Ok header) = ok_count (count_of_pages header len)

-- the count of pages by page 1 as it is stored and the length of the file, none where there is a refusal
abbrev pub count_by : FileKeys → List ℕ → ℕ → Option ℕ
count_by keys first len =
    if nat_lt len keys.profile.page_size then None
    else counted len (header_read_as keys.profile.reads_log (opened keys 1 first) keys.profile.page_size keys.profile.reserve)

abbrev pub count_of : FileKeys → List ℕ → Option ℕ
count_of keys file = count_by keys (page_stored keys file 1) (length file)

-- a database as it is stored: its pages, or the whole file where it has no count
pub data Stored : Type 0 where
  stored_pages : List (List ℕ) → Stored
  uncounted : List ℕ → Stored

abbrev pub stored_by : FileKeys → List ℕ → Option ℕ → Stored
stored_by keys file None = uncounted file
stored_by keys file (Some count) = stored_pages (map (page_stored keys file) (range_with_len 1 count))

-- the database of a file
abbrev pub database : FileKeys → List ℕ → Stored
database keys file = stored_by keys file (count_of keys file)
