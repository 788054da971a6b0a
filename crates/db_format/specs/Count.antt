-- The count of a database's pages (Database File Format, section 1.3.7, "In-header database size").
use Rattle.std.specs.Prelude.{ℕ, ◌*◌, ◌/◌, ◌%◌, ◌^◌, ◌==◌, ◌&&◌, nat_lt, not, Bool, List, [], ◌∷◌, Result, if◌then◌else◌}
use Rattle.db_format.specs.declared.count.CountRefusal.{CountRefusal}
use Rattle.db_format.specs.declared.count.CountRefusal.TheVariants.{Ragged, TooLarge, Short}
use Rattle.db_format.specs.declared.header.Header.{Header}
use Rattle.db_format.specs.Rules.{Rule, unless_broken}

-- the largest database that is read, in bytes
abbrev pub largest_database : ℕ
largest_database = 2 ^ 30

-- the size in the header counts: it is not 0, and the last change of the file set it too
abbrev pub size_counts : Header → Bool
size_counts header = not (header.size_field == 0) && (header.change == header.valid_for)

-- the number of pages of a file of this many bytes
abbrev pub page_count : Header → ℕ → ℕ
page_count header len = if size_counts header then header.size_field else len / header.page_size

-- the rules of the count, each with what it asks for
abbrev pub count_rules : Header → ℕ → List (Rule CountRefusal)
count_rules header len =
    -- where the size in the header does not count, the file is whole pages
    (not (size_counts header) && not (len % header.page_size == 0), Ragged len)
    -- the database is not too large
    ∷ (nat_lt largest_database (page_count header len * header.page_size), TooLarge (page_count header len))
    -- the file has all of its pages; bytes past the last one are passed over
    ∷ (nat_lt len (page_count header len * header.page_size), Short len)
    ∷ []

-- the count of pages of a file of this many bytes, or why it has none
abbrev pub count_of_pages : Header → ℕ → Result ℕ CountRefusal
count_of_pages header len = unless_broken (count_rules header len) (page_count header len)
