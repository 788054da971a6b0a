-- What opening a file comes to: its header and the count of its pages, or the first thing that stands in the way.
--
-- | looked at, in this order                      | answer                           |
-- | the file has no byte, or is absent            | Empty                            |
-- | it is shorter than a page                     | Short                            |
-- | the key does not fit page 1                   | KeyRefused                       |
-- | the rules of the header, by their offsets     | HeaderFault, WalMode, AutoVacuum |
-- | the rules of the count of pages               | Ragged, TooLarge, Short          |
use Rattle.std.specs.Prelude.{ℕ, ◌≡◌, ◌==◌, ◌⊎◌, not, nat_lt, List, [], ◌∷◌, length, IsOk, Option, Some, None, Result, Ok, Err, if◌then◌else◌}
use Rattle.edge_model.specs.Files.{Files}
use Rattle.db_format.specs.Count.{count_of_pages}
use Rattle.db_format.specs.Header.{header_read_as}
use Rattle.db_format.specs.Rules.{Rule}
use Rattle.db_format.specs.declared.count.CountRefusal.{CountRefusal}
use Rattle.db_format.specs.declared.count.CountRefusal.TheVariants as count
use Rattle.db_format.specs.declared.header.Header.{Header}
use Rattle.db_format.specs.declared.header.HeaderRefusal.{HeaderRefusal}
use Rattle.db_format.specs.declared.header.HeaderRefusal.TheVariants as header
use Rattle.page_codec.specs.Page.{FileKeys, fits, opened}
use Rattle.pager.specs.File.{first_page}
use Rattle.pager.specs.declared.opening.OpenError.{OpenError}
use Rattle.pager.specs.declared.opening.OpenError.TheVariants.{Empty, Short, KeyRefused, HeaderFault, WalMode, AutoVacuum, Ragged, TooLarge, DiskFault, OutOfMemory}

-- a file that opens: its header, and the count of its pages
pub record Opened : Type 0 where
  pub header : Header
  pub count : ℕ

-- a broken rule of the header
abbrev pub header_error : HeaderRefusal → OpenError
header_error (header.HeaderFault offset found) = HeaderFault offset found
header_error header.WalMode = WalMode
header_error header.AutoVacuum = AutoVacuum

-- a broken rule of the count of pages
abbrev pub count_error : CountRefusal → OpenError
count_error (count.Ragged len) = Ragged len
count_error (count.TooLarge pages) = TooLarge pages
count_error (count.Short len) = Short len

abbrev pub with_count : Header → Result ℕ CountRefusal → Result Opened OpenError
with_count header (Ok count) = Ok (record { header = header; count = count })
with_count header (Err refusal) = Err (count_error refusal)

-- the header of a file of this many bytes, with the count of its pages
abbrev pub with_header : ℕ → Result Header HeaderRefusal → Result Opened OpenError
with_header len (Ok header) = with_count header (count_of_pages header len)
with_header len (Err refusal) = Err (header_error refusal)

-- the header of a file under these keys
abbrev pub file_header : FileKeys → List ℕ → Result Header HeaderRefusal
file_header keys file = header_read_as keys.profile.reads_log (opened keys 1 (first_page keys.profile file)) keys.profile.page_size keys.profile.reserve

-- what is looked at before the header, each with its answer
abbrev pub length_rules : ℕ → List ℕ → List (Rule OpenError)
length_rules page_size file = (length file == 0, Empty) ∷ (nat_lt (length file) page_size, Short (length file)) ∷ []

abbrev pub key_rules : FileKeys → List ℕ → List (Rule OpenError)
key_rules keys file = (not (fits keys (first_page keys.profile file)), KeyRefused) ∷ []

-- the answer of the first rule that is broken, none where none is
abbrev pub first_broken : List (Rule OpenError) → Option OpenError
first_broken [] = None
first_broken ((broken, error) ∷ later) = if broken then Some error else first_broken later

abbrev pub unless : Option OpenError → Result Opened OpenError → Result Opened OpenError
unless None opened = opened
unless (Some error) opened = Err error

-- what opening a file of this many bytes comes to, where this is its stored page 1
abbrev pub first_opened : FileKeys → List ℕ → ℕ → Result Opened OpenError
first_opened keys first len =
    if not (fits keys first) then Err KeyRefused else with_header len (header_read_as keys.profile.reads_log (opened keys 1 first) keys.profile.page_size keys.profile.reserve)

-- what opening the file comes to
abbrev pub file_opened : FileKeys → List ℕ → Result Opened OpenError
file_opened keys file =
    unless (first_broken (length_rules keys.profile.page_size file))
    (unless (first_broken (key_rules keys file)) (with_header (length file) (file_header keys file)))

-- no journal is there
abbrev pub HasNoJournal : Files → Type 0
HasNoJournal image = image.journal ≡ None

-- why a file was not opened: what stands in the way, a fault of the disk, or want of memory for a file that opens
abbrev pub IsRefusedBy : Result Opened OpenError → OpenError → Type 0
IsRefusedBy comes_to error = (error ≡ DiskFault) ⊎ ((error ≡ OutOfMemory) × IsOk comes_to) ⊎ (comes_to ≡ Err error)
