-- A journal as a whole: whether it is hot, and what it plays (Database File Format, section 3). A journal is the list of all
-- its bytes.
use Rattle.std.specs.Prelude.{ℕ, zero, suc, ◌+◌, ◌-◌, ◌*◌, ◌/◌, ◌%◌, Bool, not, ◌&&◌, ◌==◌, nat_le, nat_lt, if◌then◌else◌, List, [], ◌∷◌, ◌++◌, length, take, drop, filter, bytes_eq}
use Rattle.journal_format.specs.Bytes.{u32_at}
use Rattle.journal_format.specs.Header.{journal_magic, has_header, count_at, nonce_at, initial_at, sector_at, is_sector}
use Rattle.journal_format.specs.Records.{Record, Place, record_at, is_good}

-- The journal is hot: Main has a byte, and the journal begins with a header whose sector size can be. Every other journal
-- is cold.
abbrev pub is_hot : List ℕ → List ℕ → Bool
is_hot main journal = nat_lt 0 (length main) && has_header 0 journal && is_sector (sector_at 0 journal)

-- the mark of this tool: `sqlcipher-tool 1`
abbrev pub mark : List ℕ
mark = 115 ∷ 113 ∷ 108 ∷ 99 ∷ 105 ∷ 112 ∷ 104 ∷ 101 ∷ 114 ∷ 45 ∷ 116 ∷ 111 ∷ 111 ∷ 108 ∷ 32 ∷ 49 ∷ []

-- it stands in the padding of the first header, by the sector size and the journal's first bytes
abbrev pub has_mark : ℕ → List ℕ → Bool
has_mark sector front = sector == 512 && bytes_eq (take 16 (drop 28 front)) mark

-- The journal ends in the name of a super-journal, by its sector size, its length, its first 44 bytes and its last 16. These
-- are the length of the name, a checksum and the magic; the name stands before them, behind the first header.
abbrev pub ends_super_by : ℕ → ℕ → List ℕ → List ℕ → Bool
ends_super_by sector end front tail =
    nat_le (sector + 17) end && not (has_mark sector front) && bytes_eq (take 8 (drop 8 tail)) journal_magic
    && nat_le 1 (u32_at tail 0) && nat_le (u32_at tail 0) (end - sector - 16)

abbrev pub names_super : List ℕ → Bool
names_super journal =
    ends_super_by (sector_at 0 journal) (length journal) (take 44 journal) (take 16 (drop (length journal - 16) journal))

-- the least multiple of a unit that is no less than the number
abbrev pub rounded_up : ℕ → ℕ → ℕ
rounded_up unit n = n + (unit - n % unit) % unit

-- the header at this offset announces as many records as there are
abbrev pub is_open_ended : ℕ → List ℕ → Bool
is_open_ended at journal = count_at at journal == 4294967295

-- how many records it announces
abbrev pub sought : ℕ → ℕ → ℕ → List ℕ → ℕ
sought size sector at journal =
    if is_open_ended at journal then (length journal - (at + sector)) / (size + 8) else count_at at journal

-- so many places of records, one after another
abbrev pub places_of : ℕ → ℕ → ℕ → ℕ → List Place
places_of zero size nonce at = []
places_of (suc n) size nonce at = record { nonce = nonce; at = at } ∷ places_of n size nonce (at + (size + 8))

-- The places of records by the headers, from the segment at an offset on. Records begin a sector behind the start of their
-- header, and the next header is at the next multiple of the sector size; behind an open-ended segment there is none. The
-- first number bounds how many segments there are.
abbrev pub places_from : ℕ → ℕ → ℕ → ℕ → List ℕ → List Place
places_from zero size sector at journal = []
places_from (suc more) size sector at journal =
    if has_header at journal
    then places_of (sought size sector at journal) size (nonce_at at journal) (at + sector)
    ++ (if is_open_ended at journal then []
    else places_from more size sector (rounded_up sector (at + sector + sought size sector at journal * (size + 8))) journal)
    else []

-- the places of the whole journal. A segment has a byte, so there are no more of them than bytes.
abbrev pub record_places : ℕ → List ℕ → List Place
record_places size journal = places_from (length journal) size (sector_at 0 journal) 0 journal

-- the records at these places, up to the first that is not good
abbrev pub good_front : ℕ → List ℕ → List Place → List Record
good_front size journal [] = []
good_front size journal (place ∷ rest) =
    if is_good size journal place then record_at size journal place ∷ good_front size journal rest else []

-- What a hot journal plays, in order: the good records up to the first that is not, without those of pages above the initial
-- size. Sector size and initial size are the first header's.
abbrev pub played : ℕ → List ℕ → List Record
played size journal = filter (λ r. nat_le r.page (initial_at 0 journal)) (good_front size journal (record_places size journal))
