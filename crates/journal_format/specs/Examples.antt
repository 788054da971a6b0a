-- Small journals, worked out by hand from the rules and computed from the definitions.
use Rattle.std.specs.Prelude.{ℕ, ◌≡◌, false, true, List, [], ◌∷◌, ◌++◌, map, replicate, refl}
use Rattle.journal_format.specs.Header.{journal_header_bytes}
use Rattle.journal_format.specs.Records.{Record, sum_of, journal_record_bytes}
use Rattle.journal_format.specs.Segments.{is_hot, played}

-- a nonce of 7, and five or twenty bytes of 1
checksums : (sum_of 7 (replicate 1024 1) ≡ 12) × (sum_of 7 (replicate 4096 1) ≡ 27)
checksums = (refl, refl)

-- pages of 8 bytes, sectors of 32: a segment of one record, for page 2
abbrev first : List ℕ
first = journal_header_bytes 1 5 4 32 8 ++ replicate 4 0 ++ journal_record_bytes 5 2 (replicate 8 9)

-- a second one, at the next sector: 48 bytes before it, 16 to fill up
abbrev second : List ℕ
second = journal_header_bytes 1 6 99 77 66 ++ replicate 4 0 ++ journal_record_bytes 6 3 (replicate 8 7)

abbrev played_pages : List Record → List ℕ
played_pages records = map (λ (r : Record). r.page) records

-- beside a Main with a byte it is hot; by itself it plays its record
hot : is_hot (1 ∷ []) first ≡ true
hot = refl

empty_main : is_hot [] first ≡ false
empty_main = refl

one : played_pages (played 8 first) ≡ 2 ∷ []
one = refl

two : played_pages (played 8 (first ++ replicate 16 0 ++ second)) ≡ 2 ∷ 3 ∷ []
two = refl

-- the second magic is damaged
damaged : played_pages (played 8 (first ++ replicate 16 0 ++ 0 ∷ second)) ≡ 2 ∷ []
damaged = refl

-- count 5 and one whole record, and then 5 bytes of a second
short : played_pages (played 8 (journal_header_bytes 5 5 4 32 8 ++ replicate 4 0 ++ journal_record_bytes 5 2 (replicate 8 9) ++ replicate 5 1))
    ≡ 2 ∷ []
short = refl

-- count ffffffff, two whole records and 5 bytes more
open_ended : played_pages (played 8 (journal_header_bytes 4294967295 5 4 32 8 ++ replicate 4 0
    ++ journal_record_bytes 5 2 (replicate 8 9) ++ journal_record_bytes 5 3 (replicate 8 9) ++ replicate 5 1)) ≡ 2 ∷ 3 ∷ []
open_ended = refl

-- a number above the initial size is passed over; number 0 ends it
above : played_pages (played 8 (journal_header_bytes 4 5 4 32 8 ++ replicate 4 0
    ++ journal_record_bytes 5 9 (replicate 8 9) ++ journal_record_bytes 5 3 (replicate 8 9)
    ++ journal_record_bytes 5 0 (replicate 8 9) ++ journal_record_bytes 5 1 (replicate 8 9))) ≡ 3 ∷ []
above = refl
