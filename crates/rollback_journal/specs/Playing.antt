-- How far a playback has come.
use Rattle.std.specs.Prelude.{ℕ, ◌≡◌, ◌+◌, ◌*◌, ◌≤◌, ◌<◌, Bool, true, false, not, ◌&&◌, ◌==◌, nat_le, List, [], ◌++◌, if◌then◌else◌, filter, length, Option, Some, None, IsFalse}
use Rattle.edge_model.specs.Files.{Files, bytes_of, written, contents, main_of}
use Rattle.journal_format.specs.Header.{initial_at, page_size_at, sector_at}
use Rattle.journal_format.specs.Records.{Record, Place, record_bytes_at, page_of, image_of, record_at, is_good}
use Rattle.journal_format.specs.Segments.{is_hot, names_super, good_front, places_from, places_of, rounded_up, played}
use Rattle.rollback_journal.specs.Laying.{page_start, laid, reach, IsGivenByte, IsOneOf}
use Rattle.rollback_journal.specs.Recovery.{HasByte, IsHeld}
use Rattle.rollback_journal.specs.declared.segments.Segment.{Segment}
use Rattle.rollback_journal.specs.declared.segments.Reading.{Reading}
use Rattle.rollback_journal.specs.declared.playback.Step.{Step}
use Rattle.rollback_journal.specs.declared.playback.Step.TheVariants.{End, Passed, Laid}

abbrev pub journal_of : Files → List ℕ
journal_of files = contents files.journal

-- the journal is hot and is taken: it has pages of this size and names no super-journal
pub record IsPlayedHot (size : ℕ) (files : Files) : Type 0 where
  pub main : HasByte (bytes_of files.main)
  pub journal : HasByte (bytes_of files.journal)
  pub hot : is_hot (main_of files) (journal_of files) ≡ true
  pub page_size : page_size_at 0 (journal_of files) ≡ size
  pub no_super : IsFalse (names_super (journal_of files))

-- the image has it as it reads, and a Main with a byte
pub record IsInPlay (size : ℕ) (now image : Files) : Type 0 where
  pub held : IsHeld now image
  pub taken : IsPlayedHot size image

-- what the journal plays of these places alone
abbrev pub pending : ℕ → List ℕ → List Place → List Record
pending size journal rest = filter (λ r. nat_le r.page (initial_at 0 journal)) (good_front size journal rest)

-- the places from a segment on
abbrev pub places_at : ℕ → List ℕ → ℕ → List Place
places_at size journal at = places_from (length journal) size (sector_at 0 journal) at journal

-- these images are among those
pub record AreAmong (size : ℕ) (some all : List Record) : Type 0 where
  pub given : (i : ℕ) → IsGivenByte size some i → IsGivenByte size all i
  pub reached : reach size some ≤ reach size all

-- A playback goes on: of the records that were to be laid some are left, and the others were laid and counted. What is left,
-- laid over Main now, gives the file that all of them gave before.
pub record GoesOn (size : ℕ) (old new : List Record) (count counted : ℕ) (before after : List ℕ) : Type 0 where
  pub laid_alike : laid size new after ≡ laid size old before
  pub all_counted : counted + length new ≡ count + length old
  pub among : AreAmong size new old

-- if the record at the place is good and its page is not above the initial size, it is one of those that the journal plays
abbrev pub IsOneIfGood : ℕ → List ℕ → Place → Type 0
IsOneIfGood size journal place =
    is_good size journal place ≡ true → nat_le (page_of (record_bytes_at size journal place)) (initial_at 0 journal) ≡ true
    → IsOneOf size (record_at size journal place) (played size journal)

-- what a step of the playback did at a place
abbrev pub DidAt : ℕ → List ℕ → Place → List ℕ → List ℕ → Step → Type 0
DidAt size journal place old new End = (is_good size journal place ≡ false) × (new ≡ old)
DidAt size journal place old new Passed =
    (is_good size journal place ≡ true) × (nat_le (page_of (record_bytes_at size journal place)) (initial_at 0 journal) ≡ false)
    × (new ≡ old)
DidAt size journal place old new Laid =
    (is_good size journal place ≡ true) × (nat_le (page_of (record_bytes_at size journal place)) (initial_at 0 journal) ≡ true)
    × (new ≡ written (page_start size (page_of (record_bytes_at size journal place))) (image_of (record_bytes_at size journal place)) old)

-- a record that was read
abbrev pub IsReadBack : ℕ → List ℕ → Place → List ℕ → Option ℕ → Type 0
IsReadBack size journal place buffer None = is_good size journal place ≡ false
IsReadBack size journal place buffer (Some page) =
    (is_good size journal place ≡ true) × (page ≡ page_of (record_bytes_at size journal place)) × (buffer ≡ record_bytes_at size journal place)

-- the count is exact, and so many records fit the file
abbrev pub is_whole : ℕ → ℕ → Bool
is_whole count fits = not (count == 4294967295) && nat_le count fits

-- what the header at a place says of the records behind it
abbrev pub IsSegmentAt : ℕ → List ℕ → ℕ → Option Segment → Type 0
IsSegmentAt size journal at None = pending size journal (places_at size journal at) ≡ []
IsSegmentAt size journal at (Some segment) =
    pending size journal (places_at size journal at)
    ≡ pending size journal (places_of segment.count size segment.nonce segment.first
    ++ (if segment.last then []
    else places_at size journal (rounded_up (sector_at 0 journal) (segment.first + segment.count * (size + 8)))))

-- the numbers of a journal that is read
pub record IsReadingOf (reading : Reading) (journal : List ℕ) : Type 0 where
  pub initial : reading.initial ≡ initial_at 0 journal
  pub sector : reading.sector ≡ sector_at 0 journal
  pub len : reading.len ≡ length journal

pub record IsJournalReading (reading : Reading) : Type 0 where
  pub page_low : 0 < reading.page_size
  pub page_high : reading.page_size ≤ 65536
  pub sector_low : 0 < reading.sector
  pub sector_high : reading.sector ≤ 65536

-- what is still played from the next header on, if there is one
abbrev pub todo_at : ℕ → List ℕ → Option ℕ → List Record
todo_at size journal None = []
todo_at size journal (Some next) = pending size journal (places_at size journal next)
