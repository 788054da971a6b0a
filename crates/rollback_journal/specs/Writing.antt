-- A journal while it is written: what its writer knows, and what the bytes of the journal are after each call.
use Rattle.std.specs.Prelude.{ℕ, zero, suc, ◌≡◌, ◌≢◌, ◌+◌, ◌-◌, ◌*◌, ◌%◌, ◌<◌, ◌≤◌, ◌==◌, Bool, true, false, List, [], ◌++◌, length, take, drop, map, slice_index, replicate, Option, Some, All}
use Rattle.edge_model.specs.Files.{File, Files, bytes_of, number_of, contents}
use Rattle.journal_format.specs.Header.{has_header, count_at, nonce_at, initial_at, sector_at, page_size_at, journal_header_bytes}
use Rattle.journal_format.specs.Records.{Record, Place, record_at, is_good}
use Rattle.journal_format.specs.Segments.{mark, has_mark, places_of, rounded_up, played}
use Rattle.rollback_journal.specs.Plays.{Plays, PlaysNone}
use Rattle.rollback_journal.specs.Playing.{pending, places_at}
use Rattle.rollback_journal.specs.declared.stage.Stage.{Stage}
use Rattle.rollback_journal.specs.declared.stage.Stage.TheVariants.{New, Filling, Opened, Closed}

-- What a writer knows: the length of a page in bytes, the size of the database at the start in pages, the offset of the
-- present segment, its number, how many records it has, how many all segments have, and the stage.
pub record Writing : Type 0 where
  pub page_size : ℕ
  pub initial : ℕ
  pub at : ℕ
  pub nonce : ℕ
  pub count : ℕ
  pub total : ℕ
  pub stage : Stage

-- No offset wraps, no count is ffffffff, and each segment but the present one has a record.
pub record IsSmall (w : Writing) : Type 0 where
  pub size_low : 512 ≤ w.page_size
  pub size_high : w.page_size ≤ 65536
  pub initial : w.initial < 4294967295
  pub count : w.count ≤ w.total
  pub total : w.total ≤ w.initial
  pub first : 1 ≤ w.nonce
  pub nonce : w.nonce + w.count ≤ w.total + 1
  pub at : w.at ≤ (w.total - w.count) * 131072
  pub boundary : w.at % 512 ≡ 0

-- nothing is written yet
abbrev pub at_first : ℕ → ℕ → Writing
at_first size initial = record { page_size = size; initial = initial; at = 0; nonce = 1; count = 0; total = 0; stage = New }

-- where the records of the present segment end
abbrev pub end_at : Writing → ℕ
end_at w = w.at + 512 + w.count * (w.page_size + 8)

-- where the next segment begins
abbrev pub next_at : Writing → ℕ
next_at w = rounded_up 512 (end_at w)

-- after each call
abbrev pub with_stage : Stage → Writing → Writing
with_stage stage w = record w { stage = stage }

abbrev pub with_record : Writing → Writing
with_record w = record w { count = w.count + 1; total = w.total + 1; stage = Filling }

abbrev pub with_segment : Writing → Writing
with_segment w = record w { at = next_at w; nonce = w.nonce + 1; count = 0; stage = Filling }

-- the places of the present records
abbrev pub present_places : Writing → List Place
present_places w = places_of w.count w.page_size w.nonce (w.at + 512)

-- the records of the segments before the present one, its own, and both
abbrev pub earlier_records : Writing → List ℕ → List Record
earlier_records w journal = played w.page_size (take w.at journal)

abbrev pub present_records : Writing → List ℕ → List Record
present_records w journal = map (record_at w.page_size journal) (present_places w)

abbrev pub all_records : Writing → List ℕ → List Record
all_records w journal = earlier_records w journal ++ present_records w journal

-- the records behind open gates, and those behind a closed one
abbrev pub safe_at : Stage → Writing → List ℕ → List Record
safe_at New w journal = []
safe_at Filling w journal = earlier_records w journal
safe_at Opened w journal = all_records w journal
safe_at Closed w journal = []

abbrev pub waiting_at : Stage → Writing → List ℕ → List Record
waiting_at New w journal = []
waiting_at Filling w journal = present_records w journal
waiting_at Opened w journal = []
waiting_at Closed w journal = []

abbrev pub safe_records : Writing → List ℕ → List Record
safe_records w journal = safe_at w.stage w journal

abbrev pub waiting_records : Writing → List ℕ → List Record
waiting_records w journal = waiting_at w.stage w journal

-- Each journal that begins with so many bytes of this one plays these records, and then what its headers say from an
-- offset on.
abbrev pub Leads : ℕ → ℕ → ℕ → List Record → List ℕ → Type 0
Leads size till at records journal = (other : List ℕ) → take till other ≡ take till journal →
    played size other ≡ records ++ pending size other (places_at size other at)

-- the first header and the mark
pub record HasOwnHeader (size initial : ℕ) (journal : List ℕ) : Type 0 where
  pub header : has_header 0 journal ≡ true
  pub sector : sector_at 0 journal ≡ 512
  pub page_size : page_size_at 0 journal ≡ size
  pub pages : initial_at 0 journal ≡ initial
  pub mark : has_mark 512 (take 44 journal) ≡ true

-- The segments before the present one are open, and its own records are whole. Nothing stands behind them.
pub record IsJournalWritten (w : Writing) (journal : List ℕ) : Type 0 where
  pub leads : Leads w.page_size w.at w.at (earlier_records w journal) journal
  pub own : 0 < w.at → HasOwnHeader w.page_size w.initial journal
  pub within : w.at < length journal
  pub ends : length journal ≤ end_at w
  pub whole : All (λ place. is_good w.page_size journal place ≡ true) (present_places w)
  pub low : All (λ (r : Record). r.page ≤ w.initial) (present_records w journal)

-- the present gate is closed
pub record IsFilling (w : Writing) (journal : List ℕ) : Type 0 where
  pub written : IsJournalWritten w journal
  pub gate : slice_index journal w.at ≡ 0

-- it is open, with the exact count
pub record IsJournalOpened (w : Writing) (journal : List ℕ) : Type 0 where
  pub written : IsJournalWritten w journal
  pub some : 0 < w.count
  pub header : has_header w.at journal ≡ true
  pub count : count_at w.at journal ≡ w.count
  pub nonce : nonce_at w.at journal ≡ w.nonce
  pub first : HasOwnHeader w.page_size w.initial journal

-- the whole journal is closed
pub record IsJournalShut (journal : List ℕ) : Type 0 where
  pub within : 0 < length journal
  pub gate : slice_index journal 0 ≡ 0

abbrev pub IsWriterAt : Stage → Writing → List ℕ → Type 0
IsWriterAt New w journal = ⊥
IsWriterAt Filling w journal = IsFilling w journal
IsWriterAt Opened w journal = IsJournalOpened w journal
IsWriterAt Closed w journal = IsJournalShut journal

-- Journal as the writer's last call left it, as it reads
pub record IsLeft (w : Writing) (now : Option File) : Type 0 where
  pub small : IsSmall w
  pub there : bytes_of now ≡ Some (contents now)
  pub is_at : IsWriterAt w.stage w (contents now)

-- the same file with the same first bytes; what follows may be anything
pub record HasFront (front : ℕ) (now image : Option File) : Type 0 where
  pub number : number_of image ≡ number_of now
  pub bytes : take front (contents image) ≡ take front (contents now)

-- and in an image: behind a closed gate the bytes may be anything
abbrev pub BesideAt : Stage → ℕ → Option File → Option File → Type 0
BesideAt New at now image = ⊥
BesideAt Filling at now image = HasFront (at + 1) now image
BesideAt Opened at now image = image ≡ now
BesideAt Closed at now image = HasFront 1 now image

abbrev pub IsLeftBeside : Writing → Option File → Option File → Type 0
IsLeftBeside w now image = BesideAt w.stage w.at now image

-- Journal reads as the last call left it, and so it is in each image.
pub record WriterStands (w : Writing) (now : Files) (images : Files → Type 0) : Type 0 where
  pub read : IsLeft w now.journal
  pub beside : (c : Files) → images c → IsLeftBeside w now.journal c.journal

-- The records that every crash leaves: where no gate was opened so far, none.
abbrev pub PlaysFirst : ℕ → ℕ → ℕ → List Record → Option (List ℕ) → Type 0
PlaysFirst zero size initial records journal = PlaysNone journal
PlaysFirst (suc at) size initial records journal = Plays size initial records journal

abbrev pub PlaysAt : Stage → Writing → List ℕ → Option (List ℕ) → Type 0
PlaysAt New w journal image = ⊥
PlaysAt Filling w journal image = PlaysFirst w.at w.page_size w.initial (earlier_records w journal) image
PlaysAt Opened w journal image = Plays w.page_size w.initial (all_records w journal) image
PlaysAt Closed w journal image = PlaysNone image

-- no record of this page yet
abbrev pub HasNoRecordOf : ℕ → List Record → Type 0
HasNoRecordOf page records = All (λ (r : Record). r.page ≢ page) records

-- the padding of a header: in the first one the mark, and else zeros
unfoldable pub padding : Bool → List ℕ
padding true = mark ++ replicate 468 0
padding false = replicate 484 0

-- the 512 bytes of the present segment's first sector
abbrev pub sector_of : Writing → List ℕ
sector_of w = journal_header_bytes w.count w.nonce w.initial 512 w.page_size ++ padding (w.at == 0)

-- they stand there, but for the first
pub record IsJournalHeaded (w : Writing) (journal : List ℕ) : Type 0 where
  pub head : take 511 (drop (w.at + 1) journal) ≡ drop 1 (sector_of w)
