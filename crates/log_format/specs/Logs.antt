-- A log as a whole: how far it holds, and the pages that it gives (Database File Format, sections 4.1 to 4.3). A log is the list of
-- all its bytes. A page size is in bytes, pages are numbered from 1, frames from 0.
use Rattle.std.specs.Prelude.{◌≡◌, ℕ, zero, suc, ◌+◌, ◌-◌, ◌*◌, Bool, true, false, Option, Some, None, not, ◌&&◌, ◌==◌, nat_le, nat_lt, if◌then◌else◌, List, [], ◌∷◌, length, take, drop, filter}
use Rattle.journal_format.specs.Records.{Record}
use Rattle.log_format.specs.declared.frame.LogFrame.{LogFrame}
use Rattle.log_format.specs.declared.header.LogHeader.{LogHeader}
use Rattle.log_format.specs.declared.sum.LogSum.{LogSum}
use Rattle.log_format.specs.Bytes.{u32_at}
use Rattle.log_format.specs.Frames.{frame_page, frame_pages, frame_image, frame_sum, is_sound_frame}
use Rattle.log_format.specs.Header.{is_big, is_log_head, head_sum, log_page_size, log_version}

-- the fields of a log's header
abbrev pub log_header : List ℕ → LogHeader
log_header log = record {
  is_big = is_big log;
  version = log_version log;
  page_size = log_page_size log;
  salt = u32_at log 16;
  other_salt = u32_at log 20;
  sum = head_sum log;
}

-- where the frame with this number begins
abbrev pub frame_start : ℕ → ℕ → ℕ
frame_start size k = 32 + k * (size + 24)

-- its bytes: fewer where the log ends
abbrev pub frame_bytes_at : ℕ → List ℕ → ℕ → List ℕ
frame_bytes_at size log k = take (size + 24) (drop (frame_start size k) log)

-- the checksum behind the first k frames
abbrev pub chained : ℕ → List ℕ → ℕ → LogSum
chained size log zero = head_sum log
chained size log (suc k) = frame_sum (is_big log) (chained size log k) (frame_bytes_at size log k)

-- the frame is whole and sound
abbrev pub is_valid : ℕ → List ℕ → ℕ → Bool
is_valid size log k =
    nat_le (frame_start size (suc k)) (length log) && is_sound_frame (log_header log) (chained size log k) (frame_bytes_at size log k)

-- it is the last one of a commit
abbrev pub ends_commit : ℕ → List ℕ → ℕ → Bool
ends_commit size log k = not (frame_pages (frame_bytes_at size log k) == 0)

-- Of the frames from number k on, n at most, up to the first that is not valid: the number behind the last one that ends a commit.
-- Where there is none it is `end`.
abbrev pub commit_end : ℕ → List ℕ → ℕ → ℕ → ℕ → ℕ
commit_end size log zero k end = end
commit_end size log (suc n) k end =
    if is_valid size log k then commit_end size log n (suc k) (if ends_commit size log k then suc k else end) else end

-- how many frames are committed. A frame has more than a byte, so there are no more of them than bytes.
abbrev pub committed_frames : ℕ → List ℕ → ℕ
committed_frames size log = commit_end size log (length log) 0 0

-- the size of the database after the last commit, in pages
abbrev pub logged_count : ℕ → List ℕ → ℕ
logged_count size log = frame_pages (frame_bytes_at size log (committed_frames size log - 1))

-- The log holds a commit, of pages of this size. Every other log holds nothing.
abbrev pub is_live : ℕ → List ℕ → Bool
is_live size log = is_log_head log && nat_lt 0 (committed_frames size log)

-- the page that a frame gives
abbrev pub record_of : ℕ → List ℕ → ℕ → Record
record_of size log k = record { page = frame_page (frame_bytes_at size log k); image = frame_image (frame_bytes_at size log k) }

-- the pages of n frames from number k on, in order
abbrev pub records_from : ℕ → List ℕ → ℕ → ℕ → List Record
records_from size log zero k = []
records_from size log (suc n) k = record_of size log k ∷ records_from size log n (suc k)

-- those of pages from 1 to this one
abbrev pub within : ℕ → List Record → List Record
within count records = filter (λ r. nat_le 1 r.page && nat_le r.page count) records

-- the pages that the log gives, in order: of several of one number the last counts
abbrev pub logged : ℕ → List ℕ → List Record
logged size log = within (logged_count size log) (records_from size log (committed_frames size log) 0)

-- what a look at the frame with this number finds
abbrev pub IsFrameAt : ℕ → List ℕ → ℕ → Option LogFrame → Type 0
IsFrameAt size log k None = is_valid size log k ≡ false
IsFrameAt size log k (Some frame) =
    (is_valid size log k ≡ true) × (frame.sum ≡ chained size log (suc k)) × (frame.pages ≡ frame_pages (frame_bytes_at size log k))
