-- How far the laying of a log has come.
use Rattle.std.specs.Prelude.{ℕ, ◌≡◌, ◌+◌, ◌*◌, ◌≤◌, ◌<◌, true, ◌&&◌, nat_le, List, length, Some}
use Rattle.edge_model.specs.Files.{Files, bytes_of, contents, main_of}
use Rattle.log_format.specs.Header.{log_page_size, log_version}
use Rattle.log_format.specs.Frames.{frame_page}
use Rattle.log_format.specs.Logs.{committed_frames, frame_bytes_at, is_live, logged, logged_count, record_of}
use Rattle.rollback_journal.specs.Laying.{IsOneOf}
use Rattle.rollback_journal.specs.Recovery.{HasByte, IsHeld}
use Rattle.log_recovery.specs.Opened.{OpensByLog}
use Rattle.log_recovery.specs.declared.laying.LogReading.{LogReading}

-- Journal is the log
abbrev pub log_of : Files → List ℕ
log_of files = contents files.journal

-- the log is live and is taken
pub record IsTaken (size : ℕ) (files : Files) : Type 0 where
  pub main : HasByte (bytes_of files.main)
  pub log : HasByte (bytes_of files.journal)
  pub page_size : log_page_size (log_of files) ≡ size
  pub version : log_version (log_of files) ≡ 3007000
  pub live : is_live size (log_of files) ≡ true

-- the image has the log as it reads, and a Main with a byte
pub record IsInLaying (size : ℕ) (now image : Files) : Type 0 where
  pub held : IsHeld now image
  pub taken : IsTaken size image

-- Main is what the files open to, beside a log: it is spent
pub record IsSpent (size : ℕ) (files : Files) : Type 0 where
  pub main : bytes_of files.main ≡ Some (main_of files)
  pub log : bytes_of files.journal ≡ Some (log_of files)
  pub same : OpensByLog size files (main_of files)

-- the numbers of a log that is laid
pub record IsReadingOfLog (reading : LogReading) (log : List ℕ) : Type 0 where
  pub frames : reading.frames ≡ committed_frames reading.page_size log
  pub pages : reading.pages ≡ logged_count reading.page_size log
  pub len : reading.len ≡ length log

-- whether a disk tells or not: so many frames fit so many bytes
pub record IsLogReading (reading : LogReading) : Type 0 where
  pub page_low : 0 < reading.page_size
  pub page_high : reading.page_size ≤ 65536
  pub fits : 32 + reading.frames * (reading.page_size + 24) ≤ reading.len

-- if the frame's page is one of the database after the last commit, it is one of those that the log gives
abbrev pub IsOneIfWithin : ℕ → ℕ → List ℕ → ℕ → Type 0
IsOneIfWithin size pages log k =
    (nat_le 1 (frame_page (frame_bytes_at size log k)) && nat_le (frame_page (frame_bytes_at size log k)) pages) ≡ true
    → IsOneOf size (record_of size log k) (logged size log)
