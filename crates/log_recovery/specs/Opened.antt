-- What a file reads as beside a log: Database File Format, section 4.4. Here Journal is the log. A page size is in bytes.
use Rattle.std.specs.Prelude.{ℕ, ◌≡◌, ◌*◌, Bool, not, ◌&&◌, ◌||◌, ◌==◌, nat_lt, if◌then◌else◌, List, length, take, Option, Some, None, Result, Ok, Err, MatchBool}
use Rattle.edge_model.specs.Files.{Files, bytes_of}
use Rattle.log_format.specs.Header.{is_log_head, log_page_size, log_version}
use Rattle.log_format.specs.Logs.{committed_frames, logged, logged_count}
use Rattle.rollback_journal.specs.Laying.{laid, PlaysTo}
use Rattle.log_recovery.specs.declared.settling.LogLaid.{LogLaid}
use Rattle.log_recovery.specs.declared.settling.LogLaid.TheVariants.{Nothing, Empty, Laid}
use Rattle.log_recovery.specs.declared.settling.LogError.{LogError}
use Rattle.log_recovery.specs.declared.settling.LogError.TheVariants.{LogVersion, LogPageSize}

-- the length of the database after the last commit, in bytes
abbrev pub log_end : ℕ → List ℕ → ℕ
log_end size log = logged_count size log * size

-- Main has a byte, and the log's header holds. The log is of another version of the format, or holds a commit.
abbrev pub is_over : List ℕ → List ℕ → Bool
is_over main log =
    nat_lt 0 (length main) && is_log_head log && (not (log_version log == 3007000) || nat_lt 0 (committed_frames (log_page_size log) log))

-- A live log is taken where it has pages of this size and the version of the format that is known. Then Main is laid to the file:
-- bytes between Main's old end and a page of the log that no page gives may be any.
pub record IsLogged (size : ℕ) (main log file : List ℕ) : Type 0 where
  pub page_size : log_page_size log ≡ size
  pub version : log_version log ≡ 3007000
  pub plays : PlaysTo size (log_end size log) (logged size log) main file

-- Without a log, or beside one that holds nothing, the file is Main. A live log that is refused leads to no file, and so does an
-- absent Main.
abbrev pub OpensTo : ℕ → Option (List ℕ) → Option (List ℕ) → List ℕ → Type 0
OpensTo size None log file = ⊥
OpensTo size (Some main) None file = file ≡ main
OpensTo size (Some main) (Some log) file = MatchBool (is_over main log) (IsLogged size main log file) (file ≡ main)

-- the image opens to the file. Fresh does not count.
abbrev pub OpensByLog : ℕ → Files → List ℕ → Type 0
OpensByLog size image file = OpensTo size (bytes_of image.main) (bytes_of image.journal) file

-- A step that keeps what an image opens to, and Fresh: it opens to no other file than before, and still to one.
pub record KeepsOpened (size : ℕ) (old new : Files) : Type 0 where
  pub no_other : (file : List ℕ) → OpensByLog size new file → OpensByLog size old file
  pub still : (file : List ℕ) → OpensByLog size old file → (other : List ℕ) × OpensByLog size new other
  pub fresh : new.fresh ≡ old.fresh

-- the file of Main and its log: free bytes are zeros
abbrev pub opened_by_log : ℕ → List ℕ → Option (List ℕ) → List ℕ
opened_by_log size main None = main
opened_by_log size main (Some log) = if is_over main log then take (log_end size log) (laid size (logged size log) main) else main

-- the answer that is due to Main and the log
abbrev pub log_answer_of : ℕ → Option (List ℕ) → Option (List ℕ) → Result LogLaid LogError
log_answer_of size None log = Ok Nothing
log_answer_of size (Some main) None = Ok Nothing
log_answer_of size (Some main) (Some log) =
    if length main == 0 then Ok Nothing
    else if not (is_over main log) then Ok Empty
    else if not (log_version log == 3007000) then Err (LogVersion (log_version log))
    else if not (log_page_size log == size) then Err (LogPageSize (log_page_size log))
    else Ok (Laid (committed_frames size log))

-- Main is there and is what the files open to, and no log is there
abbrev pub IsLogDone : ℕ → Option (List ℕ) → Option (List ℕ) → Files → Type 0
IsLogDone size None log image = ⊥
IsLogDone size (Some main) log image = (bytes_of image.main ≡ Some (opened_by_log size main log)) × (image.journal ≡ None)

-- the same, of files
abbrev pub log_answer_to : ℕ → Files → Result LogLaid LogError
log_answer_to size files = log_answer_of size (bytes_of files.main) (bytes_of files.journal)
