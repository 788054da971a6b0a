-- What an image recovers to: Database File Format, section 3. A page size is in bytes.
use Rattle.std.specs.Prelude.{ℕ, ◌≡◌, ◌*◌, ◌<◌, Bool, true, false, not, ◌==◌, if◌then◌else◌, List, length, take, Option, Some, None, Result, Ok, Err, MatchBool, IsFalse, IsTrue}
use Rattle.edge_model.specs.Files.{Files, bytes_of}
use Rattle.edge_model.specs.Images.{SameNames}
use Rattle.journal_format.specs.Header.{initial_at, page_size_at}
use Rattle.journal_format.specs.Segments.{is_hot, names_super, played}
use Rattle.rollback_journal.specs.Laying.{laid, PlaysTo}
use Rattle.rollback_journal.specs.declared.recovery.Recovery.{Recovery}
use Rattle.rollback_journal.specs.declared.recovery.Recovery.TheVariants.{Nothing, Cold, Played}
use Rattle.rollback_journal.specs.declared.recovery.RecoverError.{RecoverError}
use Rattle.rollback_journal.specs.declared.recovery.RecoverError.TheVariants.{JournalPageSize, SuperJournal, DiskFault, OutOfMemory}

-- the length to which Main is cut behind the playback, in bytes
abbrev pub end_of : ℕ → List ℕ → ℕ
end_of size journal = initial_at 0 journal * size

-- A hot journal is taken where it has pages of this size and names no super-journal. Then Main is played to the file.
pub record IsPlayed (size : ℕ) (main journal file : List ℕ) : Type 0 where
  pub page_size : page_size_at 0 journal ≡ size
  pub no_super : IsFalse (names_super journal)
  pub plays : PlaysTo size (end_of size journal) (played size journal) main file

-- Without a journal, or beside a cold one, the file is Main. Beside a hot one it is Main with the images laid in order and
-- cut to the initial size; bytes between Main's old end and a laid image that no image gives may be any. A hot journal that
-- is refused leads to no file, and so does an absent Main.
abbrev pub RecoversTo : ℕ → Option (List ℕ) → Option (List ℕ) → List ℕ → Type 0
RecoversTo size None journal file = ⊥
RecoversTo size (Some main) None file = file ≡ main
RecoversTo size (Some main) (Some journal) file = MatchBool (is_hot main journal) (IsPlayed size main journal file) (file ≡ main)

-- the image recovers to the file. Fresh does not count.
abbrev pub Recovers : ℕ → Files → List ℕ → Type 0
Recovers size image file = RecoversTo size (bytes_of image.main) (bytes_of image.journal) file

-- the image recovers to some file, and only to files of this set
pub record RecoversOnlyTo (size : ℕ) (set : List ℕ → Bool) (image : Files) : Type 0 where
  pub some : (file : List ℕ) × Recovers size image file
  pub only : (file : List ℕ) → Recovers size image file → IsTrue (set file)

-- A step that keeps what an image recovers to, and Fresh: it recovers to no other file than before, and still to one.
pub record KeepsRecovered (size : ℕ) (old new : Files) : Type 0 where
  pub no_other : (file : List ℕ) → Recovers size new file → Recovers size old file
  pub still : (file : List ℕ) → Recovers size old file → (other : List ℕ) × Recovers size new other
  pub fresh : new.fresh ≡ old.fresh

-- the file of Main after a recovery: free bytes are zeros
abbrev pub recovered : ℕ → List ℕ → Option (List ℕ) → List ℕ
recovered size main None = main
recovered size main (Some journal) =
    if is_hot main journal then take (end_of size journal) (laid size (played size journal) main) else main

-- the answer that is due to Main and Journal
abbrev pub answer_of : ℕ → Option (List ℕ) → Option (List ℕ) → Result Recovery RecoverError
answer_of size None journal = Ok Nothing
answer_of size (Some main) None = Ok Nothing
answer_of size (Some main) (Some journal) =
    if length main == 0 then Ok Nothing
    else if not (is_hot main journal) then Ok Cold
    else if not (page_size_at 0 journal == size) then Err (JournalPageSize (page_size_at 0 journal))
    else if names_super journal then Err SuperJournal
    else Ok (Played (length (played size journal)))

-- the same, of files
abbrev pub answer_to : ℕ → Files → Result Recovery RecoverError
answer_to size files = answer_of size (bytes_of files.main) (bytes_of files.journal)

-- the answers after which nothing was written
abbrev pub changes_nothing : Result Recovery RecoverError → Bool
changes_nothing (Ok Nothing) = true
changes_nothing (Ok Cold) = false
changes_nothing (Ok (Played records)) = false
changes_nothing (Err (JournalPageSize found)) = true
changes_nothing (Err SuperJournal) = true
changes_nothing (Err DiskFault) = false
changes_nothing (Err OutOfMemory) = true

-- Main has a byte
abbrev pub HasByte : Option (List ℕ) → Type 0
HasByte None = ⊥
HasByte (Some main) = 0 < length main

-- Main is there and is what is recovered of the files, and no journal is there
abbrev pub IsPlaybackDone : ℕ → Option (List ℕ) → Option (List ℕ) → Files → Type 0
IsPlaybackDone size None journal image = ⊥
IsPlaybackDone size (Some main) journal image = (bytes_of image.main ≡ Some (recovered size main journal)) × (image.journal ≡ None)

-- Journal is on the disk as it reads, and all names are
pub record IsHeld (now image : Files) : Type 0 where
  pub journal : image.journal ≡ now.journal
  pub names : SameNames now image

-- and Main too
pub record IsSettled (now image : Files) : Type 0 where
  pub main : image.main ≡ now.main
  pub journal : image.journal ≡ now.journal
  pub names : SameNames now image
