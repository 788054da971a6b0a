-- What `settle` answers, and what it makes of a file that a log was laid into: one in rollback mode, without pointer-map pages. Page 1 of a file
-- that has none gets the two versions, and changes else as `specs/FirstPage.antt` says; `specs/Maps.antt` says how a file changes that has some.
use Rattle.std.specs.Prelude.{◌≡◌, ◌≤◌, ◌⊎◌, ◌==◌, ◌&&◌, ℕ, Bool, false, IsTrue, List, length, [], Some, Result, Ok, Err, if◌then◌else◌}
use Rattle.cipher_profile.specs.declared.keys.Secret.{Secret}
use Rattle.cipher_profile.specs.Profile.{set_log, usable}
use Rattle.cipher_profile.specs.declared.profile.Profile.{Profile}
use Rattle.db_format.specs.Bytes.{u8_at}
use Rattle.db_format.specs.Pages.{Pages}
use Rattle.map_pages.specs.Maps.{map_count}
use Rattle.page_codec.specs.Page.{FileKeys, accepts, keys_of, salt_of}
use Rattle.pager.specs.Database.{count_of}
use Rattle.pager.specs.File.{page_stored}
use Rattle.pager.specs.Opening.{Opened}
use Rattle.pager.specs.declared.opening.OpenError.{OpenError}
use Rattle.rekey_job.specs.Draws.{FileDraws}
use Rattle.sqlcipher_tool.specs.Answer.{Answer, done}
use Rattle.sqlcipher_tool.specs.FirstPage.{IsFirstChanged, changed_page}
use Rattle.sqlcipher_tool.specs.Maps.{AreMapsFreed, first_plain, has_maps, is_rewritten, versions, versions_at}
use Rattle.sqlcipher_tool.specs.Opening.{open_answer, opened_with, page_count_of}
use Rattle.sqlcipher_tool.specs.Text.{settled_report}
use Rattle.sqlcipher_tool.specs.declared.opening.Stop.{Stop}
use Rattle.sqlcipher_tool.specs.declared.opening.Stop.TheVariants.{Refused as StopRefused, KeyRefused as StopKey, DiskFault as StopDisk, OutOfMemory as StopMemory}
use Rattle.sqlcipher_tool.specs.declared.settle.Marks.{Marks}
use Rattle.sqlcipher_tool.specs.declared.settle.Marks.TheVariants.{Rollback, Wal, Maps}
use Rattle.sqlcipher_tool.specs.declared.status.Refusal.TheVariants.{PageTag}

-- what page 1 says of the file
abbrev pub marks_of : List ℕ → Marks
marks_of plain = if has_maps plain then Maps else (if u8_at plain 18 == 1 && u8_at plain 19 == 1 then Rollback else Wal)

-- The file `after` is the file `before` in rollback mode: under the new keys, which do not pass marks, its pages are counted, page 1 is the
-- changed one and accepted, and every other page is stored as in `before`.
pub record IsUnmarked (old new : FileKeys) (before after : List ℕ) : Type 0 where
  pub count : ℕ
  pub was : count_of old before ≡ Some count
  pub is : count_of new after ≡ Some count
  pub salt : salt_of after ≡ salt_of before
  pub header : 100 ≤ length (first_plain old before)
  pub no_maps : has_maps (first_plain old before) ≡ false
  pub first : first_plain new after ≡ changed_page versions_at versions count (first_plain old before)
  pub accepted : IsTrue (accepts new 1 (page_stored new after 1))
  pub others : (n : ℕ) → 2 ≤ n → n ≤ count → page_stored new after n ≡ page_stored old before n

-- it was in rollback mode, and nothing was written
pub record WasUnmarked (old new : FileKeys) (before after : List ℕ) : Type 0 where
  pub same : after ≡ before
  pub count : ℕ
  pub was : count_of old before ≡ Some count
  pub is : count_of new after ≡ Some count

-- it lost its marks, it had none, or it lost its map pages too
abbrev pub IsSettledFrom : FileKeys → FileKeys → List ℕ → List ℕ → Type 0
IsSettledFrom old new before after = IsUnmarked old new before after ⊎ WasUnmarked old new before after ⊎ AreMapsFreed old new before after

-- The same under keys that pass marks, before and after: page 1 says that the file is in WAL mode, and is changed; that it is not, and nothing
-- is written; or that it has map pages, which go.
abbrev pub IsSettledUnder : FileKeys → List ℕ → List ℕ → Type 0
IsSettledUnder keys before after =
    ((marks_of (first_plain keys before) ≡ Wal) × IsFirstChanged keys versions_at versions before after)
    ⊎ ((marks_of (first_plain keys before) ≡ Rollback) × (after ≡ before))
    ⊎ ((marks_of (first_plain keys before) ≡ Maps) × AreMapsFreed keys keys before after)

-- the keys where marks pass or not
abbrev pub keys_set : Bool → FileKeys → FileKeys
keys_set passes keys = record { profile = set_log passes keys.profile; keys = keys.keys; salt = keys.salt }

-- page 1 of it has drawn bytes of its own; or nothing was drawn, as for a file that was in rollback mode; or each page that was written has
-- such bytes where map pages went
abbrev pub SettledDraws : FileKeys → List ℕ → List ℕ → Type 0
SettledDraws keys file drawn =
    (drawn ≡ []) ⊎ FileDraws keys file (λ n. n == 1) 0 drawn ⊎ FileDraws keys file (is_rewritten (usable keys.profile) (page_count_of keys file)) 0 drawn

-- the answer on a file of which page 1 says this, and which has so many map pages where it has any
abbrev pub marked_answer : ℕ → ℕ → Marks → Answer
marked_answer frames maps Rollback = done (settled_report frames 0)
marked_answer frames maps Wal = done (settled_report frames 0)
marked_answer frames maps Maps = done (settled_report frames maps)

-- How the command stops that does not get page 1 of these pages. Of a file that opens page 1 is accepted.
abbrev pub IsMarkStop : Bool → Pages → Stop → Type 0
IsMarkStop tells pages (StopRefused refusal) = (refusal ≡ PageTag 1) × (IsTrue tells → pages.accepts 1 ≡ false)
IsMarkStop tells pages StopKey = ⊥
IsMarkStop tells pages StopDisk = Unit {0}
IsMarkStop tells pages StopMemory = Unit {0}

-- the answer on a file that opens where marks pass, or to one that does not; the usable size is in bytes
abbrev pub settled_answer : ℕ → ℕ → List ℕ → Result Opened OpenError → Answer
settled_answer usable frames first (Ok opened) = marked_answer frames (map_count usable opened.count) (marks_of first)
settled_answer usable frames first (Err error) = open_answer error

-- the answer to `settle` on this file, into which so many frames were laid. The profile has the setting by which marks pass.
abbrev pub settle_answer : Profile → Secret → ℕ → List ℕ → Answer
settle_answer profile secret frames file =
    settled_answer (usable profile) frames (first_plain (keys_of profile secret file) file) (opened_with profile secret file)
