-- `settle` of a file with its log: what is done before the marks go.
use Rattle.std.specs.Prelude.{◌≡◌, ◌≢◌, ◌≤◌, ◌⊎◌, ℕ, true, false, List, length, Option, Some, None, is_some, if◌then◌else◌}
use Rattle.std.specs.List.{Contains}
use Rattle.cipher_profile.specs.declared.keys.Secret.{Secret}
use Rattle.cipher_profile.specs.declared.profile.Profile.{Profile}
use Rattle.cipher_profile.specs.Profile.{with_log}
use Rattle.log_recovery.specs.declared.settling.LogLaid.{LogLaid}
use Rattle.log_recovery.specs.declared.settling.LogLaid.TheVariants.{Nothing, Empty, Laid}
use Rattle.page_codec.specs.Page.{codec_salt, fits, keys_of}
use Rattle.map_pages.specs.Settled.{CanBeSettled}
use Rattle.pager.specs.File.{first_page}
use Rattle.pager.specs.Pages.{opened_pages}
use Rattle.db_format.specs.Pages.{Pages}
use Rattle.sqlcipher_tool.specs.Answer.{Answer}
use Rattle.sqlcipher_tool.specs.Due.{word_refusal}
use Rattle.sqlcipher_tool.specs.Plain.{IsClean}
use Rattle.sqlcipher_tool.specs.Maps.{has_maps}
use Rattle.sqlcipher_tool.specs.Verify.{pages_answers}
use Rattle.sqlcipher_tool.specs.declared.status.Status.TheVariants.{Done}
use Rattle.sqlcipher_tool.specs.declared.change.Change.TheVariants.{Stamp, Settle, Rekey, Migrate}
use Rattle.sqlcipher_tool.specs.declared.command.Command.{Command}
use Rattle.sqlcipher_tool.specs.declared.command.Command.TheVariants.{Probe, Recover, Read, Change as ChangeFile, Make}

-- the profile of the file that a command settles
abbrev pub settled_profile : Command → Option Profile
settled_profile Probe = None
settled_profile (Recover profile) = None
settled_profile (Read profile reading) = None
settled_profile (ChangeFile profile (Stamp field value)) = None
settled_profile (ChangeFile profile (Settle frames)) = Some profile
settled_profile (ChangeFile profile (Rekey new)) = None
settled_profile (ChangeFile profile (Migrate new)) = None
settled_profile (Make profile rows) = None

-- where the words do not refuse it
abbrev pub settled_by : Option Command → Option Profile
settled_by None = None
settled_by (Some command) = if is_some (word_refusal command) then None else settled_profile command

-- how many frames were laid
abbrev pub frames_of : LogLaid → ℕ
frames_of Nothing = 0
frames_of Empty = 0
frames_of (Laid frames) = frames

-- a database has no pointer-map pages, or none of its parts has a place on one
abbrev pub CanLoseMaps : Pages → Type 0
CanLoseMaps pages = (has_maps (pages.page 1) ≡ false) ⊎ CanBeSettled pages

-- The pair of a file and its log may be laid: the file that it opens to is clean under its key, where marks pass, and can lose its map
-- pages. A log of another file does not meet this where pages have tags.
pub record CanBeLaid (profile : Profile) (secret : Secret) (file : List ℕ) : Type 0 where
  pub clean : IsClean (keys_of (with_log profile) secret file) file
  pub maps : CanLoseMaps (opened_pages (keys_of (with_log profile) secret file) file clean.opens.count)

-- The log is another file's: it gives the file another salt than its own, by which page 1 of the file opens under the key. A file keeps its salt for
-- life. Where its page 1 does not open, a laying that was stopped may have torn it.
pub record IsOtherLog (profile : Profile) (secret : Secret) (main salt : List ℕ) : Type 0 where
  pub has_page : profile.page_size ≤ length main
  pub opens : fits (keys_of profile secret main) (first_page profile main) ≡ true
  pub differs : codec_salt profile main ≢ salt

-- the pages were walked: Done is due of them to `verify`
pub record IsWalked (pages : Pages) : Type 0 where
  pub answer : Answer
  pub is_due : Contains (pages_answers pages) answer
  pub done : answer.status ≡ Done

-- and the map pages can go
abbrev pub IsChecked : Pages → Type 0
IsChecked pages = IsWalked pages × CanLoseMaps pages
