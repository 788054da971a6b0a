-- The bytes that a step draws.
use Rattle.std.specs.Prelude.{◌≡◌, ◌++◌, ◌&&◌, ℕ, Bool, true, false, List, IsTrue}
use Rattle.atomic_commit.specs.Draws.{OwnDraws}
use Rattle.cipher_profile.specs.Profile.{is_plain}
use Rattle.cipher_profile.specs.declared.profile.Profile.{Profile}
use Rattle.page_codec.specs.Page.{FileKeys, opened, sealed}
use Rattle.pager.specs.File.{page_stored}
use Rattle.pager.specs.Pages.{is_page_number}
use Rattle.session_hall.specs.Key.{codec_of}
use Rattle.session_hall.specs.Machine.{HasSessionChanges, is_sealed, write_access}
use Rattle.session_hall.specs.Session.{Session}
use Rattle.session_hall.specs.declared.step.Answer.{Answer}
use Rattle.session_hall.specs.declared.step.Answer.TheVariants.{Done, Page, Busy, Refused, TagRefused, Misuse, Down, DiskFault, EntropyFault, OutOfMemory}
use Rattle.session_hall.specs.declared.step.Step.{Step}
use Rattle.session_hall.specs.declared.step.Step.TheVariants.{Open, Share, Read, Reserve, Change, Rekey, Commit, Release, Stop}

-- Each page of the file that the session's commit seals anew is stored as what it opens to, sealed with bytes of its own of these.
abbrev pub OwnDrawsBy : FileKeys → Session → List ℕ → List ℕ → Type 0
OwnDrawsBy keys session file drawn = OwnDraws keys.profile.reserve 0 drawn (λ n. is_page_number session.pages n && is_sealed session n)
    (λ n draw. page_stored keys file n ≡ sealed keys n (opened keys n (page_stored keys file n)) draw)

-- Behind the bytes that were drawn before stand those of the session's commit, which left this file: its pages have their own of them.
pub record HasDrawn (session : Session) (file before after : List ℕ) : Type 0 where
  pub drawn : List ℕ
  pub behind : after ≡ before ++ drawn
  pub own : OwnDrawsBy (codec_of (write_access session) file) session file drawn

-- The session's commit makes this file of the one before. Where the bytes that are drawn for it are told, its pages have their own of them.
pub record IsMadeBy (session : Session) (file : List ℕ) (told : Type 0) (before after made : List ℕ) : Type 0 where
  pub changes : HasSessionChanges session file made
  pub draws : told → HasDrawn session made before after

-- the bytes that are drawn for a commit are told: the entropy tells them, and the file is not plain
abbrev pub TellsDraws : Bool → Profile → Type 0
TellsDraws tells layout = IsTrue tells × (is_plain layout ≡ false)

-- what a commit drew: nothing where it was not begun, in a hall of plain files, or without memory; where it failed, what it left says it
abbrev pub CommitDraws : Profile → Answer → Session → List ℕ → List ℕ → List ℕ → Type 0
CommitDraws layout Done session file before after = (is_plain layout ≡ true → after ≡ before) × (is_plain layout ≡ false → HasDrawn session file before after)
CommitDraws layout Page session file before after = after ≡ before
CommitDraws layout Busy session file before after = after ≡ before
CommitDraws layout (Refused error) session file before after = after ≡ before
CommitDraws layout (TagRefused page) session file before after = after ≡ before
CommitDraws layout Misuse session file before after = after ≡ before
CommitDraws layout Down session file before after = after ≡ before
CommitDraws layout DiskFault session file before after = Unit {0}
CommitDraws layout EntropyFault session file before after = Unit {0}
CommitDraws layout OutOfMemory session file before after = after ≡ before

-- what a step drew: a commit alone draws
abbrev pub StepDraws : Profile → Step → Answer → Session → List ℕ → List ℕ → List ℕ → Type 0
StepDraws layout (Open secret profile) answer session file before after = after ≡ before
StepDraws layout Share answer session file before after = after ≡ before
StepDraws layout (Read page) answer session file before after = after ≡ before
StepDraws layout Reserve answer session file before after = after ≡ before
StepDraws layout (Change page at byte) answer session file before after = after ≡ before
StepDraws layout (Rekey secret profile) answer session file before after = after ≡ before
StepDraws layout Commit answer session file before after = CommitDraws layout answer session file before after
StepDraws layout Release answer session file before after = after ≡ before
StepDraws layout Stop answer session file before after = after ≡ before
