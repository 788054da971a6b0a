-- What the new file of a command is to the old one.
use Rattle.std.specs.Prelude.{◌≡◌, ℕ, ◌==◌, Bool, IsTrue, List, [], ◌∷◌, Option, Some, None}
use Rattle.cipher_profile.specs.declared.keys.Secret.{Secret}
use Rattle.cipher_profile.specs.declared.profile.Profile.{Profile}
use Rattle.page_codec.specs.Page.{FileKeys, keys_of, salt_of}
use Rattle.sqlcipher_tool.specs.declared.command.Command.{Command}
use Rattle.sqlcipher_tool.specs.declared.command.Command.TheVariants.{Probe, Recover, Read, Change as ChangeFile, Make}
use Rattle.sqlcipher_tool.specs.declared.change.Change.{Change}
use Rattle.sqlcipher_tool.specs.declared.change.Change.TheVariants.{Stamp, Settle, Rekey, Migrate}
use Rattle.fresh_file.specs.Draws.{HasOwnDraws}
use Rattle.make_job.specs.Made.{IsMade}
use Rattle.pager.specs.Pages.{is_page_number}
use Rattle.rekey_job.specs.Rekeyed.{IsRekeyed}
use Rattle.rekey_job.specs.Draws.{FileDraws}
use Rattle.sqlcipher_tool.specs.Migrate.{IsMigratedSo}
use Rattle.sqlcipher_tool.specs.Opening.{page_count_of}
use Rattle.sqlcipher_tool.specs.Plain.{IsClean, Opens}
use Rattle.sqlcipher_tool.specs.Rekey.{rekeyed_salt}
use Rattle.sqlcipher_tool.specs.Settle.{IsSettledFrom, SettledDraws}
use Rattle.sqlcipher_tool.specs.Stamp.{IsStamped}
use Rattle.sqlcipher_tool.specs.Words.{profile_after, profile_before}

-- A command that leaves a new file: the profile and the secret of the old one, and those of the new one. Before `make` there is no
-- old one, and both are those of the new one.
pub record Renewal : Type 0 where
  pub old_profile : Profile
  pub old_secret : Secret
  pub new_profile : Profile
  pub new_secret : Secret

-- from one key of a profile to another
abbrev pub from_to : Profile → Secret → Profile → Secret → Renewal
from_to old first new second = record { old_profile = old; old_secret = first; new_profile = new; new_secret = second }

-- one that keeps the key
abbrev pub same_key : Profile → List Secret → Option Renewal
same_key profile [] = None
same_key profile (secret ∷ rest) = Some (from_to profile secret profile secret)

-- the secret of the new file: a stamp keeps the key, and so does a settling
abbrev pub secret_after : Change → Secret → Secret → Secret
secret_after (Stamp field value) first second = first
secret_after (Settle frames) first second = first
secret_after (Rekey new) first second = second
secret_after (Migrate new) first second = second

-- what a change of a file of this profile makes of it, with its secrets
abbrev pub renewed : Profile → Change → Secret → Secret → Renewal
renewed profile change first second = from_to (profile_before profile change) first (profile_after profile change) (secret_after change first second)

abbrev pub renewed_with : Profile → Change → List Secret → Option Renewal
renewed_with profile change [] = None
renewed_with profile change (first ∷ []) = None
renewed_with profile change (first ∷ second ∷ rest) = Some (renewed profile change first second)

-- none for a command that leaves no new file
abbrev pub renewal : Command → List Secret → Option Renewal
renewal Probe secrets = None
renewal (Recover profile) secrets = None
renewal (Read profile reading) secrets = None
renewal (ChangeFile profile change) secrets = renewed_with profile change secrets
renewal (Make profile rows) secrets = same_key profile secrets

abbrev pub old_keys : Renewal → List ℕ → FileKeys
old_keys renewal file = keys_of renewal.old_profile renewal.old_secret file

abbrev pub new_keys : Renewal → List ℕ → FileKeys
new_keys renewal file = keys_of renewal.new_profile renewal.new_secret file

-- The file `before` is clean under the old keys, and the file `after`, which begins with this salt, opens under the new ones to its
-- content: it is the same file, of some pages, under these.
pub record IsRekeyedSo (old new : FileKeys) (salt before after : List ℕ) : Type 0 where
  pub clean : IsClean old before
  pub opens : Opens new after clean.held
  pub count : ℕ
  pub rekeyed : IsRekeyed old new count before after
  pub begins : salt_of after ≡ salt

-- how many pages the file has under the keys that the secret gives for it, 0 where it has no count
abbrev pub pages_under : Profile → Secret → List ℕ → ℕ
pages_under profile secret file = page_count_of (keys_of profile secret file) file

-- the file `after` is a new file of the command for the file `before`
abbrev pub IsMadeBy : Command → Renewal → List ℕ → List ℕ → Type 0
IsMadeBy Probe renewal before after = ⊥
IsMadeBy (Recover profile) renewal before after = ⊥
IsMadeBy (Read profile reading) renewal before after = ⊥
IsMadeBy (ChangeFile profile (Stamp field value)) renewal before after = IsStamped (old_keys renewal before) field value before after
IsMadeBy (ChangeFile profile (Settle frames)) renewal before after = IsSettledFrom (old_keys renewal before) (new_keys renewal after) before after
IsMadeBy (ChangeFile profile (Rekey new)) renewal before after =
    IsRekeyedSo (old_keys renewal before) (new_keys renewal after) (rekeyed_salt renewal.old_profile renewal.old_secret renewal.new_profile before) before after
IsMadeBy (ChangeFile profile (Migrate new)) renewal before after = IsMigratedSo (old_keys renewal before) (new_keys renewal after) before after
IsMadeBy (Make profile rows) renewal before after = IsMade renewal.new_profile renewal.new_secret rows after

-- each page of the new file that the command sealed has drawn bytes of its own; a plain file takes none, and nothing is asked of one
abbrev pub AreDrawnBy : Command → Renewal → List ℕ → List ℕ → Type 0
AreDrawnBy Probe renewal file drawn = ⊥
AreDrawnBy (Recover profile) renewal file drawn = ⊥
AreDrawnBy (Read profile reading) renewal file drawn = ⊥
AreDrawnBy (ChangeFile profile (Stamp field value)) renewal file drawn = FileDraws (new_keys renewal file) file (λ n. n == 1) 0 drawn
AreDrawnBy (ChangeFile profile (Settle frames)) renewal file drawn = SettledDraws (new_keys renewal file) file drawn
AreDrawnBy (ChangeFile profile (Rekey new)) renewal file drawn = FileDraws (new_keys renewal file) file (is_page_number (page_count_of (new_keys renewal file) file)) 0 drawn
AreDrawnBy (ChangeFile profile (Migrate new)) renewal file drawn = HasOwnDraws (new_keys renewal file) file drawn
AreDrawnBy (Make profile rows) renewal file drawn = HasOwnDraws (new_keys renewal file) file drawn

-- such a file, and of it holds what is said of its draws, where the entropy tells them
abbrev pub WithDraws : (List ℕ → Type 0) → Bool → (List ℕ → Type 0) → List ℕ → Type 0
WithDraws is_new tells own file = is_new file × (IsTrue tells → own file)

-- the file `after` is a new file of the command for the file `before`, and the pages that the command sealed have drawn bytes of their own
abbrev pub IsNewDrawn : Command → Renewal → Bool → List ℕ → List ℕ → List ℕ → Type 0
IsNewDrawn command renewal tells drawn before after = WithDraws (IsMadeBy command renewal before) tells (λ file. AreDrawnBy command renewal file drawn) after
