-- Of a command that draws nothing the new file is plain, and nothing is asked of the bytes that were drawn.
use Rattle.std.proofs.Common.{◌≡◌, ⊎_elim, inl, inr, ℕ, Bool, true, false, not, List, [], ◌∷◌, Some, arith}
use Rattle.cipher_profile.specs.declared.keys.Secret.{Secret}
use Rattle.cipher_profile.specs.Profile.{is_plain}
use Rattle.cipher_profile.specs.declared.profile.Profile.{Profile}
use Rattle.fresh_disk.specs.Published.{IsAlone}
use Rattle.edge_model.specs.Files.{Files}
use Rattle.make_job.specs.Made.{IsMade}
use Rattle.sqlcipher_tool.specs.Answer.{HasDrawnCauses}
use Rattle.sqlcipher_tool.specs.Crash.{ChangesBy, DrewOwn, HasNoMain, IsDrawnFor, IsSafely, MakesWith, Renews, StaysOrRenews}
use Rattle.sqlcipher_tool.specs.Holding.{DiskRun}
use Rattle.sqlcipher_tool.specs.Renewal.{AreDrawnBy, Renewal, WithDraws, renewal, renewed, renewed_with}
use Rattle.sqlcipher_tool.specs.Words.{draws}
use Rattle.sqlcipher_tool.specs.declared.change.Change.{Change}
use Rattle.sqlcipher_tool.specs.declared.change.Change.TheVariants.{Stamp, Settle, Rekey, Migrate}
use Rattle.sqlcipher_tool.specs.declared.command.Command.{Command}
use Rattle.sqlcipher_tool.specs.declared.command.Command.TheVariants.{Probe, Recover, Read, Change as ChangeFile, Make}
use Rattle.sqlcipher_tool.specs.declared.status.Status.{Status}

-- ---- the new file

never_both : (b : Bool) → not b ≡ false → b ≡ false → ⊥
never_both true one two = cc
never_both false one two = cc

plain_drawn : (command : Command) (secrets : List Secret) (file drawn : List ℕ) → draws command ≡ false → IsDrawnFor command (renewal command secrets) file drawn
plain_drawn Probe secrets file drawn none = tt
plain_drawn (Recover profile) secrets file drawn none = tt
plain_drawn (Read profile reading) secrets file drawn none = tt
plain_drawn (ChangeFile profile change) [] file drawn none = tt
plain_drawn (ChangeFile profile change) (first ∷ []) file drawn none = tt
plain_drawn (ChangeFile profile (Stamp field value)) (first ∷ second ∷ rest) file drawn none =
    λ ciphered. absurd (never_both (is_plain profile) none ciphered)
plain_drawn (ChangeFile profile (Settle frames)) (first ∷ second ∷ rest) file drawn none =
    inr (inl (λ ciphered. absurd (never_both (is_plain profile) none ciphered)))
plain_drawn (ChangeFile profile (Rekey new)) (first ∷ second ∷ rest) file drawn none = λ ciphered. absurd (never_both (is_plain new) none ciphered)
plain_drawn (ChangeFile profile (Migrate new)) (first ∷ second ∷ rest) file drawn none = λ ciphered. absurd (never_both (is_plain new) none ciphered)
plain_drawn (Make profile rows) [] file drawn none = tt
plain_drawn (Make profile rows) (secret ∷ rest) file drawn none = λ ciphered. absurd (never_both (is_plain profile) none ciphered)

pub plain_own : (command : Command) (gave : List Secret → Type 0) (file drawn : List ℕ) → draws command ≡ false → DrewOwn command gave file drawn
plain_own command gave file drawn none = λ secrets has. plain_drawn command secrets file drawn none

-- ---- every moment of the run

-- one new file, of which all that is said of its draws holds
renews_as : (status : Status) (is_new own_was own : List ℕ → Type 0) (old : Files → Type 0) (new : List ℕ → Files → Type 0) (tells : Bool) (run : DiskRun) → ((file : List ℕ) → own file)
    → StaysOrRenews status (WithDraws is_new false own_was) old new run → StaysOrRenews status (WithDraws is_new tells own) old new run
renews_as status is_new own_was own old new tells run all was = ⊎_elim (λ stays. inl stays) (λ renews. inr (other renews)) was
  where
    other : Renews status (WithDraws is_new false own_was) old new run → Renews status (WithDraws is_new tells own) old new run
    other renews = record {
      file = renews.file;
      is_new = (renews.is_new.0, λ told. all renews.file);
      goes_over = renews.goes_over;
      is_main = renews.is_main;
      no_journal = renews.no_journal;
    }

safely_as : (status : Status) (command : Command) (tells : Bool) (was drawn : List ℕ) (run : DiskRun) (renewal : Renewal) → ((file : List ℕ) → AreDrawnBy command renewal file drawn)
    → IsSafely status command false was run (Some renewal) → IsSafely status command tells drawn run (Some renewal)
safely_as status command tells was drawn run renewal all safe = λ start. renews_as status _ _ _ _ _ tells run all (safe start)

-- the same of one change, whose secrets are these two
pub plain_safely : (status : Status) (profile : Profile) (what : Change) (first second : Secret) (tells : Bool) (was drawn : List ℕ) (run : DiskRun) → draws (ChangeFile profile what) ≡ false
    → IsSafely status (ChangeFile profile what) false was run (Some (renewed profile what first second))
    → IsSafely status (ChangeFile profile what) tells drawn run (Some (renewed profile what first second))
plain_safely status profile what first second tells was drawn run none safe =
    safely_as status (ChangeFile profile what) tells was drawn run (renewed profile what first second)
    (λ file. plain_drawn (ChangeFile profile what) (first ∷ second ∷ []) file drawn none) safe

pub plain_changes : (status : Status) (command : Command) (gave : List Secret → Type 0) (tells : Bool) (was drawn : List ℕ) (run : DiskRun) → draws command ≡ false
    → ChangesBy status command gave false was run → ChangesBy status command gave tells drawn run
plain_changes status Probe gave tells was drawn run none change = tt
plain_changes status (Recover profile) gave tells was drawn run none change = tt
plain_changes status (Read profile reading) gave tells was drawn run none change = tt
plain_changes status (ChangeFile profile what) gave tells was drawn run none change = λ secrets has. by_secrets secrets (change secrets has)
  where
    by_secrets : (secrets : List Secret) → IsSafely status (ChangeFile profile what) false was run (renewed_with profile what secrets)
        → IsSafely status (ChangeFile profile what) tells drawn run (renewed_with profile what secrets)
    by_secrets [] safe = tt
    by_secrets (first ∷ []) safe = tt
    by_secrets (first ∷ second ∷ rest) safe = plain_safely status profile what first second tells was drawn run none safe
plain_changes status (Make profile rows) gave tells was drawn run none change = λ secrets has. by_secrets secrets (change secrets has)
  where
    by_secrets : (secrets : List Secret) → MakesWith status profile rows false was run secrets → MakesWith status profile rows tells drawn run secrets
    by_secrets [] makes = tt
    by_secrets (secret ∷ rest) makes = record {
      made = makes.made;
      safely = λ free. renews_as status (IsMade profile secret rows) _ _ HasNoMain IsAlone tells run
          (λ file ciphered. absurd (never_both (is_plain profile) none ciphered)) (makes.safely free);
    }

-- ---- the faults

-- a command that draws, of what it may answer as one that changes the file
pub drawing_causes : (status : Status) (alters drawing : Bool) (a b d e f g : ℕ) → drawing ≡ true → HasDrawnCauses status alters a b d e f g → HasDrawnCauses status drawing a b d e f g
drawing_causes status alters drawing a b d e f g is causes = record {
  disk = causes.disk;
  output = causes.output;
  entropy = λ failed. ((causes.entropy failed).0, is);
  input = causes.input;
  usage = causes.usage;
  late = causes.late;
  disk_later = causes.disk_later;
  output_later = causes.output_later;
  entropy_later = causes.entropy_later;
}

-- and one that has no entropy: its count of faults cannot rise
pub undrawing_causes : (status : Status) (alters drawing : Bool) (a b d e f : ℕ) → HasDrawnCauses status alters a b d e 0 0 → HasDrawnCauses status drawing a b d e f f
undrawing_causes status alters drawing a b d e f causes = record {
  disk = causes.disk;
  output = causes.output;
  entropy = λ failed. absurd (omega (arith, (causes.entropy failed).0));
  input = causes.input;
  usage = causes.usage;
  late = causes.late;
  disk_later = causes.disk_later;
  output_later = causes.output_later;
  entropy_later = omega arith;
}
