-- What a command that was asked for keeps, changes and draws, by cases on the command.
use Rattle.std.proofs.Common.{◌≡◌, ◌⊎◌, ⊎_elim, inl, ◌==◌, ◌&&◌, ◌||◌, not, if◌then◌else◌, rules, ℕ, Bool, true, false, List, [], ◌∷◌, Option, Some, None, Ok, IsTrue, refl, sym, ap, subst, ◌∙◌, arith}
use Rattle.std.specs.Bool.{beq}
use Rattle.cipher_profile.specs.declared.keys.Secret.{Secret}
use Rattle.cipher_profile.specs.declared.profile.LineForm.{LineForm}
use Rattle.cipher_profile.specs.declared.profile.Profile.{Profile}
use Rattle.cipher_profile.specs.Profile.{is_plain}
use Rattle.edge_model.specs.Files.{Files}
use Rattle.sqlcipher_tool.specs.Answer.{HasCauses, HasDrawnCauses}
use Rattle.sqlcipher_tool.specs.Crash.{ChangesBy, GaveKeys, DrewOwn, IsDrawnFor, IsSafely, Keeps, KeepsFresh, KeepsHeld, MakesWith, Stays}
use Rattle.sqlcipher_tool.specs.Holding.{DiskRun, disk_run}
use Rattle.sqlcipher_tool.specs.Renewal.{Renewal, renewal, renewed_with}
use Rattle.sqlcipher_tool.specs.Due.{key_lines, word_refusal}
use Rattle.sqlcipher_tool.specs.declared.change.Change.{Change}
use Rattle.sqlcipher_tool.specs.declared.change.Change.TheVariants.{Stamp, Settle, Rekey, Migrate}
use Rattle.sqlcipher_tool.specs.Promises.{asks_some}
use Rattle.sqlcipher_tool.specs.Words.{alters, changes_layout, is_in_place, is_only_read, lacks_tags, layouts_differ, writes_beside}
use Rattle.sqlcipher_tool.specs.declared.status.Refusal.TheVariants.{NoTags, LayoutDiffers, OnlyRead}
use Rattle.sqlcipher_tool.specs.declared.command.Command.{Command}
use Rattle.sqlcipher_tool.specs.declared.command.Command.TheVariants.{Probe, Recover, Read, Change as ChangeFile, Make}
use Rattle.sqlcipher_tool.specs.declared.status.Refusal.{Refusal}
use Rattle.sqlcipher_tool.specs.declared.status.Status.{Status}
use Rattle.sqlcipher_tool.specs.declared.status.Status.TheVariants.{Done, Refused, OutputFault}
use Rattle.sqlcipher_tool.proofs.Answered.{keys_ok}

-- a refusal is not Done
pub refusal_not_done : (refusal : Refusal) (status : Status) → (status ≡ Refused refusal) ⊎ (status ≡ OutputFault) → status ≡ Done → ⊥
refusal_not_done refusal status is done = ⊎_elim (λ (same : status ≡ Refused refusal). refused (sym same ∙ done)) (λ (out : status ≡ OutputFault). output (sym out ∙ done)) is
  where
    refused : Refused refusal ≡ Done → ⊥
    refused is = cc

    output : OutputFault ≡ Done → ⊥
    output is = cc

ok_same : (a b : List Secret) → keys_ok a ≡ keys_ok b → a ≡ b
ok_same a b is = cc

-- the secrets that were given
pub same_secrets : (tells : Bool) (asked : List (Option LineForm)) (left : List ℕ) (these : List Secret) → ((asks_some asked ≡ true → IsTrue tells) → key_lines asked left ≡ Ok these) → (secrets : List Secret)
    → GaveKeys tells asked left secrets → secrets ≡ these
same_secrets tells asked left these is secrets gave = ok_same secrets these (sym gave.1 ∙ is gave.0)

-- what holds of all secrets that may have been given holds of those that were
pub changes_of : (status : Status) (command : Command) (tells : Bool) (drawn : List ℕ) (run : DiskRun) (gave given : List Secret → Type 0) → ((secrets : List Secret) → given secrets → gave secrets)
    → ChangesBy status command gave tells drawn run → ChangesBy status command given tells drawn run
changes_of status Probe tells drawn run gave given more was = was
changes_of status (Recover profile) tells drawn run gave given more was = was
changes_of status (Read profile reading) tells drawn run gave given more was = was
changes_of status (ChangeFile profile change) tells drawn run gave given more was = λ secrets has. was secrets (more secrets has)
changes_of status (Make profile rows) tells drawn run gave given more was = λ secrets has. was secrets (more secrets has)

pub draws_of : (command : Command) (file drawn : List ℕ) (gave given : List Secret → Type 0) → ((secrets : List Secret) → given secrets → gave secrets)
    → DrewOwn command gave file drawn → DrewOwn command given file drawn
draws_of command file drawn gave given more was = λ secrets has. was secrets (more secrets has)

-- a command that renews no file
pub no_draws : (command other : Command) → command ≡ other → ((secrets : List Secret) → renewal other secrets ≡ None) → (gave : List Secret → Type 0) (file drawn : List ℕ)
    → DrewOwn command gave file drawn
no_draws command other is none gave file drawn = λ secrets has.
    subst (λ (r : Option Renewal). IsDrawnFor command r file drawn) (sym (ap (λ (c : Command). renewal c secrets) is ∙ none secrets)) tt

-- the causes of a command that draws nothing
pub undrawn : (status : Status) (draws : Bool) (a b d e f g : ℕ) → HasCauses status a b d e → g ≡ f → HasDrawnCauses status draws a b d e f g
undrawn status draws a b d e f g causes same = record {
  disk = causes.disk;
  output = causes.output;
  entropy = λ is. absurd (causes.entropy is);
  input = causes.input;
  usage = causes.usage;
  late = causes.late;
  disk_later = causes.disk_later;
  output_later = causes.output_later;
  entropy_later = omega (arith, same);
}

-- ---- what the words refuse

-- a command that they don't refuse has the tags that it asks for, and pages of one layout
pub none_refused : (command : Command) → word_refusal command ≡ None → (lacks_tags command ≡ false) × (layouts_differ command ≡ false)
none_refused command is = both (is_only_read command) (lacks_tags command) (layouts_differ command) is
  where
    both : (read a b : Bool) → (if read then Some OnlyRead else (if a then Some NoTags else (if b then Some LayoutDiffers else None))) ≡ None
        → (a ≡ false) × (b ≡ false)
    both true a b is = cc
    both false true b is = cc
    both false false true is = cc
    both false false false is = (refl, refl)

pub same_layout : (old new : Profile) → changes_layout old (Rekey new) ≡ false
    → (new.page_size ≡ old.page_size) × (new.reserve ≡ old.reserve) × (new.reads_log ≡ old.reads_log)
same_layout old new is = equal (is_plain old) old.page_size new.page_size old.reserve new.reserve old.reads_log new.reads_log is
  where
    same : (p q : Bool) → beq p q ≡ true → q ≡ p
    same true true is = refl
    same true false is = is
    same false true is = sym is
    same false false is = refl

    kept : (a b d : Bool) → not (a && b && d) ≡ false → (a ≡ true) × (b ≡ true) × (d ≡ true)
    kept true true true is = (refl, refl, refl)
    kept true true false is = cc
    kept true false d is = cc
    kept false b d is = cc

    equal : (plain : Bool) (a b d e : ℕ) (p q : Bool) → (plain || not (a == b && d == e && beq p q)) ≡ false → (b ≡ a) × (e ≡ d) × (q ≡ p)
    equal true a b d e p q is = cc
    equal false a b d e p q is =
        let each = kept (a == b) (d == e) (beq p q) is in
        (search (rules, each.0), search (rules, each.1), same p q each.2)

-- ---- a change of a file

-- one in place keeps Fresh
pub change_keeps : (profile : Profile) (change : Change) (run : DiskRun) → (is_in_place change ≡ true → KeepsFresh run) → Keeps (ChangeFile profile change) run
change_keeps profile (Stamp field value) run fresh = fresh refl
change_keeps profile (Settle frames) run fresh = fresh refl
change_keeps profile (Rekey new) run fresh = fresh refl
change_keeps profile (Migrate new) run fresh = tt

-- and another writes beside
pub not_in_place : (in_place : Bool) → not in_place ≡ true → in_place ≡ false
not_in_place true beside = cc
not_in_place false beside = refl

-- a command that writes nothing beside
pub none_beside : (command other : Command) → command ≡ other → writes_beside other ≡ false → writes_beside command ≡ true → ⊥
none_beside command other is none beside = let no = sym none ∙ (sym (ap writes_beside is) ∙ beside) in cc

-- ---- no call of the disk

module _ {D : Type 0} (reads : D → Files) (images : D → Files → Type 0) (moment : D → ℕ) (since : D → ℕ → Files → Type 0)
    (only_now : (disk : D) (c : Files) → since disk (moment disk) c → images disk c) where
  abbrev pub still : D → DiskRun
  still disk = disk_run reads images moment since disk disk

  held : (size : ℕ) (disk : D) → KeepsHeld size (still disk)
  held size disk = record {
    comes = λ c ever. (c, only_now disk c ever, record { no_other = λ file to. to; still = λ file to. (file, to); fresh = refl });
    holds = λ list sizes start c ever. start c (only_now disk c ever);
  }

  stays : (disk : D) → Stays (still disk)
  stays disk = record { reads = refl; no_more = λ c ever. only_now disk c ever; no_fewer = λ c now. now }

  pub unchanged_keeps : (command : Command) (disk : D) → Keeps command (still disk)
  unchanged_keeps Probe disk = stays disk
  unchanged_keeps (Recover profile) disk = held profile.page_size disk
  unchanged_keeps (Read profile reading) disk = held profile.page_size disk
  unchanged_keeps (ChangeFile profile change) disk = change_keeps profile change (still disk) (λ in_place c ever. (c, only_now disk c ever, refl))
  unchanged_keeps (Make profile rows) disk = record { in_the_way = λ there. stays disk; journal = λ c ever. (c, only_now disk c ever, refl) }

  safely : (status : Status) (command : Command) (tells : Bool) (drawn : List ℕ) (disk : D) (renewal : Option Renewal) → (status ≡ Done → ⊥)
      → IsSafely status command tells drawn (still disk) renewal
  safely status command tells drawn disk None never = tt
  safely status command tells drawn disk (Some renewal) never = λ start. inl (record { any_moment = λ c ever. start c (only_now disk c ever); not_done = never })

  makes : (status : Status) (profile : Profile) (rows : ℕ) (tells : Bool) (drawn : List ℕ) (disk : D) (secrets : List Secret) → (status ≡ Done → ⊥)
      → MakesWith status profile rows tells drawn (still disk) secrets
  makes status profile rows tells drawn disk [] never = tt
  makes status profile rows tells drawn disk (secret ∷ rest) never = record {
    made = λ done. absurd (never done);
    safely = λ free. inl (record { any_moment = λ c ever. (free c (only_now disk c ever)).main; not_done = never });
  }

  pub unchanged_changes : (status : Status) (command : Command) (gave : List Secret → Type 0) (tells : Bool) (drawn : List ℕ) (disk : D) → (status ≡ Done → ⊥)
      → ChangesBy status command gave tells drawn (still disk)
  unchanged_changes status Probe gave tells drawn disk never = tt
  unchanged_changes status (Recover profile) gave tells drawn disk never = tt
  unchanged_changes status (Read profile reading) gave tells drawn disk never = tt
  unchanged_changes status (ChangeFile profile change) gave tells drawn disk never =
      λ secrets has. safely status (ChangeFile profile change) tells drawn disk (renewed_with profile change secrets) never
  unchanged_changes status (Make profile rows) gave tells drawn disk never = λ secrets has. makes status profile rows tells drawn disk secrets never
