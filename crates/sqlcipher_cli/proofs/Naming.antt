-- A command that `run` carries out is the one whose name its words have.
use Rattle.std.proofs.Common.{◌≡◌, ℕ, Bool, true, false, List, [], ◌∷◌, Option, Some, None, if◌then◌else◌, codes, refl, sym, ap, subst, ◌∙◌}
use Rattle.std.specs.Option.{option_map, option_and_then}
use Rattle.std.specs.Str.{bytes_eq}
use Rattle.std.proofs.lemmas.Slice.Eq.{bytes_eq-Decides}
use Rattle.cipher_profile.specs.declared.profile.Profile.{Profile}
use Rattle.profile_word.specs.Word.{named_without_log, profile_named}
use Rattle.text_lines.specs.Numbers.{number_named}
use Rattle.sqlcipher_tool.specs.Words.{alters, field_named, form, play_form, rowid_named, two_profiles}
use Rattle.sqlcipher_tool.specs.declared.change.Change.{Change}
use Rattle.sqlcipher_tool.specs.declared.change.Change.TheVariants.{Stamp as StampChange, Settle as SettleChange, Rekey as RekeyChange, Migrate as MigrateChange}
use Rattle.sqlcipher_tool.specs.declared.command.Command.{Command}
use Rattle.sqlcipher_tool.specs.declared.command.Command.TheVariants.{Probe as ProbeFile, Recover as RecoverFile, Read as ReadFile, Change as ChangeFile, Make as MakeFile}
use Rattle.sqlcipher_tool.specs.declared.reading.Job.TheVariants.{Verify as VerifyJob, Export as ExportJob, Agree as AgreeJob, Find as FindJob}
use Rattle.sqlcipher_tool.specs.declared.reading.Reading.TheVariants.{Tags as ReadTags, Header as ReadHeader, Salvage as ReadSalvage, OnPages}
use Rattle.sqlcipher_cli.specs.Named.{changes_file, command_of, only_reads, reads, word_named, word_of}
use Rattle.sqlcipher_cli.specs.declared.commands.Word.{Word}
use Rattle.sqlcipher_cli.specs.declared.commands.Word.TheVariants.{Tags, Header, Verify, Export, Agree, Salvage, Find, Probe, Recover, Settle, Stamp, Rekey, Migrate, Make, Play}

-- whatever is made is of this command
abbrev Makes : Word → Option Command → Type 0
Makes word made = (command : Command) → made ≡ Some command → word_of command ≡ word

makes_map : {A : Type 0} (word : Word) (make : A → Command) → ((a : A) → word_of (make a) ≡ word) → (o : Option A) → Makes word (option_map make o)
makes_map word make of None command is = cc is
makes_map word make of (Some a) command is = let same : make a ≡ command = cc is in ap word_of (sym same) ∙ of a

makes_then : {A : Type 0} (word : Word) (make : A → Option Command) → ((a : A) → Makes word (make a)) → (o : Option A) → Makes word (option_and_then make o)
makes_then word make of None command is = cc is
makes_then word make of (Some a) command is = of a command is

-- where the name is this text, the command is of its word; else it is another one's
at : (command : Command) (name text : List ℕ) (word : Word) (here there : Option Command) → word_named text ≡ Some word → Makes word here
    → (there ≡ Some command → word_named name ≡ Some (word_of command)) → (if bytes_eq name text then here else there) ≡ Some command
    → word_named name ≡ Some (word_of command)
at command name text word here there known of other = by (bytes_eq name text) refl
  where
    by : (test : Bool) → bytes_eq name text ≡ test → (if test then here else there) ≡ Some command → word_named name ≡ Some (word_of command)
    by true same is =
        subst (λ (t : List ℕ). word_named t ≡ Some (word_of command)) (sym ((bytes_eq-Decides name text).0 same)) (known ∙ ap Some (sym (of command is)))
    by false differs is = other is

nothing : (command : Command) (name : List ℕ) → None ≡ Some command → word_named name ≡ Some (word_of command)
nothing command name is = cc is

two_make : (change : Profile → Change) (word : Word) → ((old new : Profile) → word_of (ChangeFile old (change new)) ≡ word) → (first second : List ℕ) → Makes word (two_profiles change first second)
two_make change word of first second =
    makes_then word _ (λ old. makes_map word _ (λ new. of old new) (profile_named second)) (profile_named first)

pub carried : (words : List (List ℕ)) (command : Command) → form words ≡ Some command → command_of words ≡ Some (word_of command)
carried [] command is = cc is
carried (name ∷ []) command is = at command name (codes "probe") Probe (Some ProbeFile) None refl (λ other same. let was : ProbeFile ≡ other = cc same in ap word_of (sym was)) (nothing command name) is
carried (name ∷ word ∷ []) command is =
    at command name (codes "tags") Tags _ _ refl (makes_map Tags _ (λ profile. refl) (profile_named word))
    (at command name (codes "header") Header _ _ refl (makes_map Header _ (λ profile. refl) (profile_named word))
    (at command name (codes "verify") Verify _ _ refl (makes_map Verify _ (λ profile. refl) (profile_named word))
    (at command name (codes "export") Export _ _ refl (makes_map Export _ (λ profile. refl) (profile_named word))
    (at command name (codes "agree") Agree _ _ refl (makes_map Agree _ (λ profile. refl) (profile_named word))
    (at command name (codes "salvage") Salvage _ _ refl (makes_map Salvage _ (λ profile. refl) (profile_named word))
    (at command name (codes "recover") Recover _ _ refl (makes_map Recover _ (λ profile. refl) (profile_named word))
    (at command name (codes "settle") Settle _ _ refl (makes_map Settle _ (λ profile. refl) (profile_named word)) (nothing command name)))))))) is
carried (name ∷ first ∷ second ∷ []) command is =
    at command name (codes "rekey") Rekey _ _ refl (two_make RekeyChange Rekey (λ old new. refl) first second)
    (at command name (codes "migrate") Migrate _ _ refl (two_make MigrateChange Migrate (λ old new. refl) first second)
    (at command name (codes "make") Make _ _ refl (makes_then Make _ (λ profile. makes_map Make _ (λ rows. refl) (number_named second)) (profile_named first)) (nothing command name))) is
carried (name ∷ first ∷ second ∷ third ∷ []) command is =
    at command name (codes "stamp") Stamp _ _ refl
    (makes_then Stamp _ (λ profile. makes_then Stamp _ (λ field. makes_map Stamp _ (λ value. refl) (number_named third)) (field_named second)) (profile_named first))
    (nothing command name) is
carried (name ∷ first ∷ second ∷ third ∷ fourth ∷ []) command is =
    at command name (codes "find") Find _ _ refl
    (makes_then Find _ (λ profile. makes_then Find _ (λ low. makes_map Find _ (λ high. refl) (rowid_named fourth)) (rowid_named third)) (profile_named first))
    (nothing command name) is
carried (name ∷ first ∷ second ∷ third ∷ fourth ∷ fifth ∷ rest) command is = cc is

-- ---- a script

-- the words of a `play` have its name
pub plays : (words : List (List ℕ)) (profile : Profile) → play_form words ≡ Some profile → command_of words ≡ Some Play
plays [] profile is = cc is
plays (name ∷ []) profile is = cc is
plays (name ∷ word ∷ []) profile is = by (bytes_eq name (codes "play")) refl is
  where
    by : (test : Bool) → bytes_eq name (codes "play") ≡ test → (if test then named_without_log word else None) ≡ Some profile → word_named name ≡ Some Play
    by true same is = subst (λ (text : List ℕ). word_named text ≡ Some Play) (sym ((bytes_eq-Decides name (codes "play")).0 same)) refl
    by false differs is = cc is
plays (name ∷ word ∷ next ∷ rest) profile is = cc is

-- ---- what they do

pub reads_as : (command : Command) → only_reads (word_of command) ≡ reads command
reads_as ProbeFile = refl
reads_as (RecoverFile profile) = refl
reads_as (ReadFile profile ReadTags) = refl
reads_as (ReadFile profile ReadHeader) = refl
reads_as (ReadFile profile ReadSalvage) = refl
reads_as (ReadFile profile (OnPages VerifyJob)) = refl
reads_as (ReadFile profile (OnPages ExportJob)) = refl
reads_as (ReadFile profile (OnPages AgreeJob)) = refl
reads_as (ReadFile profile (OnPages (FindJob name low high))) = refl
reads_as (ChangeFile profile (StampChange field value)) = refl
reads_as (ChangeFile profile (SettleChange frames)) = refl
reads_as (ChangeFile profile (RekeyChange new)) = refl
reads_as (ChangeFile profile (MigrateChange new)) = refl
reads_as (MakeFile profile rows) = refl

pub alters_as : (command : Command) → changes_file (word_of command) ≡ alters command
alters_as ProbeFile = refl
alters_as (RecoverFile profile) = refl
alters_as (ReadFile profile ReadTags) = refl
alters_as (ReadFile profile ReadHeader) = refl
alters_as (ReadFile profile ReadSalvage) = refl
alters_as (ReadFile profile (OnPages VerifyJob)) = refl
alters_as (ReadFile profile (OnPages ExportJob)) = refl
alters_as (ReadFile profile (OnPages AgreeJob)) = refl
alters_as (ReadFile profile (OnPages (FindJob name low high))) = refl
alters_as (ChangeFile profile (StampChange field value)) = refl
alters_as (ChangeFile profile (SettleChange frames)) = refl
alters_as (ChangeFile profile (RekeyChange new)) = refl
alters_as (ChangeFile profile (MigrateChange new)) = refl
alters_as (MakeFile profile rows) = refl

-- where words are of a command, the word that was found is its own
pub found_as : (word : Word) (command : Command) → Some word ≡ Some (word_of command) → word ≡ word_of command
found_as word command is = cc is

pub alters_found : (word : Word) (command : Command) → Some word ≡ Some (word_of command) → changes_file word ≡ alters command
alters_found word command is = ap changes_file (found_as word command is) ∙ alters_as command

pub reads_found : (word : Word) (command : Command) → Some word ≡ Some (word_of command) → only_reads word ≡ reads command
reads_found word command is = ap only_reads (found_as word command is) ∙ reads_as command

pub unfound : (word : Word) → ◌≡◌ {A = Option Word} None (Some word) → ⊥
unfound word is = cc is
