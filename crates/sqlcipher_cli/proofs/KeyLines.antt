-- The lines that words take are those for which their command has a key line read.
use Rattle.std.proofs.Common.{◌≡◌, ℕ, Bool, true, false, List, [], ◌∷◌, Option, Some, None, if◌then◌else◌, map, codes, refl, sym, ap, subst, ◌∙◌}
use Rattle.std.specs.Prelude.{is_some, not}
use Rattle.std.specs.Option.{option_map, option_and_then}
use Rattle.std.specs.Str.{bytes_eq}
use Rattle.cipher_profile.specs.Profile.{form_of, is_plain}
use Rattle.cipher_profile.specs.declared.profile.LineForm.{LineForm}
use Rattle.cipher_profile.specs.declared.profile.Profile.{Profile}
use Rattle.profile_word.specs.Word.{profile_named}
use Rattle.text_lines.specs.Numbers.{number_named}
use Rattle.sqlcipher_tool.specs.Words.{asked_keys, field_named, form, rowid_named, two_profiles}
use Rattle.sqlcipher_tool.specs.declared.change.Change.{Change}
use Rattle.sqlcipher_tool.specs.declared.change.Change.TheVariants.{Rekey as RekeyChange, Migrate as MigrateChange}
use Rattle.sqlcipher_tool.specs.declared.command.Command.{Command}
use Rattle.sqlcipher_tool.specs.declared.command.Command.TheVariants.{Probe as ProbeFile, Read as ReadFile, Change as ChangeFile}
use Rattle.sqlcipher_tool.specs.declared.reading.Job.TheVariants.{Verify as VerifyJob, Export as ExportJob, Agree as AgreeJob, Find as FindJob}
use Rattle.sqlcipher_tool.specs.declared.reading.Reading.{Reading}
use Rattle.sqlcipher_tool.specs.declared.reading.Reading.TheVariants.{Tags as ReadTags, Header as ReadHeader, Salvage as ReadSalvage, OnPages}
use Rattle.sqlcipher_cli.specs.KeyLines.{lines_of, lines_of_one, lines_of_two, taken, third_of, version_of}
use Rattle.sqlcipher_cli.specs.Named.{word_of}
use Rattle.sqlcipher_cli.specs.Plain.{is_plain_of, names_plain}
use Rattle.sqlcipher_cli.specs.declared.commands.Lines.{Lines}
use Rattle.sqlcipher_cli.specs.declared.commands.Lines.TheVariants.{Old, New}

-- a key line is read for a file that is not plain
form_by : (plain : Bool) (form : LineForm) → is_some (if plain then None else Some form) ≡ not plain
form_by true form = refl
form_by false form = refl

has_form : (profile : Profile) → is_some (form_of profile) ≡ not (is_plain profile)
has_form profile = form_by (is_plain profile) _

old_by : (plain : Bool) → taken (lines_of_one Old plain) ≡ not plain ∷ false ∷ []
old_by true = refl
old_by false = refl

new_by : (plain : Bool) → taken (lines_of_one New plain) ≡ not plain ∷ false ∷ []
new_by true = refl
new_by false = refl

two_by : (plain other : Bool) → taken (lines_of_two plain other) ≡ not plain ∷ not other ∷ []
two_by true true = refl
two_by true false = refl
two_by false true = refl
two_by false false = refl

-- of a file of this profile
one_of : (lines : Lines) (first : List ℕ) (profile : Profile) → ((plain : Bool) → taken (lines_of_one lines plain) ≡ not plain ∷ false ∷ []) → profile_named first ≡ Some profile
    → taken (lines_of_one lines (names_plain first)) ≡ is_some (form_of profile) ∷ false ∷ []
one_of lines first profile by named =
    by (names_plain first) ∙ ap (λ (plain : Bool). not plain ∷ false ∷ []) (ap is_plain_of named) ∙ ap (λ (asked : Bool). asked ∷ false ∷ []) (sym (has_form profile))

-- of a file of this profile, and a new one of another
two_of : (first second : List ℕ) (old new : Profile) → profile_named first ≡ Some old → profile_named second ≡ Some new
    → taken (lines_of_two (names_plain first) (names_plain second)) ≡ is_some (form_of old) ∷ is_some (form_of new) ∷ []
two_of first second old new named other =
    two_by (names_plain first) (names_plain second)
    ∙ ap (λ (plain : Bool). not plain ∷ not (names_plain second) ∷ []) (ap is_plain_of named)
    ∙ ap (λ (plain : Bool). not (is_plain old) ∷ not plain ∷ []) (ap is_plain_of other)
    ∙ ap (λ (asked : Bool). asked ∷ not (is_plain new) ∷ []) (sym (has_form old))
    ∙ ap (λ (asked : Bool). is_some (form_of old) ∷ asked ∷ []) (sym (has_form new))

-- with these two words the lines are those that the command asks
abbrev Asks : List ℕ → List ℕ → Command → Type 0
Asks first second command = taken (lines_of (word_of command) (names_plain first) (names_plain second)) ≡ map is_some (asked_keys command)

reads_ask : (first second : List ℕ) (profile : Profile) (reading : Reading) → profile_named first ≡ Some profile → Asks first second (ReadFile profile reading)
reads_ask first second profile ReadTags named = one_of Old first profile old_by named
reads_ask first second profile ReadHeader named = one_of Old first profile old_by named
reads_ask first second profile ReadSalvage named = one_of Old first profile old_by named
reads_ask first second profile (OnPages VerifyJob) named = one_of Old first profile old_by named
reads_ask first second profile (OnPages ExportJob) named = one_of Old first profile old_by named
reads_ask first second profile (OnPages AgreeJob) named = one_of Old first profile old_by named
reads_ask first second profile (OnPages (FindJob name low high)) named = one_of Old first profile old_by named

-- ---- what a command that is made of words comes of

of_map : {A : Type 0} (make : A → Command) (o : Option A) (command : Command) (Goal : Command → Type 0) → option_map make o ≡ Some command
    → ((a : A) → o ≡ Some a → Goal (make a)) → Goal command
of_map make None command Goal is go = cc is
of_map make (Some a) command Goal is go = let same : make a ≡ command = cc is in subst Goal same (go a refl)

of_then : {A : Type 0} (make : A → Option Command) (o : Option A) (command : Command) (Goal : Command → Type 0) → option_and_then make o ≡ Some command
    → ((a : A) → o ≡ Some a → make a ≡ Some command → Goal command) → Goal command
of_then make None command Goal is go = cc is
of_then make (Some a) command Goal is go = go a refl is

-- the name is this text, or it is not
either : (name text : List ℕ) (here there : Option Command) (command : Command) (Goal : Type 0) → (if bytes_eq name text then here else there) ≡ Some command
    → (here ≡ Some command → Goal) → (there ≡ Some command → Goal) → Goal
either name text here there command Goal is met unmet = by (bytes_eq name text) is
  where
    by : (test : Bool) → (if test then here else there) ≡ Some command → Goal
    by true was = met was
    by false was = unmet was

reading : (word : List ℕ) (job : Reading) (command : Command) → option_map (λ profile. ReadFile profile job) (profile_named word) ≡ Some command → Asks word [] command
reading word job command is = of_map _ (profile_named word) command (Asks word []) is (λ profile named. reads_ask word [] profile job named)

changing : (change : Profile → Change) (first second : List ℕ) (command : Command)
    → ((old new : Profile) → profile_named first ≡ Some old → profile_named second ≡ Some new → Asks first second (ChangeFile old (change new)))
    → two_profiles change first second ≡ Some command → Asks first second command
changing change first second command asks is =
    of_then _ (profile_named first) command (Asks first second) is
    (λ old named rest. of_map _ (profile_named second) command (Asks first second) rest (λ new other. asks old new named other))

nothing : (command : Command) (Goal : Type 0) → None ≡ Some command → Goal
nothing command Goal is = cc is

pub asked : (words : List (List ℕ)) (command : Command) → form words ≡ Some command → Asks (version_of words) (third_of words) command
asked [] command is = cc is
asked (name ∷ []) command is =
    either name (codes "probe") _ _ command _ is (λ same. let was : ProbeFile ≡ command = cc same in subst (Asks (codes "4") []) was refl) (nothing command _)
asked (name ∷ word ∷ []) command is =
    either name (codes "tags") _ _ command _ is (reading word ReadTags command)
    (λ is. either name (codes "header") _ _ command _ is (reading word ReadHeader command)
    (λ is. either name (codes "verify") _ _ command _ is (reading word (OnPages VerifyJob) command)
    (λ is. either name (codes "export") _ _ command _ is (reading word (OnPages ExportJob) command)
    (λ is. either name (codes "agree") _ _ command _ is (reading word (OnPages AgreeJob) command)
    (λ is. either name (codes "salvage") _ _ command _ is (reading word ReadSalvage command)
    (λ is. either name (codes "recover") _ _ command _ is (λ same. of_map _ (profile_named word) command (Asks word []) same (λ profile named. refl))
    (λ is. either name (codes "settle") _ _ command _ is
    (λ same. of_map _ (profile_named word) command (Asks word []) same (λ profile named. one_of Old word profile old_by named)) (nothing command _))))))))
asked (name ∷ first ∷ second ∷ []) command is =
    either name (codes "rekey") _ _ command _ is (changing RekeyChange first second command (λ old new named other. two_of first second old new named other))
    (λ is. either name (codes "migrate") _ _ command _ is
    (changing MigrateChange first second command (λ old new named other. two_of first second old new named other))
    (λ is. either name (codes "make") _ _ command _ is
    (λ same. of_then _ (profile_named first) command (Asks first second) same
    (λ profile named rest. of_map _ (number_named second) command (Asks first second) rest (λ rows other. one_of New first profile new_by named)))
    (nothing command _)))
asked (name ∷ first ∷ second ∷ third ∷ []) command is =
    either name (codes "stamp") _ _ command _ is
    (λ same. of_then _ (profile_named first) command (Asks first second) same
    (λ profile named rest. of_then _ (field_named second) command (Asks first second) rest
    (λ field other last. of_map _ (number_named third) command (Asks first second) last (λ value number. one_of Old first profile old_by named))))
    (nothing command _)
asked (name ∷ first ∷ second ∷ third ∷ fourth ∷ []) command is =
    either name (codes "find") _ _ command _ is
    (λ same. of_then _ (profile_named first) command (Asks first second) same
    (λ profile named rest. of_then _ (rowid_named third) command (Asks first second) rest
    (λ low other last. of_map _ (rowid_named fourth) command (Asks first second) last (λ high number. one_of Old first profile old_by named))))
    (nothing command _)
asked (name ∷ first ∷ second ∷ third ∷ fourth ∷ fifth ∷ rest) command is = cc is
