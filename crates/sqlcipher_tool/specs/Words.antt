-- The words of the command line. P and P2 name profiles, and N is one to ten digits, at most 4,294,967,295. NAME is any word. LOW and
-- HIGH are one to 19 digits, with or without a minus before them, and from -2^63 to 2^63 - 1. What is yes or no of a command stands below,
-- a row each, in `traits`.
--
-- | words                      | command                               |
-- | `probe`                    | Probe                                 |
-- | `recover P`                | Recover profile P                     |
-- | `tags P`                   | Read profile P, Tags                  |
-- | `header P`                 | Read profile P, Header                |
-- | `salvage P`                | Read profile P, Salvage               |
-- | `verify P`                 | Read profile P, OnPages Verify        |
-- | `export P`                 | Read profile P, OnPages Export        |
-- | `agree P`                  | Read profile P, OnPages Agree         |
-- | `find P NAME LOW HIGH`     | Read profile P, OnPages (Find NAME LOW HIGH) |
-- | `stamp P user-version N`   | Change profile P, Stamp UserVersion N |
-- | `stamp P application-id N` | Change profile P, Stamp ApplicationId N |
-- | `settle P`                 | Change profile P, Settle 0            |
-- | `rekey P P2`               | Change profile P, Rekey profile P2    |
-- | `migrate P P2`             | Change profile P, Migrate profile P2  |
-- | `make P N`                 | Make profile P N                      |
-- | `play P`                   | none of these: a script is played, as specs/Play.antt says |
use Rattle.std.specs.Prelude.{ℕ, ℤ, pos, neg_ℤ, ◌^◌, ◌-◌, drop, ◌==◌, ◌&&◌, ◌||◌, not, nat_le, nat_lt, Bool, true, false, List, [], ◌∷◌, length, map, Option, Some, None, codes, if◌then◌else◌}
use Rattle.std.specs.Borrow.{Bor}
use Rattle.std.specs.Char.{digit_value}
use Rattle.std.specs.Bool.{beq}
use Rattle.std.specs.List.{list_all}
use Rattle.std.specs.Option.{option_map, option_and_then}
use Rattle.std.specs.Str.{bytes_eq}
use Rattle.std.specs.Str.Parse.{digits_value, starts_with_minus}
use Rattle.cipher_profile.specs.Profile.{IsListed, form_of, is_plain, set_log}
use Rattle.profile_word.specs.Word.{named_without_log, profile_named}
use Rattle.cipher_profile.specs.declared.profile.LineForm.{LineForm}
use Rattle.cipher_profile.specs.declared.profile.Profile.{Profile}
use Rattle.text_lines.specs.Numbers.{number_named}
use Rattle.sqlcipher_tool.specs.declared.command.Command.{Command}
use Rattle.sqlcipher_tool.specs.declared.command.Command.TheVariants.{Probe, Recover, Read, Change as ChangeFile, Make}
use Rattle.sqlcipher_tool.specs.declared.command.Field.{Field}
use Rattle.sqlcipher_tool.specs.declared.command.Field.TheVariants.{UserVersion, ApplicationId}
use Rattle.sqlcipher_tool.specs.declared.change.Change.{Change}
use Rattle.sqlcipher_tool.specs.declared.change.Change.TheVariants.{Stamp, Settle, Rekey, Migrate}
use Rattle.sqlcipher_tool.specs.declared.reading.Job.{Job}
use Rattle.sqlcipher_tool.specs.declared.reading.Job.TheVariants.{Verify, Export, Agree, Find}
use Rattle.sqlcipher_tool.specs.declared.reading.Reading.{Reading}
use Rattle.sqlcipher_tool.specs.declared.reading.Reading.TheVariants.{Tags, Header, Salvage, OnPages}

-- the digits of a rowid, without its minus
abbrev pub rowid_digits : List ℕ → List ℕ
rowid_digits word = if starts_with_minus word then drop 1 word else word

-- the greatest distance from 0 of a rowid with this sign
abbrev pub most_of_sign : Bool → ℕ
most_of_sign true = 2 ^ 63
most_of_sign false = 2 ^ 63 - 1

-- the word is a rowid
abbrev pub is_rowid : List ℕ → Bool
is_rowid word =
    nat_le 1 (length (rowid_digits word)) && nat_le (length (rowid_digits word)) 19 && list_all (λ digit. nat_lt (digit_value digit) 10) (rowid_digits word)
    && nat_le (digits_value 10 (rowid_digits word)) (most_of_sign (starts_with_minus word))

abbrev pub rowid_value : List ℕ → ℤ
rowid_value word =
    if starts_with_minus word then neg_ℤ (pos (digits_value 10 (rowid_digits word))) else pos (digits_value 10 (rowid_digits word))

abbrev pub rowid_named : List ℕ → Option ℤ
rowid_named word = if is_rowid word then Some (rowid_value word) else None

abbrev pub field_named : List ℕ → Option Field
field_named word =
    if bytes_eq word (codes "user-version") then Some UserVersion
    else (if bytes_eq word (codes "application-id") then Some ApplicationId else None)

-- `stamp` with its three words
abbrev pub stamp_form : List ℕ → List ℕ → List ℕ → Option Command
stamp_form first second third =
    option_and_then (λ profile. option_and_then (λ field. option_map (λ value. ChangeFile profile (Stamp field value))
    (number_named third)) (field_named second)) (profile_named first)

-- a change from one profile to another, `rekey` or `migrate`, with its two words
abbrev pub two_profiles : (Profile → Change) → List ℕ → List ℕ → Option Command
two_profiles change first second = option_and_then (λ old. option_map (λ new. ChangeFile old (change new)) (profile_named second)) (profile_named first)

-- `make` with its two words
abbrev pub make_form : List ℕ → List ℕ → Option Command
make_form first second = option_and_then (λ profile. option_map (λ rows. Make profile rows) (number_named second)) (profile_named first)

-- `find` with its four words
abbrev pub find_form : List ℕ → List ℕ → List ℕ → List ℕ → Option Command
find_form first second third fourth =
    option_and_then (λ profile. option_and_then (λ low. option_map (λ high. Read profile (OnPages (Find second low high)))
    (rowid_named fourth)) (rowid_named third)) (profile_named first)

-- the command that the words make, or none
abbrev pub form : List (List ℕ) → Option Command
form [] = None
form (name ∷ []) = if bytes_eq name (codes "probe") then Some Probe else None
form (name ∷ word ∷ []) =
    if bytes_eq name (codes "tags") then option_map (λ profile. Read profile Tags) (profile_named word)
    else (if bytes_eq name (codes "header") then option_map (λ profile. Read profile Header) (profile_named word)
    else (if bytes_eq name (codes "verify") then option_map (λ profile. Read profile (OnPages Verify)) (profile_named word)
    else (if bytes_eq name (codes "export") then option_map (λ profile. Read profile (OnPages Export)) (profile_named word)
    else (if bytes_eq name (codes "agree") then option_map (λ profile. Read profile (OnPages Agree)) (profile_named word)
    else (if bytes_eq name (codes "salvage") then option_map (λ profile. Read profile Salvage) (profile_named word)
    else (if bytes_eq name (codes "recover") then option_map Recover (profile_named word)
    else (if bytes_eq name (codes "settle") then option_map (λ profile. ChangeFile profile (Settle 0)) (profile_named word) else None)))))))
form (name ∷ first ∷ second ∷ []) =
    if bytes_eq name (codes "rekey") then two_profiles Rekey first second
    else (if bytes_eq name (codes "migrate") then two_profiles Migrate first second
    else (if bytes_eq name (codes "make") then make_form first second else None))
form (name ∷ first ∷ second ∷ third ∷ []) = if bytes_eq name (codes "stamp") then stamp_form first second third else None
form (name ∷ first ∷ second ∷ third ∷ fourth ∷ []) = if bytes_eq name (codes "find") then find_form first second third fourth else None
form (name ∷ first ∷ second ∷ third ∷ fourth ∷ fifth ∷ rest) = None

-- the profile of a `play`, none where the words are none
abbrev pub play_form : List (List ℕ) → Option Profile
play_form [] = None
play_form (name ∷ []) = None
play_form (name ∷ word ∷ []) = if bytes_eq name (codes "play") then named_without_log word else None
play_form (name ∷ word ∷ next ∷ rest) = None

-- whether the words are a `play` of a file that is only read with its log
abbrev pub reads_log_of : Option Profile → Bool
reads_log_of None = false
reads_log_of (Some profile) = profile.reads_log

abbrev pub plays_with_log : List (List ℕ) → Bool
plays_with_log [] = false
plays_with_log (name ∷ []) = false
plays_with_log (name ∷ word ∷ []) = bytes_eq name (codes "play") && reads_log_of (profile_named word)
plays_with_log (name ∷ word ∷ next ∷ rest) = false

-- ---- what is yes or no of a command

-- the marks of WAL mode and of auto-vacuum pass where the old file is opened: they are what `settle` looks for
abbrev pub passes_marks : Profile → Change → Bool
passes_marks profile (Stamp field value) = profile.reads_log
passes_marks profile (Settle frames) = true
passes_marks profile (Rekey new) = profile.reads_log
passes_marks profile (Migrate new) = profile.reads_log

-- the profile by which the old file is opened
abbrev pub profile_before : Profile → Change → Profile
profile_before profile change = set_log (passes_marks profile change) profile

-- the profile of the new file
abbrev pub profile_after : Profile → Change → Profile
profile_after profile (Stamp field value) = profile
profile_after profile (Settle frames) = profile
profile_after profile (Rekey new) = new
profile_after profile (Migrate new) = new

-- the form of a key line that is read for the new file alone, where one is
abbrev pub second_form : Change → Option LineForm
second_form (Stamp field value) = None
second_form (Settle frames) = None
second_form (Rekey new) = form_of new
second_form (Migrate new) = form_of new

-- it goes by a journal, and leaves Fresh as it is
abbrev pub is_in_place : Change → Bool
is_in_place (Stamp field value) = true
is_in_place (Settle frames) = true
is_in_place (Rekey new) = true
is_in_place (Migrate new) = false

-- it asks for new keys in place, of a profile whose pages have another size or reserve, or which has another setting, or of a plain
-- file, which has no key
abbrev pub changes_layout : Profile → Change → Bool
changes_layout old (Stamp field value) = false
changes_layout old (Settle frames) = false
changes_layout old (Rekey new) =
    is_plain old || not (old.page_size == new.page_size && old.reserve == new.reserve && beq old.reads_log new.reads_log)
changes_layout old (Migrate new) = false

-- it asks for tags that the profile has not
abbrev pub asks_tags : Profile → Reading → Bool
asks_tags profile Tags = profile.tag_len == 0
asks_tags profile Header = false
asks_tags profile Salvage = false
asks_tags profile (OnPages job) = false

-- it prints rows before it has looked at all pages that it reads
abbrev pub prints_rows : Job → Bool
prints_rows Verify = false
prints_rows Export = false
prints_rows Agree = false
prints_rows (Find name low high) = true

abbrev pub shows_rows : Reading → Bool
shows_rows Tags = false
shows_rows Header = false
shows_rows Salvage = false
shows_rows (OnPages job) = prints_rows job

pub record Traits : Type 0 where
  -- for each of two secrets, the form of the key line that is read for it: that of a plain file is none, and so is one that the command does
  -- not take
  pub asked : List (Option LineForm)
  -- the profile by which it recovers Main
  pub recovers : Option Profile
  -- it takes memory
  pub memory : Bool
  -- it changes the file: it seals pages of it
  pub altering : Bool
  -- it draws from the entropy, as pages are sealed that are not of a plain file
  pub drawing : Bool
  -- it writes a new file beside, in Fresh, which takes the place of Main
  pub beside : Bool
  -- it prints rows before it has looked at all pages that it reads
  pub early : Bool
  -- it would change a file that is only read with its log, or make one
  pub only_read : Bool
  -- it asks for tags that the profile has not
  pub untagged : Bool
  -- it asks for new keys in place where the layouts differ
  pub mismatched : Bool

-- the key line of `probe`: of a file that begins with its salt, and not in hex
abbrev pub probed_form : LineForm
probed_form = record { hex = false; salted = false }

abbrev pub traits : Command → Traits
traits Probe = record {
  asked = Some probed_form ∷ None ∷ [];
  recovers = None;
  memory = false;
  altering = false;
  drawing = false;
  beside = false;
  early = false;
  only_read = false;
  untagged = false;
  mismatched = false;
}
traits (Recover profile) = record {
  asked = None ∷ None ∷ [];
  recovers = Some profile;
  memory = true;
  altering = false;
  drawing = false;
  beside = false;
  early = false;
  only_read = profile.reads_log;
  untagged = false;
  mismatched = false;
}
traits (Read profile reading) = record {
  asked = form_of profile ∷ None ∷ [];
  recovers = Some profile;
  memory = true;
  altering = false;
  drawing = false;
  beside = false;
  early = shows_rows reading;
  only_read = false;
  untagged = asks_tags profile reading;
  mismatched = false;
}
traits (ChangeFile profile change) = record {
  asked = form_of profile ∷ second_form change ∷ [];
  recovers = Some profile;
  memory = true;
  altering = true;
  drawing = not (is_plain (profile_after profile change));
  beside = not (is_in_place change);
  early = false;
  only_read = profile.reads_log || (profile_after profile change).reads_log;
  untagged = false;
  mismatched = changes_layout profile change;
}
traits (Make profile rows) = record {
  asked = form_of profile ∷ None ∷ [];
  recovers = None;
  memory = true;
  altering = true;
  drawing = not (is_plain profile);
  beside = true;
  early = false;
  only_read = profile.reads_log;
  untagged = false;
  mismatched = false;
}

abbrev pub asked_keys : Command → List (Option LineForm)
asked_keys command = (traits command).asked

abbrev pub recovers_by : Command → Option Profile
recovers_by command = (traits command).recovers

abbrev pub takes_memory : Command → Bool
takes_memory command = (traits command).memory

abbrev pub alters : Command → Bool
alters command = (traits command).altering

abbrev pub draws : Command → Bool
draws command = (traits command).drawing

abbrev pub writes_beside : Command → Bool
writes_beside command = (traits command).beside

abbrev pub finds : Command → Bool
finds command = (traits command).early

abbrev pub is_only_read : Command → Bool
is_only_read command = (traits command).only_read

-- the profile of a file that is read with its log, where the command is one that only reads
abbrev pub profile_with_log : Command → Option Profile
profile_with_log Probe = None
profile_with_log (Recover profile) = None
profile_with_log (Read profile reading) = if profile.reads_log then Some profile else None
profile_with_log (ChangeFile profile change) = None
profile_with_log (Make profile rows) = None

abbrev pub lacks_tags : Command → Bool
lacks_tags command = (traits command).untagged

abbrev pub layouts_differ : Command → Bool
layouts_differ command = (traits command).mismatched

-- ---- the profiles

-- the profile of a new file is served
abbrev pub IsChangeServed : Change → Type 0
IsChangeServed (Stamp field value) = Unit {0}
IsChangeServed (Settle frames) = Unit {0}
IsChangeServed (Rekey new) = IsListed new
IsChangeServed (Migrate new) = IsListed new

-- the command is of a profile that is served
abbrev pub IsServed : Command → Type 0
IsServed Probe = Unit {0}
IsServed (Recover profile) = IsListed profile
IsServed (Read profile reading) = IsListed profile
IsServed (ChangeFile profile change) = IsListed profile × IsChangeServed change
IsServed (Make profile rows) = IsListed profile

-- the words' bytes
abbrev pub texts : List (Bor (List ℕ)) → List (List ℕ)
texts words = map (λ word. word.now) words
