-- How a text and a command end.
use Rattle.std.proofs.Common.{◌≡◌, ◌⊎◌, ⊎_elim, inl, inr, ℕ, ◌≤◌, ◌||◌, Bool, true, false, List, [], ◌∷◌, drop, Option, Some, None, if◌then◌else◌, refl, sym, ap, subst, ◌∙◌, arith}
use Rattle.std.specs.Prelude.{is_some, nat_lt, not}
use Rattle.std.specs.Borrow.{Bor}
use Rattle.cipher_profile.specs.Profile.{is_plain}
use Rattle.cipher_profile.specs.declared.profile.Profile.{Profile}
use Rattle.sqlcipher_tool.specs.Answer.{IsKeyStatus, IsStopStatus, code_of}
use Rattle.sqlcipher_tool.specs.Due.{word_refusal}
use Rattle.sqlcipher_tool.specs.Play.{AreNoWords, DrawsBytes, TakesInput}
use Rattle.sqlcipher_tool.specs.Promises.{asks_some}
use Rattle.sqlcipher_tool.specs.Settling.{settled_by, settled_profile}
use Rattle.sqlcipher_tool.specs.WithLog.{viewed_by}
use Rattle.sqlcipher_tool.specs.declared.change.Change.TheVariants.{Stamp, Settle, Rekey, Migrate}
use Rattle.sqlcipher_tool.specs.declared.command.Command.{Command}
use Rattle.sqlcipher_tool.specs.declared.command.Command.TheVariants.{Probe, Recover, Read, Change as ChangeFile, Make}
use Rattle.sqlcipher_tool.specs.declared.status.Refusal.{Refusal}
use Rattle.sqlcipher_tool.specs.Words.{form, profile_with_log, texts}
use Rattle.sqlcipher_tool.specs.declared.status.Status.{Status}
use Rattle.sqlcipher_tool.specs.declared.status.Status.TheVariants.{Done, Usage, Refused, KeyRefused, DiskFault, OutputFault, InputFault, EntropyFault, OutOfMemory}
use Rattle.sqlcipher_cli.specs.Exit.{EndsAs, EndsCommand, EndsOn, asks_help, asks_text, asks_version, behind_file}

-- each status of a run has a code, and the greatest is 8
pub few_codes : (status : Status) → code_of status ≤ 8
few_codes Done = omega arith
few_codes Usage = omega arith
few_codes (Refused refusal) = omega arith
few_codes KeyRefused = omega arith
few_codes DiskFault = omega arith
few_codes OutputFault = omega arith
few_codes InputFault = omega arith
few_codes EntropyFault = omega arith
few_codes OutOfMemory = omega arith

pub answered : (due status : Status) → (status ≡ due) ⊎ (status ≡ OutputFault) → EndsAs due status
answered due status is = ⊎_elim (λ same. inl same) (λ out. inr (inl out)) is

pub starved : (due status : Status) → status ≡ OutOfMemory → EndsAs due status
starved due status is = inr (inr is)

not_both : (test : Bool) → test ≡ true → test ≡ false → ⊥
not_both test is_true is_false = cc

-- what the two tests of the words say
pub by_help : (words : List (List ℕ)) → asks_help words ≡ true → asks_text words ≡ true
by_help words help_is = ap (λ (help : Bool). help || asks_version words) help_is

pub by_version : (words : List (List ℕ)) → asks_help words ≡ false → asks_version words ≡ true → asks_text words ≡ true
by_version words help_is version_is = ap (λ (help : Bool). help || asks_version words) help_is ∙ version_is

pub by_neither : (words : List (List ℕ)) → asks_help words ≡ false → asks_version words ≡ false → asks_text words ≡ false
by_neither words help_is version_is = ap (λ (help : Bool). help || asks_version words) help_is ∙ version_is

-- a text was asked for
pub ends_text : (words : List (List ℕ)) (status : Status) → asks_text words ≡ true → (status ≡ Done) ⊎ (status ≡ OutputFault) → EndsOn words status
ends_text words status asked printed = record {
  text = λ is. answered Done status printed;
  command = λ is. absurd (not_both (asks_text words) asked is);
}

-- a command was
pub ends_command : (words : List (List ℕ)) (status : Status) → asks_text words ≡ false → EndsCommand (behind_file words) status → EndsOn words status
ends_command words status asked ends = record {
  text = λ is. absurd (not_both (asks_text words) is asked);
  command = λ is. ends;
}

-- where memory ran out before it, nothing is said of the words
pub starves_command : (words : List (List ℕ)) (status : Status) → status ≡ OutOfMemory → EndsCommand words status
starves_command words status is = record {
  usage = λ none. starved Usage status is;
  refused = λ command refusal formed refused. starved (Refused refusal) status is;
  no_usage = λ other. absurd (is_usage (sym is ∙ other));
  input_fault = λ other. absurd (is_input (sym is ∙ other));
  entropy_fault = λ other. absurd (is_entropy (sym is ∙ other));
}
  where
    is_usage : OutOfMemory ≡ Usage → ⊥
    is_usage same = cc

    is_input : OutOfMemory ≡ InputFault → ⊥
    is_input same = cc

    is_entropy : OutOfMemory ≡ EntropyFault → ⊥
    is_entropy same = cc

pub starves : (words : List (List ℕ)) (status : Status) → status ≡ OutOfMemory → EndsOn words status
starves words status is = record {
  text = λ asked. starved Done status is;
  command = λ asked. starves_command (behind_file words) status is;
}

-- the words behind the first of a list are those behind FILE
pub texts_behind : (words : List (Bor (List ℕ))) → texts (drop 1 words) ≡ behind_file (texts words)
texts_behind [] = refl
texts_behind (word ∷ words) = refl

-- ---- a command on the file, with its log or without

-- what is known of a run goes by its words
pub ends_run : (words : List (List ℕ)) (status : Status) → (status ≡ Usage → AreNoWords words) → (AreNoWords words → (status ≡ Usage) ⊎ (status ≡ OutputFault))
    → ((command : Command) (refusal : Refusal) → form words ≡ Some command → word_refusal command ≡ Some refusal → (status ≡ Refused refusal) ⊎ (status ≡ OutputFault))
    → (status ≡ InputFault → TakesInput words) → (status ≡ EntropyFault → DrawsBytes words) → EndsCommand words status
ends_run words status usage usage_comes refused input entropy = record {
  usage = λ none. answered Usage status (usage_comes none);
  refused = λ command refusal formed is. answered (Refused refusal) status (refused command refusal formed is);
  no_usage = usage;
  input_fault = input;
  entropy_fault = entropy;
}

-- where a file is read with its log, the words are a command that they do not refuse
pub ends_with_log : (words : List (List ℕ)) (profile : Profile) (status : Status) → viewed_by (form words) ≡ Some profile → (status ≡ Usage → ⊥)
    → (status ≡ InputFault → TakesInput words) → (status ≡ EntropyFault → ⊥) → EndsCommand words status
ends_with_log words profile status asked no_usage input no_entropy = record {
  usage = λ none. absurd (no_view (sym (ap viewed_by none.0) ∙ asked));
  refused = λ command refusal formed is.
      absurd (no_view (sym (ap (λ (o : Option Refusal). if is_some o then None else profile_with_log command) is) ∙ (sym (ap viewed_by formed) ∙ asked)));
  no_usage = λ is. absurd (no_usage is);
  input_fault = input;
  entropy_fault = λ is. absurd (no_entropy is);
}
  where
    no_view : ◌≡◌ {A = Option Profile} None (Some profile) → ⊥
    no_view is = cc is

-- ---- a file that is settled

no_profile : (profile : Profile) → ◌≡◌ {A = Option Profile} None (Some profile) → ⊥
no_profile profile is = cc is

-- the words are of `settle` and this profile
record OfSettle (asked : Option Command) (profile : Profile) : Type 0 where
  frames : ℕ
  formed : asked ≡ Some (ChangeFile profile (Settle frames))
  unrefused : word_refusal (ChangeFile profile (Settle frames)) ≡ None

of_itself : (of : Profile) (frames : ℕ) → word_refusal (ChangeFile of (Settle frames)) ≡ None → OfSettle (Some (ChangeFile of (Settle frames))) of
of_itself of frames unrefused = record { frames = frames; formed = refl; unrefused = unrefused }

of_command : (command : Command) (profile : Profile) → word_refusal command ≡ None → settled_profile command ≡ Some profile → OfSettle (Some command) profile
of_command Probe profile unrefused is = absurd (no_profile profile is)
of_command (Recover of) profile unrefused is = absurd (no_profile profile is)
of_command (Read of reading) profile unrefused is = absurd (no_profile profile is)
of_command (ChangeFile of (Stamp field value)) profile unrefused is = absurd (no_profile profile is)
of_command (ChangeFile of (Settle frames)) profile unrefused is =
    let same : of ≡ profile = cc is in
    subst (λ (other : Profile). OfSettle (Some (ChangeFile of (Settle frames))) other) same (of_itself of frames unrefused)
of_command (ChangeFile of (Rekey new)) profile unrefused is = absurd (no_profile profile is)
of_command (ChangeFile of (Migrate new)) profile unrefused is = absurd (no_profile profile is)
of_command (Make of rows) profile unrefused is = absurd (no_profile profile is)

of_settle : (asked : Option Command) (profile : Profile) → settled_by asked ≡ Some profile → OfSettle asked profile
of_settle None profile is = absurd (no_profile profile is)
of_settle (Some command) profile is = by (word_refusal command) refl is
  where
    by : (refusal : Option Refusal) → word_refusal command ≡ refusal → (if is_some refusal then None else settled_profile command) ≡ Some profile
        → OfSettle (Some command) profile
    by None unrefused settles = of_command command profile unrefused settles
    by (Some refusal) refused settles = absurd (no_profile profile settles)

-- where a file is settled, how it ends goes by its profile: of a plain file no key line is read and nothing is drawn
pub ends_settle : (words : List (List ℕ)) (profile : Profile) (status : Status) → settled_by (form words) ≡ Some profile → (status ≡ Usage → ⊥)
    → (status ≡ InputFault → is_plain profile ≡ false) → (status ≡ EntropyFault → is_plain profile ≡ false) → EndsCommand words status
ends_settle words profile status asked no_usage input entropy = record {
  usage = λ none. absurd (no_profile profile (sym (ap settled_by none.0) ∙ asked));
  refused = λ command refusal formed is. absurd (no_refusal command refusal formed is);
  no_usage = λ is. absurd (no_usage is);
  input_fault = λ is. takes (of_settle (form words) profile asked) (input is);
  entropy_fault = λ is. draws_some (of_settle (form words) profile asked) (entropy is);
}
  where
    no_refusal : (command : Command) (refusal : Refusal) → form words ≡ Some command → word_refusal command ≡ Some refusal → ⊥
    no_refusal command refusal formed is =
        no_profile profile (sym (ap (λ (o : Option Refusal). if is_some o then None else settled_profile command) is) ∙ (sym (ap settled_by formed) ∙ asked))

    takes : OfSettle (form words) profile → is_plain profile ≡ false → TakesInput words
    takes of keyed = inl (ChangeFile profile (Settle of.frames), of.formed, ap (λ (plain : Bool). asks_some ((if plain then None else Some (record { hex = profile.hex_key; salted = nat_lt 0 profile.plain_header })) ∷ None ∷ [])) keyed)

    draws_some : OfSettle (form words) profile → is_plain profile ≡ false → DrawsBytes words
    draws_some of keyed = inl (ChangeFile profile (Settle of.frames), of.formed, ap not keyed)

pub ends_stopped : (words : List (List ℕ)) (profile : Profile) (status : Status) → settled_by (form words) ≡ Some profile → IsStopStatus status → EndsCommand words status
ends_stopped words profile status asked end =
    ends_settle words profile status asked (λ is. subst IsStopStatus is end) (λ is. absurd (subst IsStopStatus is end)) (λ is. absurd (subst IsStopStatus is end))

pub ends_unkeyed : (words : List (List ℕ)) (profile : Profile) (status : Status) → settled_by (form words) ≡ Some profile → IsKeyStatus status → is_plain profile ≡ false
    → EndsCommand words status
ends_unkeyed words profile status asked end keyed =
    ends_settle words profile status asked (λ is. subst IsKeyStatus is end) (λ is. keyed) (λ is. absurd (subst IsKeyStatus is end))
