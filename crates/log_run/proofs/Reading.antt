-- Words that ask for a file read with its log are those of a command that only reads.
use Rattle.std.proofs.Common.{◌≡◌, inl, inr, ℕ, Bool, true, false, List, Option, Some, None, Result, Ok, Err, refl, sym, ap, ◌∙◌}
use Rattle.std.specs.Prelude.{is_some, if◌then◌else◌}
use Rattle.cipher_profile.specs.declared.keys.Secret.{Secret}
use Rattle.cipher_profile.specs.declared.key_line.KeyError.{KeyError}
use Rattle.cipher_profile.specs.declared.profile.Profile.{Profile}
use Rattle.edge_model.specs.Files.{Files}
use Rattle.sqlcipher_tool.specs.Due.{asked_answers, command_answers, due, key_lines, keyed_answers, word_refusal}
use Rattle.sqlcipher_tool.specs.Play.{AreNoWords, DrawsBytes}
use Rattle.sqlcipher_tool.specs.WithLog.{viewed_by}
use Rattle.sqlcipher_tool.specs.Words.{asked_keys, draws, form, play_form, plays_with_log}
use Rattle.sqlcipher_tool.specs.declared.command.Command.{Command}
use Rattle.sqlcipher_tool.specs.declared.command.Command.TheVariants.{Probe, Recover, Read, Change as ChangeFile, Make}
use Rattle.sqlcipher_tool.specs.declared.reading.Reading.{Reading}
use Rattle.sqlcipher_tool.specs.declared.status.Refusal.{Refusal}
use Rattle.sqlcipher_tool.proofs.Playing.{no_command}

none_if : (refused : Bool) (profile : Profile) → (if refused then None else None) ≡ Some profile → ⊥
none_if true profile is = cc is
none_if false profile is = cc is

-- what holds of every reading holds of such a command
by_reading : (P : Option Command → Type 0) → ((profile : Profile) (reading : Reading) → P (Some (Read profile reading)))
    → (asked : Option Command) (profile : Profile) → viewed_by asked ≡ Some profile → P asked
by_reading P each None profile is = absurd (none_if true profile is)
by_reading P each (Some Probe) profile is = absurd (none_if (is_some (word_refusal Probe)) profile is)
by_reading P each (Some (Recover of)) profile is = absurd (none_if (is_some (word_refusal (Recover of))) profile is)
by_reading P each (Some (Read of reading)) profile is = each of reading
by_reading P each (Some (ChangeFile of change)) profile is = absurd (none_if (is_some (word_refusal (ChangeFile of change))) profile is)
by_reading P each (Some (Make of rows)) profile is = absurd (none_if (is_some (word_refusal (Make of rows))) profile is)

-- what is due to a reading does not go by the files that it leaves
pub due_alone : (words : List (List ℕ)) (profile : Profile) (left : List ℕ) (files after other : Files) → viewed_by (form words) ≡ Some profile
    → due words left files after ≡ due words left files other
due_alone words profile left files after other =
    by_reading (λ asked. command_answers (plays_with_log words) asked left files after ≡ command_answers (plays_with_log words) asked left files other)
    (λ of reading. by_refusal of reading (word_refusal (Read of reading))) (form words) profile
  where
    by_keys : (of : Profile) (reading : Reading) (keys : Result (List Secret) KeyError) → keyed_answers (Read of reading) keys files after ≡ keyed_answers (Read of reading) keys files other
    by_keys of reading (Ok secrets) = refl
    by_keys of reading (Err error) = refl

    by_refusal : (of : Profile) (reading : Reading) (refusal : Option Refusal)
        → asked_answers refusal (Read of reading) left files after ≡ asked_answers refusal (Read of reading) left files other
    by_refusal of reading (Some refusal) = refl
    by_refusal of reading None = by_keys of reading (key_lines (asked_keys (Read of reading)) left)

-- they are no script
pub no_play : (words : List (List ℕ)) (profile : Profile) → viewed_by (form words) ≡ Some profile → play_form words ≡ None
no_play words profile asked = by (play_form words) refl
  where
    command : (o : Option Command) → viewed_by o ≡ Some profile → (c : Command) × (o ≡ Some c)
    command None is = absurd (none_if true profile is)
    command (Some c) is = (c, refl)

    by : (played : Option Profile) → play_form words ≡ played → played ≡ None
    by None is = refl
    by (Some other) is = let formed = command (form words) asked in absurd (no_command words other formed.0 is formed.1)

-- and draw nothing
pub no_draws : (words : List (List ℕ)) (profile : Profile) → viewed_by (form words) ≡ Some profile → DrawsBytes words → ⊥
no_draws words profile asked drawing = elim drawing [
  | inl that ↦ reads_draws (form words) profile asked that.0 that.1 that.2
  | inr play ↦ absurd (none_if true play.0 (sym (no_play words profile asked) ∙ play.1))
]
  where
    drawn : (asked : Option Command) → Type 0
    drawn asked = (command : Command) → asked ≡ Some command → draws command ≡ true → ⊥

    reads_draws : (asked : Option Command) (profile : Profile) → viewed_by asked ≡ Some profile → drawn asked
    reads_draws = by_reading drawn (λ of reading command is draws. reading_draws of reading command is draws)
      where
        reading_draws : (of : Profile) (reading : Reading) (command : Command) → Some (Read of reading) ≡ Some command → draws command ≡ true → ⊥
        reading_draws of reading command is drawing = false_true (ap draws (same (Read of reading) command is) ∙ drawing)
          where
            same : (a b : Command) → Some a ≡ Some b → a ≡ b
            same a b is = cc is

            false_true : false ≡ true → ⊥
            false_true is = cc is

-- nor are they no words
pub no_usage : (words : List (List ℕ)) (profile : Profile) → viewed_by (form words) ≡ Some profile → AreNoWords words → ⊥
no_usage words profile asked none = none_if true profile (sym (ap viewed_by none.0) ∙ asked)
