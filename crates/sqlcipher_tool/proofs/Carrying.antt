-- A command that is carried out with its secrets: by cases on the command, and where it draws nothing. And one that ends before the disk
-- is called.
use Rattle.std.proofs.Common.{◌≡◌, ◌∙◌, ℕ, Bool, true, false, List, [], refl, sym, subst}
use Rattle.cipher_profile.specs.declared.keys.Secret.{Secret}
use Rattle.edge_model.specs.Files.{Files, main_of}
use Rattle.sqlcipher_tool.specs.Behind.{HasOnlyRead}
use Rattle.sqlcipher_tool.specs.Carried.{CarriesOut, DeviceRun, Draws, LeavesDisk, StreamRun, drawn_in, stream_run}
use Rattle.sqlcipher_tool.specs.Holding.{disk_run}
use Rattle.sqlcipher_tool.specs.Words.{alters, draws, recovers_by}
use Rattle.sqlcipher_tool.specs.declared.command.Command.{Command}
use Rattle.sqlcipher_tool.specs.declared.status.Status.{Status}
use Rattle.sqlcipher_tool.specs.declared.status.Status.TheVariants.{Done}
use Rattle.sqlcipher_tool.proofs.Asked.{unchanged_changes, unchanged_keeps}
use Rattle.sqlcipher_tool.proofs.Behind.{unread}
use Rattle.sqlcipher_tool.proofs.LeftAlone.{left_alone, unmoved}
use Rattle.sqlcipher_tool.proofs.PlainDraws.{drawing_causes, plain_changes, plain_own, undrawing_causes}

-- what holds of a command holds of the same one
pub carries_as : (command other : Command) (secrets : List Secret) (status : Status) (out entropy : StreamRun) (disk : DeviceRun) → command ≡ other
    → CarriesOut other (alters other) secrets status out entropy disk → CarriesOut command (alters command) secrets status out entropy disk
carries_as command other secrets status out entropy disk is was = subst (λ (c : Command). CarriesOut c (alters c) secrets status out entropy disk) (sym is) was

-- ---- where the command draws

pub drawing_carries : (command : Command) (secrets : List Secret) (status : Status) (out entropy : StreamRun) (disk : DeviceRun) → draws command ≡ true
    → CarriesOut command (alters command) secrets status out entropy disk → CarriesOut command (draws command) secrets status out entropy disk
drawing_carries command secrets status out entropy disk is was = record {
  answer = was.answer;
  line = was.line;
  memory = was.memory;
  causes = drawing_causes status (alters command) (draws command) _ _ _ _ _ _ is was.causes;
  drawn = record { draws = λ none. absurd (never none); undrawn = was.drawn.undrawn; own_draws = was.drawn.own_draws };
  leaves = was.leaves;
}
  where
    never : draws command ≡ false → ⊥
    never none = let same : true ≡ false = sym is ∙ none in cc

-- ---- where it draws nothing

-- what stands for an entropy of which nothing is known, with any values
abbrev pub mute_run : {N : Type 0} → N → N → StreamRun
mute_run old new = stream_run false (λ _. 0) (λ _. []) old new

-- An entropy that was not called has the same promises.
pub plain_carries : {N E : Type 0} (command : Command) (secrets : List Secret) (status : Status) (out : StreamRun) (mute mute_after : N)
    (tells : Bool) (faults : E → ℕ) (drawn : E → List ℕ) (entropy : E) (disk : DeviceRun) → draws command ≡ false
    → CarriesOut command (alters command) secrets status out (mute_run mute mute_after) disk
    → CarriesOut command (draws command) secrets status out (stream_run tells faults drawn entropy entropy) disk
plain_carries command secrets status out mute mute_after tells faults drawn entropy disk none was = record {
  answer = was.answer;
  line = was.line;
  memory = was.memory;
  causes = undrawing_causes status (alters command) (draws command) _ _ _ _ _ was.causes;
  drawn = record {
    draws = λ no. refl;
    undrawn = λ told there. refl;
    own_draws = λ told drawing done. plain_own command (λ given. given ≡ secrets) (main_of disk.run.after) (drawn_in (stream_run tells faults drawn entropy entropy)) none;
  };
  leaves = λ told.
      let left = was.leaves told in
      record {
        unrecovered = left.unrecovered;
        recovered = left.recovered;
        untouched = left.untouched;
        fresh_gone = left.fresh_gone;
        keeps = left.keeps;
        changes = plain_changes status command (λ given. given ≡ secrets) tells [] (drawn_in (stream_run tells faults drawn entropy entropy)) disk.run none left.changes;
      };
}

-- ---- where it ends before the disk is called

pub early_draws : {E : Type 0} (command : Command) (may_draw : Bool) (gave : List Secret → Type 0) (status : Status) (tells : Bool) (faults : E → ℕ) (drawn : E → List ℕ) (entropy : E) (disk : DeviceRun)
    → (status ≡ Done → ⊥) → Draws command may_draw gave status (stream_run tells faults drawn entropy entropy) disk
early_draws command may_draw gave status tells faults drawn entropy disk never =
    record { draws = λ none. refl; undrawn = λ told there. refl; own_draws = λ told drawing done. absurd (never done) }

pub early_leaves : {D : Type 0} (reads : D → Files) (images : D → Files → Type 0) (moment : D → ℕ) (since : D → ℕ → Files → Type 0)
    (only_now : (disk : D) (c : Files) → since disk (moment disk) c → images disk c) (command : Command) (gave : List Secret → Type 0) (status : Status) (entropy : StreamRun) (disk : D)
    → (status ≡ Done → ⊥) → (HasOnlyRead (alters command) status → ⊥) → LeavesDisk command gave status entropy (disk_run reads images moment since disk disk)
early_leaves reads images moment since only_now command gave status entropy disk not_done no_more =
    let still = unmoved reads images moment since only_now disk in
    record {
      unrecovered = λ is. refl;
      recovered = unread status (alters command) (recovers_by command) (disk_run reads images moment since disk disk) no_more still;
      untouched = left_alone (recovers_by command) (disk_run reads images moment since disk disk) still;
      fresh_gone = λ done. absurd (not_done done);
      keeps = unchanged_keeps reads images moment since only_now command disk;
      changes = unchanged_changes reads images moment since only_now status command gave entropy.tells (drawn_in entropy) disk not_done;
    }
