use Rattle.std.proofs.Common.{◌≡◌, ◌≢◌, drop, length, ◌∷◌, [], true, Option, None, Some, Result, Ok, Err, IsTrue, List, ◌*◌, ℕ, rules, refl, sym, ap, subst, ◌∙◌, arith}
use Rattle.cipher_profile.specs.declared.key_line.KeyError.{KeyError}
use Rattle.cipher_profile.specs.declared.profile.LineForm.{LineForm}
use Rattle.cipher_profile.specs.declared.key_line.KeyError.TheVariants.{SourceFault}
use Rattle.cipher_profile.specs.declared.keys.Secret.{Secret}
use Rattle.edge_model.specs.Files.{main_of}
use Rattle.sqlcipher_tool.specs.Answer.{IsKeyStatus, refused}
use Rattle.sqlcipher_tool.specs.Crash.{GaveKeys}
use Rattle.sqlcipher_tool.specs.Due.{asked_answers, key_lines, keyed_answers, word_refusal}
use Rattle.sqlcipher_tool.specs.Holding.{disk_run}
use Rattle.sqlcipher_tool.specs.Promises.{AnswersOne, TakesAtMost, after_lines, asks_some, lines_read, secrets_of, takes_keys}
use Rattle.sqlcipher_tool.specs.Words.{alters, asked_keys, draws}
use Rattle.sqlcipher_tool.specs.declared.secrets.Secrets.{Secrets}
use Rattle.sqlcipher_tool.specs.declared.status.Refusal.{Refusal as Refused}
use Rattle.sqlcipher_tool.specs.declared.status.Status.TheVariants.{InputFault}
use Rattle.sqlcipher_tool.proofs.Answered.{key_early, key_not_done, key_one, not_failed, not_refused, printed_one, takes_given, takes_key, unless_fault}
use Rattle.sqlcipher_tool.proofs.Asked.{changes_of, draws_of, refusal_not_done, same_secrets}
use Rattle.sqlcipher_tool.proofs.Behind.{key_last, word_last}
use Rattle.sqlcipher_tool.proofs.Carrying.{early_draws, early_leaves}
use Rattle.sqlcipher_tool.proofs.top.serve.Goals as goal

-- what was read by these is read by those
same_lines : (asked these : List (Option LineForm)) (left : List ℕ) (lines : Result (List Secret) KeyError) → asked ≡ these → lines ≡ key_lines these left → key_lines asked left ≡ lines
same_lines asked these left lines is gave = ap (λ (l : List (Option LineForm)). key_lines l left) is ∙ sym gave

-- the input tells, if a line is read of it
tells_if : {T : Type 0} (asked these : List (Option LineForm)) → asked ≡ these → (asks_some asked ≡ true → T) → asks_some these ≡ true → T
tells_if asked these is tells some = tells (ap asks_some is ∙ some)

-- what is refused by no words is refused so by none
never_refused : (o : Option Refused) (refusal : Refused) → o ≡ None → o ≡ Some refusal → ⊥
never_refused o refusal none refused = let never : Some refusal ≡ None = sym refused ∙ none in cc

-- ---- the words refuse the command

pub returns-in-Some : goal.returns-in-Some
returns-in-Some g c =
    let d = g.D.Disk in
    let command = c.args.command in
    let files = d.reads c.args.disk.now in
    let left = g.K.Source.left c.args.input.now in
    let before = g.S.Sink.taken c.args.out.now in
    let after = g.S.Sink.taken c.conclude_refusal.new.out in
    let gave : List Secret → Type 0 = λ given. GaveKeys g.K.Source.tells (asked_keys command) left given in
    let refusal = c.in-Some.refusal in
    let status = c.conclude_refusal.result in
    let did = c.conclude_refusal.ensures in
    let is : word_refusal command ≡ Some refusal = search rules in
    let not_done = refusal_not_done refusal status did.status in
    record {
      word_refusals = λ other same. search rules;
      key_refusals = λ keyed none. absurd (never_refused _ refusal none is);
      answer = λ keyed told. subst (λ (o : Option Refused). AnswersOne (asked_answers o command left files files) status g.S.Sink.tells before after) (sym is)
          (printed_one (refused refusal) status g.S.Sink.tells before after tt did.status did.text);
      no_usage = λ same. search rules;
      input_fault = λ same. search rules;
      output_fault = did.fault;
      disk_fault = λ same. search rules;
      entropy_fault = λ same. search rules;
      memory = λ same. search rules;
      input_later = omega arith;
      output_later = did.later;
      disk_later = omega arith;
      entropy_later = omega arith;
      line = λ printed way. did.line printed;
      input_text = λ same. search rules;
      refused_first = λ other same. (refl, refl);
      key_first = λ keyed none failed. refl;
      early_first = λ early. refl;
      fault_first = λ same. refl;
      takes = λ keyed none. absurd (never_refused _ refusal none is);
      takes_none = λ none. refl;
      drawn = early_draws command (draws command) gave status g.E.Entropy.tells g.E.Entropy.faults g.E.Entropy.drawn c.args.entropy.now _ not_done;
      leaves = λ told. early_leaves d.reads d.images d.moment d.since g.met.D.Disk.only_now command gave status _ c.args.disk.now not_done
          (word_last (alters command) command refusal status is did.status);
    }

-- ---- it has its secrets

pub returns-in-Ok : goal.returns-in-Ok
returns-in-Ok g c =
    let d = g.D.Disk in
    let command = c.args.command in
    let files = d.reads c.args.disk.now in
    let last = d.reads c.serve_with_secrets.new.disk in
    let left = g.K.Source.left c.args.input.now in
    let rest = g.K.Source.left c.read_secrets.new.input in
    let before = g.S.Sink.taken c.args.out.now in
    let after = g.S.Sink.taken c.serve_with_secrets.new.out in
    let tells = g.E.Entropy.tells in
    let drawn = drop (length (g.E.Entropy.drawn c.args.entropy.now)) (g.E.Entropy.drawn c.serve_with_secrets.new.entropy) in
    let status = c.serve_with_secrets.result in
    let did = c.serve_with_secrets.ensures in
    let none : word_refusal command ≡ None = search rules in
    let is = c.asked_keys-asks.ensures in
    let these = secrets_of c.in-Ok.secrets in
    let gave : (takes_keys command ≡ true → IsTrue g.K.Source.tells) → key_lines (asked_keys command) left ≡ Ok these =
    λ keyed. same_lines _ _ left (Ok these) is (c.in-Ok.ensures.told (tells_if (asked_keys command) _ is keyed)) in
    let same = same_secrets g.K.Source.tells (asked_keys command) left these gave in
    record {
      word_refusals = λ refusal refused. absurd (never_refused _ refusal none refused);
      key_refusals = λ keyed unrefused error refused. not_refused _ (key_lines (asked_keys command) left) these error (gave (λ some. keyed)) refused;
      answer = λ keyed told. subst (λ (o : Option Refused). AnswersOne (asked_answers o command left files last) status g.S.Sink.tells before after) (sym none)
          (subst (λ (lines : Result (List Secret) KeyError). AnswersOne (keyed_answers command lines files last) status g.S.Sink.tells before after) (sym (gave keyed))
          (did.answer told));
      no_usage = did.causes.usage;
      input_fault = λ failed. absurd (did.causes.input failed);
      output_fault = did.causes.output;
      disk_fault = did.causes.disk;
      entropy_fault = did.causes.entropy;
      memory = λ starved. (did.memory starved, none, λ keyed. (these, gave (λ some. keyed)));
      input_later = c.read_secrets.ensures.later;
      output_later = did.causes.output_later;
      disk_later = did.causes.disk_later;
      entropy_later = did.causes.entropy_later;
      line = did.line;
      input_text = λ failed. absurd (did.causes.input failed);
      refused_first = λ refusal refused. absurd (never_refused _ refusal none refused);
      key_first = λ keyed unrefused failed. absurd (not_failed _ these (gave (λ some. keyed)) failed);
      early_first = λ early. absurd (did.causes.late early);
      fault_first = λ failed. absurd (did.causes.input failed);
      takes = λ keyed unrefused. takes_given (asked_keys command) status left rest did.causes.input
          (c.in-Ok.ensures.rest (λ some. keyed) ∙ sym (ap (λ (l : List (Option LineForm)). after_lines l left) is));
      takes_none = λ no. c.read_secrets.ensures.unasked (sym (ap asks_some is) ∙ no);
      drawn = record {
        draws = did.drawn.draws;
        undrawn = did.drawn.undrawn;
        own_draws = λ told drawing done. draws_of command (main_of last) drawn (λ given. given ≡ these) (λ given. GaveKeys g.K.Source.tells (asked_keys command) left given) same
            (did.drawn.own_draws told drawing done);
      };
      leaves = λ told.
          let run = disk_run d.reads d.images d.moment d.since c.args.disk.now c.serve_with_secrets.new.disk in
          let was = did.leaves told in
          record {
            unrecovered = was.unrecovered;
            recovered = was.recovered;
            untouched = was.untouched;
            fresh_gone = was.fresh_gone;
            keeps = was.keeps;
            changes = changes_of status command tells drawn run (λ given. given ≡ these) (λ given. GaveKeys g.K.Source.tells (asked_keys command) left given) same was.changes;
          };
    }

-- ---- a key line gave none, or the input failed

pub returns-in-Err : goal.returns-in-Err
returns-in-Err g c =
    let d = g.D.Disk in
    let command = c.args.command in
    let files = d.reads c.args.disk.now in
    let left = g.K.Source.left c.args.input.now in
    let rest = g.K.Source.left c.read_secrets.new.input in
    let before = g.S.Sink.taken c.args.out.now in
    let after = g.S.Sink.taken c.conclude_key.new.out in
    let secrets : List Secret → Type 0 = λ given. GaveKeys g.K.Source.tells (asked_keys command) left given in
    let error = c.in-Err.error in
    let status = c.conclude_key.result in
    let did = c.conclude_key.ensures in
    let none : word_refusal command ≡ None = search rules in
    let is = c.asked_keys-asks.ensures in
    let these = c.asked_keys-asks.result.0 ∷ c.asked_keys-asks.result.1 ∷ [] in
    let gave : (takes_keys command ≡ true → IsTrue g.K.Source.tells) → error ≢ SourceFault → key_lines (asked_keys command) left ≡ Err error =
    λ keyed other. same_lines _ these left (Err error) is
    (unless_fault Secrets error (λ e. (asks_some these ≡ true → IsTrue g.K.Source.tells) → Err e ≡ key_lines these left) c.in-Err.ensures.told other (tells_if (asked_keys command) these is keyed)) in
    let failed : error ≡ SourceFault → status ≡ InputFault = λ same. (did.failed same).0 in
    let not_done = key_not_done status did.others in
    record {
      word_refusals = λ refusal refused. absurd (never_refused _ refusal none refused);
      key_refusals = λ keyed unrefused. key_early error (asked_keys command) left status (gave (λ some. keyed)) did.refused failed;
      answer = λ keyed told. subst (λ (o : Option Refused). AnswersOne (asked_answers o command left files files) status g.S.Sink.tells before after) (sym none)
          (key_one command (asked_keys command) left files files error status g.S.Sink.tells before after refl (gave keyed) did.refused did.text
          (λ same. let both = did.failed same in (both.0, ap g.S.Sink.taken both.1)));
      no_usage = λ same. subst IsKeyStatus same did.others;
      input_fault = λ same. search rules;
      output_fault = did.fault;
      disk_fault = λ same. absurd (subst IsKeyStatus same did.others);
      entropy_fault = λ same. absurd (subst IsKeyStatus same did.others);
      memory = λ same. absurd (subst IsKeyStatus same did.others);
      input_later = c.read_secrets.ensures.later;
      output_later = did.later;
      disk_later = omega arith;
      entropy_later = omega arith;
      line = λ printed way. did.line printed;
      input_text = λ same. (did.failed (did.input same)).1;
      refused_first = λ refusal refused. absurd (never_refused _ refusal none refused);
      key_first = λ keyed unrefused bad. refl;
      early_first = λ early. refl;
      fault_first = λ same. refl;
      takes = λ keyed unrefused. takes_key error (asked_keys command) status left rest did.others failed
          (λ other. unless_fault Secrets error (λ e. (asks_some these ≡ true → IsTrue g.K.Source.tells) → rest ≡ after_lines these left) c.in-Err.ensures.rest other (λ some. keyed)
          ∙ sym (ap (λ (l : List (Option LineForm)). after_lines l left) is))
          (subst (λ (l : List (Option LineForm)). TakesAtMost (1025 * lines_read l) left rest) (sym is) (c.read_secrets.ensures.at_most keyed));
      takes_none = λ no. search rules;
      drawn = early_draws command (draws command) secrets status g.E.Entropy.tells g.E.Entropy.faults g.E.Entropy.drawn c.args.entropy.now _ not_done;
      leaves = λ told. early_leaves d.reads d.images d.moment d.since g.met.D.Disk.only_now command secrets status _ c.args.disk.now not_done
          (key_last (alters command) error status did.refused failed);
    }
