use Rattle.std.proofs.Common.{◌≡◌, ◌⊎◌, ⊎_elim, inl, inr, Bool, true, false, Option, Some, None, refl, sym, ◌∙◌, subst}
use Rattle.cipher_profile.specs.declared.profile.Profile.{Profile}
use Rattle.sqlcipher_tool.specs.Answer.{IsAnswer, IsEarly}
use Rattle.sqlcipher_tool.specs.Due.{asked_answers, command_answers, word_refusal, wordless}
use Rattle.sqlcipher_tool.specs.Holding.{disk_run}
use Rattle.sqlcipher_tool.specs.Play.{PlaysScript}
use Rattle.sqlcipher_tool.specs.Promises.{AnswersOne, takes_keys}
use Rattle.std.specs.Prelude.{IsErr}
use Rattle.sqlcipher_tool.specs.Recovered.{recovery_of}
use Rattle.sqlcipher_tool.specs.Servable.{IsDoneAlone}
use Rattle.sqlcipher_tool.specs.Words.{draws, form, play_form, plays_with_log, texts}
use Rattle.sqlcipher_tool.specs.declared.command.Command.{Command as Asked}
use Rattle.sqlcipher_tool.specs.declared.status.Status.{Status}
use Rattle.sqlcipher_tool.specs.declared.status.Status.TheVariants.{OutputFault, Refused, Usage}
use Rattle.sqlcipher_tool.specs.declared.status.Refusal.TheVariants.{OnlyRead}
use Rattle.sqlcipher_tool.proofs.Answered.{printed_one}
use Rattle.sqlcipher_tool.proofs.Completeness.{complete, done_or_starved}
use Rattle.sqlcipher_tool.proofs.Playing.{draws_or_plain, no_command, no_refused, not_none, one_profile, play_done, served_unset}
use Rattle.sqlcipher_tool.proofs.top.run.Goals as goal

not_true : (b : Bool) → (b ≡ true → ⊥) → b ≡ false
not_true true never = absurd (never refl)
not_true false never = refl

none_by : {T : Type 0} (o : Option T) → ((x : T) → o ≡ Some x → ⊥) → o ≡ None
none_by None never = refl
none_by (Some x) never = absurd (never x refl)

some_not_none : {T : Type 0} (x : T) → ◌≡◌ {A = Option T} (Some x) None → ⊥
some_not_none x is = cc

not_early : (status due : Status) → (IsEarly status → ⊥) → IsEarly due → status ≡ due → ⊥
not_early status due late early is = late (subst IsEarly (sym is) early)

-- ---- `play`

pub returns-in-Some-clause-usage : goal.returns-in-Some-clause-usage
returns-in-Some-clause-usage g c =
    let words = texts c.args.words.now in
    let played : play_form words ≡ Some c.in-Some.played = sym c.played_profile.ensures.form ∙ c.in-Some.is in
    λ is. absurd (not_early c.play_file.result Usage c.play_file.ensures.late tt is)

pub returns-in-Some-clause-usage_comes : goal.returns-in-Some-clause-usage_comes
returns-in-Some-clause-usage_comes g c =
    let words = texts c.args.words.now in
    let played : play_form words ≡ Some c.in-Some.played = sym c.played_profile.ensures.form ∙ c.in-Some.is in
    λ is. absurd (not_none words c.in-Some.played played is.1)

pub returns-in-Some-clause-word_refusals : goal.returns-in-Some-clause-word_refusals
returns-in-Some-clause-word_refusals g c =
    let words = texts c.args.words.now in
    let played : play_form words ≡ Some c.in-Some.played = sym c.played_profile.ensures.form ∙ c.in-Some.is in
    λ command refusal formed refused. absurd (no_command words c.in-Some.played command played formed)

pub returns-in-Some-clause-key_refusals : goal.returns-in-Some-clause-key_refusals
returns-in-Some-clause-key_refusals g c =
    let words = texts c.args.words.now in
    let played : play_form words ≡ Some c.in-Some.played = sym c.played_profile.ensures.form ∙ c.in-Some.is in
    λ told command formed. absurd (no_command words c.in-Some.played command played formed)

pub returns-in-Some-clause-answer : goal.returns-in-Some-clause-answer
returns-in-Some-clause-answer g c =
    let words = texts c.args.words.now in
    let played : play_form words ≡ Some c.in-Some.played = sym c.played_profile.ensures.form ∙ c.in-Some.is in
    λ keyed told none. absurd (not_none words c.in-Some.played played none)

pub returns-in-Some-clause-complete : goal.returns-in-Some-clause-complete
returns-in-Some-clause-complete g c =
    let words = texts c.args.words.now in
    let played : play_form words ≡ Some c.in-Some.played = sym c.played_profile.ensures.form ∙ c.in-Some.is in
    λ keyed told can none. absurd (no_command words c.in-Some.played can.command played can.is_form)

pub returns-in-Some-clause-input_fault : goal.returns-in-Some-clause-input_fault
returns-in-Some-clause-input_fault g c =
    let words = texts c.args.words.now in
    let played : play_form words ≡ Some c.in-Some.played = sym c.played_profile.ensures.form ∙ c.in-Some.is in
    λ is. (c.play_file.ensures.input_fault is, inr (c.in-Some.played, played, tt))

pub returns-in-Some-clause-entropy_fault : goal.returns-in-Some-clause-entropy_fault
returns-in-Some-clause-entropy_fault g c =
    let words = texts c.args.words.now in
    let played : play_form words ≡ Some c.in-Some.played = sym c.played_profile.ensures.form ∙ c.in-Some.is in
    λ is. (
      c.play_file.ensures.entropy_fault is,
      inr (c.in-Some.played, played, draws_or_plain c.in-Some.played (λ plain. absurd ((c.play_file.ensures.undrawn plain).1 is)) (λ other. other)),
    )

pub returns-in-Some-clause-memory : goal.returns-in-Some-clause-memory
returns-in-Some-clause-memory g c =
    let words = texts c.args.words.now in
    let played : play_form words ≡ Some c.in-Some.played = sym c.played_profile.ensures.form ∙ c.in-Some.is in
    λ is. inr (c.in-Some.played, played, tt)

pub returns-in-Some-clause-usage_text : goal.returns-in-Some-clause-usage_text
returns-in-Some-clause-usage_text g c =
    let words = texts c.args.words.now in
    let played : play_form words ≡ Some c.in-Some.played = sym c.played_profile.ensures.form ∙ c.in-Some.is in
    λ told is. absurd (not_none words c.in-Some.played played is.1)

pub returns-in-Some-clause-line : goal.returns-in-Some-clause-line
returns-in-Some-clause-line g c =
    let words = texts c.args.words.now in
    let played : play_form words ≡ Some c.in-Some.played = sym c.played_profile.ensures.form ∙ c.in-Some.is in
    λ told none. absurd (not_none words c.in-Some.played played none)

pub returns-in-Some-clause-input_text : goal.returns-in-Some-clause-input_text
returns-in-Some-clause-input_text g c =
    let words = texts c.args.words.now in
    let played : play_form words ≡ Some c.in-Some.played = sym c.played_profile.ensures.form ∙ c.in-Some.is in
    λ none. absurd (not_none words c.in-Some.played played none)

pub returns-in-Some-clause-words_first : goal.returns-in-Some-clause-words_first
returns-in-Some-clause-words_first g c =
    let words = texts c.args.words.now in
    let played : play_form words ≡ Some c.in-Some.played = sym c.played_profile.ensures.form ∙ c.in-Some.is in
    λ is. absurd (not_none words c.in-Some.played played is.1)

pub returns-in-Some-clause-refused_first : goal.returns-in-Some-clause-refused_first
returns-in-Some-clause-refused_first g c =
    let words = texts c.args.words.now in
    let played : play_form words ≡ Some c.in-Some.played = sym c.played_profile.ensures.form ∙ c.in-Some.is in
    λ command refusal formed refused. absurd (no_command words c.in-Some.played command played formed)

pub returns-in-Some-clause-key_first : goal.returns-in-Some-clause-key_first
returns-in-Some-clause-key_first g c =
    let words = texts c.args.words.now in
    let played : play_form words ≡ Some c.in-Some.played = sym c.played_profile.ensures.form ∙ c.in-Some.is in
    λ told command formed. absurd (no_command words c.in-Some.played command played formed)

pub returns-in-Some-clause-early_first : goal.returns-in-Some-clause-early_first
returns-in-Some-clause-early_first g c =
    let words = texts c.args.words.now in
    let played : play_form words ≡ Some c.in-Some.played = sym c.played_profile.ensures.form ∙ c.in-Some.is in
    λ early. absurd (c.play_file.ensures.late early)

pub returns-in-Some-clause-fault_first : goal.returns-in-Some-clause-fault_first
returns-in-Some-clause-fault_first g c =
    let words = texts c.args.words.now in
    let played : play_form words ≡ Some c.in-Some.played = sym c.played_profile.ensures.form ∙ c.in-Some.is in
    λ none. absurd (not_none words c.in-Some.played played none)

pub returns-in-Some-clause-takes : goal.returns-in-Some-clause-takes
returns-in-Some-clause-takes g c =
    let words = texts c.args.words.now in
    let played : play_form words ≡ Some c.in-Some.played = sym c.played_profile.ensures.form ∙ c.in-Some.is in
    λ told command formed. absurd (no_command words c.in-Some.played command played formed)

pub returns-in-Some-clause-takes_none : goal.returns-in-Some-clause-takes_none
returns-in-Some-clause-takes_none g c =
    let words = texts c.args.words.now in
    let played : play_form words ≡ Some c.in-Some.played = sym c.played_profile.ensures.form ∙ c.in-Some.is in
    λ never. absurd (never (inr (c.in-Some.played, played, tt)))

pub returns-in-Some-clause-draws : goal.returns-in-Some-clause-draws
returns-in-Some-clause-draws g c =
    let words = texts c.args.words.now in
    let played : play_form words ≡ Some c.in-Some.played = sym c.played_profile.ensures.form ∙ c.in-Some.is in
    draws_or_plain c.in-Some.played (λ plain never. (c.play_file.ensures.undrawn plain).0)
    (λ other never. absurd (never (inr (c.in-Some.played, played, other))))

pub returns-in-Some-clause-undrawn : goal.returns-in-Some-clause-undrawn
returns-in-Some-clause-undrawn g c =
    let words = texts c.args.words.now in
    let played : play_form words ≡ Some c.in-Some.played = sym c.played_profile.ensures.form ∙ c.in-Some.is in
    λ told command formed. absurd (no_command words c.in-Some.played command played formed)

pub returns-in-Some-clause-own_draws : goal.returns-in-Some-clause-own_draws
returns-in-Some-clause-own_draws g c =
    let words = texts c.args.words.now in
    let played : play_form words ≡ Some c.in-Some.played = sym c.played_profile.ensures.form ∙ c.in-Some.is in
    λ told drawing is command formed. absurd (no_command words c.in-Some.played command played formed)

pub returns-in-Some-clause-recovered : goal.returns-in-Some-clause-recovered
returns-in-Some-clause-recovered g c =
    let words = texts c.args.words.now in
    let played : play_form words ≡ Some c.in-Some.played = sym c.played_profile.ensures.form ∙ c.in-Some.is in
    λ told command formed. absurd (no_command words c.in-Some.played command played formed)

pub returns-in-Some-clause-untouched : goal.returns-in-Some-clause-untouched
returns-in-Some-clause-untouched g c =
    let words = texts c.args.words.now in
    let played : play_form words ≡ Some c.in-Some.played = sym c.played_profile.ensures.form ∙ c.in-Some.is in
    λ told command formed. absurd (no_command words c.in-Some.played command played formed)

pub returns-in-Some-clause-fresh_gone : goal.returns-in-Some-clause-fresh_gone
returns-in-Some-clause-fresh_gone g c =
    let words = texts c.args.words.now in
    let played : play_form words ≡ Some c.in-Some.played = sym c.played_profile.ensures.form ∙ c.in-Some.is in
    λ told is command formed. absurd (no_command words c.in-Some.played command played formed)

pub returns-in-Some-clause-keeps : goal.returns-in-Some-clause-keeps
returns-in-Some-clause-keeps g c =
    let words = texts c.args.words.now in
    let played : play_form words ≡ Some c.in-Some.played = sym c.played_profile.ensures.form ∙ c.in-Some.is in
    λ told command formed. absurd (no_command words c.in-Some.played command played formed)

pub returns-in-Some-clause-changes : goal.returns-in-Some-clause-changes
returns-in-Some-clause-changes g c =
    let words = texts c.args.words.now in
    let played : play_form words ≡ Some c.in-Some.played = sym c.played_profile.ensures.form ∙ c.in-Some.is in
    λ told command formed. absurd (no_command words c.in-Some.played command played formed)

pub returns-in-Some-clause-plays : goal.returns-in-Some-clause-plays
returns-in-Some-clause-plays g c =
    let words = texts c.args.words.now in
    let played : play_form words ≡ Some c.in-Some.played = sym c.played_profile.ensures.form ∙ c.in-Some.is in
    λ profile is.
    let d = g.D.Disk in
    subst (λ (p : Profile). PlaysScript p c.play_file.result g.K.Source.tells g.S.Sink.tells d.tells g.E.Entropy.tells (disk_run d.reads d.images d.moment d.since c.args.disk.now c.play_file.new.disk)
    (g.K.Source.left c.args.input.now) (g.K.Source.left c.play_file.new.input) (g.S.Sink.taken c.args.out.now) (g.S.Sink.taken c.play_file.new.out) (g.E.Entropy.drawn c.args.entropy.now) (g.E.Entropy.drawn c.play_file.new.entropy))
    (one_profile words c.in-Some.played profile played is) c.play_file.ensures.plays

pub returns-in-Some-clause-refused_play : goal.returns-in-Some-clause-refused_play
returns-in-Some-clause-refused_play g c =
    let words = texts c.args.words.now in
    let played : play_form words ≡ Some c.in-Some.played = sym c.played_profile.ensures.form ∙ c.in-Some.is in
    λ told profile is err.
    c.play_file.ensures.unwritten told (subst (λ (p : Profile). IsErr (recovery_of p (g.D.Disk.reads c.args.disk.now))) (one_profile words profile c.in-Some.played is played) err)

pub returns-in-Some-clause-fresh_play : goal.returns-in-Some-clause-fresh_play
returns-in-Some-clause-fresh_play g c = λ told play. c.play_file.ensures.fresh told

pub returns-in-Some-clause-complete_play : goal.returns-in-Some-clause-complete_play
returns-in-Some-clause-complete_play g c =
    let words = texts c.args.words.now in
    let played : play_form words ≡ Some c.in-Some.played = sym c.played_profile.ensures.form ∙ c.in-Some.is in
    λ source told can none.
    let d = g.D.Disk in
    let same = one_profile words can.profile c.in-Some.played can.is_play played in
    play_done can.profile c.play_file.result g.S.Sink.tells _ _ _ _ _ _ _ _ c.play_file.ensures.input_fault c.play_file.ensures.output_fault c.play_file.ensures.entropy_fault c.play_file.ensures.disk_fault none
    g.K.Source.tells d.tells g.E.Entropy.tells (disk_run d.reads d.images d.moment d.since c.args.disk.now c.play_file.new.disk) (g.K.Source.left c.args.input.now) (g.K.Source.left c.play_file.new.input)
    (g.S.Sink.taken c.args.out.now) (g.S.Sink.taken c.play_file.new.out) (g.E.Entropy.drawn c.args.entropy.now) (g.E.Entropy.drawn c.play_file.new.entropy) source told can.recovers can.few can.steps
    (subst (λ (p : Profile). PlaysScript p c.play_file.result g.K.Source.tells g.S.Sink.tells d.tells g.E.Entropy.tells (disk_run d.reads d.images d.moment d.since c.args.disk.now c.play_file.new.disk)
    (g.K.Source.left c.args.input.now) (g.K.Source.left c.play_file.new.input) (g.S.Sink.taken c.args.out.now) (g.S.Sink.taken c.play_file.new.out) (g.E.Entropy.drawn c.args.entropy.now) (g.E.Entropy.drawn c.play_file.new.entropy)) (sym same) c.play_file.ensures.plays)

pub returns-in-Some-clause-play_refused : goal.returns-in-Some-clause-play_refused
returns-in-Some-clause-play_refused g c =
    let words = texts c.args.words.now in
    let played : play_form words ≡ Some c.in-Some.played = sym c.played_profile.ensures.form ∙ c.in-Some.is in
    λ with_log. absurd (served_unset words c.in-Some.played played with_log)

-- ---- no words

pub returns-in-None-clause-play_refused : goal.returns-in-None-clause-play_refused
returns-in-None-clause-play_refused g c = λ with_log. (
  subst (λ (b : Bool). (c.conclude_wordless.result ≡ (wordless b).status) ⊎ (c.conclude_wordless.result ≡ OutputFault)) (c.plays_with_log.ensures ∙ with_log) c.conclude_wordless.ensures.status,
  refl,
  refl,
)

pub returns-in-None-clause-usage : goal.returns-in-None-clause-usage
returns-in-None-clause-usage g c =
    let words = texts c.args.words.now in
    let unplayed : play_form words ≡ None = sym c.played_profile.ensures.form ∙ none_by c.played_profile.result c.in_default.not-Some in
    λ is. (sym c.parse_words.ensures.form ∙ c.in-None.is, unplayed, sym c.plays_with_log.ensures ∙ not_refused c.plays_with_log.result c.conclude_wordless.result c.conclude_wordless.ensures.status is)
  where
    not_refused : (b : Bool) (status : Status) → (status ≡ (wordless b).status) ⊎ (status ≡ OutputFault) → status ≡ Usage → b ≡ false
    not_refused true status is usage = absurd (⊎_elim (λ (same : status ≡ Refused OnlyRead). differs (sym same ∙ usage)) (λ (out : status ≡ OutputFault). fails (sym out ∙ usage)) is)
      where
        differs : Refused OnlyRead ≡ Usage → ⊥
        differs same = cc same

        fails : OutputFault ≡ Usage → ⊥
        fails same = cc same
    not_refused false status is usage = refl

pub returns-in-None-clause-answer : goal.returns-in-None-clause-answer
returns-in-None-clause-answer g c =
    let words = texts c.args.words.now in
    let unplayed : play_form words ≡ None = sym c.played_profile.ensures.form ∙ none_by c.played_profile.result c.in_default.not-Some in
    λ keyed told none.
    let files = g.D.Disk.reads c.args.disk.now in
    let left = g.K.Source.left c.args.input.now in
    let before = g.S.Sink.taken c.args.out.now in
    let after = g.S.Sink.taken c.conclude_wordless.new.out in
    let status = c.conclude_wordless.result in
    let with_log = c.plays_with_log.result in
    let one = printed_one (wordless with_log) status g.S.Sink.tells before after (answered with_log) c.conclude_wordless.ensures.status c.conclude_wordless.ensures.text in
    subst (λ (b : Bool). AnswersOne (command_answers b (form words) left files files) status g.S.Sink.tells before after) c.plays_with_log.ensures
    (subst (λ (command : Option Asked). AnswersOne (command_answers with_log command left files files) status g.S.Sink.tells before after)
    (sym c.in-None.is ∙ c.parse_words.ensures.form) one)
  where
    answered : (b : Bool) → IsAnswer (wordless b).status
    answered true = tt
    answered false = tt

pub returns-in-None-clause-plays : goal.returns-in-None-clause-plays
returns-in-None-clause-plays g c =
    let words = texts c.args.words.now in
    let unplayed : play_form words ≡ None = sym c.played_profile.ensures.form ∙ none_by c.played_profile.result c.in_default.not-Some in
    λ profile is. absurd (not_none words profile is unplayed)

pub returns-in-None-clause-refused_play : goal.returns-in-None-clause-refused_play
returns-in-None-clause-refused_play g c =
    let words = texts c.args.words.now in
    let unplayed : play_form words ≡ None = sym c.played_profile.ensures.form ∙ none_by c.played_profile.result c.in_default.not-Some in
    λ told profile is. absurd (not_none words profile is unplayed)

pub returns-in-None-clause-fresh_play : goal.returns-in-None-clause-fresh_play
returns-in-None-clause-fresh_play g c =
    let words = texts c.args.words.now in
    let unplayed : play_form words ≡ None = sym c.played_profile.ensures.form ∙ none_by c.played_profile.result c.in_default.not-Some in
    λ told play. absurd (not_none words play.0 play.1 unplayed)

pub returns-in-None-clause-complete_play : goal.returns-in-None-clause-complete_play
returns-in-None-clause-complete_play g c =
    let words = texts c.args.words.now in
    let unplayed : play_form words ≡ None = sym c.played_profile.ensures.form ∙ none_by c.played_profile.result c.in_default.not-Some in
    λ source told can none. absurd (not_none words can.profile can.is_play unplayed)

-- ---- a command

pub returns-in-Some-parse_words-clause-play_refused : goal.returns-in-Some-parse_words-clause-play_refused
returns-in-Some-parse_words-clause-play_refused g c =
    let words = texts c.args.words.now in
    let formed = sym c.parse_words.ensures.form ∙ c.in-Some-parse_words.is in
    λ with_log. absurd (no_refused words c.in-Some-parse_words.command with_log formed)

pub returns-in-Some-parse_words-clause-usage : goal.returns-in-Some-parse_words-clause-usage
returns-in-Some-parse_words-clause-usage g c =
    let words = texts c.args.words.now in
    let unplayed : play_form words ≡ None = sym c.played_profile.ensures.form ∙ none_by c.played_profile.result c.in_default.not-Some in
    let command = c.in-Some-parse_words.command in
    let formed = sym c.parse_words.ensures.form ∙ c.in-Some-parse_words.is in
    λ is. absurd (c.serve.ensures.no_usage is)

pub returns-in-Some-parse_words-clause-usage_comes : goal.returns-in-Some-parse_words-clause-usage_comes
returns-in-Some-parse_words-clause-usage_comes g c =
    let words = texts c.args.words.now in
    let unplayed : play_form words ≡ None = sym c.played_profile.ensures.form ∙ none_by c.played_profile.result c.in_default.not-Some in
    let command = c.in-Some-parse_words.command in
    let formed = sym c.parse_words.ensures.form ∙ c.in-Some-parse_words.is in
    λ is. absurd (some_not_none command (sym formed ∙ is.0))

pub returns-in-Some-parse_words-clause-answer : goal.returns-in-Some-parse_words-clause-answer
returns-in-Some-parse_words-clause-answer g c =
    let words = texts c.args.words.now in
    let unplayed : play_form words ≡ None = sym c.played_profile.ensures.form ∙ none_by c.played_profile.result c.in_default.not-Some in
    let command = c.in-Some-parse_words.command in
    let formed = sym c.parse_words.ensures.form ∙ c.in-Some-parse_words.is in
    λ keyed told none.
    let files = g.D.Disk.reads c.args.disk.now in
    let after = g.D.Disk.reads c.serve.new.disk in
    let left = g.K.Source.left c.args.input.now in
    subst (λ (o : Option Asked). AnswersOne (command_answers (plays_with_log words) o left files after) c.serve.result g.S.Sink.tells (g.S.Sink.taken c.args.out.now) (g.S.Sink.taken c.serve.new.out))
    (sym formed) (c.serve.ensures.answer (λ is. keyed (command, formed, is)) told)

pub returns-in-Some-parse_words-clause-complete : goal.returns-in-Some-parse_words-clause-complete
returns-in-Some-parse_words-clause-complete g c =
    let words = texts c.args.words.now in
    let unplayed : play_form words ≡ None = sym c.played_profile.ensures.form ∙ none_by c.played_profile.result c.in_default.not-Some in
    let command = c.in-Some-parse_words.command in
    let formed = sym c.parse_words.ensures.form ∙ c.in-Some-parse_words.is in
    λ keyed told can none.
    let files = g.D.Disk.reads c.args.disk.now in
    let after = g.D.Disk.reads c.serve.new.disk in
    let left = g.K.Source.left c.args.input.now in
    let alone = subst (λ (o : Option Asked). IsDoneAlone (command_answers (plays_with_log words) o left files after)) formed (complete words left files after can) in
    done_or_starved (asked_answers (word_refusal command) command left files after) c.serve.result g.S.Sink.tells _ _ _ _ _ _ _ _ _ _ (c.serve.ensures.answer (λ is. keyed (command, formed, is)) told) alone
    (λ failed. (c.serve.ensures.input_fault failed).0)
    c.serve.ensures.output_fault
    (λ failed. (c.serve.ensures.entropy_fault failed).0)
    c.serve.ensures.disk_fault none

pub returns-in-Some-parse_words-clause-input_fault : goal.returns-in-Some-parse_words-clause-input_fault
returns-in-Some-parse_words-clause-input_fault g c =
    let words = texts c.args.words.now in
    let unplayed : play_form words ≡ None = sym c.played_profile.ensures.form ∙ none_by c.played_profile.result c.in_default.not-Some in
    let command = c.in-Some-parse_words.command in
    let formed = sym c.parse_words.ensures.form ∙ c.in-Some-parse_words.is in
    λ is. let failed = c.serve.ensures.input_fault is in (failed.0, inl (command, formed, failed.1))

pub returns-in-Some-parse_words-clause-entropy_fault : goal.returns-in-Some-parse_words-clause-entropy_fault
returns-in-Some-parse_words-clause-entropy_fault g c =
    let words = texts c.args.words.now in
    let unplayed : play_form words ≡ None = sym c.played_profile.ensures.form ∙ none_by c.played_profile.result c.in_default.not-Some in
    let command = c.in-Some-parse_words.command in
    let formed = sym c.parse_words.ensures.form ∙ c.in-Some-parse_words.is in
    λ is. let failed = c.serve.ensures.entropy_fault is in (failed.0, inl (command, formed, failed.1))

pub returns-in-Some-parse_words-clause-memory : goal.returns-in-Some-parse_words-clause-memory
returns-in-Some-parse_words-clause-memory g c =
    let words = texts c.args.words.now in
    let unplayed : play_form words ≡ None = sym c.played_profile.ensures.form ∙ none_by c.played_profile.result c.in_default.not-Some in
    let command = c.in-Some-parse_words.command in
    let formed = sym c.parse_words.ensures.form ∙ c.in-Some-parse_words.is in
    λ is. let starved = c.serve.ensures.memory is in
    inl (record { command = command; is_form = formed; takes_some = starved.0; no_refusal = starved.1; has_keys = starved.2 })

pub returns-in-Some-parse_words-clause-usage_text : goal.returns-in-Some-parse_words-clause-usage_text
returns-in-Some-parse_words-clause-usage_text g c =
    let words = texts c.args.words.now in
    let unplayed : play_form words ≡ None = sym c.played_profile.ensures.form ∙ none_by c.played_profile.result c.in_default.not-Some in
    let command = c.in-Some-parse_words.command in
    let formed = sym c.parse_words.ensures.form ∙ c.in-Some-parse_words.is in
    λ told is. absurd (some_not_none command (sym formed ∙ is.0))

pub returns-in-Some-parse_words-clause-line : goal.returns-in-Some-parse_words-clause-line
returns-in-Some-parse_words-clause-line g c =
    let words = texts c.args.words.now in
    let unplayed : play_form words ≡ None = sym c.played_profile.ensures.form ∙ none_by c.played_profile.result c.in_default.not-Some in
    let command = c.in-Some-parse_words.command in
    let formed = sym c.parse_words.ensures.form ∙ c.in-Some-parse_words.is in
    λ printed none way. c.serve.ensures.line printed (λ is. way (command, formed, is))

pub returns-in-Some-parse_words-clause-input_text : goal.returns-in-Some-parse_words-clause-input_text
returns-in-Some-parse_words-clause-input_text g c =
    let words = texts c.args.words.now in
    let unplayed : play_form words ≡ None = sym c.played_profile.ensures.form ∙ none_by c.played_profile.result c.in_default.not-Some in
    let command = c.in-Some-parse_words.command in
    let formed = sym c.parse_words.ensures.form ∙ c.in-Some-parse_words.is in
    λ none. c.serve.ensures.input_text

pub returns-in-Some-parse_words-clause-words_first : goal.returns-in-Some-parse_words-clause-words_first
returns-in-Some-parse_words-clause-words_first g c =
    let words = texts c.args.words.now in
    let unplayed : play_form words ≡ None = sym c.played_profile.ensures.form ∙ none_by c.played_profile.result c.in_default.not-Some in
    let command = c.in-Some-parse_words.command in
    let formed = sym c.parse_words.ensures.form ∙ c.in-Some-parse_words.is in
    λ is. absurd (some_not_none command (sym formed ∙ is.0))

pub returns-in-Some-parse_words-clause-fault_first : goal.returns-in-Some-parse_words-clause-fault_first
returns-in-Some-parse_words-clause-fault_first g c =
    let words = texts c.args.words.now in
    let unplayed : play_form words ≡ None = sym c.played_profile.ensures.form ∙ none_by c.played_profile.result c.in_default.not-Some in
    let command = c.in-Some-parse_words.command in
    let formed = sym c.parse_words.ensures.form ∙ c.in-Some-parse_words.is in
    λ none. c.serve.ensures.fault_first

pub returns-in-Some-parse_words-clause-takes_none : goal.returns-in-Some-parse_words-clause-takes_none
returns-in-Some-parse_words-clause-takes_none g c =
    let words = texts c.args.words.now in
    let unplayed : play_form words ≡ None = sym c.played_profile.ensures.form ∙ none_by c.played_profile.result c.in_default.not-Some in
    let command = c.in-Some-parse_words.command in
    let formed = sym c.parse_words.ensures.form ∙ c.in-Some-parse_words.is in
    λ never. c.serve.ensures.takes_none (not_true (takes_keys command) (λ is. never (inl (command, formed, is))))

pub returns-in-Some-parse_words-clause-draws : goal.returns-in-Some-parse_words-clause-draws
returns-in-Some-parse_words-clause-draws g c =
    let words = texts c.args.words.now in
    let unplayed : play_form words ≡ None = sym c.played_profile.ensures.form ∙ none_by c.played_profile.result c.in_default.not-Some in
    let command = c.in-Some-parse_words.command in
    let formed = sym c.parse_words.ensures.form ∙ c.in-Some-parse_words.is in
    λ never. c.serve.ensures.drawn.draws (not_true (draws command) (λ is. never (inl (command, formed, is))))

pub returns-in-Some-parse_words-clause-plays : goal.returns-in-Some-parse_words-clause-plays
returns-in-Some-parse_words-clause-plays g c =
    let words = texts c.args.words.now in
    let unplayed : play_form words ≡ None = sym c.played_profile.ensures.form ∙ none_by c.played_profile.result c.in_default.not-Some in
    let command = c.in-Some-parse_words.command in
    let formed = sym c.parse_words.ensures.form ∙ c.in-Some-parse_words.is in
    λ profile is. absurd (not_none words profile is unplayed)

pub returns-in-Some-parse_words-clause-refused_play : goal.returns-in-Some-parse_words-clause-refused_play
returns-in-Some-parse_words-clause-refused_play g c =
    let words = texts c.args.words.now in
    let unplayed : play_form words ≡ None = sym c.played_profile.ensures.form ∙ none_by c.played_profile.result c.in_default.not-Some in
    let command = c.in-Some-parse_words.command in
    let formed = sym c.parse_words.ensures.form ∙ c.in-Some-parse_words.is in
    λ told profile is. absurd (not_none words profile is unplayed)

pub returns-in-Some-parse_words-clause-fresh_play : goal.returns-in-Some-parse_words-clause-fresh_play
returns-in-Some-parse_words-clause-fresh_play g c =
    let words = texts c.args.words.now in
    let unplayed : play_form words ≡ None = sym c.played_profile.ensures.form ∙ none_by c.played_profile.result c.in_default.not-Some in
    λ told play. absurd (not_none words play.0 play.1 unplayed)

pub returns-in-Some-parse_words-clause-complete_play : goal.returns-in-Some-parse_words-clause-complete_play
returns-in-Some-parse_words-clause-complete_play g c =
    let words = texts c.args.words.now in
    let unplayed : play_form words ≡ None = sym c.played_profile.ensures.form ∙ none_by c.played_profile.result c.in_default.not-Some in
    let command = c.in-Some-parse_words.command in
    let formed = sym c.parse_words.ensures.form ∙ c.in-Some-parse_words.is in
    λ source told can none. absurd (not_none words can.profile can.is_play unplayed)
