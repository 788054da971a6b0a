-- A script on the recovered file: how its run goes on from the recovery, and where nothing stands in its way.
use Rattle.std.proofs.Common.{◌≡◌, ◌≢◌, ◌⊎◌, ⊎_elim, inl, inr, ℕ, ◌<◌, ◌≤◌, ◌+◌, Bool, true, false, List, [], ◌∷◌, ◌++◌, length, map, Option, Some, None, Result, Ok, Err, IsTrue, if◌then◌else◌, refl, sym, ap, subst, ◌∙◌, arith}
use Rattle.std.specs.Prelude.{IsOk, IsSome, All, codes, slice_index_or}
use Rattle.std.specs.Option.{option_and_then}
use Rattle.std.specs.Str.{bytes_eq}
use Rattle.std.proofs.lemmas.Bool.{and_parts}
use Rattle.std.proofs.lemmas.Slice.Eq.{bytes_eq-Decides}
use Rattle.cipher_profile.specs.Profile.{is_plain}
use Rattle.profile_word.specs.Word.{named_without_log, profile_named, without_log_setting}
use Rattle.cipher_profile.specs.declared.profile.Profile.{Profile}
use Rattle.edge_model.specs.Causes.{Rose}
use Rattle.atomic_commit.specs.Facts.{SameFresh}
use Rattle.edge_model.specs.Files.{Files}
use Rattle.edge_model.specs.Images.{From}
use Rattle.rollback_journal.specs.Recovery.{KeepsRecovered}
use Rattle.rollback_journal.specs.declared.recovery.Recovery.{Recovery}
use Rattle.rollback_journal.specs.declared.recovery.RecoverError.{RecoverError}
use Rattle.session_hall.specs.Machine.{HallState}
use Rattle.session_play.specs.Moments.{DiskTold, IsOnWay}
use Rattle.session_play.specs.Play.{IsBehind, PlaysLines, line_of_reply, most_lines}
use Rattle.session_play.specs.Reply.{Reply}
use Rattle.session_play.specs.Script.{script_lines, step_of}
use Rattle.session_play.specs.declared.playing.PlayError.{PlayError}
use Rattle.session_play.specs.declared.playing.PlayError.TheVariants.{ScriptLine as NoStep, LineTooLong as LongLine, TooManyLines as ManyLines, DiskFault as DiskFails, OutputFault as OutputFails, InputFault as InputFails, EntropyFault as EntropyFails, OutOfMemory as MemoryEnds}
use Rattle.sqlcipher_tool.specs.Answer.{Answer, IsFault, Puts, refused}
use Rattle.sqlcipher_tool.specs.Behind.{IsOfRecovery}
use Rattle.sqlcipher_tool.specs.Holding.{DiskRun}
use Rattle.sqlcipher_tool.specs.Play.{EndsRefused, EndsScript, IsDueTo, IsGoodLine, IsScriptPlayedIn, IsScriptPlayedOn, PlaysScript}
use Rattle.sqlcipher_tool.specs.Promises.{IsUnrecovered}
use Rattle.sqlcipher_tool.specs.Recovered.{recovery_of, refused_answer}
use Rattle.sqlcipher_tool.specs.Servable.{IsDoneOrStarved, NoneRose}
use Rattle.sqlcipher_tool.specs.Stop.{IsOutside, stop_answer}
use Rattle.sqlcipher_tool.specs.Words.{form, play_form, plays_with_log, reads_log_of}
use Rattle.sqlcipher_tool.specs.declared.command.Command.{Command}
use Rattle.sqlcipher_tool.specs.declared.opening.Stop.{Stop}
use Rattle.sqlcipher_tool.specs.declared.opening.Stop.TheVariants.{Refused as StopRefused, KeyRefused as StopKey, DiskFault as StopDisk, OutOfMemory as StopMemory}
use Rattle.sqlcipher_tool.specs.declared.status.Refusal.{Refusal}
use Rattle.sqlcipher_tool.specs.declared.status.Status.{Status}
use Rattle.sqlcipher_tool.specs.declared.status.Status.TheVariants.{DiskFault, OutputFault, InputFault, EntropyFault, OutOfMemory}
use Rattle.sqlcipher_tool.proofs.Completeness.{faulted}

-- ---- the words

none_some : {T : Type 0} (x : T) → ◌≡◌ {A = Option T} None (Some x) → ⊥
none_some x is = cc

-- the words of `play` make no command
pub no_command : (words : List (List ℕ)) (profile : Profile) (command : Command) → play_form words ≡ Some profile → form words ≡ Some command → ⊥
no_command [] profile command is formed = none_some profile is
no_command (name ∷ []) profile command is formed = none_some profile is
no_command (name ∷ word ∷ []) profile command is formed = named (bytes_eq name (codes "play")) refl
  where
    other : form (codes "play" ∷ word ∷ []) ≡ None
    other = refl

    named : (b : Bool) → bytes_eq name (codes "play") ≡ b → ⊥
    named false differs = none_some profile (sym (ap (λ (t : Bool). if t then named_without_log word else None) differs) ∙ is)
    named true same =
        none_some command (sym other ∙ (ap (λ (n : List ℕ). form (n ∷ word ∷ [])) (sym ((bytes_eq-Decides name (codes "play")).0 same)) ∙ formed))
no_command (name ∷ word ∷ next ∷ rest) profile command is formed = none_some profile is

-- nor is a `play` that is refused a command
pub no_refused : (words : List (List ℕ)) (command : Command) → plays_with_log words ≡ true → form words ≡ Some command → ⊥
no_refused [] command is formed = cc is
no_refused (name ∷ []) command is formed = cc is
no_refused (name ∷ word ∷ []) command is formed =
    none_some command (sym other ∙ (ap (λ (n : List ℕ). form (n ∷ word ∷ [])) (sym ((bytes_eq-Decides name (codes "play")).0 (and_parts (bytes_eq name (codes "play")) (reads_log_of (profile_named word)) is).0)) ∙ formed))
  where
    other : form (codes "play" ∷ word ∷ []) ≡ None
    other = refl
no_refused (name ∷ word ∷ next ∷ rest) command is formed = cc is

-- a word that names a profile without its log is none of a file that is read with it
unset : (o : Option Profile) (profile : Profile) → option_and_then without_log_setting o ≡ Some profile → reads_log_of o ≡ false
unset None profile is = refl
unset (Some named) profile is = by_log named.reads_log is
  where
    by_log : (b : Bool) → (if b then None else Some named) ≡ Some profile → b ≡ false
    by_log true none = absurd (none_some profile none)
    by_log false some = refl

-- and a `play` that is served is none that is refused
pub served_unset : (words : List (List ℕ)) (profile : Profile) → play_form words ≡ Some profile → plays_with_log words ≡ true → ⊥
unfolding named_without_log
served_unset [] profile is set = none_some profile is
served_unset (name ∷ []) profile is set = none_some profile is
served_unset (name ∷ word ∷ []) profile is set =
    let parts = and_parts (bytes_eq name (codes "play")) (reads_log_of (profile_named word)) set in
    differ (sym (unset (profile_named word) profile (sym (ap (λ (t : Bool). if t then named_without_log word else None) parts.0) ∙ is)) ∙ parts.1)
  where
    differ : false ≡ true → ⊥
    differ is = cc is
served_unset (name ∷ word ∷ next ∷ rest) profile is set = none_some profile is

-- nor are they no words
pub not_none : (words : List (List ℕ)) (profile : Profile) → play_form words ≡ Some profile → play_form words ≡ None → ⊥
not_none words profile is none = none_some profile (sym none ∙ is)

-- one profile is played
pub one_profile : (words : List (List ℕ)) (profile other : Profile) → play_form words ≡ Some profile → play_form words ≡ Some other → profile ≡ other
one_profile words profile other is also = given profile other (sym is ∙ also)
  where
    given : (a b : Profile) → Some a ≡ Some b → a ≡ b
    given a b same = cc same

-- of a plain file nothing is drawn, so what is drawn is of another
pub draws_or_plain : {A : Type 0} (profile : Profile) → (is_plain profile ≡ true → A) → (is_plain profile ≡ false → A) → A
draws_or_plain {A} profile plain other = by (is_plain profile) refl
  where
    by : (b : Bool) → is_plain profile ≡ b → A
    by true is = plain is
    by false is = other is

-- ---- moments

-- an image keeps what it recovers to
pub keeps_itself : (size : ℕ) (image : Files) → KeepsRecovered size image image
keeps_itself size image = record { no_other = λ file is. is; still = λ file is. (file, is); fresh = refl }

-- a recovery keeps Fresh
pub keeps_fresh : (size : ℕ) (start : Files → Type 0) (image : Files) → From (KeepsRecovered size) start image → From SameFresh start image
keeps_fresh size start image from = (from.0, from.1, from.2.fresh)

-- a script whose moments leave more
plays_more : {T D : Type 0} (layout : Profile) (played : Result T PlayError) (source sink disk entropy : Bool) {leaves more have : (Files → Type 0) → Type 0}
    {told : DiskTold D} {from to : D} {left rest before after drawn drawn_after : List ℕ} {old new : HallState} → (IsTrue disk → (P : Files → Type 0) → leaves P → more P)
    → PlaysLines layout played source sink disk entropy leaves have told from to left rest before after drawn drawn_after old new
    → PlaysLines layout played source sink disk entropy more have told from to left rest before after drawn drawn_after old new
plays_more layout played source sink disk entropy {old = old} gives script = record {
  replies = script.replies;
  behind = script.behind;
  few = script.few;
  steps = script.steps;
  answers = script.answers;
  lines = script.lines;
  stop = script.stop;
  text = script.text;
  run = script.run;
  draws = script.draws;
  moments = λ told. gives told (IsOnWay layout old script.replies) (script.moments told);
  order = script.order;
}

pub played_more : {T D : Type 0} (layout : Profile) (played : Result T PlayError) (source sink disk entropy : Bool) {leaves more : (Files → Type 0) → Type 0}
    {told : DiskTold D} {from to : D} {now : Files} {images : Files → Type 0} {left rest before after drawn drawn_after : List ℕ} {hall : HallState} → (IsTrue disk → (P : Files → Type 0) → leaves P → more P)
    → IsScriptPlayedIn layout played source sink disk entropy leaves told from to now images left rest before after drawn drawn_after hall
    → IsScriptPlayedIn layout played source sink disk entropy more told from to now images left rest before after drawn drawn_after hall
played_more layout played source sink disk entropy gives script = record {
  last = script.last;
  is_main = script.is_main;
  plays = plays_more layout played source sink disk entropy gives script.plays;
  settled = script.settled;
  taken = script.taken;
}

-- it was played on the recovered file
pub played_recovered : {D : Type 0} (layout : Profile) (status : Status) (source sink disk entropy : Bool) {leaves more : (Files → Type 0) → Type 0}
    {told : DiskTold D} {from to : D} {now : Files} {images : Files → Type 0} {left rest before after drawn drawn_after file main : List ℕ} → (IsTrue disk → main ≡ file)
    → (IsTrue disk → (P : Files → Type 0) → leaves P → more P)
    → IsScriptPlayedOn layout main status source sink disk entropy leaves told from to now images left rest before after drawn drawn_after
    → IsScriptPlayedOn layout file status source sink disk entropy more told from to now images left rest before after drawn drawn_after
played_recovered layout status source sink disk entropy same gives script = record {
  played = script.played;
  shown = script.shown;
  hall = script.hall;
  opened = λ told. let opened = script.opened told in record { main = opened.main ∙ same told; laid = opened.laid; many = opened.many; all_closed = opened.all_closed; no_page = opened.no_page };
  script = played_more layout script.played source sink disk entropy gives script.script;
  ends = script.ends;
}

-- ---- a recovery that is refused

abbrev EndsUnread : Profile → Status → Bool → Bool → Files → List ℕ → List ℕ → Type 0
EndsUnread profile status sink disk files before after =
    ((refusal : Refusal) × IsDueTo profile disk files refusal × EndsRefused refusal status sink before after)
    ⊎ (((status ≡ DiskFault) ⊎ (status ≡ OutOfMemory)) × (after ≡ before))

refused_outside : (refusal : Refusal) → IsOutside (StopRefused refusal) → ⊥
refused_outside refusal (inl is) = cc
refused_outside refusal (inr is) = cc

pub ends_unread : (profile : Profile) (disk sink : Bool) (files : Files) (stop : Stop) (status : Status) (before after : List ℕ) → IsOfRecovery stop
    → (IsTrue disk → IsOutside stop ⊎ (stop_answer stop ≡ refused_answer (recovery_of profile files)))
    → ((answer : Answer) → stop_answer stop ≡ Some answer → (status ≡ answer.status) ⊎ (status ≡ OutputFault))
    → ((answer : Answer) → stop_answer stop ≡ Some answer → IsTrue sink → Puts status answer.text before after)
    → (stop ≡ StopDisk → (status ≡ DiskFault) × (after ≡ before)) → (stop ≡ StopMemory → (status ≡ OutOfMemory) × (after ≡ before))
    → EndsUnread profile status sink disk files before after
ends_unread profile disk sink files (StopRefused refusal) status before after of due answered text failed starved =
    inl (refusal, (of, λ told. ⊎_elim (λ outside. absurd (refused_outside refusal outside)) (λ same. sym same) (due told)), (answered (refused refusal) refl, text (refused refusal) refl))
ends_unread profile disk sink files StopKey status before after of due answered text failed starved = absurd of
ends_unread profile disk sink files StopDisk status before after of due answered text failed starved = inr (inl (failed refl).0, (failed refl).1)
ends_unread profile disk sink files StopMemory status before after of due answered text failed starved = inr (inr (starved refl).0, (starved refl).1)

-- where it is refused by the journal, nothing was written
pub unread_same : {A : Type 0} (stop : Stop) (status : Status) → (IsOutside stop ⊎ A) → (stop ≡ StopDisk → status ≡ DiskFault) → (stop ≡ StopMemory → status ≡ OutOfMemory)
    → IsUnrecovered status → A
unread_same stop status (inl (inl is)) failed starved refused = absurd (subst IsUnrecovered (failed is) refused)
unread_same stop status (inl (inr is)) failed starved refused = absurd (subst IsUnrecovered (starved is) refused)
unread_same stop status (inr a) failed starved refused = a

-- ---- where each line is a step

element_behind : {X : Type 0} (xs ys : List X) (x d : X) → slice_index_or (xs ++ x ∷ ys) (length xs) d ≡ x
element_behind [] ys x d = refl
element_behind (y ∷ xs) ys x d = element_behind xs ys x d

length_behind : {X : Type 0} (xs ys : List X) → length (xs ++ ys) ≡ length xs + length ys
length_behind [] ys = omega arith
length_behind (x ∷ xs) ys = omega (arith, length_behind xs ys)

lines_of : (replies : List Reply) → length (map line_of_reply replies) ≡ length replies
lines_of [] = refl
lines_of (reply ∷ replies) = omega (arith, lines_of replies)

some_element : {X : Type 0} (xs : List X) → xs ≢ [] → 0 < length xs
some_element [] none = absurd (none refl)
some_element (x ∷ xs) none = omega arith

-- the line behind those that were carried out is a step
behind_good : (layout : Profile) (lines : List (List ℕ)) (carried behind more : List (List ℕ)) (line : List ℕ) → lines ≡ carried ++ behind → behind ≡ line ∷ more
    → All (IsGoodLine layout) lines → IsGoodLine layout line
behind_good layout lines carried behind more line is behind_is good =
    let whole : lines ≡ carried ++ line ∷ more = is ∙ ap (λ (l : List (List ℕ)). carried ++ l) behind_is in
    let all : All (IsGoodLine layout) (carried ++ line ∷ more) = subst (λ (l : List (List ℕ)). All (IsGoodLine layout) l) whole good in
    let long : length carried < length (carried ++ line ∷ more) = omega (arith, length_behind carried (line ∷ more)) in
    subst (λ (l : List ℕ). IsGoodLine layout l) (element_behind carried more line []) (all (length carried) [] long)

no_step : (layout : Profile) (line : List ℕ) → IsSome (step_of layout line) → step_of layout line ≡ None → ⊥
no_step layout line some none = differ (subst IsSome none some)
  where
    differ : false ≡ true → ⊥
    differ is = cc

accepted_recovery : (answer : Answer) (r : Result Recovery RecoverError) → IsOk r → refused_answer r ≡ Some answer → ⊥
accepted_recovery answer (Ok recovery) ok is = cc
accepted_recovery answer (Err error) ok is = cc

module _ (layout : Profile) (status : Status) (sink : Bool) (a b d e f g h i : ℕ) (input : status ≡ InputFault → Rose a b) (output : status ≡ OutputFault → Rose d e)
    (entropy : status ≡ EntropyFault → Rose f g) (disk : status ≡ DiskFault → Rose h i) (none : NoneRose ((a, b) ∷ (d, e) ∷ (f, g) ∷ (h, i) ∷ [])) where
  fault : (due : Status) → IsFault due → status ≡ due → IsDoneOrStarved status
  fault due is same = faulted status a b d e f g h i (subst IsFault (sym same) is) input output entropy disk none

  ended : (played : Result (Unit {0}) PlayError) (lines behind : List (List ℕ)) (rest shown after : List ℕ) (replies : List Reply)
      → lines ≡ map line_of_reply replies ++ behind → length lines ≤ most_lines → All (IsGoodLine layout) lines
      → IsBehind layout played (length replies) behind rest → EndsScript played status sink shown after → IsDoneOrStarved status
  ended (Ok done) lines behind rest shown after replies is few good stop ends = inl ends.0
  ended (Err (NoStep number)) lines behind rest shown after replies is few good stop ends =
      let line = stop.2.0 in
      absurd (no_step layout line (behind_good layout lines (map line_of_reply replies) behind (script_lines rest) line is stop.2.1 good).1 stop.2.3)
  ended (Err (LongLine number)) lines behind rest shown after replies is few good stop ends =
      let line = stop.2.0 in
      let short = (behind_good layout lines (map line_of_reply replies) behind stop.2.1 line is stop.2.2 good).0 in
      absurd (omega (arith, short, stop.2.3))
  ended (Err ManyLines) lines behind rest shown after replies is few good stop ends =
      let all : length lines ≡ length replies + length behind =
      ap length is ∙ (length_behind (map line_of_reply replies) behind ∙ ap (λ (n : ℕ). n + length behind) (lines_of replies)) in
      absurd (omega (arith, all, few, stop.0, some_element behind stop.1))
  ended (Err DiskFails) lines behind rest shown after replies is few good stop ends = fault DiskFault tt ends.0
  ended (Err OutputFails) lines behind rest shown after replies is few good stop ends = fault OutputFault tt ends.0
  ended (Err InputFails) lines behind rest shown after replies is few good stop ends = fault InputFault tt ends.0
  ended (Err EntropyFails) lines behind rest shown after replies is few good stop ends = fault EntropyFault tt ends.0
  ended (Err MemoryEnds) lines behind rest shown after replies is few good stop ends = inr ends.0

  pub play_done : (source tells draws : Bool) (run : DiskRun) (left rest before after drawn drawn_after : List ℕ) → IsTrue source → IsTrue tells → IsOk (recovery_of layout run.before)
      → length (script_lines left) ≤ most_lines → All (IsGoodLine layout) (script_lines left)
      → PlaysScript layout status source sink tells draws run left rest before after drawn drawn_after → IsDoneOrStarved status
  play_done source tells draws run left rest before after drawn drawn_after told_source told recovers few good (inl unread) =
      ⊎_elim (λ way. absurd (accepted_recovery (refused way.0) (recovery_of layout run.before) recovers (way.1.1 told)))
      (λ way. ⊎_elim (fault DiskFault tt) (λ memory. inr memory) way.0) unread.ends
  play_done source tells draws run left rest before after drawn drawn_after told_source told recovers few good (inr played) =
      let on = played.script in
      let plays = on.script.plays in
      ended on.played (script_lines left) plays.behind rest on.shown after plays.replies (plays.lines told_source) few good (plays.stop told_source) on.ends
