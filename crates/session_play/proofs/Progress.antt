-- A script that is under way.
use Rattle.std.proofs.Common.{◌≡◌, ◌≢◌, ◌+◌, ◌<◌, ◌≤◌, ◌∙◌, ℕ, Bool, false, List, [], ◌∷◌, ◌++◌, length, map, Option, Some, None, refl, sym, ap, subst, arith, append_assoc, inl, inr, ⊎_elim}
use Rattle.std.specs.Prelude.{All, IsTrue, Result, Err, slice_index}
use Rattle.std.proofs.lemmas.List.{append-nil, flat_map_more, length_push, map_push}
use Rattle.std.proofs.lemmas.List.Elements.{All-push}
use Rattle.edge_model.specs.Files.{Files}
use Rattle.edge_model.specs.Images.{LeavesOnly}
use Rattle.cipher_profile.specs.declared.profile.Profile.{Profile}
use Rattle.session_hall.specs.Draws.{StepDraws}
use Rattle.session_hall.specs.Faults.{is_fault_answer}
use Rattle.session_hall.specs.Machine.{HallState, Steps}
use Rattle.session_hall.specs.Session.{session_at}
use Rattle.session_hall.specs.declared.step.Answer.{Answer}
use Rattle.session_hall.specs.declared.step.Answer.TheVariants.{Done, Page, Busy, Refused, TagRefused, Misuse, Down, DiskFault as DiskFails, EntropyFault as EntropyFails, OutOfMemory as MemoryEnds}
use Rattle.session_play.specs.AnswerText.{answer_line}
use Rattle.session_play.specs.Play.{IsReplyTo, AreAnswers, Carries, EndsWith, AreSteps, GoesThrough, IsBehind, IsFailed, IsPrinted, IsPutReply, IsStepLine, PlaysLines, Prints, StaysUp, TakesStep, failure_of, line_of_reply, replies_text, reply_text, step_text}
use Rattle.session_play.specs.Lines.{IsEnding, ending_result}
use Rattle.session_play.specs.declared.line.Ending.{Ending}
use Rattle.session_play.specs.declared.line.Ending.TheVariants.{End, More, SourceFault}
use Rattle.session_play.proofs.ScriptText.{some_lines}
use Rattle.session_play.specs.Draws.{AreDrawn, MadeDraws, ReplyDraws}
use Rattle.session_play.specs.Moments.{DiskTold, HasMain, IsInStep, IsOnWay, StandsAs, state_behind}
use Rattle.session_play.specs.Reply.{Reply}
use Rattle.session_play.specs.Script.{script_lines, step_of}
use Rattle.session_play.specs.declared.playing.PlayError.{PlayError}
use Rattle.session_play.specs.declared.playing.PlayError.TheVariants.{ScriptLine, LineTooLong, TooManyLines, DiskFault, OutputFault, InputFault, EntropyFault, OutOfMemory}
use Rattle.session_play.specs.declared.script.ScriptStep.{ScriptStep}
use Rattle.text_lines.specs.Text.{PutsPart}

-- So many lines were carried out, each with an answer that is printed.
pub record IsPlaying {D : Type 0} (layout : Profile) (source sink disk entropy : Bool) (leaves : (Files → Type 0) → Type 0) (told : DiskTold D) (from to : D) (left rest before after drawn drawn_now : List ℕ) (old now : HallState) (carried : ℕ) : Type 0 where
  pub replies : List Reply
  pub counted : length replies ≡ carried
  pub steps : All (IsStepLine layout) replies
  pub printed : All IsPrinted replies
  pub lines : IsTrue source → script_lines left ≡ map line_of_reply replies ++ script_lines rest
  pub text : IsTrue sink → after ≡ before ++ replies_text layout replies
  pub run : IsTrue disk → AreSteps layout old replies now
  pub draws : IsTrue disk → IsTrue entropy → AreDrawn layout old replies drawn drawn_now
  pub moments : IsTrue disk → leaves (IsOnWay layout old replies)
  pub order : IsTrue disk → GoesThrough told layout old replies from to

-- before the first line
pub begun : {D : Type 0} (layout : Profile) (source sink disk entropy : Bool) (leaves : (Files → Type 0) → Type 0) (told : DiskTold D) (from : D) (left before drawn : List ℕ) (old : HallState)
    → (IsTrue disk → leaves (HasMain old.file)) → IsPlaying layout source sink disk entropy leaves told from from left left before before drawn drawn old old 0
begun layout source sink disk entropy leaves told from left before drawn old here = record {
  replies = [];
  counted = refl;
  steps = λ k d lt. absurd (omega arith);
  printed = λ k d lt. absurd (omega arith);
  lines = λ tells. refl;
  text = λ tells. sym (append-nil before);
  run = λ tells. refl;
  draws = λ tells draws. refl;
  moments = here;
  order = λ tells. refl;
}

-- ---- one reply more

follows_more : (layout : Profile) (old mid new : HallState) (replies : List Reply) (reply : Reply) → AreSteps layout old replies mid
    → TakesStep (step_of layout reply.line) mid reply → new ≡ reply.after → AreSteps layout old (replies ++ reply ∷ []) new
follows_more layout old mid new [] reply follows step is = (subst (λ (s : HallState). TakesStep (step_of layout reply.line) s reply) follows step, is)
follows_more layout old mid new (first ∷ replies) reply follows step is = (follows.0, follows_more layout first.after mid new replies reply follows.1 step is)

drawn_more : (layout : Profile) (old mid : HallState) (replies : List Reply) (reply : Reply) (drawn drawn_mid drawn_after : List ℕ) → AreSteps layout old replies mid
    → AreDrawn layout old replies drawn drawn_mid → ReplyDraws (step_of layout reply.line) mid reply drawn_mid drawn_after → AreDrawn layout old (replies ++ reply ∷ []) drawn drawn_after
drawn_more layout old mid [] reply drawn drawn_mid drawn_after follows draws step = (
  drawn_after,
  subst (λ (s : HallState). ReplyDraws (step_of layout reply.line) s reply drawn drawn_after) follows
      (subst (λ (d : List ℕ). ReplyDraws (step_of layout reply.line) mid reply d drawn_after) draws step),
  refl,
)
drawn_more layout old mid (first ∷ replies) reply drawn drawn_mid drawn_after follows draws step =
    (draws.0, draws.1, drawn_more layout first.after mid replies reply draws.0 drawn_mid drawn_after follows.1 draws.2 step)

lines_more : (replies : List Reply) (reply : Reply) (line : List ℕ) (more : List (List ℕ)) → reply.line ≡ line
    → map line_of_reply replies ++ (line ∷ more) ≡ map line_of_reply (replies ++ reply ∷ []) ++ more
lines_more replies reply line more is =
    ap (λ (l : List ℕ). map line_of_reply replies ++ (l ∷ more)) (sym is)
    ∙ sym (ap (λ (ls : List (List ℕ)). ls ++ more) (map_push line_of_reply replies reply) ∙ append_assoc (map line_of_reply replies) (reply.line ∷ []) more)

is_of : (layout : Profile) (line : List ℕ) (disk entropy : Bool) (leaves : (Files → Type 0) → Type 0) (drawn drawn_after : List ℕ) (old new : HallState) (reply : Reply) (a : IsReplyTo layout line disk entropy leaves drawn drawn_after old new reply) → step_of layout reply.line ≡ Some a.entry
is_of layout line disk entropy leaves drawn drawn_after old new reply a = ap (step_of layout) a.of_line ∙ a.is

takes : (layout : Profile) (line : List ℕ) (disk entropy : Bool) (leaves : (Files → Type 0) → Type 0) (drawn drawn_after : List ℕ) (old new : HallState) (reply : Reply) → IsReplyTo layout line disk entropy leaves drawn drawn_after old new reply → IsTrue disk
    → TakesStep (step_of layout reply.line) old reply
takes layout line disk entropy leaves drawn drawn_after old new reply a tells =
    subst (λ (o : Option ScriptStep). TakesStep o old reply) (sym (is_of layout line disk entropy leaves drawn drawn_after old new reply a)) (a.step tells)

step_line : (layout : Profile) (line : List ℕ) (disk entropy : Bool) (leaves : (Files → Type 0) → Type 0) (drawn drawn_after : List ℕ) (old new : HallState) (reply : Reply) → IsReplyTo layout line disk entropy leaves drawn drawn_after old new reply → length line ≤ 1100 → IsStepLine layout reply
step_line layout line disk entropy leaves drawn drawn_after old new reply a short = record {
  short = let same : length reply.line ≡ length line = ap length a.of_line in omega arith;
  entry = a.entry;
  is = is_of layout line disk entropy leaves drawn drawn_after old new reply a;
}

-- an image of a moment so far is one of a moment up to the next reply
way_more : (layout : Profile) (old mid : HallState) (replies : List Reply) (reply : Reply) (entry : ScriptStep) → AreSteps layout old replies mid
    → step_of layout reply.line ≡ Some entry → (c : Files) → IsOnWay layout old replies c → IsOnWay layout old (replies ++ reply ∷ []) c
way_more layout old mid [] reply entry follows is c has = inl (subst (λ (o : Option ScriptStep). IsInStep o reply.answer reply.made old c) (sym is) (inl has))
way_more layout old mid (first ∷ replies) reply entry follows is c has =
    ⊎_elim (λ here. inl here) (λ later. inr (way_more layout first.after mid replies reply entry follows.1 is c later)) has

-- and so is one of a moment within it
way_last : (layout : Profile) (old mid : HallState) (replies : List Reply) (reply : Reply) (entry : ScriptStep) → AreSteps layout old replies mid
    → step_of layout reply.line ≡ Some entry → (c : Files) → IsInStep (Some entry) reply.answer reply.made mid c → IsOnWay layout old (replies ++ reply ∷ []) c
way_last layout old mid [] reply entry follows is c has =
    inl (subst (λ (o : Option ScriptStep). IsInStep o reply.answer reply.made old c) (sym is) (subst (λ (s : HallState). IsInStep (Some entry) reply.answer reply.made s c) follows has))
way_last layout old mid (first ∷ replies) reply entry follows is c has = inr (way_last layout first.after mid replies reply entry follows.1 is c has)

-- the disk goes on by one step
through_more : {D : Type 0} (told : DiskTold D) (layout : Profile) (old mid : HallState) (replies : List Reply) (reply : Reply) (entry : ScriptStep) (from at to : D) → AreSteps layout old replies mid
    → step_of layout reply.line ≡ Some entry → GoesThrough told layout old replies from at
    → LeavesOnly told.moment told.since at to (IsInStep (Some entry) reply.answer reply.made mid)
    → (IsPrinted reply → StandsAs reply.after.file (told.reads to) (told.images to)) → GoesThrough told layout old (replies ++ reply ∷ []) from to
through_more told layout old mid [] reply entry from at to follows is so_far leaves stands = (
  to,
  subst (λ (o : Option ScriptStep). LeavesOnly told.moment told.since from to (IsInStep o reply.answer reply.made old)) (sym is)
      (subst (λ (s : HallState). LeavesOnly told.moment told.since from to (IsInStep (Some entry) reply.answer reply.made s)) follows
      (subst (λ (d : _). LeavesOnly told.moment told.since d to (IsInStep (Some entry) reply.answer reply.made mid)) so_far leaves)),
  stands,
  refl,
)
through_more told layout old mid (first ∷ replies) reply entry from at to follows is so_far leaves stands =
    (so_far.0, so_far.1, so_far.2, through_more told layout first.after mid replies reply entry so_far.0 at to follows.1 is so_far.3 leaves stands)

-- an answer that ends the script is not printed
never_both : (o : Option PlayError) (error : PlayError) → o ≡ None → o ≡ Some error → ⊥
never_both o error none some = differ error (sym none ∙ some)
  where
    differ : (e : PlayError) → ◌≡◌ {A = Option PlayError} None (Some e) → ⊥
    differ e is = cc

-- the state behind the replies is the one that they lead to
behind_is_now : (layout : Profile) (old mid : HallState) (replies : List Reply) → AreSteps layout old replies mid → state_behind old replies ≡ mid
behind_is_now layout old mid [] follows = sym follows
behind_is_now layout old mid (first ∷ replies) follows = behind_is_now layout first.after mid replies follows.1

-- the reply of a line whose answer is this one
answers_of : (layout : Profile) (line : List ℕ) (disk entropy : Bool) (leaves : (Files → Type 0) → Type 0) (drawn drawn_after : List ℕ) (old new : HallState) (entry : ScriptStep) (answer : Answer) (made : Option (List ℕ)) → step_of layout line ≡ Some entry
    → (IsTrue disk → Steps old entry.session entry.step answer new) → (IsTrue disk → IsTrue entropy → StepDraws old.layout entry.step answer (session_at old.sessions entry.session) new.file drawn drawn_after × MadeDraws old.layout (session_at old.sessions entry.session) made drawn drawn_after)
    → (IsTrue disk → leaves (IsInStep (Some entry) answer made old)) → IsReplyTo layout line disk entropy leaves drawn drawn_after old new (record { line = line; answer = answer; after = new; made = made })
answers_of layout line disk entropy leaves drawn drawn_after old new entry answer made is steps draws moments = record { of_line = refl; entry = entry; is = is; new_is = refl; step = steps; draws = draws; moments = moments }

pub failed : (layout : Profile) (line : List ℕ) (disk entropy : Bool) (leaves : (Files → Type 0) → Type 0) (drawn drawn_after : List ℕ) (old new : HallState) (entry : ScriptStep) (answer : Answer) (made : Option (List ℕ)) (error : PlayError) → step_of layout line ≡ Some entry
    → (IsTrue disk → Steps old entry.session entry.step answer new) → (IsTrue disk → IsTrue entropy → StepDraws old.layout entry.step answer (session_at old.sessions entry.session) new.file drawn drawn_after × MadeDraws old.layout (session_at old.sessions entry.session) made drawn drawn_after)
    → (IsTrue disk → leaves (IsInStep (Some entry) answer made old)) → failure_of answer ≡ Some error → IsFailed layout line disk entropy leaves error drawn drawn_after old new
failed layout line disk entropy leaves drawn drawn_after old new entry answer made error is steps draws moments failure = record {
  reply = record { line = line; answer = answer; after = new; made = made };
  answers = answers_of layout line disk entropy leaves drawn drawn_after old new entry answer made is steps draws moments;
  failed = failure;
}

pub put : (layout : Profile) (line : List ℕ) (disk entropy : Bool) (leaves : (Files → Type 0) → Type 0) (drawn drawn_after : List ℕ) (old new : HallState) (entry : ScriptStep) (answer : Answer) (made : Option (List ℕ)) (puts : List ℕ → Type 0) → step_of layout line ≡ Some entry
    → (IsTrue disk → Steps old entry.session entry.step answer new) → (IsTrue disk → IsTrue entropy → StepDraws old.layout entry.step answer (session_at old.sessions entry.session) new.file drawn drawn_after × MadeDraws old.layout (session_at old.sessions entry.session) made drawn drawn_after)
    → (IsTrue disk → leaves (IsInStep (Some entry) answer made old)) → failure_of answer ≡ None → puts (answer_line (slice_index new.page entry.at) answer)
    → IsPutReply layout line disk entropy leaves puts drawn drawn_after old new
put layout line disk entropy leaves drawn drawn_after old new entry answer made puts is steps draws moments printed text = record {
  reply = record { line = line; answer = answer; after = new; made = made };
  answers = answers_of layout line disk entropy leaves drawn drawn_after old new entry answer made is steps draws moments;
  printed = printed;
  put = subst puts (sym (ap (λ (o : Option ScriptStep). step_text o (record { line = line; answer = answer; after = new; made = made })) is)) text;
}

-- every other answer is printed
pub printed_answer : (answer : Answer) → answer ≢ DiskFails → answer ≢ EntropyFails → answer ≢ MemoryEnds → answer ≢ Down → failure_of answer ≡ None
printed_answer Done no_disk no_entropy no_memory up = refl
printed_answer Page no_disk no_entropy no_memory up = refl
printed_answer Busy no_disk no_entropy no_memory up = refl
printed_answer (Refused why) no_disk no_entropy no_memory up = refl
printed_answer (TagRefused page) no_disk no_entropy no_memory up = refl
printed_answer Misuse no_disk no_entropy no_memory up = refl
printed_answer Down no_disk no_entropy no_memory up = absurd (up refl)
printed_answer DiskFails no_disk no_entropy no_memory up = absurd (no_disk refl)
printed_answer EntropyFails no_disk no_entropy no_memory up = absurd (no_entropy refl)
printed_answer MemoryEnds no_disk no_entropy no_memory up = absurd (no_memory refl)

-- and is no fault
pub printed_fault : (answer : Answer) → failure_of answer ≡ None → is_fault_answer answer ≡ false
printed_fault Done is = refl
printed_fault Page is = refl
printed_fault Busy is = refl
printed_fault (Refused why) is = refl
printed_fault (TagRefused page) is = refl
printed_fault Misuse is = refl
printed_fault Down is = refl
printed_fault DiskFails is = cc
printed_fault EntropyFails is = cc
printed_fault MemoryEnds is = refl

-- nothing is printed for an answer that ends the script
unprinted_line : (byte : ℕ) (answer : Answer) (error : PlayError) → failure_of answer ≡ Some error → answer_line byte answer ≡ []
unprinted_line byte Done error is = cc
unprinted_line byte Page error is = cc
unprinted_line byte Busy error is = cc
unprinted_line byte (Refused why) error is = cc
unprinted_line byte (TagRefused page) error is = cc
unprinted_line byte Misuse error is = cc
unprinted_line byte Down error is = refl
unprinted_line byte DiskFails error is = refl
unprinted_line byte EntropyFails error is = refl
unprinted_line byte MemoryEnds error is = refl

no_step_text : (o : Option ScriptStep) (reply : Reply) (error : PlayError) → failure_of reply.answer ≡ Some error → step_text o reply ≡ []
no_step_text None reply error is = refl
no_step_text (Some entry) reply error is = unprinted_line (slice_index reply.after.page entry.at) reply.answer error is

no_text : (layout : Profile) (reply : Reply) (error : PlayError) → failure_of reply.answer ≡ Some error → reply_text layout reply ≡ []
no_text layout reply error is = no_step_text (step_of layout reply.line) reply error is

-- a part of the last text behind the whole of the others is a part of all
part_more : (layout : Profile) (before after text : List ℕ) (replies : List Reply) (reply : Reply) → after ≡ before ++ replies_text layout replies
    → PutsPart (reply_text layout reply) after text → PutsPart (replies_text layout (replies ++ reply ∷ [])) before text
part_more layout before after text replies reply whole part = record {
  put = replies_text layout replies ++ part.put;
  rest = part.rest;
  whole =
      sym (flat_map_more (reply_text layout) [] replies reply)
      ∙ (ap (λ (t : List ℕ). replies_text layout replies ++ t) part.whole ∙ sym (append_assoc (replies_text layout replies) part.put part.rest));
  appended = part.appended ∙ (ap (λ (t : List ℕ). t ++ part.put) whole ∙ append_assoc before (replies_text layout replies) part.put);
}

module _ {D : Type 0} (layout : Profile) (source sink disk entropy : Bool) (leaves leaves_step leaves_new have : (Files → Type 0) → Type 0) (told : DiskTold D) (from at to : D)
    (left rest before after drawn drawn_mid : List ℕ) (old now : HallState) (carried : ℕ) (playing : IsPlaying layout source sink disk entropy leaves told from at left rest before after drawn drawn_mid old now carried) where
  -- what is left up to now, and what the step leaves, is what is left up to its end
  abbrev Joins : Type 1
  Joins = (P Q R : Files → Type 0) → ((c : Files) → P c → R c) → ((c : Files) → Q c → R c) → leaves P → leaves_step Q → leaves_new R

  -- what the step leaves at each moment, each image at its end has
  abbrev Exits : Type 1
  Exits = (P : Files → Type 0) → leaves_step P → have P

  moments_more : (line drawn_new : List ℕ) (new : HallState) (reply : Reply) → Joins → IsReplyTo layout line disk entropy leaves_step drawn_mid drawn_new now new reply → IsTrue disk
      → leaves_new (IsOnWay layout old (playing.replies ++ reply ∷ []))
  moments_more line drawn_new new reply joins a tells =
      joins (IsOnWay layout old playing.replies) (IsInStep (Some a.entry) reply.answer reply.made now) (IsOnWay layout old (playing.replies ++ reply ∷ []))
      (way_more layout old now playing.replies reply a.entry (playing.run tells) (is_of layout line disk entropy leaves_step drawn_mid drawn_new now new reply a))
      (way_last layout old now playing.replies reply a.entry (playing.run tells) (is_of layout line disk entropy leaves_step drawn_mid drawn_new now new reply a))
      (playing.moments tells) (a.moments tells)

  -- so the disk goes on by the step
  abbrev Goes : Type 1
  Goes = (P : Files → Type 0) → leaves_step P → LeavesOnly told.moment told.since at to P

  -- and stands behind it as the machine has it
  abbrev Ends : HallState → Type 0
  Ends new = IsTrue disk → StandsAs new.file (told.reads to) (told.images to)

  ordered_more : (line drawn_new : List ℕ) (new : HallState) (reply : Reply) → Goes → IsReplyTo layout line disk entropy leaves_step drawn_mid drawn_new now new reply → (IsPrinted reply → Ends new)
      → IsTrue disk → GoesThrough told layout old (playing.replies ++ reply ∷ []) from to
  ordered_more line drawn_new new reply goes a ends tells =
      through_more told layout old now playing.replies reply a.entry from at to (playing.run tells) (is_of layout line disk entropy leaves_step drawn_mid drawn_new now new reply a)
      (playing.order tells) (goes (IsInStep (Some a.entry) reply.answer reply.made now) (a.moments tells))
      (λ printed. subst (λ (s : HallState). StandsAs s.file (told.reads to) (told.images to)) a.new_is (ends printed tells))

  draws_more : (line drawn_new : List ℕ) (new : HallState) (reply : Reply) → IsReplyTo layout line disk entropy leaves_step drawn_mid drawn_new now new reply → IsTrue disk → IsTrue entropy
      → AreDrawn layout old (playing.replies ++ reply ∷ []) drawn drawn_new
  draws_more line drawn_new new reply a tells draws =
      drawn_more layout old now playing.replies reply drawn drawn_mid drawn_new (playing.run tells) (playing.draws tells draws)
      (subst (λ (o : Option ScriptStep). ReplyDraws o now reply drawn_mid drawn_new) (sym (is_of layout line disk entropy leaves_step drawn_mid drawn_new now new reply a)) (a.draws tells draws))

  -- a line more is carried out, and its answer printed
  pub goes_on : (line later text drawn_new : List ℕ) (new : HallState) → Joins → Goes → Ends new → length line ≤ 1100 → (IsTrue source → script_lines rest ≡ line ∷ script_lines later)
      → IsPutReply layout line disk entropy leaves_step (λ put. IsTrue sink → text ≡ after ++ put) drawn_mid drawn_new now new
      → IsPlaying layout source sink disk entropy leaves_new told from to left later before text drawn drawn_new old new (carried + 1)
  goes_on line later text drawn_new new joins goes ends short next is = record {
    replies = playing.replies ++ is.reply ∷ [];
    counted = omega (arith, length_push playing.replies is.reply, playing.counted);
    steps = All-push (IsStepLine layout) playing.replies is.reply playing.steps (step_line layout line disk entropy leaves_step drawn_mid drawn_new now new is.reply is.answers short);
    printed = All-push IsPrinted playing.replies is.reply playing.printed is.printed;
    lines = λ tells.
        playing.lines tells
        ∙ (ap (λ (ls : List (List ℕ)). map line_of_reply playing.replies ++ ls) (next tells)
        ∙ lines_more playing.replies is.reply line (script_lines later) is.answers.of_line);
    text = λ tells.
        is.put tells
        ∙ (ap (λ (t : List ℕ). t ++ reply_text layout is.reply) (playing.text tells) ∙ flat_map_more (reply_text layout) before playing.replies is.reply);
    run = λ tells. follows_more layout old now new playing.replies is.reply (playing.run tells) (takes layout line disk entropy leaves_step drawn_mid drawn_new now new is.reply is.answers tells) is.answers.new_is;
    draws = λ tells draws. draws_more line drawn_new new is.reply is.answers tells draws;
    moments = moments_more line drawn_new new is.reply joins is.answers;
    order = ordered_more line drawn_new new is.reply goes is.answers (λ printed. ends);
  }

  -- the script ends behind the lines that were carried out, where no step failed
  pub stops : {T : Type 0} (result : Result T PlayError) (later : List ℕ) (behind : List (List ℕ)) (new : HallState) → carried ≤ 100000
      → (All IsPrinted playing.replies → AreAnswers layout disk have old result playing.replies)
      → ((text : List ℕ) → after ≡ before ++ text → Prints result text before after)
      → (IsTrue source → script_lines rest ≡ behind) → (IsTrue source → IsBehind layout result carried behind later) → new ≡ now
      → PlaysLines layout result source sink disk entropy leaves have told from at left later before after drawn drawn_mid old new
  stops result later behind new few answers prints lines behind_is same = record {
    replies = playing.replies;
    behind = behind;
    few = omega (arith, playing.counted);
    steps = playing.steps;
    answers = answers playing.printed;
    lines = λ tells. playing.lines tells ∙ ap (λ (ls : List (List ℕ)). map line_of_reply playing.replies ++ ls) (lines tells);
    stop = λ tells. subst (λ (n : ℕ). IsBehind layout result n behind later) (sym playing.counted) (behind_is tells);
    text = λ tells. prints (replies_text layout playing.replies) (playing.text tells);
    run = λ tells. subst (λ (s : HallState). AreSteps layout old playing.replies s) (sym same) (playing.run tells);
    draws = playing.draws;
    moments = playing.moments;
    order = playing.order;
  }

  -- a step failed, or had no memory: nothing is printed for it
  pub fails : {T : Type 0} (error : PlayError) (result : Result T PlayError) (line later text drawn_new : List ℕ) (new : HallState) → Joins → Exits → Goes → carried < 100000 → length line ≤ 1100
      → (IsTrue source → script_lines rest ≡ line ∷ script_lines later) → IsFailed layout line disk entropy leaves_step error drawn_mid drawn_new now new → (IsTrue sink → text ≡ after)
      → ((replies : List Reply) → EndsWith layout disk have old error replies → AreAnswers layout disk have old result replies)
      → ((put : List ℕ) → text ≡ before ++ put → Prints result put before text)
      → ((n : ℕ) → IsBehind layout result n (script_lines later) later)
      → PlaysLines layout result source sink disk entropy leaves_new have told from to left later before text drawn drawn_new old new
  fails error result line later text drawn_new new joins exits goes few short next is unprinted answers prints behind_is = record {
    replies = playing.replies ++ is.reply ∷ [];
    behind = script_lines later;
    few = omega (arith, length_push playing.replies is.reply, playing.counted);
    steps = All-push (IsStepLine layout) playing.replies is.reply playing.steps (step_line layout line disk entropy leaves_step drawn_mid drawn_new now new is.reply is.answers short);
    answers = answers (playing.replies ++ is.reply ∷ []) (record {
      printed = playing.replies;
      last = is.reply;
      all = refl;
      earlier = playing.printed;
      failed = is.failed;
      left = λ tells.
          subst (λ (s : HallState). have (IsInStep (step_of layout is.reply.line) is.reply.answer is.reply.made s)) (sym (behind_is_now layout old now playing.replies (playing.run tells)))
          (subst (λ (o : Option ScriptStep). have (IsInStep o is.reply.answer is.reply.made now)) (sym (is_of layout line disk entropy leaves_step drawn_mid drawn_new now new is.reply is.answers))
          (exits (IsInStep (Some is.answers.entry) is.reply.answer is.reply.made now) (is.answers.moments tells)));
    });
    lines = λ tells.
        playing.lines tells
        ∙ (ap (λ (ls : List (List ℕ)). map line_of_reply playing.replies ++ ls) (next tells)
        ∙ lines_more playing.replies is.reply line (script_lines later) is.answers.of_line);
    stop = λ tells. behind_is (length (playing.replies ++ is.reply ∷ []));
    text = λ tells. prints (replies_text layout (playing.replies ++ is.reply ∷ []))
        (unprinted tells
        ∙ (playing.text tells
        ∙ (sym (append-nil (before ++ replies_text layout playing.replies))
        ∙ (ap (λ (t : List ℕ). (before ++ replies_text layout playing.replies) ++ t) (sym (no_text layout is.reply error is.failed))
        ∙ flat_map_more (reply_text layout) before playing.replies is.reply))));
    run = λ tells. follows_more layout old now new playing.replies is.reply (playing.run tells) (takes layout line disk entropy leaves_step drawn_mid drawn_new now new is.reply is.answers tells) is.answers.new_is;
    draws = λ tells draws. draws_more line drawn_new new is.reply is.answers tells draws;
    moments = moments_more line drawn_new new is.reply joins is.answers;
    order = ordered_more line drawn_new new is.reply goes is.answers (λ printed. absurd (never_both (failure_of is.reply.answer) error printed is.failed));
  }

  -- the sink failed at the last answer
  pub cut_short : {T : Type 0} (result : Result T PlayError) (line later text drawn_new : List ℕ) (new : HallState) → Joins → Goes → Ends new → carried < 100000 → length line ≤ 1100
      → (IsTrue source → script_lines rest ≡ line ∷ script_lines later)
      → IsPutReply layout line disk entropy leaves_step (λ put. IsTrue sink → PutsPart put after text) drawn_mid drawn_new now new
      → ((replies : List Reply) → All IsPrinted replies → AreAnswers layout disk have old result replies)
      → ((put : List ℕ) → PutsPart put before text → Prints result put before text)
      → ((n : ℕ) → IsBehind layout result n (script_lines later) later)
      → PlaysLines layout result source sink disk entropy leaves_new have told from to left later before text drawn drawn_new old new
  cut_short result line later text drawn_new new joins goes ends few short next is answers prints behind_is = record {
    replies = playing.replies ++ is.reply ∷ [];
    behind = script_lines later;
    few = omega (arith, length_push playing.replies is.reply, playing.counted);
    steps = All-push (IsStepLine layout) playing.replies is.reply playing.steps (step_line layout line disk entropy leaves_step drawn_mid drawn_new now new is.reply is.answers short);
    answers = answers (playing.replies ++ is.reply ∷ []) (All-push IsPrinted playing.replies is.reply playing.printed is.printed);
    lines = λ tells.
        playing.lines tells
        ∙ (ap (λ (ls : List (List ℕ)). map line_of_reply playing.replies ++ ls) (next tells)
        ∙ lines_more playing.replies is.reply line (script_lines later) is.answers.of_line);
    stop = λ tells. behind_is (length (playing.replies ++ is.reply ∷ []));
    text = λ tells. prints (replies_text layout (playing.replies ++ is.reply ∷ [])) (part_more layout before after text playing.replies is.reply (playing.text tells) (is.put tells));
    run = λ tells. follows_more layout old now new playing.replies is.reply (playing.run tells) (takes layout line disk entropy leaves_step drawn_mid drawn_new now new is.reply is.answers tells) is.answers.new_is;
    draws = λ tells draws. draws_more line drawn_new new is.reply is.answers tells draws;
    moments = moments_more line drawn_new new is.reply joins is.answers;
    order = ordered_more line drawn_new new is.reply goes is.answers (λ printed. ends);
  }

  -- a line that is not carried out to its end ends the script
  pub broken : (error : PlayError) (line later text drawn_new : List ℕ) (new : HallState) → Joins → Exits → Goes → (StaysUp {T = Unit {0}} (Err error) → Ends new) → carried < 100000 → length line ≤ 1100
      → (IsTrue source → script_lines rest ≡ line ∷ script_lines later)
      → ((n : ℕ) → error ≡ ScriptLine n → (P : Files → Type 0) → leaves P → leaves_new P) → ((n : ℕ) → error ≡ ScriptLine n → to ≡ at)
      → Carries {T = Unit {0}} layout (carried + 1) line sink disk entropy leaves_step (Err error) after text drawn_mid drawn_new now new
      → PlaysLines {T = Unit {0}} layout (Err error) source sink disk entropy leaves_new have told from to left later before text drawn drawn_new old new
  broken (ScriptLine n) line later text drawn_new new joins exits goes ends few short next stays moved is = record {
    replies = playing.replies;
    behind = line ∷ script_lines later;
    few = omega (arith, playing.counted);
    steps = playing.steps;
    answers = playing.printed;
    lines = λ tells. playing.lines tells ∙ ap (λ (ls : List (List ℕ)). map line_of_reply playing.replies ++ ls) (next tells);
    stop = λ tells. (omega (arith, playing.counted), omega (arith, is.0, playing.counted), (line, refl, short, is.1));
    text = λ tells. is.3 tells ∙ playing.text tells;
    run = λ tells. subst (λ (s : HallState). AreSteps layout old playing.replies s) (sym is.2) (playing.run tells);
    draws = λ tells draws. subst (λ (d : List ℕ). AreDrawn layout old playing.replies drawn d) (sym is.4) (playing.draws tells draws);
    moments = λ tells. stays n refl (IsOnWay layout old playing.replies) (playing.moments tells);
    order = λ tells. subst (λ (d : D). GoesThrough told layout old playing.replies from d) (sym (moved n refl)) (playing.order tells);
  }
  broken (LineTooLong at) line later text drawn_new new joins exits goes ends few short next stays moved is = absurd is
  broken TooManyLines line later text drawn_new new joins exits goes ends few short next stays moved is = absurd is
  broken DiskFault line later text drawn_new new joins exits goes ends few short next stays moved is =
      fails DiskFault (Err DiskFault) line later text drawn_new new joins exits goes few short next is.0 is.1 (λ replies ends. ends) (λ put all. all) (λ n. refl)
  broken OutputFault line later text drawn_new new joins exits goes ends few short next stays moved is =
      cut_short (Err OutputFault) line later text drawn_new new joins goes (ends tt) few short next is (λ replies all. all) (λ put part. part) (λ n. refl)
  broken InputFault line later text drawn_new new joins exits goes ends few short next stays moved is = absurd is
  broken EntropyFault line later text drawn_new new joins exits goes ends few short next stays moved is =
      fails EntropyFault (Err EntropyFault) line later text drawn_new new joins exits goes few short next is.0 is.1 (λ replies ends. ends) (λ put all. all) (λ n. refl)
  broken OutOfMemory line later text drawn_new new joins exits goes ends few short next stays moved is =
      fails OutOfMemory (Err OutOfMemory) line later text drawn_new new joins exits goes few short next is.0 is.1 (λ replies ends. ends) (λ put all. all) (λ n. refl)

  -- all lines that a script may have were carried out
  pub limited : (ending : Ending) (later : List ℕ) → carried ≡ 100000 → (IsTrue source → IsEnding rest ending later)
      → PlaysLines {T = Unit {0}} layout (ending_result ending) source sink disk entropy leaves have told from at left later before after drawn drawn_mid old now
  limited End later all is = stops (ending_result End) later [] now (omega (arith, all)) (λ printed. printed) (λ text put. put)
      (λ tells. ap script_lines (is tells).0) (λ tells. (refl, (is tells).1)) refl
  limited More later all is = stops (ending_result More) later (script_lines rest) now (omega (arith, all)) (λ printed. printed) (λ text put. put)
      (λ tells. refl) (λ tells. (all, some_lines rest (is tells))) refl
  limited SourceFault later all is = stops (ending_result SourceFault) later (script_lines rest) now (omega (arith, all)) (λ printed. printed) (λ text put. put)
      (λ tells. refl) (λ tells. tt) refl
