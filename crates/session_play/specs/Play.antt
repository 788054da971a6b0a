-- A script that is played: its lines are steps of the machine, one after another.
use Rattle.std.specs.Prelude.{◌≡◌, ◌≢◌, ◌+◌, ◌<◌, ◌≤◌, ℕ, Bool, List, [], ◌∷◌, ◌++◌, length, map, slice_index, All, Option, Some, None, Result, Ok, Err, IsTrue}
use Rattle.std.specs.List.{flat_map}
use Rattle.edge_model.specs.Files.{Files}
use Rattle.edge_model.specs.Images.{LeavesOnly}
use Rattle.cipher_profile.specs.declared.profile.Profile.{Profile}
use Rattle.session_hall.specs.Machine.{HallState, Steps}
use Rattle.session_hall.specs.declared.step.Answer.{Answer}
use Rattle.session_hall.specs.declared.step.Answer.TheVariants.{Done, Page, Busy, Refused, TagRefused, Misuse, Down, DiskFault as DiskFails, EntropyFault as EntropyFails, OutOfMemory as MemoryEnds}
use Rattle.session_play.specs.AnswerText.{answer_line}
use Rattle.session_play.specs.Draws.{AreDrawn, ReplyDraws}
use Rattle.session_play.specs.Moments.{DiskTold, IsInStep, IsOnWay, StandsAs, state_behind}
use Rattle.session_play.specs.Reply.{Reply}
use Rattle.session_play.specs.Script.{script_lines, step_of}
use Rattle.session_play.specs.declared.playing.PlayError.{PlayError}
use Rattle.session_play.specs.declared.playing.PlayError.TheVariants.{ScriptLine, LineTooLong, TooManyLines, DiskFault, OutputFault, InputFault, EntropyFault, OutOfMemory}
use Rattle.session_play.specs.declared.script.ScriptStep.{ScriptStep}
use Rattle.text_lines.specs.Text.{PutsPart}

abbrev pub line_of_reply : Reply → List ℕ
line_of_reply reply = reply.line

-- ---- what is printed

abbrev pub step_text : Option ScriptStep → Reply → List ℕ
step_text None reply = []
step_text (Some entry) reply = answer_line (slice_index reply.after.page entry.at) reply.answer

-- the line that is printed for a reply: of a page that was read, the byte at the place that the line names
abbrev pub reply_text : Profile → Reply → List ℕ
reply_text layout reply = step_text (step_of layout reply.line) reply

abbrev pub replies_text : Profile → List Reply → List ℕ
replies_text layout replies = flat_map (reply_text layout) replies

-- The sink has these lines behind what it had. Where it failed it has a prefix of them.
abbrev pub Prints : {T : Type 0} → Result T PlayError → List ℕ → List ℕ → List ℕ → Type 0
Prints (Ok done) text before after = after ≡ before ++ text
Prints (Err (ScriptLine line)) text before after = after ≡ before ++ text
Prints (Err (LineTooLong line)) text before after = after ≡ before ++ text
Prints (Err TooManyLines) text before after = after ≡ before ++ text
Prints (Err DiskFault) text before after = after ≡ before ++ text
Prints (Err OutputFault) text before after = PutsPart text before after
Prints (Err InputFault) text before after = after ≡ before ++ text
Prints (Err EntropyFault) text before after = after ≡ before ++ text
Prints (Err OutOfMemory) text before after = after ≡ before ++ text

-- ---- which answers come

-- how an answer that is not printed ends the script: a step failed, or had no memory
abbrev pub failure_of : Answer → Option PlayError
failure_of Done = None
failure_of Page = None
failure_of Busy = None
failure_of (Refused error) = None
failure_of (TagRefused page) = None
failure_of Misuse = None
failure_of Down = Some DiskFault
failure_of DiskFails = Some DiskFault
failure_of EntropyFails = Some EntropyFault
failure_of MemoryEnds = Some OutOfMemory

abbrev pub IsPrinted : Reply → Type 0
IsPrinted reply = failure_of reply.answer ≡ None

-- All are printed but the last, which ends the script so. Each image at the end, of which `have` says that it has a property, is within that last step.
pub record EndsWith (layout : Profile) (disk : Bool) (have : (Files → Type 0) → Type 0) (old : HallState) (error : PlayError) (replies : List Reply) : Type 0 where
  pub printed : List Reply
  pub last : Reply
  pub all : replies ≡ printed ++ last ∷ []
  pub earlier : All IsPrinted printed
  pub failed : failure_of last.answer ≡ Some error
  pub left : IsTrue disk → have (IsInStep (step_of layout last.line) last.answer last.made (state_behind old printed))

-- A step that failed, or had no memory, is the last; every other answer is printed.
abbrev pub AreAnswers : {T : Type 0} → Profile → Bool → ((Files → Type 0) → Type 0) → HallState → Result T PlayError → List Reply → Type 0
AreAnswers layout disk have old (Ok done) replies = All IsPrinted replies
AreAnswers layout disk have old (Err (ScriptLine line)) replies = All IsPrinted replies
AreAnswers layout disk have old (Err (LineTooLong line)) replies = All IsPrinted replies
AreAnswers layout disk have old (Err TooManyLines) replies = All IsPrinted replies
AreAnswers layout disk have old (Err DiskFault) replies = EndsWith layout disk have old DiskFault replies
AreAnswers layout disk have old (Err OutputFault) replies = All IsPrinted replies
AreAnswers layout disk have old (Err InputFault) replies = All IsPrinted replies
AreAnswers layout disk have old (Err EntropyFault) replies = EndsWith layout disk have old EntropyFault replies
AreAnswers layout disk have old (Err OutOfMemory) replies = EndsWith layout disk have old OutOfMemory replies

-- ---- which lines are carried out

-- the longest line, and the most lines
abbrev pub longest_line : ℕ
longest_line = 1100

abbrev pub most_lines : ℕ
most_lines = 100000

-- the line is a step, and not too long
pub record IsStepLine (layout : Profile) (reply : Reply) : Type 0 where
  pub short : length reply.line ≤ longest_line
  pub entry : ScriptStep
  pub is : step_of layout reply.line ≡ Some entry

-- Behind so many lines that were carried out stand these lines, and these bytes are left of the source. A script ends where no line is
-- left, and is refused at the line behind those: first where it has too many lines, then where that line is too long, then where it is no step.
abbrev pub IsBehind : {T : Type 0} → Profile → Result T PlayError → ℕ → List (List ℕ) → List ℕ → Type 0
IsBehind layout (Ok done) carried lines rest = (lines ≡ []) × (rest ≡ [])
IsBehind layout (Err TooManyLines) carried lines rest = (carried ≡ most_lines) × (lines ≢ [])
IsBehind layout (Err (LineTooLong number)) carried lines rest =
    (carried < most_lines) × (number ≡ carried + 1)
    × ((line : List ℕ) × (more : List (List ℕ)) × (lines ≡ line ∷ more) × (longest_line < length line))
IsBehind layout (Err (ScriptLine number)) carried lines rest =
    (carried < most_lines) × (number ≡ carried + 1)
    × ((line : List ℕ) × (lines ≡ line ∷ script_lines rest) × (length line ≤ longest_line) × (step_of layout line ≡ None))
IsBehind layout (Err InputFault) carried lines rest = Unit {0}
IsBehind layout (Err DiskFault) carried lines rest = lines ≡ script_lines rest
IsBehind layout (Err OutputFault) carried lines rest = lines ≡ script_lines rest
IsBehind layout (Err EntropyFault) carried lines rest = lines ≡ script_lines rest
IsBehind layout (Err OutOfMemory) carried lines rest = lines ≡ script_lines rest

-- ---- the machine

abbrev pub TakesStep : Option ScriptStep → HallState → Reply → Type 0
TakesStep None old reply = ⊥
TakesStep (Some entry) old reply = Steps old entry.session entry.step reply.answer reply.after

-- from one state the replies are steps of the machine, one after another, to the other state
abbrev pub AreSteps : Profile → HallState → List Reply → HallState → Type 0
AreSteps layout old [] new = new ≡ old
AreSteps layout old (reply ∷ replies) new = TakesStep (step_of layout reply.line) old reply × AreSteps layout reply.after replies new

-- ---- the disk between the steps

-- From one disk to the other, step by step. Behind each step stands a disk of the run: from the disk of the step before to this one each image is
-- within the step; and where its answer is printed, Main reads as the machine has it, and no crash leaves anything else.
abbrev pub GoesThrough : {D : Type 0} → DiskTold D → Profile → HallState → List Reply → D → D → Type 0
GoesThrough told layout old [] from to = to ≡ from
GoesThrough {D} told layout old (reply ∷ replies) from to =
    (next : D)
    × LeavesOnly told.moment told.since from next (IsInStep (step_of layout reply.line) reply.answer reply.made old)
    × (IsPrinted reply → StandsAs reply.after.file (told.reads next) (told.images next))
    × GoesThrough told layout reply.after replies next to

-- ---- all of it

-- The lines of a script are carried out one after another, each whole before the next is read, until the script ends, is refused, or
-- something fails. The four flags say of the source, the sink, the disk and the entropy whether they tell of their bytes; `leaves` says that each
-- image at each moment has a property, and `have` that each image at the end has it. The disk goes from one to the other, and tells so.
pub record PlaysLines {T D : Type 0} (layout : Profile) (result : Result T PlayError) (source sink disk entropy : Bool) (leaves have : (Files → Type 0) → Type 0)
    (told : DiskTold D) (from to : D) (left rest before after drawn drawn_after : List ℕ) (old new : HallState) : Type 0 where
  pub replies : List Reply
  pub behind : List (List ℕ)
  pub few : length replies ≤ most_lines
  pub steps : All (IsStepLine layout) replies
  pub answers : AreAnswers layout disk have old result replies
  pub lines : IsTrue source → script_lines left ≡ map line_of_reply replies ++ behind
  pub stop : IsTrue source → IsBehind layout result (length replies) behind rest
  pub text : IsTrue sink → Prints result (replies_text layout replies) before after
  pub run : IsTrue disk → AreSteps layout old replies new
  pub draws : IsTrue disk → IsTrue entropy → AreDrawn layout old replies drawn drawn_after
  pub moments : IsTrue disk → leaves (IsOnWay layout old replies)
  pub order : IsTrue disk → GoesThrough told layout old replies from to

-- ---- one line

-- the line is a step, and this is its reply, which leads to the machine's new state
pub record IsReplyTo (layout : Profile) (line : List ℕ) (disk entropy : Bool) (leaves : (Files → Type 0) → Type 0) (drawn drawn_after : List ℕ) (old new : HallState) (reply : Reply) : Type 0 where
  pub of_line : reply.line ≡ line
  pub entry : ScriptStep
  pub is : step_of layout line ≡ Some entry
  pub new_is : new ≡ reply.after
  pub step : IsTrue disk → Steps old entry.session entry.step reply.answer reply.after
  pub draws : IsTrue disk → IsTrue entropy → ReplyDraws (Some entry) old reply drawn drawn_after
  pub moments : IsTrue disk → leaves (IsInStep (Some entry) reply.answer reply.made old)

-- a reply that is printed, whole or after a fault of the sink in part
pub record IsPutReply (layout : Profile) (line : List ℕ) (disk entropy : Bool) (leaves : (Files → Type 0) → Type 0) (puts : List ℕ → Type 0) (drawn drawn_after : List ℕ) (old new : HallState) : Type 0 where
  pub reply : Reply
  pub answers : IsReplyTo layout line disk entropy leaves drawn drawn_after old new reply
  pub printed : IsPrinted reply
  pub put : puts (reply_text layout reply)

-- a reply that ends the script, and is not printed
pub record IsFailed (layout : Profile) (line : List ℕ) (disk entropy : Bool) (leaves : (Files → Type 0) → Type 0) (error : PlayError) (drawn drawn_after : List ℕ) (old new : HallState) : Type 0 where
  pub reply : Reply
  pub answers : IsReplyTo layout line disk entropy leaves drawn drawn_after old new reply
  pub failed : failure_of reply.answer ≡ Some error

-- What carrying out a line comes to: it is no step and nothing changes, or there is a reply.
abbrev pub Carries : {T : Type 0} → Profile → ℕ → List ℕ → Bool → Bool → Bool → ((Files → Type 0) → Type 0) → Result T PlayError → List ℕ → List ℕ → List ℕ → List ℕ → HallState → HallState → Type 0
Carries layout number line sink disk entropy leaves (Ok done) before after drawn drawn_after old new =
    IsPutReply layout line disk entropy leaves (λ text. IsTrue sink → after ≡ before ++ text) drawn drawn_after old new
Carries layout number line sink disk entropy leaves (Err (ScriptLine at)) before after drawn drawn_after old new =
    (at ≡ number) × (step_of layout line ≡ None) × (new ≡ old) × (IsTrue sink → after ≡ before) × (drawn_after ≡ drawn)
Carries layout number line sink disk entropy leaves (Err (LineTooLong at)) before after drawn drawn_after old new = ⊥
Carries layout number line sink disk entropy leaves (Err TooManyLines) before after drawn drawn_after old new = ⊥
Carries layout number line sink disk entropy leaves (Err DiskFault) before after drawn drawn_after old new = IsFailed layout line disk entropy leaves DiskFault drawn drawn_after old new × (IsTrue sink → after ≡ before)
Carries layout number line sink disk entropy leaves (Err OutputFault) before after drawn drawn_after old new =
    IsPutReply layout line disk entropy leaves (λ text. IsTrue sink → PutsPart text before after) drawn drawn_after old new
Carries layout number line sink disk entropy leaves (Err InputFault) before after drawn drawn_after old new = ⊥
Carries layout number line sink disk entropy leaves (Err EntropyFault) before after drawn drawn_after old new = IsFailed layout line disk entropy leaves EntropyFault drawn drawn_after old new × (IsTrue sink → after ≡ before)
Carries layout number line sink disk entropy leaves (Err OutOfMemory) before after drawn drawn_after old new = IsFailed layout line disk entropy leaves OutOfMemory drawn drawn_after old new × (IsTrue sink → after ≡ before)

-- the hall goes on: no step of it failed
abbrev pub StaysUp : {T : Type 0} → Result T PlayError → Type 0
StaysUp (Ok done) = Unit {0}
StaysUp (Err (ScriptLine line)) = Unit {0}
StaysUp (Err (LineTooLong line)) = Unit {0}
StaysUp (Err TooManyLines) = Unit {0}
StaysUp (Err DiskFault) = ⊥
StaysUp (Err OutputFault) = Unit {0}
StaysUp (Err InputFault) = Unit {0}
StaysUp (Err EntropyFault) = ⊥
StaysUp (Err OutOfMemory) = Unit {0}
