-- What a command answers, and which databases it keeps.
use Rattle.std.proofs.Common.{◌≡◌, ◌≢◌, ◌⊎◌, ⊎_elim, inl, inr, ℕ, suc, Bool, IsTrue, List, [], ◌∷◌, length, ◌<◌, ◌*◌, Option, Result, Ok, Err, refl, sym, ap, ◌∙◌, subst, arith}
use Rattle.std.specs.List.{Contains}
use Rattle.std.specs.Prelude.{IsErr}
use Rattle.edge_model.specs.Files.{Files, main_of}
use Rattle.edge_model.specs.Images.{Each, From}
use Rattle.rollback_journal.specs.Recovery.{Recovers, KeepsRecovered}
use Rattle.cipher_profile.specs.declared.key_line.KeyError.{KeyError}
use Rattle.cipher_profile.specs.declared.keys.Secret.{Secret}
use Rattle.cipher_profile.specs.declared.profile.LineForm.{LineForm}
use Rattle.cipher_profile.specs.declared.key_line.KeyError.TheVariants.{KeyMissing, KeyEmpty, KeyTooLong, KeyForm, KeyUnsalted, KeyNotHex, SourceFault}
use Rattle.cipher_profile.specs.KeyCauses.{UnlessFault}
use Rattle.text_lines.specs.Text.{PutsPart}
use Rattle.sqlcipher_tool.specs.Answer.{Answer, IsAnswer, IsAnswered, IsFault, IsKeyStatus, Puts}
use Rattle.sqlcipher_tool.specs.Crash.{KeepsHeld}
use Rattle.sqlcipher_tool.specs.Due.{and_secrets, key_answer, key_lines, keyed_answers, rest_line, secret_answers, secret_line}
use Rattle.sqlcipher_tool.specs.declared.command.Command.{Command}
use Rattle.sqlcipher_tool.specs.declared.command.Command.TheVariants.{Probe, Recover, Read, Change as ChangeFile, Make}
use Rattle.sqlcipher_tool.specs.declared.status.Status.{Status}
use Rattle.sqlcipher_tool.specs.declared.status.Status.TheVariants.{Done, Usage, Refused, KeyRefused, DiskFault, OutputFault, InputFault, EntropyFault, OutOfMemory}
use Rattle.sqlcipher_tool.specs.Holding.{AreOfSize, DiskRun, Held, HoldsOneOf, HoldsOnly}
use Rattle.sqlcipher_tool.specs.Promises.{AnswersOne, IsAnsweredEarly, PutsSo, TakesAtMost, TakesLines, after_lines, lines_read}
use Rattle.sqlcipher_tool.specs.Recovered.{recovered_main, recovery_of}
use Rattle.sqlcipher_tool.specs.Renewal.{renewed}
use Rattle.sqlcipher_tool.specs.Words.{asked_keys}
use Rattle.sqlcipher_tool.proofs.Conclusions.{no_part}
use Rattle.sqlcipher_tool.proofs.SomeDue.{after_some, change_some, make_some, reading_some}

-- what was printed of the answer
puts_so : (status : Status) (answer : Answer) (before after : List ℕ) → Puts status answer.text before after
    → (status ≡ DiskFault → PutsPart answer.begun before after) → (status ≡ OutOfMemory → after ≡ before)
    → (status ≡ InputFault → ⊥) → (status ≡ EntropyFault → ⊥) → PutsSo status answer before after
puts_so Done answer before after text failed starved no_input no_entropy = text
puts_so Usage answer before after text failed starved no_input no_entropy = text
puts_so (Refused refusal) answer before after text failed starved no_input no_entropy = text
puts_so KeyRefused answer before after text failed starved no_input no_entropy = text
puts_so DiskFault answer before after text failed starved no_input no_entropy = failed refl
puts_so OutputFault answer before after text failed starved no_input no_entropy = text
puts_so InputFault answer before after text failed starved no_input no_entropy = absurd (no_input refl)
puts_so EntropyFault answer before after text failed starved no_input no_entropy = absurd (no_entropy refl)
puts_so OutOfMemory answer before after text failed starved no_input no_entropy = no_part answer.begun before after (starved refl)

-- one of the answers that are due
pub answers_among : (answers : List Answer) (answer : Answer) (status : Status) (tells : Bool) (before after : List ℕ) → Contains answers answer
    → IsAnswered status answer → (IsTrue tells → Puts status answer.text before after)
    → (IsTrue tells → status ≡ DiskFault → PutsPart answer.begun before after) → (status ≡ OutOfMemory → after ≡ before)
    → (status ≡ InputFault → ⊥) → (status ≡ EntropyFault → ⊥) → AnswersOne answers status tells before after
answers_among answers answer status tells before after due answered text failed starved no_input no_entropy = record {
  answer = answer;
  is_due = due;
  answered = answered;
  puts = λ printed. puts_so status answer before after (text printed) (failed printed) starved no_input no_entropy;
}

-- the only answer that is due
pub answers_one : (answer : Answer) (status : Status) (tells : Bool) (before after : List ℕ) → IsAnswered status answer
    → (IsTrue tells → Puts status answer.text before after)
    → (IsTrue tells → status ≡ DiskFault → PutsPart answer.begun before after) → (status ≡ OutOfMemory → after ≡ before)
    → (status ≡ InputFault → ⊥) → (status ≡ EntropyFault → ⊥) → AnswersOne (answer ∷ []) status tells before after
answers_one answer status tells before after = answers_among (answer ∷ []) answer status tells before after (0, omega arith, refl)

-- an image that comes of another by a step of the recovery holds what that one held
pub holds_on : (size : ℕ) (held : Held) (d c : Files) → held.keys.profile.page_size ≡ size → KeepsRecovered size d c → HoldsOnly held d → HoldsOnly held c
holds_on size held d c same keeps was =
    let at : ℕ → Files → List ℕ → Type 0 = λ s image file. Recovers s image file in
    let still = keeps.still was.some.0 (subst (λ (s : ℕ). at s d was.some.0) same was.some.1) in
    record {
      some = (still.0, subst (λ (s : ℕ). at s c still.0) (sym same) still.1);
      only = λ file is.
          was.only file (subst (λ (s : ℕ). at s d file) (sym same) (keeps.no_other file (subst (λ (s : ℕ). at s c file) same is)));
    }

holds_one : (size : ℕ) (list : List Held) (d c : Files) → AreOfSize size list → KeepsRecovered size d c → HoldsOneOf list d → HoldsOneOf list c
holds_one size [] d c sizes keeps was = was
holds_one size (held ∷ more) d c sizes keeps was =
    ⊎_elim (λ first. inl (holds_on size held d c sizes.0 keeps first)) (λ later. inr (holds_one size more d c sizes.1 keeps later)) was

-- whatever databases were held are held
pub keeps_held : (size : ℕ) (run : DiskRun) → Each run.ever (From (KeepsRecovered size) run.at_start) → KeepsHeld size run
keeps_held size run comes = record {
  comes = comes;
  holds = λ list sizes held image ever. let from = comes image ever in holds_one size list from.0 image sizes from.2 (held from.0 from.1);
}

-- no fault but that of the output
not_fault : (due status fault : Status) → IsAnswer due → (IsAnswer fault → ⊥) → (fault ≡ OutputFault → ⊥)
    → (status ≡ due) ⊎ (status ≡ OutputFault) → status ≡ fault → ⊥
not_fault due status fault answer no_answer no_output is other =
    ⊎_elim (λ (same : status ≡ due). no_answer (subst IsAnswer (sym same ∙ other) answer))
    (λ (out : status ≡ OutputFault). no_output (sym other ∙ out)) is

-- an answer that was printed, or the output failed
pub printed_among : (answers : List Answer) (answer : Answer) (status : Status) (tells : Bool) (before after : List ℕ) → Contains answers answer
    → IsAnswer answer.status → (status ≡ answer.status) ⊎ (status ≡ OutputFault)
    → (IsTrue tells → Puts status answer.text before after) → AnswersOne answers status tells before after
printed_among answers answer status tells before after among due is text =
    answers_among answers answer status tells before after among
    (⊎_elim (λ same. inl same) (λ (out : status ≡ OutputFault). inr (subst IsFault (sym out) tt)) is) text
    (λ told other. absurd (not_fault answer.status status DiskFault due (λ a. a) (λ (e : DiskFault ≡ OutputFault). cc) is other))
    (λ other. absurd (not_fault answer.status status OutOfMemory due (λ a. a) (λ (e : OutOfMemory ≡ OutputFault). cc) is other))
    (not_fault answer.status status InputFault due (λ a. a) (λ (e : InputFault ≡ OutputFault). cc) is)
    (not_fault answer.status status EntropyFault due (λ a. a) (λ (e : EntropyFault ≡ OutputFault). cc) is)

pub printed_one : (answer : Answer) (status : Status) (tells : Bool) (before after : List ℕ) → IsAnswer answer.status
    → (status ≡ answer.status) ⊎ (status ≡ OutputFault)
    → (IsTrue tells → Puts status answer.text before after) → AnswersOne (answer ∷ []) status tells before after
printed_one answer status tells before after = printed_among (answer ∷ []) answer status tells before after (0, omega arith, refl)

abbrev pub keys_ok : List Secret → Result (List Secret) KeyError
keys_ok secrets = Ok secrets

abbrev keys_err : KeyError → Result (List Secret) KeyError
keys_err error = Err error

rest_same : (one other : Secret) (xs ys : List Secret) → keys_ok (one ∷ xs) ≡ keys_ok (other ∷ ys) → xs ≡ ys
rest_same one other xs ys is = cc

-- as many secrets are given as are asked for
pub lines_many : (asked : List (Option LineForm)) (left : List ℕ) (secrets : List Secret) → key_lines asked left ≡ Ok secrets → length secrets ≡ length asked
lines_many [] left secrets is = by_list secrets is
  where
    by_list : (secrets : List Secret) → key_lines [] left ≡ Ok secrets → length secrets ≡ 0
    by_list [] is = refl
    by_list (secret ∷ rest) is = cc
lines_many (asks ∷ more) left secrets is =
    by_line (secret_line asks left) (key_lines more (rest_line asks left)) (λ others gave. lines_many more (rest_line asks left) others gave) secrets is
  where
    by_list : (secret : Secret) (others secrets : List Secret) → length others ≡ length more → Ok (secret ∷ others) ≡ keys_ok secrets → length secrets ≡ suc (length more)
    by_list secret others [] many is = cc
    by_list secret others (other ∷ rest) many is = ap suc (ap length (sym (rest_same secret other others rest is)) ∙ many)

    by_line : (line : Result Secret KeyError) (rest : Result (List Secret) KeyError) → ((others : List Secret) → rest ≡ Ok others → length others ≡ length more) → (secrets : List Secret)
        → and_secrets line rest ≡ Ok secrets → length secrets ≡ suc (length more)
    by_line (Err error) rest many secrets is = cc
    by_line (Ok secret) (Err error) many secrets is = cc
    by_line (Ok secret) (Ok others) many secrets is = by_list secret others secrets (many others refl) is

-- some answer is due to as many secrets as the command takes
secrets_due : (command : Command) (secrets : List Secret) (files last : Files) → length secrets ≡ length (asked_keys command) → 0 < length (secret_answers command secrets files last)
secrets_due Probe [] files last is = absurd (omega (arith, is))
secrets_due Probe (secret ∷ rest) files last is = omega arith
secrets_due (Recover profile) secrets files last is = omega arith
secrets_due (Read profile reading) [] files last is = absurd (omega (arith, is))
secrets_due (Read profile reading) (secret ∷ rest) files last is =
    after_some (recovery_of profile files) _ (reading_some reading profile secret (recovered_main profile files))
secrets_due (ChangeFile profile change) [] files last is = absurd (omega (arith, is))
secrets_due (ChangeFile profile change) (first ∷ []) files last is = absurd (omega (arith, is))
secrets_due (ChangeFile profile change) (first ∷ second ∷ rest) files last is =
    after_some (recovery_of profile files) _ (change_some change (renewed profile change first second) (recovered_main profile files) (main_of last))
secrets_due (Make profile rows) [] files last is = absurd (omega (arith, is))
secrets_due (Make profile rows) (secret ∷ rest) files last is = make_some profile rows files

lines_due : (command : Command) (lines : Result (List Secret) KeyError) (files last : Files) → ((secrets : List Secret) → lines ≡ Ok secrets → length secrets ≡ length (asked_keys command))
    → 0 < length (keyed_answers command lines files last)
lines_due command (Ok secrets) files last many = secrets_due command secrets files last (many secrets refl)
lines_due command (Err error) files last many = omega arith

pub first_due : (answers : List Answer) → 0 < length answers → (answer : Answer) × Contains answers answer
first_due [] some = absurd (omega (arith, some))
first_due (answer ∷ rest) some = (answer, (0, omega arith, refl))

-- where the input failed, nothing is printed
pub unread_one : (command : Command) (asked : List (Option LineForm)) (left : List ℕ) (files last : Files) (tells : Bool) (before : List ℕ) → asked ≡ asked_keys command
    → AnswersOne (keyed_answers command (key_lines asked left) files last) InputFault tells before before
unread_one command asked left files last tells before is =
    let due = first_due (keyed_answers command (key_lines asked left) files last) (lines_due command (key_lines asked left) files last (λ secrets gave. lines_many asked left secrets gave ∙ ap length is)) in
    record { answer = due.0; is_due = due.1; answered = inr tt; puts = λ printed. no_part due.0.begun before before refl }

-- a key line gave no secret, or the input failed
pub key_one : (command : Command) (asked : List (Option LineForm)) (left : List ℕ) (files last : Files) (error : KeyError) (status : Status) (tells : Bool) (before after : List ℕ) → asked ≡ asked_keys command
    → (error ≢ SourceFault → key_lines asked left ≡ Err error)
    → (error ≢ SourceFault → (status ≡ (key_answer error).status) ⊎ (status ≡ OutputFault))
    → (error ≢ SourceFault → IsTrue tells → Puts status (key_answer error).text before after)
    → (error ≡ SourceFault → (status ≡ InputFault) × (after ≡ before)) → AnswersOne (keyed_answers command (key_lines asked left) files last) status tells before after
key_one command asked left files last error status tells before after many is answered text failed = by_error error is answered text failed
  where
    refused_one : (error : KeyError) → IsAnswer (key_answer error).status → key_lines asked left ≡ Err error → (status ≡ (key_answer error).status) ⊎ (status ≡ OutputFault)
        → (IsTrue tells → Puts status (key_answer error).text before after) → AnswersOne (keyed_answers command (key_lines asked left) files last) status tells before after
    refused_one error answer is answered text = subst (λ (lines : Result (List Secret) KeyError). AnswersOne (keyed_answers command lines files last) status tells before after) (sym is)
        (printed_one (key_answer error) status tells before after answer answered text)

    by_error : (error : KeyError) → (error ≢ SourceFault → key_lines asked left ≡ Err error) → (error ≢ SourceFault → (status ≡ (key_answer error).status) ⊎ (status ≡ OutputFault))
        → (error ≢ SourceFault → IsTrue tells → Puts status (key_answer error).text before after)
        → (error ≡ SourceFault → (status ≡ InputFault) × (after ≡ before)) → AnswersOne (keyed_answers command (key_lines asked left) files last) status tells before after
    by_error KeyMissing is answered text failed = let other : KeyMissing ≢ SourceFault = λ e. cc in refused_one KeyMissing tt (is other) (answered other) (text other)
    by_error KeyEmpty is answered text failed = let other : KeyEmpty ≢ SourceFault = λ e. cc in refused_one KeyEmpty tt (is other) (answered other) (text other)
    by_error KeyTooLong is answered text failed = let other : KeyTooLong ≢ SourceFault = λ e. cc in refused_one KeyTooLong tt (is other) (answered other) (text other)
    by_error KeyForm is answered text failed = let other : KeyForm ≢ SourceFault = λ e. cc in refused_one KeyForm tt (is other) (answered other) (text other)
    by_error KeyUnsalted is answered text failed = let other : KeyUnsalted ≢ SourceFault = λ e. cc in refused_one KeyUnsalted tt (is other) (answered other) (text other)
    by_error KeyNotHex is answered text failed = let other : KeyNotHex ≢ SourceFault = λ e. cc in refused_one KeyNotHex tt (is other) (answered other) (text other)
    by_error SourceFault is answered text failed =
        let both = failed refl in
        subst (λ (s : Status). AnswersOne (keyed_answers command (key_lines asked left) files last) s tells before after) (sym both.0)
        (subst (λ (l : List ℕ). AnswersOne (keyed_answers command (key_lines asked left) files last) InputFault tells before l) (sym both.1) (unread_one command asked left files last tells before many))

-- so the answer came early
pub key_early : (error : KeyError) (asked : List (Option LineForm)) (left : List ℕ) (status : Status) → (error ≢ SourceFault → key_lines asked left ≡ Err error)
    → (error ≢ SourceFault → (status ≡ (key_answer error).status) ⊎ (status ≡ OutputFault)) → (error ≡ SourceFault → status ≡ InputFault)
    → (other : KeyError) → key_lines asked left ≡ Err other → IsAnsweredEarly status (key_answer other)
key_early error asked left status is answered failed other other_is = by_error error is answered failed
  where
    same : (one : KeyError) → key_lines asked left ≡ Err one → one ≡ other
    same one is = err_is (sym is ∙ other_is)
      where
        err_is : keys_err one ≡ keys_err other → one ≡ other
        err_is e = cc

    refused_one : (error : KeyError) → key_lines asked left ≡ Err error → (status ≡ (key_answer error).status) ⊎ (status ≡ OutputFault) → IsAnsweredEarly status (key_answer other)
    refused_one error is answered = ⊎_elim (λ one. inl (one ∙ ap (λ (e : KeyError). (key_answer e).status) (same error is))) (λ out. inr (inl out)) answered

    by_error : (error : KeyError) → (error ≢ SourceFault → key_lines asked left ≡ Err error) → (error ≢ SourceFault → (status ≡ (key_answer error).status) ⊎ (status ≡ OutputFault))
        → (error ≡ SourceFault → status ≡ InputFault) → IsAnsweredEarly status (key_answer other)
    by_error KeyMissing is answered failed = let no : KeyMissing ≢ SourceFault = λ e. cc in refused_one KeyMissing (is no) (answered no)
    by_error KeyEmpty is answered failed = let no : KeyEmpty ≢ SourceFault = λ e. cc in refused_one KeyEmpty (is no) (answered no)
    by_error KeyTooLong is answered failed = let no : KeyTooLong ≢ SourceFault = λ e. cc in refused_one KeyTooLong (is no) (answered no)
    by_error KeyForm is answered failed = let no : KeyForm ≢ SourceFault = λ e. cc in refused_one KeyForm (is no) (answered no)
    by_error KeyUnsalted is answered failed = let no : KeyUnsalted ≢ SourceFault = λ e. cc in refused_one KeyUnsalted (is no) (answered no)
    by_error KeyNotHex is answered failed = let no : KeyNotHex ≢ SourceFault = λ e. cc in refused_one KeyNotHex (is no) (answered no)
    by_error SourceFault is answered failed = inr (inr (failed refl))

-- and no line more was taken
pub takes_key : (error : KeyError) (asked : List (Option LineForm)) (status : Status) (before after : List ℕ) → IsKeyStatus status → (error ≡ SourceFault → status ≡ InputFault)
    → (error ≢ SourceFault → after ≡ after_lines asked before) → TakesAtMost (1025 * lines_read asked) before after → TakesLines status asked before after
takes_key error asked Done before after is failed rest most = absurd is
takes_key error asked Usage before after is failed rest most = absurd is
takes_key error asked (Refused refusal) before after is failed rest most = rest (λ e. never (failed e))
  where
    never : Refused refusal ≡ InputFault → ⊥
    never e = cc
takes_key error asked KeyRefused before after is failed rest most = absurd is
takes_key error asked DiskFault before after is failed rest most = absurd is
takes_key error asked OutputFault before after is failed rest most = rest (λ e. never (failed e))
  where
    never : OutputFault ≡ InputFault → ⊥
    never e = cc
takes_key error asked InputFault before after is failed rest most = most
takes_key error asked EntropyFault before after is failed rest most = absurd is
takes_key error asked OutOfMemory before after is failed rest most = absurd is

-- what a key line that gives no secret says of its line
pub unless_fault : (T : Type 0) (error : KeyError) (P : KeyError → Type 0) → UnlessFault {T = T} (Err error) (P error) → error ≢ SourceFault → P error
unless_fault T KeyMissing P holds other = holds
unless_fault T KeyEmpty P holds other = holds
unless_fault T KeyTooLong P holds other = holds
unless_fault T KeyForm P holds other = holds
unless_fault T KeyUnsalted P holds other = holds
unless_fault T KeyNotHex P holds other = holds
unless_fault T SourceFault P holds other = absurd (other refl)

-- it was not carried out
pub key_not_done : (status : Status) → IsKeyStatus status → status ≡ Done → ⊥
key_not_done status is done = subst IsKeyStatus done is

-- ---- secrets that were given

pub not_failed : (lines : Result (List Secret) KeyError) (secrets : List Secret) → lines ≡ Ok secrets → IsErr lines → ⊥
not_failed (Ok given) secrets is failed = cc
not_failed (Err error) secrets is failed = cc

pub not_refused : (P : Type 0) (lines : Result (List Secret) KeyError) (secrets : List Secret) (error : KeyError) → lines ≡ Ok secrets → lines ≡ Err error → P
not_refused P lines secrets error is refused = let never : keys_ok secrets ≡ keys_err error = sym is ∙ refused in cc

-- the lines that were read for them are taken
pub takes_given : (asked : List (Option LineForm)) (status : Status) (before after : List ℕ) → (status ≡ InputFault → ⊥) → after ≡ after_lines asked before → TakesLines status asked before after
takes_given asked Done before after read rest = rest
takes_given asked Usage before after read rest = rest
takes_given asked (Refused refusal) before after read rest = rest
takes_given asked KeyRefused before after read rest = rest
takes_given asked DiskFault before after read rest = rest
takes_given asked OutputFault before after read rest = rest
takes_given asked InputFault before after read rest = absurd (read refl)
takes_given asked EntropyFault before after read rest = rest
takes_given asked OutOfMemory before after read rest = rest
