-- What a command answers that puts a text once all parts of a database were checked, by what its walk came to and what was put.
use Rattle.std.proofs.Common.{◌≡◌, ◌⊎◌, ⊎_elim, inl, inr, ℕ, Bool, true, IsTrue, List, [], Some, None, Result, Ok, Err, refl, sym, ap, ◌∙◌, subst, arith}
use Rattle.std.specs.List.{Contains}
use Rattle.btree_model.specs.Parts.{first_refusals, is_database, parts}
use Rattle.btree_walk.specs.declared.error.WalkError.{WalkError}
use Rattle.btree_walk.specs.declared.error.WalkError.TheVariants.{Defect as Found, Source, OutOfMemory as MemoryEnds}
use Rattle.db_format.specs.Pages.{Pages}
use Rattle.export_rows.specs.Causes.{IfWalk, is_export_defect}
use Rattle.row_text.specs.Out.{MovesPart}
use Rattle.export_rows.specs.declared.error.ExportError.{ExportError}
use Rattle.export_rows.specs.declared.error.ExportError.TheVariants.{Walk}
use Rattle.pager.specs.Causes.{MayRefuse}
use Rattle.pager.specs.declared.fill.PageError.{PageError}
use Rattle.pager.specs.declared.fill.PageError.TheVariants.{OutOfRange, TagRefused, DiskFault as PageFault, EntropyFault as DrawFault, AllPinned}
use Rattle.schema_map.specs.Parts.{IsEarliest}
use Rattle.text_lines.specs.Text.{PutsPart}
use Rattle.sqlcipher_tool.specs.Answer.{Answer, IsFault, Puts, PutsLine, refused}
use Rattle.sqlcipher_tool.specs.Promises.{AnswersOne, PutsSo}
use Rattle.sqlcipher_tool.specs.Stop.{stop_answer}
use Rattle.sqlcipher_tool.specs.Verify.{parts_answers}
use Rattle.sqlcipher_tool.specs.Walked.{stop_by, walk_refusal, walk_stop}
use Rattle.sqlcipher_tool.specs.declared.opening.Stop.{Stop}
use Rattle.sqlcipher_tool.specs.declared.opening.Stop.TheVariants.{DiskFault as StopDisk, OutOfMemory as StopMemory}
use Rattle.sqlcipher_tool.specs.declared.status.Refusal.{Refusal}
use Rattle.sqlcipher_tool.specs.declared.status.Refusal.TheVariants.{PageTag}
use Rattle.sqlcipher_tool.specs.declared.status.Status.{Status}
use Rattle.sqlcipher_tool.specs.declared.status.Status.TheVariants.{Done, Usage, Refused, KeyRefused, DiskFault, OutputFault, InputFault, EntropyFault, OutOfMemory}
use Rattle.sqlcipher_tool.proofs.Answered.{first_due}
use Rattle.sqlcipher_tool.proofs.Conclusions.{no_part}
use Rattle.sqlcipher_tool.proofs.SomeDue.{parts_some}
use Rattle.sqlcipher_tool.proofs.Verified.{no_first_refusal, outside_stop, rest_stop, some_is, stop_one, whole_due}

-- a part of the text of an answer that is due was put, and of what may have been begun
record PutsSome (answers : List Answer) (tells : Bool) (before after : List ℕ) : Type 0 where
  answer : Answer
  is_due : Contains answers answer
  text : IsTrue tells → PutsPart answer.text before after
  begun : IsTrue tells → PutsPart answer.begun before after

-- of an answer
pub put_so : (status : Status) (answer : Answer) (before after : List ℕ) → IsFault status → PutsPart answer.text before after → PutsPart answer.begun before after
    → PutsSo status answer before after
put_so Done answer before after fault text begun = absurd fault
put_so Usage answer before after fault text begun = absurd fault
put_so (Refused refusal) answer before after fault text begun = absurd fault
put_so KeyRefused answer before after fault text begun = absurd fault
put_so DiskFault answer before after fault text begun = begun
put_so OutputFault answer before after fault text begun = text
put_so InputFault answer before after fault text begun = begun
put_so EntropyFault answer before after fault text begun = begun
put_so OutOfMemory answer before after fault text begun = begun

-- ---- a walk that stopped

no_refusal : (pages : Pages) (page : ℕ) → is_database pages ≡ true → Contains (first_refusals (parts pages)) page → ⊥
no_refusal pages page sound h = let none : Contains [] page = subst (λ (l : List ℕ). Contains l page) (no_first_refusal (parts pages) sound) h in omega (arith, none.1)

-- the answer to a stop is that to its refusal
refusal_due : (r : Result Refusal Stop) (answers : List Answer) (answer : Answer) → ((refusal : Refusal) → r ≡ Ok refusal → Contains answers (refused refusal))
    → ((stop : Stop) → r ≡ Err stop → stop_answer stop ≡ None) → stop_answer (stop_by r) ≡ Some answer → Contains answers answer
refusal_due (Ok refusal) answers answer due outside is = subst (λ (a : Answer). Contains answers a) (some_is (refused refusal) answer is) (due refusal refl)
refusal_due (Err stop) answers answer due outside is = let none : None ≡ Some answer = sym (outside stop refl) ∙ is in cc

-- ---- where no part has a defect, this answer is due, whose text is this report, and no other may have been begun

pub record HasText (pages : Pages) (last : Answer) (report : List ℕ) : Type 0 where
  pub text : is_database pages ≡ true → last.text ≡ report
  pub begun : is_database pages ≡ true → last.begun ≡ report

module _ (pages : Pages) (last : Answer) (report : List ℕ) (has : HasText pages last report) where
  last_due : is_database pages ≡ true → Contains (parts_answers pages last) last
  last_due sound = subst (λ (l : List Answer). Contains l last) (sym (whole_due pages last sound)) (0, omega arith, refl)

  some_put : (tells : Bool) (before after : List ℕ) → (IsTrue tells → MovesPart report before [] after)
      → (after ≡ before) ⊎ (is_database pages ≡ true) → PutsSome (parts_answers pages last) tells before after
  some_put tells before after part checked =
      ⊎_elim (λ (same : after ≡ before).
      let due = first_due (parts_answers pages last) (parts_some pages last) in
      record { answer = due.0; is_due = due.1; text = λ printed. no_part due.0.text before after same; begun = λ printed. no_part due.0.begun before after same })
      (λ (sound : is_database pages ≡ true).
      let put : IsTrue tells → PutsPart report before after =
      λ printed. record { put = (part printed).moves.put; rest = (part printed).lost; whole = (part printed).moves.whole; appended = (part printed).moves.given } in
      record {
        answer = last;
        is_due = last_due sound;
        text = λ printed. subst (λ (l : List ℕ). PutsPart l before after) (sym (has.text sound)) (put printed);
        begun = λ printed. subst (λ (l : List ℕ). PutsPart l before after) (sym (has.begun sound)) (put printed);
      }) checked

  -- something outside failed, or memory ran out
  pub failed_one : (status : Status) (tells : Bool) (before after : List ℕ) → IsFault status
      → (IsTrue tells → MovesPart report before [] after) → (after ≡ before) ⊎ (is_database pages ≡ true)
      → AnswersOne (parts_answers pages last) status tells before after
  failed_one status tells before after fault part checked =
      let some = some_put tells before after part checked in
      record { answer = some.answer; is_due = some.is_due; answered = inr fault; puts = λ printed. put_so status some.answer before after fault (some.text printed) (some.begun printed) }

  -- all was put
  pub ended_one : (status : Status) (tells : Bool) (before after : List ℕ) → is_database pages ≡ true → status ≡ last.status → (IsTrue tells → PutsSo status last before after)
      → AnswersOne (parts_answers pages last) status tells before after
  ended_one status tells before after sound is text = record { answer = last; is_due = last_due sound; answered = inl is; puts = text }

  module _ (told_disk : Bool) (error : WalkError PageError) (status : Status) (tells : Bool) (before mid after : List ℕ) where
    -- nothing was put before: a defect or a refused page
    told_one : IsTrue told_disk → IsEarliest (MayRefuse told_disk) pages (parts pages) error → mid ≡ before
        → ((answer : Answer) → stop_answer (walk_stop error) ≡ Some answer → (status ≡ answer.status) ⊎ (status ≡ OutputFault))
        → ((answer : Answer) → stop_answer (walk_stop error) ≡ Some answer → IsTrue tells → Puts status answer.text mid after)
        → (walk_stop error ≡ StopDisk → (status ≡ DiskFault) × (after ≡ mid)) → (walk_stop error ≡ StopMemory → (status ≡ OutOfMemory) × (after ≡ mid))
        → AnswersOne (parts_answers pages last) status tells before after
    told_one told causes same is text disk memory =
        subst (λ (m : List ℕ). AnswersOne (parts_answers pages last) status tells m after) same
        (stop_one (parts_answers pages last) (walk_stop error) status tells mid after (parts_some pages last)
        (λ answer. refusal_due (walk_refusal error) (parts_answers pages last) answer
        (λ refusal. rest_stop told_disk pages last error refusal told causes) (outside_stop error)) is text disk memory)

    -- a part may have been put: something outside failed
    outside_one : (fault : Status) → IsFault fault → (status ≡ fault) × (after ≡ mid) → (IsTrue tells → MovesPart report before [] mid)
        → (mid ≡ before) ⊎ (is_database pages ≡ true) → AnswersOne (parts_answers pages last) status tells before after
    outside_one fault is_fault is part checked =
        subst (λ (s : Status). AnswersOne (parts_answers pages last) s tells before after) (sym is.0)
        (subst (λ (l : List ℕ). AnswersOne (parts_answers pages last) fault tells before l) (sym is.1) (failed_one fault tells before mid is_fault part checked))

  stopped_by : (told_disk : Bool) (error : WalkError PageError) (status : Status) (tells : Bool) (before mid after : List ℕ)
      → IsTrue told_disk → IsEarliest (MayRefuse told_disk) pages (parts pages) error
      → (is_export_defect (Walk error) ≡ true → mid ≡ before) → (mid ≡ before) ⊎ (is_database pages ≡ true)
      → (IsTrue tells → MovesPart report before [] mid)
      → ((answer : Answer) → stop_answer (walk_stop error) ≡ Some answer → (status ≡ answer.status) ⊎ (status ≡ OutputFault))
      → ((answer : Answer) → stop_answer (walk_stop error) ≡ Some answer → IsTrue tells → Puts status answer.text mid after)
      → (walk_stop error ≡ StopDisk → (status ≡ DiskFault) × (after ≡ mid)) → (walk_stop error ≡ StopMemory → (status ≡ OutOfMemory) × (after ≡ mid))
      → AnswersOne (parts_answers pages last) status tells before after
  stopped_by told_disk (Found d) status tells before mid after told causes defect checked part is text disk memory =
      told_one told_disk (Found d) status tells before mid after told causes (defect refl) is text disk memory
  stopped_by told_disk (Source (TagRefused page)) status tells before mid after told causes defect checked part is text disk memory =
      ⊎_elim (λ (same : mid ≡ before). told_one told_disk (Source (TagRefused page)) status tells before mid after told causes same is text disk memory)
      (λ (sound : is_database pages ≡ true). absurd (no_refusal pages causes.page sound (causes.listed (causes.refused.2 told)))) checked
  stopped_by told_disk (Source OutOfRange) status tells before mid after told causes defect checked part is text disk memory =
      outside_one told_disk (Source OutOfRange) status tells before mid after OutOfMemory tt (memory refl) part checked
  stopped_by told_disk (Source PageFault) status tells before mid after told causes defect checked part is text disk memory =
      outside_one told_disk (Source PageFault) status tells before mid after DiskFault tt (disk refl) part checked
  stopped_by told_disk (Source DrawFault) status tells before mid after told causes defect checked part is text disk memory =
      outside_one told_disk (Source DrawFault) status tells before mid after OutOfMemory tt (memory refl) part checked
  stopped_by told_disk (Source AllPinned) status tells before mid after told causes defect checked part is text disk memory =
      outside_one told_disk (Source AllPinned) status tells before mid after OutOfMemory tt (memory refl) part checked
  stopped_by told_disk MemoryEnds status tells before mid after told causes defect checked part is text disk memory =
      outside_one told_disk MemoryEnds status tells before mid after OutOfMemory tt (memory refl) part checked

  -- the same of a stop by that name
  pub stopped_one : (told_disk : Bool) (error : WalkError PageError) (stop : Stop) (status : Status) (tells : Bool) (before mid after : List ℕ)
      → IsTrue told_disk → stop ≡ walk_stop error → IsEarliest (MayRefuse told_disk) pages (parts pages) error
      → (is_export_defect (Walk error) ≡ true → mid ≡ before) → (mid ≡ before) ⊎ (is_database pages ≡ true)
      → (IsTrue tells → MovesPart report before [] mid)
      → ((answer : Answer) → stop_answer stop ≡ Some answer → (status ≡ answer.status) ⊎ (status ≡ OutputFault))
      → ((answer : Answer) → stop_answer stop ≡ Some answer → IsTrue tells → Puts status answer.text mid after)
      → (stop ≡ StopDisk → (status ≡ DiskFault) × (after ≡ mid)) → (stop ≡ StopMemory → (status ≡ OutOfMemory) × (after ≡ mid))
      → AnswersOne (parts_answers pages last) status tells before after
  stopped_one told_disk error stop status tells before mid after told same causes defect checked part is text disk memory =
      stopped_by told_disk error status tells before mid after told causes defect checked part
      (λ answer h. is answer (ap stop_answer same ∙ h)) (λ answer h. text answer (ap stop_answer same ∙ h)) (λ h. disk (same ∙ h)) (λ h. memory (same ∙ h))

-- what holds of an error of the walk holds of the walk's
pub of_walk : (P : WalkError PageError → Type 0) (stopped : ExportError PageError) (error : WalkError PageError) → stopped ≡ Walk error → IfWalk P stopped → P error
of_walk P stopped error is holds = subst (IfWalk P) is holds

-- the cause of an export that a walk stopped
pub causes_of : (told_disk : Bool) (pages : Pages) (stopped : ExportError PageError) (error : WalkError PageError) → stopped ≡ Walk error → IsTrue told_disk
    → IfWalk (λ e. IsTrue told_disk → IsEarliest (MayRefuse told_disk) pages (parts pages) e) stopped → IsEarliest (MayRefuse told_disk) pages (parts pages) error
causes_of told_disk pages stopped error is told causes =
    let P : ExportError PageError → Type 0 = IfWalk (λ e. IsTrue told_disk → IsEarliest (MayRefuse told_disk) pages (parts pages) e) in
    subst P is causes told

-- ---- the line of a refusal, whatever the disk tells

no_line : (status other : Status) (before after : List ℕ) → status ≡ other → PutsLine other before after → PutsLine status before after
no_line status other before after is put = subst (λ (s : Status). PutsLine s before after) (sym is) put

line_by : (error : WalkError PageError) (status : Status) (before mid after : List ℕ) → (is_export_defect (Walk error) ≡ true → mid ≡ before)
    → ((answer : Answer) → stop_answer (walk_stop error) ≡ Some answer → (status ≡ answer.status) ⊎ (status ≡ OutputFault))
    → (walk_stop error ≡ StopDisk → status ≡ DiskFault) → (walk_stop error ≡ StopMemory → status ≡ OutOfMemory)
    → PutsLine status mid after → PutsLine status before after
line_by (Found d) status before mid after defect is disk memory put = subst (λ (m : List ℕ). PutsLine status m after) (defect refl) put
line_by (Source (TagRefused page)) status before mid after defect is disk memory put =
    ⊎_elim (λ (same : status ≡ Refused (PageTag page)). no_line status (Refused (PageTag page)) before after same (λ line h. cc))
    (λ (same : status ≡ OutputFault). no_line status OutputFault before after same (λ line h. cc)) (is (refused (PageTag page)) refl)
line_by (Source OutOfRange) status before mid after defect is disk memory put = no_line status OutOfMemory before after (memory refl) (λ line h. cc)
line_by (Source PageFault) status before mid after defect is disk memory put = no_line status DiskFault before after (disk refl) (λ line h. cc)
line_by (Source DrawFault) status before mid after defect is disk memory put = no_line status OutOfMemory before after (memory refl) (λ line h. cc)
line_by (Source AllPinned) status before mid after defect is disk memory put = no_line status OutOfMemory before after (memory refl) (λ line h. cc)
line_by MemoryEnds status before mid after defect is disk memory put = no_line status OutOfMemory before after (memory refl) (λ line h. cc)

pub line_one : (error : WalkError PageError) (stop : Stop) (status : Status) (before mid after : List ℕ) → stop ≡ walk_stop error
    → (is_export_defect (Walk error) ≡ true → mid ≡ before)
    → ((answer : Answer) → stop_answer stop ≡ Some answer → (status ≡ answer.status) ⊎ (status ≡ OutputFault))
    → (stop ≡ StopDisk → status ≡ DiskFault) → (stop ≡ StopMemory → status ≡ OutOfMemory)
    → PutsLine status mid after → PutsLine status before after
line_one error stop status before mid after same defect is disk memory put =
    line_by error status before mid after defect (λ answer h. is answer (ap stop_answer same ∙ h)) (λ h. disk (same ∙ h)) (λ h. memory (same ∙ h)) put
