use Rattle.std.proofs.Common.{◌≡◌, inl, inr, ℕ, ◌+◌, ◌≤◌, List, ap, subst, sym, ◌∙◌, arith}
use Rattle.cipher_profile.proofs.Layouts.{IsListed-laid_out}
use Rattle.edge_model.specs.Files.{Files}
use Rattle.log_view.specs.View.{viewed}
use Rattle.sqlcipher_tool.specs.Answer.{Answer, IsStopStatus}
use Rattle.sqlcipher_tool.specs.Due.{due}
use Rattle.sqlcipher_tool.specs.Promises.{AnswersOne}
use Rattle.sqlcipher_tool.specs.Servable.{CanBeServed}
use Rattle.sqlcipher_tool.specs.WithLog.{view_stop}
use Rattle.sqlcipher_tool.specs.Words.{texts}
use Rattle.sqlcipher_tool.specs.declared.status.Status.{Status}
use Rattle.log_run.proofs.Causes.{disk_alone, rose_view}
use Rattle.log_run.proofs.Reading.{due_alone, no_draws, no_play, no_usage}
use Rattle.log_run.proofs.run_with_log.Goals as goal

pub open-requires : goal.open-requires
open-requires g c =
    let laid = IsListed-laid_out c.args.profile c.requires.listed in
    let least = laid.least in
    record { size = (omega (arith, least), laid.most) }

pub returns-in-Ok-clause-answer : goal.returns-in-Ok-clause-answer
returns-in-Ok-clause-answer g c = λ keyed told.
    let words = texts c.args.words.now in
    let left = g.K.Source.left c.args.input.now in
    let view = c.in-Ok.view in
    let after = c.run-status.new.disk in
    let seen : viewed view.page_size (g.D.Disk.reads view.disk) ≡ viewed c.args.profile.page_size (g.D.Disk.reads c.args.disk) =
    ap (λ (size : ℕ). viewed size (g.D.Disk.reads view.disk)) c.in-Ok.ensures.size.0 ∙ ap (λ (files : Files). viewed c.args.profile.page_size files) (c.in-Ok.ensures.same told) in
    let files = viewed c.args.profile.page_size (g.D.Disk.reads c.args.disk) in
    subst (λ (answers : List Answer). AnswersOne answers c.run-status.result g.S.Sink.tells (g.S.Sink.taken c.args.out.now) (g.S.Sink.taken c.run-status.new.out))
    (ap (λ (before : Files). due words left before (viewed after.page_size (g.D.Disk.reads after.disk))) seen
    ∙ due_alone words c.args.profile left files (viewed after.page_size (g.D.Disk.reads after.disk)) files c.requires.asked)
    (c.run-status.ensures.answer keyed told (no_play words c.args.profile c.requires.asked))

pub returns-in-Ok-clause-complete : goal.returns-in-Ok-clause-complete
returns-in-Ok-clause-complete g c = λ keyed told servable none.
    let words = texts c.args.words.now in
    let left = g.K.Source.left c.args.input.now in
    let view = c.in-Ok.view in
    let after = c.run-status.new.disk in
    let seen : viewed view.page_size (g.D.Disk.reads view.disk) ≡ viewed c.args.profile.page_size (g.D.Disk.reads c.args.disk) =
    ap (λ (size : ℕ). viewed size (g.D.Disk.reads view.disk)) c.in-Ok.ensures.size.0 ∙ ap (λ (files : Files). viewed c.args.profile.page_size files) (c.in-Ok.ensures.same told) in
    c.run-status.ensures.complete keyed told (subst (λ (files : Files). CanBeServed words left files) (sym seen) servable) (
      none.0,
      (
        none.1.0,
        (
          none.1.1.0,
          (
            λ rose. none.1.1.1.0 (rose_view (g.D.Disk.faults c.args.disk) (g.D.Disk.faults view.disk) view.refused
                (g.D.Disk.faults after.disk + after.refused) c.in-Ok.ensures.later c.in-Ok.ensures.size.1 rose),
            tt,
          ),
        ),
      ),
    )

pub returns-in-Ok-clause-fault : goal.returns-in-Ok-clause-fault
returns-in-Ok-clause-fault g c = λ is.
    let view = c.in-Ok.view in
    let after = c.run-status.new.disk in
    rose_view (g.D.Disk.faults c.args.disk) (g.D.Disk.faults view.disk) view.refused (g.D.Disk.faults after.disk + after.refused) c.in-Ok.ensures.later c.in-Ok.ensures.size.1
    (c.run-status.ensures.disk_fault is)

pub returns-in-Ok-clause-later : goal.returns-in-Ok-clause-later
returns-in-Ok-clause-later g c =
    let view = c.in-Ok.view in
    let after = c.run-status.new.disk in
    let below : g.D.Disk.faults view.disk + view.refused ≤ g.D.Disk.faults after.disk + after.refused = c.run-status.ensures.disk_later in
    let all : g.D.Disk.faults c.args.disk ≤ g.D.Disk.faults after.disk + after.refused = omega (arith, c.in-Ok.ensures.later, below) in all

pub returns-in-Ok-clause-no_usage : goal.returns-in-Ok-clause-no_usage
returns-in-Ok-clause-no_usage g c = λ is. no_usage (texts c.args.words.now) c.args.profile c.requires.asked (c.run-status.ensures.usage is)

pub returns-in-Ok-clause-no_entropy : goal.returns-in-Ok-clause-no_entropy
returns-in-Ok-clause-no_entropy g c = λ is. no_draws (texts c.args.words.now) c.args.profile c.requires.asked (c.run-status.ensures.entropy_fault is).1

pub returns-in-Ok-clause-line : goal.returns-in-Ok-clause-line
returns-in-Ok-clause-line g c = λ told found. c.run-status.ensures.line told (no_play (texts c.args.words.now) c.args.profile c.requires.asked) found

pub returns-in-Ok-clause-input_text : goal.returns-in-Ok-clause-input_text
returns-in-Ok-clause-input_text g c = λ is. c.run-status.ensures.input_text (no_play (texts c.args.words.now) c.args.profile c.requires.asked) is

pub returns-in-Ok-clause-takes : goal.returns-in-Ok-clause-takes
returns-in-Ok-clause-takes g c = λ told. c.run-status.ensures.takes told

pub returns-in-Ok-clause-draws : goal.returns-in-Ok-clause-draws
returns-in-Ok-clause-draws g c = c.run-status.ensures.draws (no_draws (texts c.args.words.now) c.args.profile c.requires.asked)

pub returns-in-Err-clause-stopped : goal.returns-in-Err-clause-stopped
returns-in-Err-clause-stopped g c = λ told. record {
  why = c.in-Err.why;
  is_due = c.in-Err.ensures.refused told;
  refused = c.conclude_view.ensures.status;
  text = c.conclude_view.ensures.text;
  disk = λ is. let ends = c.conclude_view.ensures.disk is in (ends.0, ap g.S.Sink.taken ends.1);
  memory = λ is. let ends = c.conclude_view.ensures.memory is in (ends.0, ap g.S.Sink.taken ends.1);
}

pub returns-in-Err-clause-outside : goal.returns-in-Err-clause-outside
returns-in-Err-clause-outside g c = λ told taken. elim (c.in-Err.ensures.outside told taken) [
  | inl is ↦ inl (c.conclude_view.ensures.disk (ap view_stop is)).0
  | inr is ↦ inr (c.conclude_view.ensures.memory (ap view_stop is)).0
]

pub returns-in-Err-clause-line : goal.returns-in-Err-clause-line
returns-in-Err-clause-line g c = λ told found. c.conclude_view.ensures.line told

pub returns-in-Err-clause-input_text : goal.returns-in-Err-clause-input_text
returns-in-Err-clause-input_text g c = λ is. absurd (subst (λ (s : Status). IsStopStatus s) is c.conclude_view.ensures.others)

pub returns-in-Err-clause-left_fault : goal.returns-in-Err-clause-left_fault
returns-in-Err-clause-left_fault g c = λ told is.
    c.in-Err.ensures.fault (disk_alone c.args.profile.page_size 1048576 (g.D.Disk.reads c.args.disk) c.in-Err.why (c.in-Err.ensures.refused told) (c.conclude_view.ensures.no_disk is))
