use Rattle.std.proofs.Common.{ℕ, ◌∙◌, subst}
use Rattle.edge_model.specs.Files.{Files}
use Rattle.edge_model.specs.Images.{From, LeavesOnly}
use Rattle.edge_model.specs.Moments.{then_from, weaker}
use Rattle.rollback_journal.specs.declared.looking.Found.{Found}
use Rattle.rollback_journal.specs.declared.looking.Found.TheVariants.{Hot}
use Rattle.rollback_journal.specs.Recovery.{KeepsRecovered}
use Rattle.rollback_journal.specs.Closing.{IsJournalFound, IsRefusable}
use Rattle.rollback_journal.proofs.Kept.{keeps_joins, keeps_only}
use Rattle.rollback_journal.proofs.ReadSteps.{only_read}
use Rattle.rollback_journal.proofs.Looks.{done_same, hot_answer, on_ok, reads_on, taken_changes}
use Rattle.rollback_journal.proofs.recovery.recover.Goals as goal

pub returns-in-Refused-clause-any_moment : goal.returns-in-Refused-clause-any_moment
returns-in-Refused-clause-any_moment g c told = only_read g.D.Disk.images c.args.page_size
    (reads_on g.D.Disk.images (c.barrier.ensures.any_moment told) (c.barrier.ensures.crash told) (c.look.ensures.any_moment told))

pub returns-in-Hot-clause-answer : goal.returns-in-Hot-clause-answer
returns-in-Hot-clause-answer g c told =
    let now = g.D.Disk.reads c.args.disk.now in
    let same = c.barrier.ensures.same told in
    let sound : IsRefusable c.args.page_size (Hot c.in-Hot.reading) = subst
    (λ (f : Found). IsRefusable c.args.page_size f) c.in-Hot.is c.in_ok-look.ensures.sound in
    let found : IsJournalFound c.args.page_size now (Hot c.in-Hot.reading) = subst (λ (x : Files). IsJournalFound c.args.page_size x (Hot c.in-Hot.reading)) same
    (subst (λ (f : Found). IsJournalFound c.args.page_size (g.D.Disk.reads c.barrier.new.disk) f) c.in-Hot.is (c.in_ok-look.ensures.found told)) in
    hot_answer g.D.Disk.tells c.in-Hot.reading.page_size c.args.page_size now (g.D.Disk.reads c.look.new.disk) c.recover_hot.result told sound.1
    (c.look.ensures.same told ∙ same) found.0 c.recover_hot.ensures.played c.recover_hot.ensures.failed

pub returns-in-Hot-clause-done : goal.returns-in-Hot-clause-done
returns-in-Hot-clause-done g c =
    let sound : IsRefusable c.args.page_size (Hot c.in-Hot.reading) = subst
    (λ (f : Found). IsRefusable c.args.page_size f) c.in-Hot.is c.in_ok-look.ensures.sound in
    on_ok c.recover_hot.result (λ done told some f left.
    done_same c.in-Hot.reading.page_size c.args.page_size (g.D.Disk.reads c.args.disk.now) (g.D.Disk.reads c.look.new.disk) f sound.1
    (c.look.ensures.same told ∙ c.barrier.ensures.same told) (done told f left)) c.recover_hot.ensures.done

pub returns-in-Hot-clause-any_moment : goal.returns-in-Hot-clause-any_moment
returns-in-Hot-clause-any_moment g c told =
    let sound : IsRefusable c.args.page_size (Hot c.in-Hot.reading) = subst
    (λ (f : Found). IsRefusable c.args.page_size f) c.in-Hot.is c.in_ok-look.ensures.sound in
    let run = subst
    (λ (n : ℕ). LeavesOnly g.D.Disk.moment g.D.Disk.since c.look.new.disk c.recover_hot.new.disk (From (KeepsRecovered n) (g.D.Disk.images c.look.new.disk))) sound.1
    (c.recover_hot.ensures.any_moment told) in
    then_from g.met.D.Disk.counts_now (keeps_joins c.args.page_size)
    (only_read g.D.Disk.images c.args.page_size (reads_on g.D.Disk.images (c.barrier.ensures.any_moment told) (c.barrier.ensures.crash told) (c.look.ensures.any_moment told))) run

pub returns-in-Hot-clause-holds : goal.returns-in-Hot-clause-holds
returns-in-Hot-clause-holds g c told set held =
    weaker (λ f from. keeps_only c.args.page_size set from.0 f from.2 (held from.0 from.1)) (returns-in-Hot-clause-any_moment g c told)

pub returns-in-Hot-clause-idle_same : goal.returns-in-Hot-clause-idle_same
returns-in-Hot-clause-idle_same g c told idle =
    let now = g.D.Disk.reads c.args.disk.now in
    let found : IsJournalFound c.args.page_size now (Hot c.in-Hot.reading) = subst (λ (x : Files). IsJournalFound c.args.page_size x (Hot c.in-Hot.reading)) (c.barrier.ensures.same told)
    (subst (λ (f : Found). IsJournalFound c.args.page_size (g.D.Disk.reads c.barrier.new.disk) f) c.in-Hot.is (c.in_ok-look.ensures.found told)) in
    absurd (taken_changes c.args.page_size now found.0 idle)

pub returns-in-Hot-clause-idle : goal.returns-in-Hot-clause-idle
returns-in-Hot-clause-idle g c told idle =
    let now = g.D.Disk.reads c.args.disk.now in
    let found : IsJournalFound c.args.page_size now (Hot c.in-Hot.reading) = subst (λ (x : Files). IsJournalFound c.args.page_size x (Hot c.in-Hot.reading)) (c.barrier.ensures.same told)
    (subst (λ (f : Found). IsJournalFound c.args.page_size (g.D.Disk.reads c.barrier.new.disk) f) c.in-Hot.is (c.in_ok-look.ensures.found told)) in
    absurd (taken_changes c.args.page_size now found.0 idle)
