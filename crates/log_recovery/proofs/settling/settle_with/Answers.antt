use Rattle.std.proofs.Common.{inl, ℕ, sym, ◌∙◌, subst}
use Rattle.edge_model.specs.Files.{Files}
use Rattle.edge_model.specs.Images.{From, LeavesOnly}
use Rattle.edge_model.specs.Moments.{then_from}
use Rattle.rollback_journal.proofs.Looks.{reads_on}
use Rattle.log_recovery.specs.declared.looking.LogFound.{LogFound}
use Rattle.log_recovery.specs.declared.looking.LogFound.TheVariants.{Empty, Live}
use Rattle.log_recovery.specs.Opened.{KeepsOpened}
use Rattle.log_recovery.specs.Laying.{log_of, IsReadingOfLog, IsTaken}
use Rattle.log_recovery.specs.Finding.{IsEmptyLog, IsLogFound, IsLogRefusable}
use Rattle.log_recovery.proofs.Kept.{keeps_joins}
use Rattle.log_recovery.proofs.MainSteps.{only_read}
use Rattle.log_recovery.proofs.Settled.{done_size, empty_answer, empty_done, empty_spent, laid_answer, nothing_answer, nothing_done, settled_as}
use Rattle.log_recovery.proofs.settling.settle_with.Goals as goal

pub returns-in_err-sync_pair-clause-any_moment : goal.returns-in_err-sync_pair-clause-any_moment
returns-in_err-sync_pair-clause-any_moment g c told = only_read g.D.Disk.images c.args.page_size (c.sync_pair.ensures.any_moment told)

pub returns-in_err-look-clause-any_moment : goal.returns-in_err-look-clause-any_moment
returns-in_err-look-clause-any_moment g c told = only_read g.D.Disk.images c.args.page_size
    (reads_on g.D.Disk.images (c.sync_pair.ensures.any_moment told) (c.sync_pair.ensures.crash told) (c.look.ensures.any_moment told))

pub returns-in-Nothing-clause-answer : goal.returns-in-Nothing-clause-answer
returns-in-Nothing-clause-answer g c told =
    inl (sym (nothing_answer c.args.page_size (g.D.Disk.reads c.args.disk.now) (g.D.Disk.reads c.sync_pair.new.disk) (c.sync_pair.ensures.same told)
    (subst (λ (f : LogFound). IsLogFound c.args.page_size (g.D.Disk.reads c.sync_pair.new.disk) f) c.in-Nothing.is (c.in_ok-look.ensures.found told))))

pub returns-in-Nothing-clause-done : goal.returns-in-Nothing-clause-done
returns-in-Nothing-clause-done g c told some f left =
    nothing_done c.args.page_size (g.D.Disk.reads c.args.disk.now) (g.D.Disk.reads c.sync_pair.new.disk) f (c.sync_pair.ensures.same told)
    (subst (λ (x : LogFound). IsLogFound c.args.page_size (g.D.Disk.reads c.sync_pair.new.disk) x) c.in-Nothing.is (c.in_ok-look.ensures.found told)) some
    (c.in_ok-sync_pair.ensures.settled told f (c.look.ensures.crash told f left))

pub returns-in-Nothing-clause-settled : goal.returns-in-Nothing-clause-settled
returns-in-Nothing-clause-settled g c told ok f left =
    settled_as (g.D.Disk.reads c.args.disk.now) (g.D.Disk.reads c.look.new.disk) f (c.look.ensures.same told ∙ c.sync_pair.ensures.same told)
    (c.in_ok-sync_pair.ensures.settled told f (c.look.ensures.crash told f left))

pub returns-in-Nothing-clause-any_moment : goal.returns-in-Nothing-clause-any_moment
returns-in-Nothing-clause-any_moment g c told = only_read g.D.Disk.images c.args.page_size
    (reads_on g.D.Disk.images (c.sync_pair.ensures.any_moment told) (c.sync_pair.ensures.crash told) (c.look.ensures.any_moment told))

pub returns-in-Refused-clause-settled : goal.returns-in-Refused-clause-settled
returns-in-Refused-clause-settled g c told ok f left =
    settled_as (g.D.Disk.reads c.args.disk.now) (g.D.Disk.reads c.look.new.disk) f (c.look.ensures.same told ∙ c.sync_pair.ensures.same told)
    (c.in_ok-sync_pair.ensures.settled told f (c.look.ensures.crash told f left))

pub returns-in-Refused-clause-refused : goal.returns-in-Refused-clause-refused
returns-in-Refused-clause-refused g c ok told = c.look.ensures.same told ∙ c.sync_pair.ensures.same told

pub returns-in-Refused-clause-any_moment : goal.returns-in-Refused-clause-any_moment
returns-in-Refused-clause-any_moment g c told = only_read g.D.Disk.images c.args.page_size
    (reads_on g.D.Disk.images (c.sync_pair.ensures.any_moment told) (c.sync_pair.ensures.crash told) (c.look.ensures.any_moment told))

pub drop_log-requires-clause-settled : goal.drop_log-requires-clause-settled
drop_log-requires-clause-settled g c told f left =
    settled_as (g.D.Disk.reads c.args.disk.now) (g.D.Disk.reads c.look.new.disk) f (c.look.ensures.same told ∙ c.sync_pair.ensures.same told)
    (c.in_ok-sync_pair.ensures.settled told f (c.look.ensures.crash told f left))

pub drop_log-requires-clause-spent : goal.drop_log-requires-clause-spent
drop_log-requires-clause-spent g c told =
    let found : IsLogFound c.args.page_size (g.D.Disk.reads c.sync_pair.new.disk) Empty =
    subst (λ (x : LogFound). IsLogFound c.args.page_size (g.D.Disk.reads c.sync_pair.new.disk) x) c.in-Empty.is (c.in_ok-look.ensures.found told) in
    empty_spent c.args.page_size (g.D.Disk.reads c.look.new.disk) (subst (λ (x : Files). IsEmptyLog x) (sym (c.look.ensures.same told)) found.1)

pub returns-in_err-drop_log-in-Empty-clause-any_moment : goal.returns-in_err-drop_log-in-Empty-clause-any_moment
returns-in_err-drop_log-in-Empty-clause-any_moment g c told =
    then_from g.met.D.Disk.counts_now (keeps_joins c.args.page_size) (only_read g.D.Disk.images c.args.page_size
    (reads_on g.D.Disk.images (c.sync_pair.ensures.any_moment told) (c.sync_pair.ensures.crash told) (c.look.ensures.any_moment told)))
    (c.drop_log.ensures.any_moment told)

pub returns-in_ok-drop_log-in-Empty-clause-answer : goal.returns-in_ok-drop_log-in-Empty-clause-answer
returns-in_ok-drop_log-in-Empty-clause-answer g c told =
    inl (sym (empty_answer c.args.page_size (g.D.Disk.reads c.args.disk.now) (g.D.Disk.reads c.sync_pair.new.disk) (c.sync_pair.ensures.same told)
    (subst (λ (f : LogFound). IsLogFound c.args.page_size (g.D.Disk.reads c.sync_pair.new.disk) f) c.in-Empty.is (c.in_ok-look.ensures.found told))))

pub returns-in_ok-drop_log-in-Empty-clause-done : goal.returns-in_ok-drop_log-in-Empty-clause-done
returns-in_ok-drop_log-in-Empty-clause-done g c told some f left =
    let found : IsLogFound c.args.page_size (g.D.Disk.reads c.sync_pair.new.disk) Empty =
    subst (λ (x : LogFound). IsLogFound c.args.page_size (g.D.Disk.reads c.sync_pair.new.disk) x) c.in-Empty.is (c.in_ok-look.ensures.found told) in
    let gone = c.in_ok-drop_log-in-Empty.ensures.gone told f left in
    empty_done c.args.page_size (g.D.Disk.reads c.args.disk.now) (g.D.Disk.reads c.look.new.disk) f (c.look.ensures.same told ∙ c.sync_pair.ensures.same told)
    (subst (λ (x : Files). IsEmptyLog x) (c.sync_pair.ensures.same told) found.1) gone.0 gone.1

pub returns-in_ok-drop_log-in-Empty-clause-any_moment : goal.returns-in_ok-drop_log-in-Empty-clause-any_moment
returns-in_ok-drop_log-in-Empty-clause-any_moment g c told =
    then_from g.met.D.Disk.counts_now (keeps_joins c.args.page_size) (only_read g.D.Disk.images c.args.page_size
    (reads_on g.D.Disk.images (c.sync_pair.ensures.any_moment told) (c.sync_pair.ensures.crash told) (c.look.ensures.any_moment told)))
    (c.drop_log.ensures.any_moment told)

pub lay_log-requires-clause-settled : goal.lay_log-requires-clause-settled
lay_log-requires-clause-settled g c told f left =
    settled_as (g.D.Disk.reads c.args.disk.now) (g.D.Disk.reads c.look.new.disk) f (c.look.ensures.same told ∙ c.sync_pair.ensures.same told)
    (c.in_ok-sync_pair.ensures.settled told f (c.look.ensures.crash told f left))

pub lay_log-requires-clause-taken : goal.lay_log-requires-clause-taken
lay_log-requires-clause-taken g c told =
    let sound : IsLogRefusable c.args.page_size (Live c.in-Live.reading) =
    subst (λ (x : LogFound). IsLogRefusable c.args.page_size x) c.in-Live.is c.in_ok-look.ensures.sound in
    let found : IsLogFound c.args.page_size (g.D.Disk.reads c.sync_pair.new.disk) (Live c.in-Live.reading) =
    subst (λ (x : LogFound). IsLogFound c.args.page_size (g.D.Disk.reads c.sync_pair.new.disk) x) c.in-Live.is (c.in_ok-look.ensures.found told) in
    subst (λ (x : Files). IsTaken c.in-Live.reading.page_size x) (sym (c.look.ensures.same told))
    (subst (λ (n : ℕ). IsTaken n (g.D.Disk.reads c.sync_pair.new.disk)) (sym sound.1) found.0)

pub lay_log-requires-clause-read : goal.lay_log-requires-clause-read
lay_log-requires-clause-read g c told =
    let found : IsLogFound c.args.page_size (g.D.Disk.reads c.sync_pair.new.disk) (Live c.in-Live.reading) =
    subst (λ (x : LogFound). IsLogFound c.args.page_size (g.D.Disk.reads c.sync_pair.new.disk) x) c.in-Live.is (c.in_ok-look.ensures.found told) in
    subst (λ (x : Files). IsReadingOfLog c.in-Live.reading (log_of x)) (sym (c.look.ensures.same told)) found.1

pub returns-in_err-lay_log-in-Live-clause-any_moment : goal.returns-in_err-lay_log-in-Live-clause-any_moment
returns-in_err-lay_log-in-Live-clause-any_moment g c told =
    let sound : IsLogRefusable c.args.page_size (Live c.in-Live.reading) =
    subst (λ (x : LogFound). IsLogRefusable c.args.page_size x) c.in-Live.is c.in_ok-look.ensures.sound in
    let run = subst
    (λ (n : ℕ). LeavesOnly g.D.Disk.moment g.D.Disk.since c.look.new.disk c.lay_log.new.disk (From (KeepsOpened n) (g.D.Disk.images c.look.new.disk))) sound.1
    (c.lay_log.ensures.any_moment told) in
    then_from g.met.D.Disk.counts_now (keeps_joins c.args.page_size) (only_read g.D.Disk.images c.args.page_size
    (reads_on g.D.Disk.images (c.sync_pair.ensures.any_moment told) (c.sync_pair.ensures.crash told) (c.look.ensures.any_moment told))) run

pub returns-in_ok-lay_log-in-Live-clause-answer : goal.returns-in_ok-lay_log-in-Live-clause-answer
returns-in_ok-lay_log-in-Live-clause-answer g c told =
    let sound : IsLogRefusable c.args.page_size (Live c.in-Live.reading) =
    subst (λ (x : LogFound). IsLogRefusable c.args.page_size x) c.in-Live.is c.in_ok-look.ensures.sound in
    let found : IsLogFound c.args.page_size (g.D.Disk.reads c.sync_pair.new.disk) (Live c.in-Live.reading) =
    subst (λ (x : LogFound). IsLogFound c.args.page_size (g.D.Disk.reads c.sync_pair.new.disk) x) c.in-Live.is (c.in_ok-look.ensures.found told) in
    inl (sym (laid_answer c.args.page_size (g.D.Disk.reads c.args.disk.now) (g.D.Disk.reads c.sync_pair.new.disk) c.in-Live.reading (c.sync_pair.ensures.same told) sound.1
    found.0 found.1))

pub returns-in_ok-lay_log-in-Live-clause-done : goal.returns-in_ok-lay_log-in-Live-clause-done
returns-in_ok-lay_log-in-Live-clause-done g c told some f left =
    let sound : IsLogRefusable c.args.page_size (Live c.in-Live.reading) =
    subst (λ (x : LogFound). IsLogRefusable c.args.page_size x) c.in-Live.is c.in_ok-look.ensures.sound in
    done_size c.in-Live.reading.page_size c.args.page_size (g.D.Disk.reads c.args.disk.now) (g.D.Disk.reads c.look.new.disk) f sound.1
    (c.look.ensures.same told ∙ c.sync_pair.ensures.same told) (c.in_ok-lay_log-in-Live.ensures.done told f left)

pub returns-in_ok-lay_log-in-Live-clause-any_moment : goal.returns-in_ok-lay_log-in-Live-clause-any_moment
returns-in_ok-lay_log-in-Live-clause-any_moment g c told =
    let sound : IsLogRefusable c.args.page_size (Live c.in-Live.reading) =
    subst (λ (x : LogFound). IsLogRefusable c.args.page_size x) c.in-Live.is c.in_ok-look.ensures.sound in
    let run = subst
    (λ (n : ℕ). LeavesOnly g.D.Disk.moment g.D.Disk.since c.look.new.disk c.lay_log.new.disk (From (KeepsOpened n) (g.D.Disk.images c.look.new.disk))) sound.1
    (c.lay_log.ensures.any_moment told) in
    then_from g.met.D.Disk.counts_now (keeps_joins c.args.page_size) (only_read g.D.Disk.images c.args.page_size
    (reads_on g.D.Disk.images (c.sync_pair.ensures.any_moment told) (c.sync_pair.ensures.crash told) (c.look.ensures.any_moment told))) run
