use Rattle.edge_model.specs.Moments.{then_from}
use Rattle.rollback_journal.proofs.Kept.{keeps_joins}
use Rattle.rollback_journal.proofs.MainSteps.{some_contents}
use Rattle.rollback_journal.proofs.Looks.{done_is}
use Rattle.rollback_journal.proofs.recovery.recover_hot.Goals as goal

pub returns-in_err-drop_journal-clause-any_moment : goal.returns-in_err-drop_journal-clause-any_moment
returns-in_err-drop_journal-clause-any_moment g c told =
    then_from g.met.D.Disk.counts_now (keeps_joins c.args.reading.now.page_size) (c.lay_back.ensures.any_moment told) (c.drop_journal.ensures.any_moment told)

pub returns-clause-done : goal.returns-clause-done
returns-clause-done g c told f left =
    let old = g.D.Disk.reads c.args.disk.now in
    let taken = c.requires.taken told in
    let gone = c.in_ok-drop_journal.ensures.gone told f left in
    done_is c.args.reading.now.page_size old (g.D.Disk.reads c.lay_back.new.disk) f taken.main (some_contents old.journal taken.journal) taken.hot
    (c.in_ok-records.ensures.cold told).main (c.in_ok-records.ensures.main told) gone.0 gone.1

pub returns-clause-any_moment : goal.returns-clause-any_moment
returns-clause-any_moment g c told =
    then_from g.met.D.Disk.counts_now (keeps_joins c.args.reading.now.page_size) (c.lay_back.ensures.any_moment told) (c.drop_journal.ensures.any_moment told)
