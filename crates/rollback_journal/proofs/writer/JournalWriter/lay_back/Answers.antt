use Rattle.edge_model.specs.Moments.{weaker, goes_less, then_from}
use Rattle.rollback_journal.proofs.Kept.{keeps_none, keeps_joins}
use Rattle.rollback_journal.proofs.writer.JournalWriter.lay_back.Goals as goal

pub returns-in_err-play_back-clause-any_moment : goal.returns-in_err-play_back-clause-any_moment
returns-in_err-play_back-clause-any_moment g c told =
    let size = c.args.self.now.page_size in
    let held = weaker (λ f here. (f, here, keeps_none size f)) (c.hold_journal.ensures.any_moment told) in
    then_from g.met.D.Disk.counts_now (keeps_joins size) held (c.play_back.ensures.any_moment told)

pub returns-in_err-sync-2-clause-any_moment : goal.returns-in_err-sync-2-clause-any_moment
returns-in_err-sync-2-clause-any_moment g c told =
    let size = c.args.self.now.page_size in
    let held = weaker (λ f here. (f, here, keeps_none size f)) (c.hold_journal.ensures.any_moment told) in
    goes_less g.met.D.Disk.counts_now (then_from g.met.D.Disk.counts_now (keeps_joins size) held (c.play_back.ensures.any_moment told)) (c.sync-2.ensures.time told) (c.sync-2.ensures.crash told)

pub returns-clause-any_moment : goal.returns-clause-any_moment
returns-clause-any_moment g c told =
    let size = c.args.self.now.page_size in
    let held = weaker (λ f here. (f, here, keeps_none size f)) (c.hold_journal.ensures.any_moment told) in
    goes_less g.met.D.Disk.counts_now (then_from g.met.D.Disk.counts_now (keeps_joins size) held (c.play_back.ensures.any_moment told)) (c.sync-2.ensures.time told) (c.sync-2.ensures.crash told)
