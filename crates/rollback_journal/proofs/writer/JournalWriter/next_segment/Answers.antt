use Rattle.std.proofs.Common.{ap, sym, ◌∙◌, subst}
use Rattle.edge_model.specs.Images.{From, LeavesOnly}
use Rattle.edge_model.specs.Moments.{weaker}
use Rattle.edge_model.specs.Files.{contents}
use Rattle.rollback_journal.specs.contracts.writer.JournalWriter.{the_view}
use Rattle.rollback_journal.specs.Plays.{PlaysAsBefore}
use Rattle.rollback_journal.specs.Writing.{Writing, WriterStands, all_records}
use Rattle.rollback_journal.proofs.WriterSteps.{begin_keeps, begun_same, begun_stands}
use Rattle.rollback_journal.proofs.writer.JournalWriter.next_segment.Goals as goal

pub returns-in_err-put-clause-any_moment : goal.returns-in_err-put-clause-any_moment
returns-in_err-put-clause-any_moment g c told =
    let v = the_view c.self.inside in
    let old = g.D.Disk.reads c.args.disk.now in
    let images = g.D.Disk.images c.args.disk.now in
    let stands = subst (λ (u : Writing). WriterStands u old images) (sym c.self.view_is) (c.requires.stands told) in
    let stage = ap (λ (u : Writing). u.stage) c.self.view_is ∙ c.requires.stage.0 in
    subst (λ (u : Writing). LeavesOnly g.D.Disk.moment g.D.Disk.since c.args.disk.now c.put.new.disk (From (PlaysAsBefore u.page_size) images)) c.self.view_is
    (weaker (λ f from. (from.0, from.1, begin_keeps v old images stage stands from.0 f from.1 from.2)) (c.put.ensures.any_moment told))

pub returns-clause-stands : goal.returns-clause-stands
returns-clause-stands g c told =
    let v = the_view c.self.inside in
    let old = g.D.Disk.reads c.args.disk.now in
    let images = g.D.Disk.images c.args.disk.now in
    let stands = subst (λ (u : Writing). WriterStands u old images) (sym c.self.view_is) (c.requires.stands told) in
    let stage = ap (λ (u : Writing). u.stage) c.self.view_is ∙ c.requires.stage.0 in
    begun_stands v old images stage stands (g.D.Disk.reads c.put.new.disk) (c.in_ok-put.ensures.done told) (g.D.Disk.images c.put.new.disk) (c.put.ensures.crash told) (c.in_ok-put.ensures.synced told)

pub returns-clause-records : goal.returns-clause-records
returns-clause-records g c told =
    let v = the_view c.self.inside in
    let old = g.D.Disk.reads c.args.disk.now in
    let images = g.D.Disk.images c.args.disk.now in
    let stands = subst (λ (u : Writing). WriterStands u old images) (sym c.self.view_is) (c.requires.stands told) in
    let stage = ap (λ (u : Writing). u.stage) c.self.view_is ∙ c.requires.stage.0 in
    begun_same v old images stage stands (g.D.Disk.reads c.put.new.disk) (c.in_ok-put.ensures.done told) ∙ ap (λ (u : Writing). all_records u (contents old.journal)) c.self.view_is

pub returns-clause-any_moment : goal.returns-clause-any_moment
returns-clause-any_moment g c told =
    let v = the_view c.self.inside in
    let old = g.D.Disk.reads c.args.disk.now in
    let images = g.D.Disk.images c.args.disk.now in
    let stands = subst (λ (u : Writing). WriterStands u old images) (sym c.self.view_is) (c.requires.stands told) in
    let stage = ap (λ (u : Writing). u.stage) c.self.view_is ∙ c.requires.stage.0 in
    subst (λ (u : Writing). LeavesOnly g.D.Disk.moment g.D.Disk.since c.args.disk.now c.put.new.disk (From (PlaysAsBefore u.page_size) images)) c.self.view_is
    (weaker (λ f from. (from.0, from.1, begin_keeps v old images stage stands from.0 f from.1 from.2)) (c.put.ensures.any_moment told))
