use Rattle.std.proofs.Common.{sym, refl, subst}
use Rattle.edge_model.specs.Moments.{weaker}
use Rattle.rollback_journal.specs.declared.stage.Stage.TheVariants.{Closed}
use Rattle.rollback_journal.specs.Writing.{Writing, WriterStands, with_stage}
use Rattle.rollback_journal.proofs.WriterSteps.{shut_keeps, shut_stands, closed_cold}
use Rattle.rollback_journal.proofs.writer.JournalWriter.close_gate.Goals as goal

pub returns-in_err-put-clause-any_moment : goal.returns-in_err-put-clause-any_moment
returns-in_err-put-clause-any_moment g c told =
    let w = c.args.self.now in
    let old = g.D.Disk.reads c.args.disk.now in
    let images = g.D.Disk.images c.args.disk.now in
    let stands = c.requires.stands told in
    weaker (λ f from. (from.0, from.1, shut_keeps w old images stands c.if-begun.ensures c.requires.stage from.0 f from.1 from.2)) (c.put.ensures.any_moment told)

pub returns-then-begun-clause-any_moment : goal.returns-then-begun-clause-any_moment
returns-then-begun-clause-any_moment g c told =
    let w = c.args.self.now in
    let old = g.D.Disk.reads c.args.disk.now in
    let images = g.D.Disk.images c.args.disk.now in
    let stands = c.requires.stands told in
    weaker (λ f from. (from.0, from.1, shut_keeps w old images stands c.if-begun.ensures c.requires.stage from.0 f from.1 from.2)) (c.put.ensures.any_moment told)

pub returns-then-begun-clause-stands : goal.returns-then-begun-clause-stands
returns-then-begun-clause-stands g c told =
    let w = c.args.self.now in
    let old = g.D.Disk.reads c.args.disk.now in
    let images = g.D.Disk.images c.args.disk.now in
    let stands = c.requires.stands told in
    let new = g.D.Disk.reads c.put.new.disk in
    let after = g.D.Disk.images c.put.new.disk in
    let shut = shut_stands w old images stands new (c.in_ok-put.ensures.done told) after (c.put.ensures.crash told) (c.in_ok-put.ensures.synced told) in
    subst (λ (u : Writing). WriterStands (with_stage Closed u) new after) (sym c.self.view_is) shut

pub returns-then-begun-clause-cold : goal.returns-then-begun-clause-cold
returns-then-begun-clause-cold g c told =
    let w = c.args.self.now in
    let old = g.D.Disk.reads c.args.disk.now in
    let images = g.D.Disk.images c.args.disk.now in
    let stands = c.requires.stands told in
    let new = g.D.Disk.reads c.put.new.disk in
    let after = g.D.Disk.images c.put.new.disk in
    let shut = shut_stands w old images stands new (c.in_ok-put.ensures.done told) after (c.put.ensures.crash told) (c.in_ok-put.ensures.synced told) in
    closed_cold (with_stage Closed w) new after shut refl
