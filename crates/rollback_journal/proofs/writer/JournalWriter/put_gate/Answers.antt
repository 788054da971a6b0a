use Rattle.std.proofs.Common.{◌≡◌, ◌∷◌, [], ℕ, ap, subst}
use Rattle.edge_model.specs.Files.{with_file_bytes, written}
use Rattle.edge_model.specs.Moments.{weaker}
use Rattle.rollback_journal.specs.Writing.{Writing}
use Rattle.rollback_journal.proofs.WriterRuns.{ok_one, ok_two, torn_at}
use Rattle.rollback_journal.proofs.WriterSteps.{gate_middle, gate_all, gate_stands}
use Rattle.rollback_journal.proofs.writer.JournalWriter.put_gate.Goals as goal

pub returns-clause-stands : goal.returns-clause-stands
returns-clause-stands g c =
    let w = c.args.self.now in
    let old = g.D.Disk.reads c.args.disk.now in
    let new = g.D.Disk.reads c.put.new.disk in
    let images = g.D.Disk.images c.args.disk.now in
    let e = ap (λ (s : Writing). s.at) c.self.view_is in
    ok_two c.put.result (λ done synced told.
    gate_stands w old images c.requires.stage.0 (c.requires.stands told) (c.requires.headed told) (c.requires.whole told) c.requires.stage.1 new
    (subst (λ (k : ℕ). new.journal ≡ with_file_bytes (written k (217 ∷ [])) old.journal) e (done told)) (g.D.Disk.images c.put.new.disk) (λ f here. torn_at c.self.inside.at w.at 1 old images e f (c.put.ensures.crash told f here)) (synced told))
    c.put.ensures.done c.put.ensures.synced

pub returns-clause-records : goal.returns-clause-records
returns-clause-records g c =
    let w = c.args.self.now in
    let old = g.D.Disk.reads c.args.disk.now in
    let new = g.D.Disk.reads c.put.new.disk in
    let images = g.D.Disk.images c.args.disk.now in
    let e = ap (λ (s : Writing). s.at) c.self.view_is in
    ok_one c.put.result (λ done told.
    gate_all w old images c.requires.stage.0 (c.requires.stands told) (c.requires.headed told) (c.requires.whole told) c.requires.stage.1 new
    (subst (λ (k : ℕ). new.journal ≡ with_file_bytes (written k (217 ∷ [])) old.journal) e (done told)))
    c.put.ensures.done

pub returns-clause-any_moment : goal.returns-clause-any_moment
returns-clause-any_moment g c told =
    let w = c.args.self.now in
    let old = g.D.Disk.reads c.args.disk.now in
    let images = g.D.Disk.images c.args.disk.now in
    let e = ap (λ (s : Writing). s.at) c.self.view_is in
    weaker (λ f from.
    let was = torn_at c.self.inside.at w.at 1 old images e f from in
    (was.0, was.1, gate_middle w old images c.requires.stage.0 (c.requires.stands told) (c.requires.headed told) (c.requires.whole told) c.requires.stage.1 was.0 f was.1 was.2))
    (c.put.ensures.any_moment told)
