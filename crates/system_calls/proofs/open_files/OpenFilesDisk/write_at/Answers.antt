use Rattle.std.specs.Prelude.{IsTrue, length}
use Rattle.edge_model.specs.Files.{written, Torn}
use Rattle.system_calls.proofs.Seen.{whole_step, part_step, image_step, same_answer}
use Rattle.system_calls.proofs.Runs.{held_passes, passes_then}
use Rattle.system_calls.proofs.open_files.OpenFilesDisk.write_at.Goals as goal

pub returns-clause-done : goal.returns-clause-done
returns-clause-done g c =
    same_answer _ c.changed.result c.write_all-outcome.result c.changed.ensures.same
    (whole_step (IsTrue g.C.Calls.tells) c.write_all-outcome.result (written c.args.at c.args.bytes.now) c.args.role _ (g.C.Calls.system c.ready.new.self.calls) (g.C.Calls.system c.write_all-outcome.new.self) (g.C.Calls.next c.ready.new.self.calls)
    c.in_ok-ready.ensures.at c.ready.ensures.same (λ told. g.met.C.Calls.numbered c.ready.new.self.calls _ (g.met.C.Calls.reads_now c.ready.new.self.calls)) c.write_all-outcome.ensures.done)

pub returns-clause-others : goal.returns-clause-others
returns-clause-others g c told =
    part_step (Torn c.args.at (length c.args.bytes.now)) c.args.role _ (g.C.Calls.system c.ready.new.self.calls) (g.C.Calls.system c.write_all-outcome.new.self) (g.C.Calls.next c.ready.new.self.calls)
    (c.in_ok-ready.ensures.at told) (c.ready.ensures.same told) (g.met.C.Calls.numbered c.ready.new.self.calls _ (g.met.C.Calls.reads_now c.ready.new.self.calls)) (c.write_all-outcome.ensures.others told)

pub returns-clause-crash : goal.returns-clause-crash
returns-clause-crash g c told =
    image_step (Torn c.args.at (length c.args.bytes.now)) c.args.role _ (g.C.Calls.system c.ready.new.self.calls) (g.C.Calls.images c.args.self.now.calls) (g.C.Calls.images c.ready.new.self.calls) (g.C.Calls.images c.write_all-outcome.new.self)
    (c.in_ok-ready.ensures.at told) (c.ready.ensures.same told) (c.ready.new.self.home c.in_ok-ready.ensures.free told) (c.ready.ensures.crash told) (c.write_all-outcome.ensures.crash told)

pub returns-clause-time : goal.returns-clause-time
returns-clause-time g c told =
    held_passes (λ f. f.calls)
    (passes_then g.met.C.Calls.counts_now (c.ready.ensures.crash told) (c.ready.ensures.time told) (c.write_all-outcome.ensures.time told))
