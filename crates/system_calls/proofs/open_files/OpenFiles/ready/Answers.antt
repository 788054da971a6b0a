use Rattle.std.specs.Prelude.{IsTrue}
use Rattle.system_calls.proofs.Seen.{opened_role, done_ok}
use Rattle.system_calls.proofs.open_files.OpenFiles.ready.Goals as goal

pub returns-clause-at : goal.returns-clause-at
returns-clause-at g c =
    done_ok _ c.settle.result _ c.open-outcome.result c.in_ok-settle.was c.settle.ensures.same
    (opened_role (IsTrue g.C.Calls.tells) c.open-outcome.result c.args.role (g.C.Calls.system c.admit.new.self.calls) (g.C.Calls.system c.open-outcome.new.self) c.open-outcome.ensures.done c.open-outcome.ensures.absent)
