use Rattle.std.proofs.lemmas.Result.{on_ok_weaker}
use Rattle.edge_files.specs.Looks.{looks_at}
use Rattle.edge_files.proofs.Guarded.{guarded_then}
use Rattle.edge_files.proofs.folder.Folder.guard.Goals as goal

pub returns-clause-guarded : goal.returns-clause-guarded
returns-clause-guarded g c =
    on_ok_weaker c.check-outcome.result
    (λ guarded tells.
    guarded_then (looks_at g.C.Calls.system g.C.Calls.found c.args.calls.now) c.check-outcome.new.self c.meet.new.self (guarded tells) c.meet.ensures.notes) c.check-outcome.ensures.guarded
