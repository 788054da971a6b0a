use Rattle.std.proofs.Common.{sym}
use Rattle.edge_files.specs.Looks.{looks_at}
use Rattle.edge_files.proofs.Guarded.{guarded_then, handed_on, is_open}
use Rattle.edge_files.proofs.folder.Folder.prepare_rename.Goals as goal

pub returns-clause-main : goal.returns-clause-main
returns-clause-main g c =
    handed_on c.check_to_rename-outcome.result c.changed.result c.changed.ensures.same
    (λ guarded tells there.
    guarded_then (looks_at g.C.Calls.system g.C.Calls.found c.enter_to_change.new.files.calls) c.check_to_rename-outcome.new.self c.changed.new.self
    (guarded tells (is_open c.changed.new.self.main c.check_to_rename-outcome.new.self.main (sym c.changed.ensures.notes.main) there)) c.changed.ensures.notes)
    c.check_to_rename-outcome.ensures.main
