use Rattle.edge_files.specs.Looks.{looks_at}
use Rattle.edge_files.proofs.Guarded.{guarded_then, handed_on, is_open_still, left_then}
use Rattle.edge_files.proofs.folder.Folder.prepare_create.Goals as goal

pub returns-clause-journal : goal.returns-clause-journal
returns-clause-journal g c = λ is_journal there.
    handed_on c.attend_to_create-outcome.result c.changed.result c.changed.ensures.same
    (λ guarded tells.
    guarded_then (looks_at g.C.Calls.system g.C.Calls.found c.attend_to_create-outcome.new.files.calls) c.attend_to_create-outcome.new.self c.changed.new.self (guarded tells) c.changed.ensures.notes)
    (c.attend_to_create-outcome.ensures.journal is_journal (is_open_still c.args.self.now.main.identity c.enter_to_change.new.self.main.identity (c.in_ok-enter_to_change.ensures.main there) there))

pub returns-clause-left : goal.returns-clause-left
returns-clause-left g c = λ is_journal there.
    handed_on c.attend_to_create-outcome.result c.changed.result c.changed.ensures.same
    (λ left tells off.
    left_then (looks_at g.C.Calls.system g.C.Calls.found c.attend_to_create-outcome.new.files.calls) c.attend_to_create-outcome.new.self c.changed.new.self c.enter_to_change.new.self.gate
    c.args.self.now.gate c.in_ok-enter_to_change.ensures.gate c.changed.ensures.notes (left tells) off)
    (c.attend_to_create-outcome.ensures.left is_journal (is_open_still c.args.self.now.main.identity c.enter_to_change.new.self.main.identity (c.in_ok-enter_to_change.ensures.main there) there))
