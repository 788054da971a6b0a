use Rattle.edge_files.specs.Looks.{looks_at}
use Rattle.edge_files.proofs.Guarded.{guarded_then, handed_on, is_open, is_open_still}
use Rattle.edge_files.proofs.folder.Folder.prepare_write.Goals as goal

pub returns-clause-main : goal.returns-clause-main
returns-clause-main g c = λ is_main there.
    handed_on c.attend_to_write-outcome.result c.changed.result c.changed.ensures.same
    (λ guarded tells.
    guarded_then (looks_at g.C.Calls.system g.C.Calls.found c.attend_to_write-outcome.new.files.calls) c.attend_to_write-outcome.new.self c.changed.new.self (guarded tells) c.changed.ensures.notes)
    (c.attend_to_write-outcome.ensures.main is_main (is_open_still c.args.self.now.main.identity c.enter_to_change.new.self.main.identity (c.in_ok-enter_to_change.ensures.main there) there))

pub returns-clause-journal : goal.returns-clause-journal
returns-clause-journal g c = λ is_journal short there.
    handed_on c.attend_to_write-outcome.result c.changed.result c.changed.ensures.same
    (λ guarded tells.
    guarded_then (looks_at g.C.Calls.system g.C.Calls.found c.attend_to_write-outcome.new.files.calls) c.attend_to_write-outcome.new.self c.changed.new.self (guarded tells) c.changed.ensures.notes)
    (c.attend_to_write-outcome.ensures.journal is_journal short (is_open c.args.self.now.journal c.enter_to_change.new.self.journal c.in_ok-enter_to_change.ensures.journal there))
