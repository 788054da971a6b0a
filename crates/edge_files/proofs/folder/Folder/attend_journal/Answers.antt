use Rattle.std.proofs.Common.{refl}
use Rattle.edge_files.proofs.Guarded.{attended, guarded_again, is_open, on_ok_of}
use Rattle.edge_files.proofs.folder.Folder.attend_journal.Goals as goal

pub returns-clause-guarded : goal.returns-clause-guarded
returns-clause-guarded g c = λ short there.
    let again = c.attend_to_write-2.ensures.again (is_open c.args.self.now.journal c.guard.new.self.journal c.in_ok-guard.ensures.notes.journal there) in
    on_ok_of c.attend_to_write-2.result
    (λ tells.
    guarded_again g.C.Calls.system g.C.Calls.found (λ files. files.calls) again.0 (attended c.guard.new.self _ refl again.1 refl refl refl refl refl refl)
    (c.in_ok-guard.ensures.guarded tells))
