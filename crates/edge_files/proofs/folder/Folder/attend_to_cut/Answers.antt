use Rattle.std.proofs.Common.{refl}
use Rattle.edge_files.proofs.Guarded.{attended, guarded_again, is_open, on_ok_of}
use Rattle.edge_files.proofs.folder.Folder.attend_to_cut.Goals as goal

pub returns-in_ok-guard-in-Main-clause-main : goal.returns-in_ok-guard-in-Main-clause-main
returns-in_ok-guard-in-Main-clause-main g c = λ is_main there.
    let again = c.attend_to_write.ensures.again (is_open c.args.self.now.main c.guard.new.self.main c.in_ok-guard-in-Main.ensures.notes.main there) in
    on_ok_of c.attend_to_write.result
    (λ tells.
    guarded_again g.C.Calls.system g.C.Calls.found (λ files. files.calls) again.0 (attended c.guard.new.self _ again.1 refl refl refl refl refl refl refl)
    (c.in_ok-guard-in-Main.ensures.guarded tells))
