use Rattle.std.proofs.Common.{refl}
use Rattle.edge_files.proofs.Guarded.{attended, guarded_again, is_open, on_ok_of}
use Rattle.edge_files.proofs.folder.Folder.attend_main.Goals as goal

pub returns-clause-guarded : goal.returns-clause-guarded
returns-clause-guarded g c = λ there.
    let again = c.in_ok-attend_to_write.ensures.again (is_open c.args.self.now.main c.guard.new.self.main c.in_ok-guard.ensures.notes.main there) in
    on_ok_of c.keep.result
    (λ tells.
    guarded_again g.C.Calls.system g.C.Calls.found (λ files. files.calls) again.0 (attended c.guard.new.self _ again.1 refl refl refl refl refl refl refl)
    (c.in_ok-guard.ensures.guarded tells))
