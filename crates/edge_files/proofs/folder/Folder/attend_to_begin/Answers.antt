use Rattle.std.proofs.Common.{refl}
use Rattle.edge_files.specs.Looks.{looks_at}
use Rattle.edge_files.proofs.Guarded.{attended, guarded_again, guarded_ungated, is_open, left_again, on_ok_of}
use Rattle.edge_files.proofs.folder.Folder.attend_to_begin.Goals as goal

pub returns-clause-guarded : goal.returns-clause-guarded
returns-clause-guarded g c = λ there.
    let again = c.in_ok-attend_to_write_where.ensures.again (is_open c.args.self.now.main c.guard.new.self.main c.in_ok-guard.ensures.notes.main there) in
    on_ok_of c.unbarred.result
    (λ tells.
    guarded_ungated (looks_at g.C.Calls.system g.C.Calls.found c.attend_to_write_where.new.files.calls) c.guard.new.self _ again.1 refl refl refl refl refl
    (guarded_again g.C.Calls.system g.C.Calls.found (λ files. files.calls) again.0 (attended c.guard.new.self c.guard.new.self refl refl refl refl refl refl refl refl)
    (c.in_ok-guard.ensures.guarded tells)))

pub returns-clause-left : goal.returns-clause-left
returns-clause-left g c = λ there.
    let again = c.in_ok-attend_to_write_where.ensures.again (is_open c.args.self.now.main c.guard.new.self.main c.in_ok-guard.ensures.notes.main there) in
    on_ok_of c.unbarred.result
    (λ tells off.
    left_again g.C.Calls.system g.C.Calls.found (λ files. files.calls) c.args.self.now.gate again.0 c.in_ok-guard.ensures.notes.gate (c.in_ok-guard.ensures.guarded tells) off)
