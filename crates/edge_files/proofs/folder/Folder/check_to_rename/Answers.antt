use Rattle.std.proofs.Common.{refl}
use Rattle.edge_files.specs.Looks.{looks_at}
use Rattle.edge_files.proofs.Guarded.{attended, guarded_then, on_ok_of}
use Rattle.edge_files.proofs.folder.Folder.check_to_rename.Goals as goal

pub returns-clause-main : goal.returns-clause-main
returns-clause-main g c =
    on_ok_of c.unbarred.result
    (λ tells there.
    guarded_then (looks_at g.C.Calls.system g.C.Calls.found c.args.calls.now) c.require_main_to_rename.new.self _ (c.in_ok-require_main_to_rename.ensures.main tells there)
    (attended c.require_main_to_rename.new.self _ refl refl refl refl refl refl refl refl))
