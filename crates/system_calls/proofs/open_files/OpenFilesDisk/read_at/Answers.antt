use Rattle.std.specs.Prelude.{IsTrue, length, take}
use Rattle.edge_model.specs.Files.{read_from}
use Rattle.system_calls.proofs.Seen.{same_value, whole_read}
use Rattle.system_calls.proofs.open_files.OpenFilesDisk.read_at.Goals as goal

pub returns-clause-told : goal.returns-clause-told
returns-clause-told g c =
    same_value _ c.settle.result c.read_full-outcome.result c.settle.ensures.same c.settle.ensures.value
    (whole_read (IsTrue g.C.Calls.tells) (read_from c.args.at (length c.args.buf.now)) c.args.role _ (g.C.Calls.system c.ready.new.self.calls)
    (λ count. take count c.read_full-outcome.new.buf) c.read_full-outcome.result c.in_ok-ready.ensures.at c.ready.ensures.same c.read_full-outcome.ensures.told)
