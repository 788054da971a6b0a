use Rattle.std.proofs.Common.{◌∙◌, sym}
use Rattle.edge_files.specs.Parts.{main_bytes}
use Rattle.edge_files.proofs.PutBack.{within_back}
use Rattle.edge_files.proofs.undo.Undo.put_back_at.Goals as goal

pub returns-in-Some-clause-within : goal.returns-in-Some-clause-within
returns-in-Some-clause-within g c = λ told.
    within_back c.args.self.now c.saturating_mul.result c.args.place c.in-Some.write (main_bytes (g.C.Calls.system c.args.calls.now)) (main_bytes (g.C.Calls.system c.put_back_one.new.calls))
    (sym c.write_in.ensures ∙ c.in-Some.is) (c.put_back_one.ensures.torn told)
