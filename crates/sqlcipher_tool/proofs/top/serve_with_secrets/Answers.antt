use Rattle.std.proofs.Common.{sym, ◌∙◌}
use Rattle.sqlcipher_tool.specs.Promises.{secrets_of}
use Rattle.sqlcipher_tool.proofs.Carrying.{drawing_carries, plain_carries}
use Rattle.sqlcipher_tool.proofs.top.serve_with_secrets.Goals as goal

pub returns-then-draws : goal.returns-then-draws
returns-then-draws g c = drawing_carries c.args.command (secrets_of c.args.secrets.now) c.carry_out.result _ _ _ (sym c.draws.ensures ∙ c.if-draws.true) c.carry_out.ensures

pub returns-else-draws : goal.returns-else-draws
returns-else-draws g c =
    let e = g.E.Entropy in
    plain_carries c.args.command (secrets_of c.args.secrets.now) c.carry_out-else-draws.result _ _ _ e.tells e.faults e.drawn c.args.entropy.now _
    (sym c.draws.ensures ∙ c.if-draws.false) c.carry_out-else-draws.ensures
