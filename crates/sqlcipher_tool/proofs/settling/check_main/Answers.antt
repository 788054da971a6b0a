use Rattle.std.proofs.Common.{ℕ, List, subst}
use Rattle.sqlcipher_tool.specs.Settling.{CanBeLaid}
use Rattle.sqlcipher_tool.proofs.CheckedPair.{on_ok}
use Rattle.sqlcipher_tool.proofs.settling.check_main.Goals as goal

pub returns-in-Ok-clause-clean : goal.returns-in-Ok-clause-clean
returns-in-Ok-clause-clean g c =
    on_ok c.check_recovered.result c.check_recovered.ensures.clean (λ laid told.
    subst (λ (l : List ℕ). CanBeLaid c.args.profile c.args.secrets.now.first l) (c.in-Ok.ensures.main told) (laid told))
