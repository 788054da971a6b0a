use Rattle.std.proofs.Common.{◌≡◌, ◌⊎◌, sym, subst}
use Rattle.edge_model.specs.Files.{main_of}
use Rattle.sqlcipher_tool.specs.Opening.{opened_with, unopened_answer}
use Rattle.sqlcipher_tool.specs.Stop.{IsOutside, stop_answer}
use Rattle.sqlcipher_tool.specs.declared.opening.Stop.{Stop}
use Rattle.sqlcipher_tool.proofs.Openings.{open_stop}
use Rattle.sqlcipher_tool.proofs.opening.open_main.Goals as goal

pub returns-in-Err-clause-stop : goal.returns-in-Err-clause-stop
returns-in-Err-clause-stop g c = λ told.
    let opened = opened_with c.args.profile c.args.secret.now (main_of (g.D.Disk.reads c.args.disk.now)) in
    subst (λ (stop : Stop). IsOutside stop ⊎ (stop_answer stop ≡ unopened_answer opened)) (sym c.from.ensures)
    (open_stop opened c.in-Err.error (c.in-Err.ensures.refused told))
