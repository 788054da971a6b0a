use Rattle.std.proofs.Common.{◌∙◌, ℕ, List, Some, Result, inr, sym, ap}
use Rattle.edge_model.specs.Files.{main_of}
use Rattle.pager.specs.Opening.{Opened}
use Rattle.pager.specs.declared.opening.OpenError.{OpenError}
use Rattle.sqlcipher_tool.specs.Answer.{done}
use Rattle.sqlcipher_tool.specs.Header.{opened_answer}
use Rattle.sqlcipher_tool.specs.Opening.{opened_with}
use Rattle.sqlcipher_tool.proofs.Openings.{unopened_told}
use Rattle.sqlcipher_tool.proofs.header.describe_main.Goals as goal

pub returns-in-Ok-clause-told : goal.returns-in-Ok-clause-told
returns-in-Ok-clause-told g c = λ told.
    inr (inr (ap (λ (text : List ℕ). Some (done text)) c.describe_opened.ensures.told
    ∙ sym (ap (λ (r : Result Opened OpenError). Some (opened_answer r)) (c.in-Ok.ensures.opens told))))

pub returns-in-Err-clause-told : goal.returns-in-Err-clause-told
returns-in-Err-clause-told g c = λ told.
    unopened_told c.in-Err.stop (opened_with c.args.profile c.args.secret.now (main_of (g.D.Disk.reads c.args.disk.now))) (c.in-Err.ensures.stop told)
