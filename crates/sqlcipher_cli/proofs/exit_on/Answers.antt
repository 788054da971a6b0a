use Rattle.std.proofs.Common.{ℕ, ◌≤◌, sym, subst}
use Rattle.std.proofs.lemmas.Result.{IfOk-weaker}
use Rattle.sqlcipher_cli.proofs.Endings.{few_codes}
use Rattle.sqlcipher_cli.proofs.exit_on.Goals as goal

pub returns-clause-read : goal.returns-clause-read
returns-clause-read c = IfOk-weaker c.args.words _ _ (λ list ends. (c.status_of.result, c.report.ensures, ends)) c.status_of.ensures.read

pub returns-clause-unread : goal.returns-clause-unread
returns-clause-unread c = λ failed. (c.status_of.result, c.report.ensures, c.status_of.ensures.unread failed)

pub returns-clause-codes : goal.returns-clause-codes
returns-clause-codes c = subst (λ (code : ℕ). code ≤ 8) (sym c.report.ensures) (few_codes c.status_of.result)
