use Rattle.sqlcipher_tool.specs.Words.{texts}
use Rattle.sqlcipher_cli.proofs.Endings.{ends_with_log}
use Rattle.sqlcipher_cli.proofs.serve_with_log.Goals as goal

pub returns-after-not-is_clear : goal.returns-after-not-is_clear
returns-after-not-is_clear c =
    let run = c.run_with_log-status.ensures in
    ends_with_log (texts c.args.words.now) c.args.profile c.run_with_log-status.result.0 c.requires.asked run.no_usage (λ failed. (run.input_fault failed).1) run.no_entropy

pub returns-in-Err : goal.returns-in-Err
returns-in-Err c =
    let run = c.run_with_log-status.ensures in
    ends_with_log (texts c.args.words.now) c.args.profile c.run_with_log-status.result.0 c.requires.asked run.no_usage (λ failed. (run.input_fault failed).1) run.no_entropy
