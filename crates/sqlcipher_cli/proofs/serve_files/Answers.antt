use Rattle.sqlcipher_tool.specs.Words.{texts}
use Rattle.sqlcipher_cli.proofs.Endings.{ends_run}
use Rattle.sqlcipher_cli.proofs.serve_files.Goals as goal

pub returns-in-None : goal.returns-in-None
returns-in-None c =
    let run = c.run-status.ensures in
    ends_run (texts c.args.words.now) c.run-status.result run.usage run.usage_comes run.word_refusals (λ failed. (run.input_fault failed).1)
    (λ failed. (run.entropy_fault failed).1)
