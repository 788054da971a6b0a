use Rattle.std.proofs.Common.{◌≡◌, ℕ, List, true, false, subst}
use Rattle.sqlcipher_tool.specs.Words.{texts}
use Rattle.sqlcipher_cli.specs.Exit.{EndsCommand, asks_help, asks_version}
use Rattle.sqlcipher_cli.proofs.Endings.{by_help, by_neither, by_version, ends_command, ends_text}
use Rattle.sqlcipher_cli.proofs.carry_out.Goals as goal

pub returns-then-asks_help : goal.returns-then-asks_help
returns-then-asks_help c =
    let help_is : asks_help (texts c.args.words.now) ≡ true = cc in
    ends_text (texts c.args.words.now) c.print.result (by_help (texts c.args.words.now) help_is) c.print.ensures

pub returns-then-asks_version : goal.returns-then-asks_version
returns-then-asks_version c =
    let help_is : asks_help (texts c.args.words.now) ≡ false = cc in
    let version_is : asks_version (texts c.args.words.now) ≡ true = cc in
    ends_text (texts c.args.words.now) c.print-then-asks_version.result (by_version (texts c.args.words.now) help_is version_is) c.print-then-asks_version.ensures

pub returns : goal.returns
returns c =
    let help_is : asks_help (texts c.args.words.now) ≡ false = cc in
    let version_is : asks_version (texts c.args.words.now) ≡ false = cc in
    ends_command (texts c.args.words.now) c.serve.result (by_neither (texts c.args.words.now) help_is version_is)
    (subst (λ (words : List (List ℕ)). EndsCommand words c.serve.result) c.behind_file.ensures (record {
      usage = c.serve.ensures.usage;
      refused = c.serve.ensures.refused;
      no_usage = c.serve.ensures.no_usage;
      input_fault = c.serve.ensures.input_fault;
      entropy_fault = c.serve.ensures.entropy_fault;
    }))
