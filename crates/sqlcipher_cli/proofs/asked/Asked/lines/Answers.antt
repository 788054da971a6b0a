use Rattle.std.proofs.Common.{Bool, ap, ◌∙◌}
use Rattle.sqlcipher_tool.specs.Words.{texts}
use Rattle.sqlcipher_cli.specs.KeyLines.{lines_of, taken, version_of}
use Rattle.sqlcipher_cli.specs.Named.{word_of}
use Rattle.sqlcipher_cli.specs.Plain.{names_plain}
use Rattle.sqlcipher_cli.specs.declared.commands.Word.{Word}
use Rattle.sqlcipher_cli.proofs.KeyLines.{asked}
use Rattle.sqlcipher_cli.proofs.Naming.{found_as, unfound}
use Rattle.sqlcipher_cli.proofs.asked.Asked.lines.Goals as goal

pub returns-in-Some : goal.returns-in-Some
returns-in-Some c = λ command formed.
    let words = texts c.args.self.now.words.now in
    let first = c.is_plain_word.ensures ∙ ap names_plain c.version.ensures in
    let second = c.is_plain_word-in-Some.ensures ∙ ap names_plain c.third.ensures in
    ap taken (c.lines.ensures
    ∙ ap (λ (word : Word). lines_of word c.is_plain_word.result c.is_plain_word-in-Some.result) (found_as c.in-Some.word command (c.in-Some.ensures.carried command formed))
    ∙ ap (λ (plain : Bool). lines_of (word_of command) plain c.is_plain_word-in-Some.result) first
    ∙ ap (λ (plain : Bool). lines_of (word_of command) (names_plain (version_of words)) plain) second)
    ∙ asked words command formed

pub returns-in-None : goal.returns-in-None
returns-in-None c = λ command formed. absurd (unfound (word_of command) (c.in-None.ensures.carried command formed))
