use Rattle.std.proofs.Common.{◌∙◌}
use Rattle.sqlcipher_cli.proofs.Naming.{found_as, reads_found}
use Rattle.sqlcipher_cli.proofs.asked.Asked.reader.Goals as goal

pub returns-in-Some-clause-own : goal.returns-in-Some-clause-own
returns-in-Some-clause-own c = λ command formed reads.
    let found = c.in-Some.ensures.carried command formed in
    c.reader.ensures.own (reads_found c.in-Some.word command found ∙ reads) ∙ found_as c.in-Some.word command found

pub returns-in-Some-clause-other : goal.returns-in-Some-clause-other
returns-in-Some-clause-other c = λ command formed other.
    c.reader.ensures.other (reads_found c.in-Some.word command (c.in-Some.ensures.carried command formed) ∙ other)
