use Rattle.text_lines.proofs.Parsing.{no_text}
use Rattle.text_lines.proofs.numbers.number_of.Goals as goal

pub returns-in-Err : goal.returns-in-Err
returns-in-Err c = no_text c.args.word.now c.in-Err.ensures.cases.0
