use Rattle.std.proofs.Common.{List, sym, subst, rules}
use mir.Val.{SFits}
use mir.Syntax.{w64}
use Rattle.edge_model.specs.Files.{main_of}
use Rattle.pager.specs.Pages.{opened_pages}
use Rattle.sqlcipher_tool.specs.Answer.{Answer}
use Rattle.sqlcipher_tool.specs.Find.{find_answers}
use Rattle.sqlcipher_tool.specs.Reading.{job_due}
use Rattle.sqlcipher_tool.specs.Promises.{AnswersOne}
use Rattle.sqlcipher_tool.specs.declared.reading.Job.{Job}
use Rattle.sqlcipher_tool.proofs.FindAnswers.{passed}
use Rattle.sqlcipher_tool.proofs.reading.job_on_pages.Goals as goal

pub returns-in-Find-clause-answer : goal.returns-in-Find-clause-answer
returns-in-Find-clause-answer g c = λ told.
    let start = c.args.pager.now in
    let pages = opened_pages start.codec (main_of (g.D.Disk.reads start.disk.now)) start.count in
    let before = g.S.Sink.taken c.args.out.now in
    let after = g.S.Sink.taken c.find_pages.new.out in
    let low : SFits w64 c.in-Find.low = search rules in
    let high : SFits w64 c.in-Find.high = search rules in
    subst (λ (job : Job). AnswersOne (job_due job pages) c.find_pages.result g.S.Sink.tells before after) (sym c.in-Find.is)
    (subst (λ (l : List Answer). AnswersOne l c.find_pages.result g.S.Sink.tells before after)
    (passed (λ a b. find_answers pages c.in-Find.name a b) c.in-Find.low c.in-Find.high low high) (c.find_pages.ensures.answer told))
