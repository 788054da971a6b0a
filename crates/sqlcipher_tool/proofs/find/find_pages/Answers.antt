use Rattle.std.proofs.Common.{ℕ, List, [], ◌∷◌, Option, Ok, Err, sym, ap, subst, ◌∙◌}
use mir.Val.{of_z, to_z}
use mir.Syntax.{w64}
use Rattle.db_format.specs.Pages.{Pages}
use Rattle.pager.specs.Causes.{MayRefuse}
use Rattle.edge_model.specs.Files.{main_of}
use Rattle.pager.specs.Pages.{opened_pages}
use Rattle.rekey_job.proofs.Stopped.{pages_same}
use Rattle.rowid_find.specs.Table.{IsSearchedSchema, IsTableRead, at_root, no_table}
use Rattle.sqlcipher_tool.specs.Answer.{Answer, refused}
use Rattle.sqlcipher_tool.specs.Find.{find_answers, rows_answer}
use Rattle.sqlcipher_tool.specs.Promises.{AnswersOne}
use Rattle.sqlcipher_tool.specs.declared.status.Refusal.TheVariants.{NoTable}
use Rattle.sqlcipher_tool.proofs.Answered.{printed_one}
use Rattle.sqlcipher_tool.proofs.FindAnswers.{passed, table_due, unread_due}
use Rattle.sqlcipher_tool.proofs.SomeDue.{find_some}
use Rattle.sqlcipher_tool.proofs.Verified.{stop_one}
use Rattle.sqlcipher_tool.proofs.find.find_pages.Goals as goal

pub returns-in-Ok-Some-clause-answer : goal.returns-in-Ok-Some-clause-answer
returns-in-Ok-Some-clause-answer g c = λ told.
    let start = c.args.pager.now in
    let now = c.table_root.new.source in
    let reads = g.D.Disk.reads in
    let pages = opened_pages start.codec (main_of (reads start.disk.now)) start.count in
    let name = c.args.name.now in
    let first = c.table_root.ensures.reads in
    let same = pages_same start.codec now.codec (reads start.disk.now) (reads now.disk.now) start.count now.count first.2 (first.0.only_read told).stays first.4 in
    let read = subst (λ (n : List ℕ). IsTableRead (MayRefuse g.D.Disk.tells) pages n (Ok c.in-Ok-Some.field-0)) c.as_bytes.ensures (c.in-Ok-Some.ensures.found told) in
    let found = subst (λ (o : Option ℕ). IsSearchedSchema (MayRefuse g.D.Disk.tells) pages name (Ok o)) c.in-Ok-Some.field-0-is read in
    let before = g.S.Sink.taken c.args.out.now in
    let after = g.S.Sink.taken c.print_rows.new.out in
    let low = to_z w64 (of_z w64 c.args.low) in
    let high = to_z w64 (of_z w64 c.args.high) in
    subst (λ (l : List Answer). AnswersOne l c.print_rows.result g.S.Sink.tells before after)
    (sym (table_due pages name c.args.low c.args.high (at_root c.in-Ok-Some.root) found.sound found.found))
    (subst (λ (a : Answer). AnswersOne (a ∷ []) c.print_rows.result g.S.Sink.tells before after)
    (ap (λ (q : Pages). rows_answer q c.in-Ok-Some.root low high) same ∙ passed (λ a b. rows_answer pages c.in-Ok-Some.root a b) c.args.low c.args.high c.ranges.low c.ranges.high)
    (c.print_rows.ensures.answer told))

pub returns-in-Ok-None-clause-answer : goal.returns-in-Ok-None-clause-answer
returns-in-Ok-None-clause-answer g c = λ told.
    let start = c.args.pager.now in
    let pages = opened_pages start.codec (main_of (g.D.Disk.reads start.disk.now)) start.count in
    let name = c.args.name.now in
    let read = subst (λ (n : List ℕ). IsTableRead (MayRefuse g.D.Disk.tells) pages n (Ok c.in-Ok-None.field-0)) c.as_bytes.ensures (c.in-Ok-None.ensures.found told) in
    let found = subst (λ (o : Option ℕ). IsSearchedSchema (MayRefuse g.D.Disk.tells) pages name (Ok o)) c.in-Ok-None.field-0-is read in
    let before = g.S.Sink.taken c.args.out.now in
    let after = g.S.Sink.taken c.conclude_refusal.new.out in
    subst (λ (l : List Answer). AnswersOne l c.conclude_refusal.result g.S.Sink.tells before after)
    (sym (table_due pages name c.args.low c.args.high no_table found.sound found.found))
    (printed_one (refused NoTable) c.conclude_refusal.result g.S.Sink.tells before after tt c.conclude_refusal.ensures.status c.conclude_refusal.ensures.text)

pub returns-in-Err-clause-answer : goal.returns-in-Err-clause-answer
returns-in-Err-clause-answer g c = λ told.
    let start = c.args.pager.now in
    let pages = opened_pages start.codec (main_of (g.D.Disk.reads start.disk.now)) start.count in
    let name = c.args.name.now in
    let read = subst (λ (n : List ℕ). IsTableRead (MayRefuse g.D.Disk.tells) pages n (Err c.in-Err.error)) c.as_bytes.ensures (c.in-Err.ensures.found told) in
    stop_one (find_answers pages name c.args.low c.args.high) c.walk_stop.result c.conclude_stop.result g.S.Sink.tells (g.S.Sink.taken c.args.out.now) (g.S.Sink.taken c.conclude_stop.new.out)
    (find_some pages name c.args.low c.args.high)
    (λ answer is. unread_due g.D.Disk.tells pages name c.args.low c.args.high c.in-Err.error c.walk_stop.result told c.walk_stop.ensures read answer is)
    c.conclude_stop.ensures.status c.conclude_stop.ensures.text
    (λ is. let failed = c.conclude_stop.ensures.disk is in (failed.0, ap g.S.Sink.taken failed.1))
    (λ is. let starved = c.conclude_stop.ensures.memory is in (starved.0, ap g.S.Sink.taken starved.1))
