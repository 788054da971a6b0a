use Rattle.std.proofs.Common.{List, ℕ, Ok, sym, ap, ◌∙◌, subst}
use Rattle.btree_model.proofs.UnmarkedLemmas.{and_left}
use Rattle.db_format.specs.Seen.{marked}
use Rattle.edge_model.specs.Files.{main_of}
use Rattle.pager.specs.Pages.{opened_pages}
use Rattle.sqlcipher_tool.specs.Answer.{Puts, done}
use Rattle.sqlcipher_tool.specs.Plain.{refused_but}
use Rattle.sqlcipher_tool.specs.Text.{verify_report}
use Rattle.sqlcipher_tool.specs.Verify.{pages_answers, rest_answers}
use Rattle.sqlcipher_tool.proofs.SomeDue.{rest_some}
use Rattle.sqlcipher_tool.proofs.Answered.{printed_among}
use Rattle.sqlcipher_tool.proofs.Verified.{counted, hold_next, none_left, refused_one, report_due, stopped_one, tags_due}
use Rattle.sqlcipher_tool.proofs.verify.report_census.Goals as goal

pub returns-then-census-eq0-clause-answer : goal.returns-then-census-eq0-clause-answer
returns-then-census-eq0-clause-answer g c = λ told.
    let start = c.args.pager.now in
    let pages = opened_pages start.codec (main_of (g.D.Disk.reads start.disk.now)) start.count in
    let census = c.args.census.now in
    let before = g.S.Sink.taken c.args.out.now in
    let after = g.S.Sink.taken c.conclude.new.out in
    let whole = c.requires told in
    let hold = none_left pages census whole c.if-census-eq0.true in
    printed_among (pages_answers pages) (done (verify_report (counted census))) c.conclude.result g.S.Sink.tells before after
    (report_due pages census whole hold) tt c.conclude.ensures.status
    (λ printed. subst (λ (text : List ℕ). Puts c.conclude.result text before after) c.verify_report-report.ensures (c.conclude.ensures.text printed))

pub returns-in-Ok-None-clause-answer : goal.returns-in-Ok-None-clause-answer
returns-in-Ok-None-clause-answer g c = λ told.
    let start = c.args.pager.now in
    let pages = opened_pages start.codec (main_of (g.D.Disk.reads start.disk.now)) start.count in
    let census = c.args.census.now in
    let status = c.conclude-in-Ok-None.result in
    let before = g.S.Sink.taken c.args.out.now in
    let after = g.S.Sink.taken c.conclude-in-Ok-None.new.out in
    let whole = c.requires told in
    let hold = hold_next (pages_answers pages) (rest_answers pages) (refused_but pages (marked census.leaves.leaves))
    (tags_due pages census.leaves.leaves (and_left _ _ whole.sound) whole.leafs) (sym c.in-Ok-None.field-0-is ∙ c.in-Ok-None.ensures.first told) in
    printed_among (pages_answers pages) (done (verify_report (counted census))) status g.S.Sink.tells before after
    (report_due pages census whole hold) tt c.conclude-in-Ok-None.ensures.status
    (λ printed. subst (λ (first : List ℕ). Puts status (verify_report (counted census)) first after)
    (c.in-Ok-None.ensures.unprinted (ap Ok c.in-Ok-None.field-0-is) printed)
    (subst (λ (text : List ℕ). Puts status text (g.S.Sink.taken c.check_tags.new.out) after) c.verify_report-report.ensures (c.conclude-in-Ok-None.ensures.text printed)))

pub returns-in-Ok-Some-clause-answer : goal.returns-in-Ok-Some-clause-answer
returns-in-Ok-Some-clause-answer g c = λ told.
    let start = c.args.pager.now in
    let pages = opened_pages start.codec (main_of (g.D.Disk.reads start.disk.now)) start.count in
    let census = c.args.census.now in
    let whole = c.requires told in
    refused_one (pages_answers pages) (rest_answers pages) (refused_but pages (marked census.leaves.leaves)) c.in-Ok-Some.page g.S.Sink.tells
    (g.S.Sink.taken c.args.out.now) (g.S.Sink.taken c.check_tags.new.out)
    (tags_due pages census.leaves.leaves (and_left _ _ whole.sound) whole.leafs) (sym c.in-Ok-Some.field-0-is ∙ c.in-Ok-Some.ensures.first told)
    (λ printed. c.in-Ok-Some.ensures.text printed told)

pub returns-in-Err-clause-answer : goal.returns-in-Err-clause-answer
returns-in-Err-clause-answer g c = λ told.
    let start = c.args.pager.now in
    let pages = opened_pages start.codec (main_of (g.D.Disk.reads start.disk.now)) start.count in
    let census = c.args.census.now in
    let whole = c.requires told in
    stopped_one (pages_answers pages) (rest_answers pages) (refused_but pages (marked census.leaves.leaves)) c.in-Err.status g.S.Sink.tells
    (g.S.Sink.taken c.args.out.now) (g.S.Sink.taken c.check_tags.new.out)
    (tags_due pages census.leaves.leaves (and_left _ _ whole.sound) whole.leafs) (rest_some pages) c.in-Err.ensures.fault
    (λ printed. c.in-Err.ensures.part printed told)
