use Rattle.std.proofs.Common.{◌≡◌, ◌∙◌, List, ℕ, Result, ap, subst, sym}
use Rattle.edge_model.specs.Files.{main_of}
use Rattle.page_codec.specs.Page.{FileKeys, keys_of}
use Rattle.pager.specs.Opening.{Opened}
use Rattle.pager.specs.Pages.{opened_pages}
use Rattle.pager.specs.Reads.{then_read}
use Rattle.pager.specs.declared.opening.OpenError.{OpenError}
use Rattle.sqlcipher_tool.specs.Answer.{Answer}
use Rattle.sqlcipher_tool.specs.Header.{header_answer}
use Rattle.sqlcipher_tool.specs.Opening.{opened_with}
use Rattle.sqlcipher_tool.specs.Promises.{AnswersOne}
use Rattle.sqlcipher_tool.specs.Reading.{job_due, reading_answers}
use Rattle.sqlcipher_tool.specs.Tags.{tags_answer}
use Rattle.sqlcipher_tool.specs.Verify.{opened_answers}
use Rattle.sqlcipher_tool.specs.Words.{shows_rows}
use Rattle.sqlcipher_tool.specs.declared.reading.Reading.{Reading}
use Rattle.sqlcipher_tool.proofs.Answered.{answers_one}
use Rattle.sqlcipher_tool.proofs.Conclusions.{no_part}
use Rattle.sqlcipher_tool.proofs.SomeDue.{job_some, opened_some}
use Rattle.sqlcipher_tool.proofs.Verified.{stop_one}
use Rattle.sqlcipher_tool.proofs.VerifiedFile.{unopened_due}
use Rattle.sqlcipher_tool.proofs.reading.read_recovered.Goals as goal

pub returns-in-Tags-clause-answer : goal.returns-in-Tags-clause-answer
returns-in-Tags-clause-answer g c = λ told.
    let main = main_of (g.D.Disk.reads c.args.disk.now) in
    let before = g.S.Sink.taken c.args.out.now in
    let after = g.S.Sink.taken c.tags.new.out in
    subst (λ (reading : Reading). AnswersOne (reading_answers reading c.args.profile c.args.secret.now main) c.tags.result g.S.Sink.tells before after) (sym c.in-Tags.is)
    (answers_one (tags_answer c.args.profile c.args.secret.now main) c.tags.result g.S.Sink.tells before after
    (c.tags.ensures.status told) (λ printed. c.tags.ensures.text printed told) (λ printed is. c.tags.ensures.disk_text printed told is)
    (λ is. ap g.S.Sink.taken (c.tags.ensures.memory is)) c.tags.ensures.causes.input c.tags.ensures.causes.entropy)

pub returns-in-Header-clause-answer : goal.returns-in-Header-clause-answer
returns-in-Header-clause-answer g c = λ told.
    let main = main_of (g.D.Disk.reads c.args.disk.now) in
    let before = g.S.Sink.taken c.args.out.now in
    let after = g.S.Sink.taken c.header.new.out in
    subst (λ (reading : Reading). AnswersOne (reading_answers reading c.args.profile c.args.secret.now main) c.header.result g.S.Sink.tells before after) (sym c.in-Header.is)
    (answers_one (header_answer c.args.profile c.args.secret.now main) c.header.result g.S.Sink.tells before after
    (c.header.ensures.status told) (λ printed. c.header.ensures.text printed told) (λ printed is. no_part _ _ _ (ap g.S.Sink.taken (c.header.ensures.disk_text is)))
    (λ is. ap g.S.Sink.taken (c.header.ensures.memory_text is)) c.header.ensures.causes.input c.header.ensures.causes.entropy)

pub returns-in-Salvage-clause-answer : goal.returns-in-Salvage-clause-answer
returns-in-Salvage-clause-answer g c = λ told.
    let main = main_of (g.D.Disk.reads c.args.disk.now) in
    subst (λ (reading : Reading). AnswersOne (reading_answers reading c.args.profile c.args.secret.now main) c.salvage_file.result g.S.Sink.tells (g.S.Sink.taken c.args.out.now)
    (g.S.Sink.taken c.salvage_file.new.out)) (sym c.in-Salvage.is) (c.salvage_file.ensures.answer told)

pub returns-in-Ok-clause-answer : goal.returns-in-Ok-clause-answer
returns-in-Ok-clause-answer g c = λ told.
    let profile = c.args.profile in
    let secret = c.args.secret.now in
    let start = main_of (g.D.Disk.reads c.args.disk.now) in
    let keys = keys_of profile secret start in
    let job = c.in-OnPages.job in
    let file = c.in-Ok.file in
    let due : List Answer → Type 0 = λ answers. AnswersOne answers c.job_on_file.result g.S.Sink.tells (g.S.Sink.taken c.args.out.now) (g.S.Sink.taken c.job_on_file.new.out) in
    let same : main_of (g.D.Disk.reads c.open_main.new.disk) ≡ start = ap main_of (c.in-Ok.ensures.only_read told).stays in
    let one = subst (λ (k : FileKeys). due (job_due job (opened_pages k start file.count))) (c.in-Ok.ensures.codec told)
    (subst (λ (main : List ℕ). due (job_due job (opened_pages file.codec main file.count))) same (c.job_on_file.ensures.answer told)) in
    subst (λ (reading : Reading). due (reading_answers reading profile secret start)) (sym c.in-OnPages.is)
    (subst (λ (opened : Result Opened OpenError). due (opened_answers opened (λ n. job_due job (opened_pages keys start n)))) (sym (c.in-Ok.ensures.opens told)) one)

pub returns-in-Ok-clause-only_read : goal.returns-in-Ok-clause-only_read
returns-in-Ok-clause-only_read g c = λ told. then_read (c.in-Ok.ensures.only_read told) (c.job_on_file.ensures.only_read told)

pub returns-in-Ok-clause-line : goal.returns-in-Ok-clause-line
returns-in-Ok-clause-line g c = λ printed way. c.job_on_file.ensures.line printed (λ is. way (ap shows_rows c.in-OnPages.is ∙ is))

pub returns-in-Err-clause-answer : goal.returns-in-Err-clause-answer
returns-in-Err-clause-answer g c = λ told.
    let profile = c.args.profile in
    let secret = c.args.secret.now in
    let main = main_of (g.D.Disk.reads c.args.disk.now) in
    let opened = opened_with profile secret main in
    let job = λ (n : ℕ). job_due c.in-OnPages.job (opened_pages (keys_of profile secret main) main n) in
    subst (λ (reading : Reading). AnswersOne (reading_answers reading profile secret main) c.conclude_stop.result g.S.Sink.tells (g.S.Sink.taken c.args.out.now) (g.S.Sink.taken c.conclude_stop.new.out)) (sym c.in-OnPages.is)
    (stop_one (opened_answers opened job) c.in-Err.stop c.conclude_stop.result g.S.Sink.tells (g.S.Sink.taken c.args.out.now) (g.S.Sink.taken c.conclude_stop.new.out)
    (opened_some opened job (λ n. job_some c.in-OnPages.job (opened_pages (keys_of profile secret main) main n)))
    (unopened_due opened job c.in-Err.stop (c.in-Err.ensures.stop told))
    c.conclude_stop.ensures.status c.conclude_stop.ensures.text
    (λ is. let failed = c.conclude_stop.ensures.disk is in (failed.0, ap g.S.Sink.taken failed.1))
    (λ is. let starved = c.conclude_stop.ensures.memory is in (starved.0, ap g.S.Sink.taken starved.1)))
