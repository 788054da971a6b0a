use Rattle.std.proofs.Common.{ap}
use Rattle.sqlcipher_tool.specs.Answer.{first_answer}
use Rattle.page_codec.specs.Page.{keys_of}
use Rattle.edge_model.specs.Files.{main_of}
use Rattle.sqlcipher_tool.specs.Tags.{tags_causes, file_answer}
use Rattle.sqlcipher_tool.proofs.Conclusions.{no_part, stop_text}
use Rattle.sqlcipher_tool.proofs.tags.tags.Goals as goal

pub returns-in-Err-clause-text : goal.returns-in-Err-clause-text
returns-in-Err-clause-text g c = λ printed told.
    let main = main_of (g.D.Disk.reads c.args.disk.now) in
    let profile = c.args.profile in
    let secret = c.args.secret.now in
    stop_text c.in-Err.stop (first_answer (tags_causes profile secret main))
    (file_answer (keys_of profile secret main) main) c.conclude_stop.result (g.S.Sink.taken c.args.out.now)
    (g.S.Sink.taken c.conclude_stop.new.out)
    (c.in-Err.ensures.stop told)
    (λ answer is. c.conclude_stop.ensures.text answer is printed)
    (λ is. let failed = c.conclude_stop.ensures.disk is in (failed.0, ap g.S.Sink.taken failed.1))
    (λ is. let starved = c.conclude_stop.ensures.memory is in (starved.0, ap g.S.Sink.taken starved.1))

pub returns-in-Err-clause-disk_text : goal.returns-in-Err-clause-disk_text
returns-in-Err-clause-disk_text g c = λ printed told is. no_part _ _ _ (ap g.S.Sink.taken (c.conclude_stop.ensures.disk (c.conclude_stop.ensures.no_disk is)).1)
