use Rattle.std.proofs.Common.{inl, inr, ap, false}
use Rattle.edge_model.specs.Files.{main_of}
use Rattle.sqlcipher_tool.specs.Reading.{reading_answers}
use Rattle.sqlcipher_tool.specs.Recovered.{recovered_main, recovery_of}
use Rattle.sqlcipher_tool.proofs.Behind.{recovery_last}
use Rattle.sqlcipher_tool.proofs.Changed.{stop_last}
use Rattle.sqlcipher_tool.proofs.LeftAlone.{unwritten_read}
use Rattle.sqlcipher_tool.proofs.Readings.{reading_of_file}
use Rattle.sqlcipher_tool.proofs.Recoveries.{read_after}
use Rattle.sqlcipher_tool.proofs.SomeDue.{after_some, reading_some}
use Rattle.sqlcipher_tool.proofs.Verified.{stop_one}
use Rattle.sqlcipher_tool.proofs.VerifiedFile.{answers_recovered, refused_due}
use Rattle.sqlcipher_tool.proofs.reading.read_file.Goals as goal

pub returns-in-Ok-clause-keeps : goal.returns-in-Ok-clause-keeps
returns-in-Ok-clause-keeps g c = λ told.
    read_after g.met.D.Disk.counts_now (c.recover_main.ensures.keeps told) (c.read_recovered.ensures.only_read told)

pub returns-in-Ok-clause-unrecovered : goal.returns-in-Ok-clause-unrecovered
returns-in-Ok-clause-unrecovered g c = λ told is.
    let main = main_of (g.D.Disk.reads c.recover_main.new.disk) in
    absurd (answers_recovered (reading_answers c.args.reading c.args.profile c.args.secret.now main) (reading_of_file c.args.reading c.args.profile c.args.secret.now main)
    c.read_recovered.result g.S.Sink.tells (g.S.Sink.taken c.args.out.now) (g.S.Sink.taken c.read_recovered.new.out) (c.read_recovered.ensures.answer told) is)

pub returns-in-Err-clause-answer : goal.returns-in-Err-clause-answer
returns-in-Err-clause-answer g c = λ told.
    let files = g.D.Disk.reads c.args.disk.now in
    let main = recovered_main c.args.profile files in
    let answers = reading_answers c.args.reading c.args.profile c.args.secret.now main in
    let recovery = recovery_of c.args.profile files in
    stop_one _ c.in-Err.stop c.conclude_stop.result g.S.Sink.tells (g.S.Sink.taken c.args.out.now) (g.S.Sink.taken c.conclude_stop.new.out)
    (after_some recovery answers (reading_some c.args.reading c.args.profile c.args.secret.now main))
    (refused_due recovery answers c.in-Err.stop (c.in-Err.ensures.stop told))
    c.conclude_stop.ensures.status c.conclude_stop.ensures.text
    (λ is. let failed = c.conclude_stop.ensures.disk is in (failed.0, ap g.S.Sink.taken failed.1))
    (λ is. let starved = c.conclude_stop.ensures.memory is in (starved.0, ap g.S.Sink.taken starved.1))

pub returns-in-Ok-clause-untouched : goal.returns-in-Ok-clause-untouched
returns-in-Ok-clause-untouched g c = λ told none.
    unwritten_read g.met.D.Disk.counts_now (c.recover_main.ensures.keeps told).later (c.recover_main.ensures.untouched told none) (c.read_recovered.ensures.only_read told)

pub returns-in-Ok-clause-recovered : goal.returns-in-Ok-clause-recovered
returns-in-Ok-clause-recovered g c = λ told has byte image now. c.in-Ok.ensures.done told byte image ((c.read_recovered.ensures.only_read told).same_images.no_more image now)

pub returns-in-Err-clause-recovered : goal.returns-in-Err-clause-recovered
returns-in-Err-clause-recovered g c = λ told has.
    absurd (recovery_last false c.in-Err.stop c.conclude_stop.result c.in-Err.ensures.of_recovery
    (stop_last c.in-Err.stop c.conclude_stop.result c.conclude_stop.ensures.status
    (λ same. (c.conclude_stop.ensures.disk same).0) (λ same. (c.conclude_stop.ensures.memory same).0)) has)

pub returns-in-Ok-clause-left : goal.returns-in-Ok-clause-left
returns-in-Ok-clause-left g c = λ told no_fault. inl (λ byte image now. c.in-Ok.ensures.done told byte image ((c.read_recovered.ensures.only_read told).same_images.no_more image now))

pub returns-in-Err-clause-left : goal.returns-in-Err-clause-left
returns-in-Err-clause-left g c = λ told no_fault. inr (c.in-Err.ensures.unwritten told (λ is. no_fault (c.conclude_stop.ensures.disk is).0))
