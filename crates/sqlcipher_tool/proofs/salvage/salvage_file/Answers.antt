use Rattle.std.proofs.Common.{◌≡◌, List, ℕ, [], ◌∷◌, Option, sym, ap, subst, arith}
use Rattle.std.specs.Prelude.{unwrap_or}
use Rattle.page_codec.specs.Page.{FileKeys, keys_of}
use Rattle.edge_model.specs.Files.{main_of}
use Rattle.pager.specs.Reads.{then_read}
use Rattle.sqlcipher_tool.specs.Answer.{Answer}
use Rattle.sqlcipher_tool.specs.Promises.{AnswersOne}
use Rattle.sqlcipher_tool.specs.Salvage.{salvage_answer, salvaged_answer}
use Rattle.sqlcipher_tool.proofs.Salvaging.{stop_due}
use Rattle.sqlcipher_tool.proofs.Verified.{stop_one}
use Rattle.sqlcipher_tool.proofs.salvage.salvage_file.Goals as goal

pub returns-in-Ok-clause-answer : goal.returns-in-Ok-clause-answer
returns-in-Ok-clause-answer g c = λ told.
    let main = main_of (g.D.Disk.reads c.args.disk.now) in
    let keys = keys_of c.args.profile c.args.secret.now main in
    let due : Answer → Type 0 = λ answer. AnswersOne (answer ∷ []) c.salvage_pages.result g.S.Sink.tells (g.S.Sink.taken c.args.out.now) (g.S.Sink.taken c.salvage_pages.new.out) in
    let same : main_of (g.D.Disk.reads c.codec_to_salvage.new.disk) ≡ main = ap main_of (c.in-Ok.ensures.only_read told).stays in
    subst (λ (o : Option Answer). due (unwrap_or o (salvaged_answer keys main))) (sym (c.in-Ok.ensures.none told))
    (subst (λ (k : FileKeys). due (salvaged_answer k main)) (c.in-Ok.ensures.codec told)
    (subst (λ (file : List ℕ). due (salvaged_answer c.in-Ok.codec file)) same (c.salvage_pages.ensures.answer told)))

pub returns-in-Ok-clause-only_read : goal.returns-in-Ok-clause-only_read
returns-in-Ok-clause-only_read g c = λ told. then_read (c.in-Ok.ensures.only_read told) (c.salvage_pages.ensures.only_read told)

pub returns-in-Err-clause-answer : goal.returns-in-Err-clause-answer
returns-in-Err-clause-answer g c = λ told.
    let main = main_of (g.D.Disk.reads c.args.disk.now) in
    stop_one (salvage_answer c.args.profile c.args.secret.now main ∷ []) c.in-Err.stop c.conclude_stop.result g.S.Sink.tells (g.S.Sink.taken c.args.out.now) (g.S.Sink.taken c.conclude_stop.new.out)
    (omega arith)
    (λ answer. stop_due c.args.profile c.args.secret.now main c.in-Err.stop answer (c.in-Err.ensures.stop told))
    c.conclude_stop.ensures.status c.conclude_stop.ensures.text
    (λ is. let failed = c.conclude_stop.ensures.disk is in (failed.0, ap g.S.Sink.taken failed.1))
    (λ is. let starved = c.conclude_stop.ensures.memory is in (starved.0, ap g.S.Sink.taken starved.1))
