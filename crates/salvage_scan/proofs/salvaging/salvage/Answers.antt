use Rattle.std.proofs.Common.{◌≡◌, ◌/◌, ℕ, length, ap, sym, subst, ◌∙◌}
use Rattle.cipher_profile.specs.declared.profile.Profile.{Profile}
use Rattle.edge_model.specs.Files.{Files, main_of}
use Rattle.salvage_scan.specs.Answer.{IsKeyAnswered, IsReported}
use Rattle.salvage_scan.specs.Salvage.{file_pages}
use Rattle.salvage_scan.proofs.AnswerSteps.{none_reported, stop_later}
use Rattle.salvage_scan.proofs.salvaging.salvage.Goals as goal

pub returns-in-Err-clause-on : goal.returns-in-Err-clause-on
returns-in-Err-clause-on g c told = none_reported g.K.Sink.tells (file_pages c.args.codec.now (g.D.Disk.reads c.args.disk.now)) (g.K.Sink.taken c.args.out.now)

pub returns-then-pages-clause-on : goal.returns-then-pages-clause-on
returns-then-pages-clause-on g c told = none_reported g.K.Sink.tells (file_pages c.args.codec.now (g.D.Disk.reads c.args.disk.now)) (g.K.Sink.taken c.args.out.now)

pub salvage_pages-requires : goal.salvage_pages-requires
salvage_pages-requires g c =
    record {
      pages = λ told.
          let same : g.D.Disk.reads c.main_length.new.disk ≡ g.D.Disk.reads c.args.disk.now = (c.in-Ok.ensures.only_read told).stays in
          ap (λ (k : ℕ). k / c.profile.result.now.page_size) (c.in-Ok.ensures.told told)
          ∙ ap (λ (p : Profile). length (main_of (g.D.Disk.reads c.args.disk.now)) / p.page_size) c.profile.ensures.value
          ∙ ap (λ (files : Files). (file_pages c.args.codec.now files).count) (sym same);
    }

pub returns-clause-on : goal.returns-clause-on
returns-clause-on g c told =
    let same : g.D.Disk.reads c.main_length.new.disk ≡ g.D.Disk.reads c.args.disk.now = (c.in-Ok.ensures.only_read told).stays in
    subst (λ (files : Files). IsReported g.K.Sink.tells (file_pages c.args.codec.now files) (g.K.Sink.taken c.args.out.now) (g.K.Sink.taken c.salvage_pages.new.out) c.salvage_pages.result)
    same (c.salvage_pages.ensures.on told)

pub returns-clause-key : goal.returns-clause-key
returns-clause-key g c told =
    let same : g.D.Disk.reads c.main_length.new.disk ≡ g.D.Disk.reads c.args.disk.now = (c.in-Ok.ensures.only_read told).stays in
    subst (λ (files : Files). IsKeyAnswered c.args.codec.now.profile.tag_len (file_pages c.args.codec.now files) c.salvage_pages.result) same (c.salvage_pages.ensures.key told)

pub returns-clause-stop : goal.returns-clause-stop
returns-clause-stop g c =
    stop_later c.args.codec.now.profile.tag_len (g.D.Disk.faults c.args.disk.now) (g.D.Disk.faults c.salvage_pages.new.disk) (g.K.Sink.faults c.args.out.now) (g.K.Sink.faults c.salvage_pages.new.out)
    (c.salvage_pages.new.out ≡ c.args.out.now) (g.D.Disk.faults c.main_length.new.disk) c.salvage_pages.result c.in-Ok.ensures.cause.later c.salvage_pages.ensures.stop
