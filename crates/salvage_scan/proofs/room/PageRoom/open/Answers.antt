use Rattle.std.proofs.Common.{◌≡◌, inr, ap, sym, ◌∙◌}
use Rattle.edge_model.specs.Files.{Files}
use Rattle.salvage_scan.specs.Salvage.{file_pages}
use Rattle.salvage_scan.proofs.room.PageRoom.open.Goals as goal

pub returns-in-Ok-true-clause-room : goal.returns-in-Ok-true-clause-room
returns-in-Ok-true-clause-room g c =
    record {
      long = c.in-Ok-true.ensures.size ∙ c.requires.room.long;
      holds = λ told.
          let same : g.D.Disk.reads c.bring.new.disk ≡ g.D.Disk.reads c.args.disk.now = (c.in-Ok-true.ensures.only_read told).stays in
          inr (record {
            accepted = ap (λ (files : Files). (file_pages c.args.codec.now files).accepts c.args.n) same
                ∙ sym (c.in-Ok-true.ensures.accepted told) ∙ c.in-Ok-true.field-0-test;
            bytes = c.in-Ok-true.ensures.opened told c.in-Ok-true.field-0-test
                ∙ ap (λ (files : Files). (file_pages c.args.codec.now files).page c.args.n) (sym same);
          });
    }
