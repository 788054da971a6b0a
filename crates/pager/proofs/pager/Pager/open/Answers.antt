use Rattle.std.proofs.Common.{◌∙◌, ap}
use Rattle.edge_model.specs.Files.{Files, main_of}
use Rattle.page_codec.specs.Page.{FileKeys}
use Rattle.pager.specs.Opening.{file_opened}
use Rattle.pager.proofs.pager.Pager.open.Goals as goal

pub into_pager-requires : goal.into_pager-requires
into_pager-requires g c = λ told.
    ap (λ (keys : FileKeys). file_opened keys (main_of (g.D.Disk.reads c.read.new.disk))) c.in_ok-file.ensures.codec
    ∙ ap (λ (files : Files). file_opened c.args.codec (main_of files)) (c.read.ensures.only_read told).stays
    ∙ c.in_ok-file.ensures.opens told
