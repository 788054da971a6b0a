use Rattle.edge_model.specs.Files.{main_of}
use Rattle.pager.specs.Held.{IsPageOpened}
use Rattle.pager.proofs.OpeningLemmas.{none_held, opened_whole}
use Rattle.pager.proofs.file.OpenedFile.into_pager.Goals as goal

pub invariant_of-result-clause-whole : goal.invariant_of-result-clause-whole
invariant_of-result-clause-whole g c = λ told.
    opened_whole c.args.self.codec (main_of (g.D.Disk.reads c.args.disk.now)) c.args.self.header c.args.self.count (c.requires told) c.args.self.layout

pub invariant_of-result-clause-opened : goal.invariant_of-result-clause-opened
invariant_of-result-clause-opened g c = λ told.
    none_held (IsPageOpened c.args.self.codec (main_of (g.D.Disk.reads c.args.disk.now))) c.args.self.cache.held c.args.self.unread
