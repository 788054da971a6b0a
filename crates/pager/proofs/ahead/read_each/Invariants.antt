use Rattle.std.proofs.Common.{◌≡◌, ◌≤◌, ℕ, List, slice_index, IsTrue}
use Rattle.edge_model.specs.Files.{main_of}
use Rattle.edge_model.specs.OnlyRead.{OnlyRead}
use Rattle.page_codec.proofs.PageFacts.{PagesUpTo}
use Rattle.page_codec.specs.Page.{stored_page}
use Rattle.pager.proofs.ahead.read_each.Given as goal

-- the first pages are read
abbrev pub invariant-pages : goal.invariant-pages
invariant-pages g l = record {
  read : PagesUpTo (λ (k : ℕ) (page : List ℕ). IsTrue g.D.Disk.tells
      → page ≡ stored_page l.size (slice_index l.numbers k) (main_of (g.D.Disk.reads l.initial.disk))) l.size l.initial.pages l.pages l.i;
  later : g.D.Disk.faults l.initial.disk ≤ g.D.Disk.faults l.disk;
  only_read : IsTrue g.D.Disk.tells → OnlyRead g.D.Disk.reads g.D.Disk.images g.D.Disk.moment g.D.Disk.since l.initial.disk l.disk;
}
