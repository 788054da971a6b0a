use Rattle.std.proofs.Common.{◌≡◌, ◌≤◌, IsTrue}
use Rattle.page_codec.specs.Pages.{nth_page}
use Rattle.fresh_file.specs.Held.{with_pages}
use Rattle.fresh_file.proofs.held.HeldPages.write.Given as goal

abbrev pub invariant-writing : goal.invariant-writing
invariant-writing g l = record {
  fresh : IsTrue g.T.Side.tells → g.T.Side.fresh l.side
      ≡ with_pages l.self.size l.self.numbers.items (λ k. nth_page l.self.size l.self.stored.items k) l.k (g.T.Side.fresh l.fn.side);
  drawn : g.T.Side.drawn l.side ≡ g.T.Side.drawn l.fn.side;
  kept : g.T.Side.only_fresh l.fn.side l.side;
  draws : g.T.Side.draw_faults l.side ≡ g.T.Side.draw_faults l.fn.side;
  disk : g.T.Side.disk_faults l.fn.side ≤ g.T.Side.disk_faults l.side;
}
