use Rattle.std.proofs.Common.{◌≡◌, ◌≤◌, ◌+◌, ◌-◌, length, IsTrue}
use Rattle.db_format.specs.Seen.{marked, open_count}
use Rattle.rowid_find.specs.Search.{IsOnChain}
use Rattle.rowid_find.proofs.chain.read_links.Given as goal

abbrev pub invariant-loop-turn : goal.invariant-loop-turn
invariant-loop-turn g l =
    record {
      reads : g.S.PageSource.only_read l.initial.source.source.now l.source.source.now;
      same : l.source.source.ghost_name ≡ l.initial.source.source.ghost_name;
      seen : length l.seen ≡ length l.initial.seen;
      once : l.source.reads + open_count l.seen ≤ l.initial.source.reads + open_count l.initial.seen;
      pins : g.S.PageSource.pins l.source.source.now ≡ g.S.PageSource.pins l.initial.source.source.now;
      on : IsTrue g.S.PageSource.tells
          → IsOnChain (g.S.PageSource.plain l.initial.source.source.now) l.needed l.start l.first (l.needed - l.turn) l.holder l.n
          l.initial.payload.items l.payload.items (record { reads = l.initial.source.reads; marks = marked l.initial.seen }) (record { reads = l.source.reads; marks = marked l.seen });
    }
