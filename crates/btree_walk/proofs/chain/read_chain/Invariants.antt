use Rattle.std.proofs.Common.{◌≡◌, ◌-◌, ◌≤◌, List, length, IsTrue}
use Rattle.db_format.specs.Pages.{Test, also}
use Rattle.db_format.specs.Seen.{marked, open_count}
use Rattle.btree_model.specs.Finding.{Finding, places}
use Rattle.btree_walk.specs.Chain.{IsLinked}
use Rattle.btree_walk.specs.Marks.{KeepsMarks}
use Rattle.btree_walk.proofs.chain.read_chain.Given as goal

abbrev pub invariant-loop-turn : goal.invariant-loop-turn
invariant-loop-turn g l =
    record {
      reads : g.S.PageSource.only_read l.initial.source l.source;
      kept : KeepsMarks (marked l.initial.seen) (marked l.seen);
      pins : g.S.PageSource.pins l.source ≡ g.S.PageSource.pins l.initial.source;
      seen_length : length l.seen ≡ length l.initial.seen;
      fewer : open_count l.seen ≤ open_count l.initial.seen;
      on : IsTrue g.S.PageSource.tells → (taken : Test) (met : List Finding) → marked l.initial.seen ≡ also (places met) taken
          → IsLinked (g.S.PageSource.plain l.initial.source) taken met l.needed l.start l.first (l.needed - l.turn) l.holder l.n l.initial.payload.items l.payload.items (marked l.initial.seen) (marked l.seen);
    }
