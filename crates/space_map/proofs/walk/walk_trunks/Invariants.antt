use Rattle.std.proofs.Common.{◌≡◌, ◌+◌, ◌-◌, List, length}
use Rattle.std.specs.Prelude.{IsTrue}
use Rattle.db_format.specs.Pages.{Test}
use Rattle.db_format.specs.Seen.{marked, open_count}
use Rattle.btree_model.specs.Finding.{Finding}
use Rattle.btree_walk.specs.Marks.{KeepsMarks}
use Rattle.space_map.specs.Walk.{IsFreeWalkAt, IsNumber}
use Rattle.space_map.proofs.walk.walk_trunks.Given as goal

abbrev pub invariant-loop-turn : goal.invariant-loop-turn
invariant-loop-turn g l =
    record {
      read : g.S.PageSource.only_read l.initial.source l.source;
      pins : g.S.PageSource.pins l.source ≡ g.S.PageSource.pins l.initial.source;
      seen_length : length l.seen ≡ length l.initial.seen;
      free_length : length l.free ≡ length l.initial.free;
      number : IsNumber (g.S.PageSource.plain l.initial.source) l.n;
      kept : KeepsMarks (marked l.initial.seen) (marked l.seen);
      zero : marked l.seen 0 ≡ marked l.initial.seen 0;
      less : l.found + open_count l.seen ≡ open_count l.initial.seen;
      on : IsTrue g.S.PageSource.tells → (all : List Finding) (taken : Test)
          → IsFreeWalkAt (g.S.PageSource.plain l.initial.source) all taken l.count l.initial.n 0 (marked l.initial.seen) (marked l.initial.free)
          → IsFreeWalkAt (g.S.PageSource.plain l.initial.source) all taken (l.count - l.turn) l.n l.found (marked l.seen) (marked l.free);
    }
