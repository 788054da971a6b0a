use Rattle.std.proofs.Common.{◌≡◌, ℕ, ◌+◌, ◌*◌, ◌-◌, List, length}
use Rattle.db_format.specs.Pages.{Pages, Test}
use Rattle.db_format.specs.Seen.{marked, open_count}
use Rattle.btree_model.specs.Finding.{Finding}
use Rattle.btree_model.specs.Freelist.{numbers_at}
use Rattle.btree_walk.specs.Marks.{KeepsMarks}
use Rattle.space_map.specs.Walk.{IsInside}
use Rattle.space_map.proofs.trunk.take_leaves.Given as goal

abbrev pub invariant-loop-i : goal.invariant-loop-i
invariant-loop-i l =
    record {
      seen_length : length l.seen ≡ length l.initial.seen;
      free_length : length l.free ≡ length l.initial.free;
      kept : KeepsMarks (marked l.initial.seen) (marked l.seen);
      zero : marked l.seen 0 ≡ marked l.initial.seen 0;
      less : open_count l.seen + l.i ≡ open_count l.initial.seen;
      on : (pages : Pages) (all : List Finding) (taken : Test) (fuel next found : ℕ)
          → IsInside pages all taken fuel next (numbers_at l.bytes 8 l.size) found (marked l.initial.seen) (marked l.initial.free)
          → IsInside pages all taken fuel next (numbers_at l.bytes (8 + 4 * l.i) (l.size - l.i)) (found + l.i) (marked l.seen) (marked l.free);
    }
