use Rattle.std.proofs.Common.{◌≡◌, ◌+◌, ◌-◌, ◌≤◌, not, count_by}
use Rattle.std.specs.List.{range_with_len}
use Rattle.db_format.specs.Seen.{marked}
use Rattle.schema_map.proofs.unused.count_unmarked.Given as goal

abbrev pub invariant-loop-n : goal.invariant-loop-n
invariant-loop-n l =
    (l.unmarked ≤ l.n)
    × (l.unmarked + count_by (λ n. not (marked l.seen n)) (range_with_len (l.n + 1) (l.pages - l.n)) ≡ count_by (λ n. not (marked l.seen n)) (range_with_len 1 l.pages))
