use Rattle.std.proofs.Common.{◌≡◌, ◌<◌, ◌≤◌, ℕ, ℤ, Bool, not, length, take, slice_index_or}
use Rattle.std.specs.List.{filter}
use Rattle.db_format.specs.Seen.{marked}
use Rattle.index_check.specs.Checked.{AreCounted}
use Rattle.index_check.proofs.missing.missing_rows.Given as goal

-- so many of the rowids before this place have no mark
abbrev pub invariant-loop-at : goal.invariant-loop-at
invariant-loop-at l =
    record {
      few : l.missing.count ≤ l.at;
      counted : (test : ℤ → Bool) → ((k : ℕ) (d : ℤ) → k < length l.rowids → marked l.met k ≡ test (slice_index_or l.rowids k d))
          → AreCounted (filter (λ rowid. not (test rowid)) (take l.at l.rowids)) l.missing;
    }
