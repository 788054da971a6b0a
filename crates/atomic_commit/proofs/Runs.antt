-- Pages that stand one after another.
use Rattle.std.proofs.Common.{◌≡◌, ℕ, ◌+◌, ◌<◌, ◌≤◌, List, length, subst, arith}
use Rattle.std.specs.Prelude.{slice_index}
use Rattle.std.specs.List.{range_with_len}
use Rattle.std.proofs.lemmas.List.FromFn.{length-range_with_len, get_or-range_with_len}
use Rattle.atomic_commit.specs.Batches.{HasMarked}
use Rattle.atomic_commit.specs.Commit.{AreChanges}
use Rattle.std.specs.Prelude.{Bool}

pub run_length : (first count : ℕ) → length (range_with_len first count) ≡ count
run_length first count = length-range_with_len first count

pub run_at : (first count k : ℕ) → k < length (range_with_len first count) → slice_index (range_with_len first count) k ≡ first + k
run_at first count k lt = get_or-range_with_len first count k 0 (omega (arith, lt, run_length first count))

-- those of a database are its pages, each once
pub run_changes : (pages first count : ℕ) → 1 ≤ first → first + count ≤ pages + 1 → AreChanges pages (range_with_len first count)
run_changes pages first count one le = record {
  few = omega (arith, run_length first count, one, le);
  in_range = λ k lt. (omega (arith, run_at first count k lt, one), omega (arith, run_at first count k lt, run_length first count, lt, le));
  apart = λ j k less lt same. omega (arith, run_at first count k lt, run_at first count j (omega (arith, less, lt)), same, less);
}

pub run_marked : (first count : ℕ) (old new : List Bool) → HasMarked (range_with_len first count) (length (range_with_len first count)) old new → HasMarked (range_with_len first count) count old new
run_marked first count old new has = subst (λ (n : ℕ). HasMarked (range_with_len first count) n old new) (run_length first count) has
