-- How many pages are marked.
use Rattle.std.proofs.Common.{◌≡◌, ℕ, ◌+◌, ◌<◌, Bool, true, false, if◌then◌else◌, List, length, get_or, set, ap, arith}
use Rattle.std.proofs.lemmas.List.{length-set}
use Rattle.std.proofs.lemmas.List.Sums.{sum_by-set, count_by-le-length}
use Rattle.atomic_commit.specs.Marks.{marked_count}

-- a page that is not marked is marked
pub marked_more : (marks : List Bool) (i : ℕ) (d : Bool) → i < length marks → get_or marks i d ≡ false → marked_count (set marks i true) ≡ marked_count marks + 1
marked_more marks i d lt none =
    let step = sum_by-set (λ (b : Bool). if b then 1 else 0) marks i true d lt in
    omega (arith, step, ap {B = ℕ} (λ (b : Bool). if b then 1 else 0) none)

-- then there was room for it
pub marked_room : (marks : List Bool) (i : ℕ) (d : Bool) → i < length marks → get_or marks i d ≡ false → marked_count marks < length marks
marked_room marks i d lt none =
    omega (arith, marked_more marks i d lt none, count_by-le-length (λ (b : Bool). b) (set marks i true), length-set marks i true)
