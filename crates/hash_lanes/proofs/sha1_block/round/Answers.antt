use Rattle.std.proofs.Common.{ℕ, List, [], ap, slice_index, refl}
use Rattle.std.specs.Prelude.{slice_index_or}
use Rattle.hash_lanes.proofs.sha1_block.round.Goals as goal

pub returns : goal.returns
returns c = λ V g x ev ef ew.
    let a = ap (λ (l : List (List ℕ)). slice_index_or l 0 []) ev in
    let b = ap (λ (l : List (List ℕ)). slice_index_or l 1 []) ev in
    let five = c.rotate_left.ensures (λ i. slice_index (V i) 0) a in
    let thirty = c.rotate_left-2.ensures (λ i. slice_index (V i) 1) b in
    rw (five, thirty, ef, ew, ev) refl
