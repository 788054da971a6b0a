use Rattle.std.proofs.Common.{ℕ, List, [], ap, slice_index, refl}
use Rattle.std.specs.Prelude.{slice_index_or}
use Rattle.hash_lanes.proofs.block.round.Goals as goal

pub returns : goal.returns
returns c = λ V f ev ew.
    let a = ap (λ (l : List (List ℕ)). slice_index_or l 0 []) ev in
    let b = ap (λ (l : List (List ℕ)). slice_index_or l 1 []) ev in
    let d = ap (λ (l : List (List ℕ)). slice_index_or l 2 []) ev in
    let e = ap (λ (l : List (List ℕ)). slice_index_or l 4 []) ev in
    let g = ap (λ (l : List (List ℕ)). slice_index_or l 5 []) ev in
    let h = ap (λ (l : List (List ℕ)). slice_index_or l 6 []) ev in
    let sigma1 = c.big_sigma1.ensures (λ i. slice_index (V i) 4) e in
    let choice = c.ch.ensures (λ i. slice_index (V i) 4) (λ i. slice_index (V i) 5) (λ i. slice_index (V i) 6) e g h in
    let sigma0 = c.big_sigma0.ensures (λ i. slice_index (V i) 0) a in
    let most = c.maj.ensures (λ i. slice_index (V i) 0) (λ i. slice_index (V i) 1) (λ i. slice_index (V i) 2) a b d in
    rw (sigma1, choice, sigma0, most, ev, ew) refl
