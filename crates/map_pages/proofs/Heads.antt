-- The bytes of a new trunk as they are put together.
use Rattle.std.proofs.Common.{◌≡◌, ℕ, zero, suc, ◌+◌, ◌*◌, ◌≤◌, List, [], ◌∷◌, ◌++◌, length, refl, ◌∙◌, ap, arith, length-append}
use Rattle.std.specs.Prelude.{flat_map}
use Rattle.std.specs.Int.{w32, to_be_bytes}
use Rattle.std.proofs.lemmas.Grind.{flat_map-append}
use Rattle.std.proofs.lemmas.List.FromFn.{map-range_with_len_more}
use Rattle.map_pages.specs.Maps.{map_number}
use Rattle.map_pages.specs.Trunks.{leaves_behind, numbers_from, room, trunk_from, trunk_head}

pub bytes_more : (usable k i : ℕ)
    → flat_map (to_be_bytes w32) (numbers_from usable k (i + 1)) ≡ flat_map (to_be_bytes w32) (numbers_from usable k i) ++ to_be_bytes w32 (map_number usable (k + i))
bytes_more usable k i =
    ap (flat_map (to_be_bytes w32)) (map-range_with_len_more (map_number usable) k i (k + i) refl)
    ∙ flat_map-append (to_be_bytes w32) (numbers_from usable k i) (map_number usable (k + i) ∷ [])

bytes_long : (usable k n : ℕ) → length (flat_map (to_be_bytes w32) (numbers_from usable k n)) ≡ 4 * n
bytes_long usable k zero = refl
bytes_long usable k (suc n) =
    let more = bytes_long usable (k + 1) n in
    let joined = length-append (to_be_bytes w32 (map_number usable k)) (flat_map (to_be_bytes w32) (numbers_from usable (k + 1) n)) in
    omega (arith, more, joined)

pub head_long : (usable maps old_first k : ℕ) → length (trunk_head usable maps old_first k) ≡ 8 + 4 * leaves_behind usable maps k
head_long usable maps old_first k =
    let many : ℕ = leaves_behind usable maps k in
    let next : List ℕ = to_be_bytes w32 (trunk_from usable maps old_first (k + room usable + 1)) in
    let numbers : List ℕ = flat_map (to_be_bytes w32) (numbers_from usable (k + 1) many) in
    let long = bytes_long usable (k + 1) many in
    let one = length-append next (to_be_bytes w32 many ++ numbers) in
    let two = length-append (to_be_bytes w32 many) numbers in
    omega (arith, long, one, two)

pub head_fits : (usable maps old_first k : ℕ) → 480 ≤ usable → length (trunk_head usable maps old_first k) ≤ usable
head_fits usable maps old_first k least =
    let few : leaves_behind usable maps k ≤ room usable = omega arith in
    omega (arith, head_long usable maps old_first k, few, least)
