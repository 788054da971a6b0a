use Rattle.std.proofs.Common.{◌≡◌, ℕ, List, ◌∷◌, ◌++◌, ◌+◌, ◌-◌, replicate, length, take, ap, ◌∙◌, arith, refl}
use Rattle.std.proofs.lemmas.Simd.{length-replicate}
use Rattle.sha2.proofs.Absorbing512.{padding-take}
use Rattle.hash_lanes.proofs.Laid.{laid_first}
use Rattle.hash_lanes.proofs.pieces.padded.Goals as goal

pub returns : goal.returns
returns c =
    let size : ℕ = c.args.size in
    let r : ℕ = length c.args.rest.now in
    let used : ℕ = r + length c.args.end.now in
    let counted : ℕ = size - length c.args.count.now in
    let padding_bytes : List ℕ = 0x80 ∷ replicate 127 0 in
    let zeros : ℕ = counted - used - 1 in
    let z : List ℕ = replicate 256 0 in
    let room : length z ≡ 256 = refl in
    let gap : counted - used ≡ zeros + 1 = omega (arith, c.requires.some) in
    let a = c.copy_from_slice.ensures.after in
    let b = c.copy_from_slice-2.ensures.after in
    let d : c.copy_from_slice-3.new.self ≡ 0x80 ∷ replicate zeros 0 =
    c.copy_from_slice-3.ensures.after ∙ ap (λ (k : ℕ). take k padding_bytes) gap
    ∙ padding-take 0x80 0 zeros (omega (arith, c.requires.some, c.requires.within)) in
    let e = c.copy_from_slice-4.ensures.after in
    let d_long : length c.copy_from_slice-3.new.self ≡ zeros + 1 = ap length d ∙ omega (arith, length-replicate {A = ℕ} zeros 0) in
    laid_first z c.copy_from_slice.new.self c.copy_from_slice-2.new.self c.copy_from_slice-3.new.self c.copy_from_slice-4.new.self
    r used counted size r (used - r) (counted - used) (size - counted)
    (omega (arith, ap length a)) (omega (arith, ap length b)) (omega (arith, d_long, gap, c.requires.some))
    (omega (arith, ap length e, c.requires.some)) (omega (arith, room, c.requires.room)) (omega (arith, ap length a))
    (omega (arith, ap length b)) (omega (arith, d_long, gap)) (omega (arith, ap length e, c.requires.some))
    ∙ (λ t. a t ++ (b t ++ (d t ++ e t)))
