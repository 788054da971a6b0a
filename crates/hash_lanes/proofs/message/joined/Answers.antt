use Rattle.std.proofs.Common.{◌≡◌, ℕ, List, ◌++◌, replicate, length, ap, ◌∙◌, arith, refl}
use Rattle.hash_lanes.proofs.Laid.{laid_whole, length-put_mid}
use borrow.Rule.Slice.PartMut.{put_mid}
use Rattle.hash_lanes.proofs.message.joined.Goals as goal

pub slice_bounds-out-end-3 : goal.slice_bounds-out-end-3
slice_bounds-out-end-3 c =
    let z : List ℕ = replicate 1024 0 in
    let a : List ℕ = c.copy_from_slice.new.self in
    let b : List ℕ = c.copy_from_slice-2.new.self in
    let zeros : length z ≡ 1024 = refl in
    let a_long : length a ≡ 256 = omega (arith, ap length c.copy_from_slice.ensures.after) in
    let b_long : length b ≡ 256 = omega (arith, ap length c.copy_from_slice-2.ensures.after) in
    let one = length-put_mid 0 256 z a (omega (arith, zeros)) a_long in
    omega (arith, zeros, one, length-put_mid 256 256 (put_mid 0 256 z a) b (omega (arith, zeros, one)) b_long)

pub slice_bounds-out-end-4 : goal.slice_bounds-out-end-4
slice_bounds-out-end-4 c =
    let z : List ℕ = replicate 1024 0 in
    let a : List ℕ = c.copy_from_slice.new.self in
    let b : List ℕ = c.copy_from_slice-2.new.self in
    let d : List ℕ = c.copy_from_slice-3.new.self in
    let zeros : length z ≡ 1024 = refl in
    let a_long : length a ≡ 256 = omega (arith, ap length c.copy_from_slice.ensures.after) in
    let b_long : length b ≡ 256 = omega (arith, ap length c.copy_from_slice-2.ensures.after) in
    let d_long : length d ≡ 256 = omega (arith, ap length c.copy_from_slice-3.ensures.after) in
    let one = length-put_mid 0 256 z a (omega (arith, zeros)) a_long in
    let two = length-put_mid 256 256 (put_mid 0 256 z a) b (omega (arith, zeros, one)) b_long in
    omega (arith, zeros, one, two, length-put_mid 512 256 (put_mid 256 256 (put_mid 0 256 z a) b) d (omega (arith, zeros, one, two)) d_long)

pub returns : goal.returns
returns c =
    let a = c.copy_from_slice.ensures.after in
    let b = c.copy_from_slice-2.ensures.after in
    let d = c.copy_from_slice-3.ensures.after in
    let e = c.copy_from_slice-4.ensures.after in
    let z : List ℕ = replicate 1024 0 in
    let zeros : length z ≡ 1024 = refl in
    let a_long : length c.copy_from_slice.new.self ≡ 256 = omega (arith, ap length a) in
    let b_long : length c.copy_from_slice-2.new.self ≡ 256 = omega (arith, ap length b) in
    let d_long : length c.copy_from_slice-3.new.self ≡ 256 = omega (arith, ap length d) in
    let e_long : length c.copy_from_slice-4.new.self ≡ 256 = omega (arith, ap length e) in
    laid_whole z c.copy_from_slice.new.self c.copy_from_slice-2.new.self c.copy_from_slice-3.new.self c.copy_from_slice-4.new.self
    256 512 768 1024 256 256 256 256 (omega (arith, a_long)) (omega (arith, b_long)) (omega (arith, d_long)) (omega (arith, e_long))
    (omega (arith, zeros)) a_long b_long d_long e_long (omega (arith, zeros))
    ∙ (λ t. a t ++ (b t ++ (d t ++ e t)))
