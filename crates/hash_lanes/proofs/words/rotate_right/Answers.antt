use Rattle.std.proofs.Common.{◌≡◌, ◌-◌, ◌%◌, arith, refl}
use Rattle.hash_lanes.proofs.words.rotate_right.Goals as goal

pub returns : goal.returns
returns c = λ f e.
    let right : c.args.n % 64 ≡ c.args.n = omega arith in
    let left : (64 - c.args.n) % 64 ≡ 64 - c.args.n = omega arith in
    rw (e, right, left) refl
