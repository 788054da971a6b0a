use Rattle.std.proofs.Common.{◌≡◌, ◌-◌, ◌%◌, arith, refl}
use Rattle.hash_lanes.proofs.sha1_words.rotate_left.Goals as goal

pub returns : goal.returns
returns c = λ f e.
    let left : c.args.n % 32 ≡ c.args.n = omega arith in
    let right : (32 - c.args.n) % 32 ≡ 32 - c.args.n = omega arith in
    rw (e, left, right) refl
