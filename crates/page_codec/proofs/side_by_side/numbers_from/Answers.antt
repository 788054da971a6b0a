use Rattle.std.proofs.Common.{◌≡◌, ◌≤◌, ℕ, List, ◌+◌, ◌-◌, ◌*◌, length, take, ap, ◌∙◌, arith}
use Rattle.std.specs.Int.{w32, to_le_bytes}
use Rattle.hash_lanes.proofs.Laid.{length-put_mid}
use Rattle.hash_lanes.proofs.Written.{records_more}
use Rattle.page_codec.proofs.side_by_side.numbers_from.Goals as goal

pub numbers-preserved : goal.numbers-preserved
numbers-preserved c =
    let i : ℕ = c.numbers.i in
    let out : List ℕ = c.numbers.out in
    let ys : List ℕ = c.copy_from_slice.new.self in
    let value : ℕ → List ℕ = λ j. to_le_bytes w32 (c.args.n + j) in
    let is : ys ≡ value i = c.copy_from_slice.ensures.after ∙ c.u32_bytes_low_first.ensures in
    let long : length ys ≡ 4 = ap length is in
    let room : 4 * i + 4 ≤ length out = omega (arith, c.numbers.invariant.sized, c.numbers-test.true, c.requires.most) in
    record {
      sized = length-put_mid (4 * i) (4 * i + 4 - 4 * i) out ys (omega (arith, room)) (omega (arith, long)) ∙ c.numbers.invariant.sized;
      done = records_more value 4 4 i (4 * i) (4 * i + 4 - 4 * i) out ys (omega arith) (omega arith) (omega (arith, room))
          (omega (arith, long)) c.numbers.invariant.done (ap (take 4) is);
    }
