use Rattle.std.proofs.Common.{◌≡◌, ◌≤◌, ℕ, List, ◌+◌, ◌-◌, ◌*◌, length, take, drop, ap, ◌∙◌, arith, mul_comm}
use Rattle.std.proofs.lemmas.List.{length-drop, length-take-le, take-take}
use Rattle.hash_lanes.specs.Messages.{piece}
use Rattle.hash_lanes.proofs.Laid.{length-put_mid}
use Rattle.hash_lanes.proofs.Written.{records_more}
use Rattle.page_codec.proofs.PageFacts.{ends_by}
use Rattle.page_codec.proofs.side_by_side.apart.Goals as goal

pub slice_bounds-copy_from_slice-end : goal.slice_bounds-copy_from_slice-end
slice_bounds-copy_from_slice-end c =
    omega (arith, ends_by c.args.len c.tags.i c.args.count c.tags-test.true, c.requires.size)

pub tags-preserved : goal.tags-preserved
tags-preserved c =
    let i : ℕ = c.tags.i in
    let len : ℕ = c.args.len in
    let tags : List ℕ = c.args.tags.now in
    let out : List ℕ = c.tags.out in
    let ys : List ℕ = c.copy_from_slice.new.self in
    let within : len * i + len ≤ length tags = omega (arith, ends_by len i c.args.count c.tags-test.true, c.requires.size) in
    let whole : len * i + len - len * i ≡ len = omega arith in
    let is : ys ≡ piece tags len len i =
    c.copy_from_slice.ensures.after ∙ (λ t. take (whole t) (drop (mul_comm len i t) tags)) in
    let from : length (drop (i * len) tags) ≡ length tags - i * len = length-drop (i * len) tags in
    let long : length ys ≡ len = ap length is ∙ length-take-le len (drop (i * len) tags) (omega (arith, from, within, mul_comm len i)) in
    let room : 64 * i + 64 ≤ length out = omega (arith, c.tags.invariant.sized, c.tags-test.true, c.requires.most) in
    record {
      sized = length-put_mid (64 * i) (64 * i + len - 64 * i) out ys (omega (arith, room, c.requires.short)) (omega (arith, long))
          ∙ c.tags.invariant.sized;
      done = records_more (λ j. piece tags len len j) 64 len i (64 * i) (64 * i + len - 64 * i) out ys (omega arith) c.requires.short
          (omega (arith, room)) (omega (arith, long)) c.tags.invariant.done
          (ap (take len) is ∙ take-take len len (drop (i * len) tags) (omega arith));
    }

pub returns : goal.returns
returns c = λ i lt. take-take c.args.len 64 _ c.requires.short ∙ c.tags.invariant.done i (omega arith)
