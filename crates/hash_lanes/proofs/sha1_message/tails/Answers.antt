use Rattle.std.proofs.Common.{◌≡◌, ◌≤◌, ℕ, List, ◌++◌, ◌+◌, ◌-◌, ◌*◌, length, take, drop, ap, ◌∙◌, arith, refl}
use Rattle.std.proofs.lemmas.List.{length-drop, length-take-le, take-take}
use Rattle.sha1.specs.Sha1.{padding}
use Rattle.hash_lanes.specs.Messages.{piece}
use Rattle.hash_lanes.specs.Sha1Lanes.{tail_blocks}
use Rattle.hash_lanes.proofs.Laid.{length-put_mid}
use Rattle.hash_lanes.proofs.Parts.{tail_at}
use Rattle.hash_lanes.proofs.Sha1Parts.{begins_by}
use Rattle.hash_lanes.proofs.Written.{records_more}
use Rattle.hash_lanes.proofs.sha1_message.tails.Goals as goal

pub slice_bounds-copy_from_slice-end : goal.slice_bounds-copy_from_slice-end
slice_bounds-copy_from_slice-end c =
    let tail : List ℕ = c.tail-last.result in
    let whole : length tail ≡ 256 = omega (arith, c.tail-last.type_inv) in
    omega (arith, length-take-le 128 tail (omega (arith, whole)))

pub copy_from_slice-requires : goal.copy_from_slice-requires
copy_from_slice-requires c =
    let i : ℕ = c.messages.i in
    let out : List ℕ = c.messages.out in
    let tail : List ℕ = c.tail-last.result in
    omega (
      arith,
      length-drop (128 * i) out,
      length-take-le (128 * i + 128 - 128 * i) (drop (128 * i) out)
          (omega (arith, length-drop (128 * i) out, c.messages-test.true, c.messages.invariant.0)),
      length-take-le 128 tail (omega (arith, c.tail-last.type_inv)),
    )

pub messages-preserved : goal.messages-preserved
messages-preserved c =
    let i : ℕ = c.messages.i in
    let text : List ℕ = c.args.text.now in
    let ends : List ℕ = c.args.ends.now in
    let stride : ℕ = c.args.stride in
    let at : ℕ = c.args.at in
    let len : ℕ = c.args.len in
    let end_len : ℕ = c.args.end_len in
    let out : List ℕ = c.messages.out in
    let s : ℕ = tail_blocks (len - at + end_len) * 64 in
    let few : s ≤ 128 = omega (arith, c.requires.room) in
    let tail : List ℕ = c.tail-last.result in
    let tail_long : length tail ≡ 256 = omega (arith, c.tail-last.type_inv) in
    let copied : c.copy_from_slice.new.self ≡ take 128 tail = c.copy_from_slice.ensures.after in
    let long : length c.copy_from_slice.new.self ≡ 128 = ap length copied ∙ length-take-le 128 tail (omega (arith, tail_long)) in
    let within : 128 * i + 128 ≤ length out = omega (arith, c.messages-test.true, c.messages.invariant.0) in
    let is : take s c.copy_from_slice.new.self
    ≡ drop at (piece text stride len i) ++ (piece ends end_len end_len i ++ padding c.args.total) =
    ap (take s) copied ∙ take-take s 128 tail few
    ∙ tail_at (λ used. tail_blocks used * 64) tail c.part.result.now c.part-in-messages.result.now (padding c.args.total) text ends
    (i * stride) at len (i * end_len) end_len (i * stride + at) (i * end_len) c.requires.within.0
    (omega (arith, c.requires.within.1, begins_by i stride c.messages-test.true))
    (omega (arith, c.requires.ends, begins_by i end_len c.messages-test.true)) refl refl
    c.part.ensures.bytes c.part-in-messages.ensures.bytes c.tail-last.ensures in (
      length-put_mid (128 * i) (128 * i + 128 - 128 * i) out c.copy_from_slice.new.self (omega (arith, within)) (omega (arith, long))
          ∙ c.messages.invariant.0,
      records_more (λ j. drop at (piece text stride len j) ++ (piece ends end_len end_len j ++ padding c.args.total)) 128 s i (128 * i)
          (128 * i + 128 - 128 * i) out c.copy_from_slice.new.self (omega arith) few (omega (arith, within))
          (omega (arith, few, long)) c.messages.invariant.1 is,
    )
