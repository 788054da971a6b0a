use Rattle.std.proofs.Common.{◌≡◌, ◌≤◌, ℕ, List, ◌+◌, ◌-◌, ◌*◌, length, take, ap, ◌∙◌, arith}
use Rattle.std.proofs.lemmas.List.{take_all}
use Rattle.sha1.specs.Sha1.{digest_bytes}
use Rattle.hash_lanes.proofs.Laid.{length-put_mid}
use Rattle.hash_lanes.proofs.Written.{records_more}
use Rattle.hash_lanes.proofs.sha1_message.digests.Goals as goal

pub messages-preserved : goal.messages-preserved
messages-preserved c =
    let i : ℕ = c.messages.i in
    let out : List ℕ = c.messages.out in
    let digest : List ℕ = c.digest.result in
    let digest_long : length digest ≡ 20 = omega (arith, c.digest.type_inv) in
    let copied : c.copy_from_slice.new.self ≡ digest = c.copy_from_slice.ensures.after in
    let long : length c.copy_from_slice.new.self ≡ 20 = ap length copied ∙ digest_long in
    let within : 20 * i + 20 ≤ length out = omega (arith, c.messages-test.true, c.messages.invariant.0) in (
      length-put_mid (20 * i) (20 * i + 20 - 20 * i) out c.copy_from_slice.new.self (omega (arith, within)) (omega (arith, long))
          ∙ c.messages.invariant.0,
      λ H e. records_more (λ j. digest_bytes (H j) 5) 20 20 i (20 * i) (20 * i + 20 - 20 * i) out c.copy_from_slice.new.self (omega arith)
          (omega arith) (omega (arith, within)) (omega (arith, long)) (c.messages.invariant.1 H e)
          (ap (take 20) copied ∙ take_all 20 digest (omega (arith, digest_long)) ∙ c.digest.ensures H e),
    )
