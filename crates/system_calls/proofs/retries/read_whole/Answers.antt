use Rattle.std.proofs.Common.{◌≡◌, ◌∙◌, ap, sym, ◌++◌, append_assoc, ℕ, ◌+◌, ◌-◌, ◌≤◌, List, length, take, drop, arith, length-drop, length-take-le}
use borrow.Rule.Slice.PartMut.{put_mid, same_len_mid}
use Rattle.system_calls.proofs.Pieces.{more_of}
use Rattle.system_calls.proofs.retries.read_whole.Goals as goal

pub loop-count-preserved : goal.loop-count-preserved
loop-count-preserved g c =
    let a = c.loop-count.count in
    let k = length c.loop-count.buf - c.loop-count.count in
    let n = c.in_ok-count.field-0 in
    let new = c.read_next.new.buf in
    let part : length (take k (drop a c.loop-count.buf)) ≡ k = length-take-le k (drop a c.loop-count.buf) (omega (arith, length-drop a c.loop-count.buf)) in
    let size : length new ≡ k = c.read_next.auto.buf ∙ part in
    let whole : length (put_mid a k c.loop-count.buf new) ≡ length c.loop-count.buf = same_len_mid a k c.loop-count.buf new c.read_next.auto.buf in
    let few : n ≤ k = omega (arith, c.in_ok-count.ensures.count, part) in
    let more : take (a + n) (put_mid a k c.loop-count.buf new) ≡ take a c.loop-count.buf ++ take n new =
    more_of a k n c.loop-count.buf new c.loop-count.invariant.within (omega (arith, few, size)) in
    record {
      within = omega (arith, whole, few, c.loop-count.invariant.within);
      size = whole ∙ c.loop-count.invariant.size;
      left = λ told.
          c.loop-count.invariant.left told
          ∙ ap (λ (l : List ℕ). take a c.loop-count.buf ++ l) (c.in_ok-count.ensures.left told)
          ∙ sym (append_assoc (take a c.loop-count.buf) (take n new) (g.D.DeviceCalls.left c.read_next.new.device))
          ∙ ap (λ (l : List ℕ). l ++ g.D.DeviceCalls.left c.read_next.new.device) (sym more);
      given = λ told.
          c.in_ok-count.ensures.given told
          ∙ ap (λ (l : List ℕ). l ++ take n new) (c.loop-count.invariant.given told)
          ∙ append_assoc (g.D.DeviceCalls.given c.args.device.now) (take a c.loop-count.buf) (take n new)
          ∙ ap (λ (l : List ℕ). g.D.DeviceCalls.given c.args.device.now ++ l) (sym more);
    }
