use Rattle.std.proofs.Common.{◌≡◌, ◌∙◌, subst, rules, ℕ, ◌+◌, ◌-◌, ◌≤◌, length, take, drop, arith, length-drop, length-take-le}
use borrow.Rule.Slice.PartMut.{put_mid, same_len_mid}
use Rattle.edge_model.specs.Files.{contents}
use Rattle.system_calls.specs.System.{opened}
use Rattle.system_calls.proofs.Pieces.{piece}
use Rattle.system_calls.proofs.transfer.read_full.Goals as goal

pub loop-count-preserved : goal.loop-count-preserved
loop-count-preserved g c =
    let a = c.loop-count.count in
    let k = length c.loop-count.buf - c.loop-count.count in
    let part : length (take k (drop a c.loop-count.buf)) ≡ k = length-take-le k (drop a c.loop-count.buf) (omega (arith, length-drop a c.loop-count.buf)) in
    let size : length c.read_some.new.buf ≡ k = c.read_some.auto.buf ∙ part in
    let whole : length (put_mid a k c.loop-count.buf c.read_some.new.buf) ≡ length c.loop-count.buf =
    same_len_mid a k c.loop-count.buf c.read_some.new.buf c.read_some.auto.buf in
    let few : c.in_ok-more.more ≤ k = omega (arith, c.in_ok-more.ensures.count, part) in
    record {
      within = omega (arith, whole, few, c.loop-count.invariant.within);
      size = whole ∙ c.loop-count.invariant.size;
      told = λ told.
          let bytes = contents (opened (g.C.Calls.system c.args.calls.now) c.args.place) in
          let off : c.in-Some.from ≡ c.args.at + a = search rules in
          let next : take c.in_ok-more.more c.read_some.new.buf ≡ take c.in_ok-more.more (drop (c.args.at + a) bytes) =
          subst (λ (o : ℕ). take c.in_ok-more.more c.read_some.new.buf ≡ take c.in_ok-more.more (drop o bytes)) off (c.in_ok-more.ensures.told told) in
          piece a k c.in_ok-more.more c.args.at c.loop-count.buf c.read_some.new.buf bytes c.loop-count.invariant.within (omega (arith, few, size)) (c.loop-count.invariant.told told) next;
    }
