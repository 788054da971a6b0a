use Rattle.std.proofs.Common.{◌≡◌, ◌+◌, ◌-◌, ◌*◌, ◌≤◌, not, ◌∷◌, [], ap, sym, subst, ◌∙◌, arith}
use Rattle.db_format.specs.Seen.{marked, open_count}
use Rattle.btree_model.specs.Freelist.{numbers_at}
use Rattle.space_map.specs.Walk.{IsFreeWalkAt, IsInside, IsLeafTwice}
use Rattle.btree_walk.proofs.MarkLemmas.{keeps_also}
use Rattle.space_map.proofs.TrunkLemmas.{from_step, leaf_on, leaf_twice, leaves_done, zero_on}
use Rattle.space_map.proofs.trunk.take_leaves.Goals as goal

pub returns-then-not-mark-clause-on : goal.returns-then-not-mark-clause-on
returns-then-not-mark-clause-on c pages all taken fuel next found at =
    subst (λ t. IsLeafTwice all taken t c.u32_at-leaf.result) (sym c.mark-in-loop-i.ensures.after)
    (leaf_twice pages all taken fuel next c.u32_at-leaf.result (numbers_at c.args.bytes.now (8 + 4 * (c.loop-i.i + 1)) (c.args.size - (c.loop-i.i + 1)))
    (found + c.loop-i.i) (marked c.loop-i.seen) (marked c.loop-i.free)
    (subst (λ ns. IsInside pages all taken fuel next ns (found + c.loop-i.i) (marked c.loop-i.seen) (marked c.loop-i.free))
    (from_step c.args.bytes.now c.args.size c.loop-i.i c.loop-i-test.true
    ∙ ap (λ n. n ∷ numbers_at c.args.bytes.now (8 + 4 * (c.loop-i.i + 1)) (c.args.size - (c.loop-i.i + 1))) (sym c.u32_at-leaf.ensures))
    (c.loop-i.invariant.on pages all taken fuel next found at))
    (c.mark-in-loop-i.ensures.fresh ∙ ap not c.if-not-mark.true))

pub returns-then-not-mark-clause-kept : goal.returns-then-not-mark-clause-kept
returns-then-not-mark-clause-kept c n h = keeps_also (c.u32_at-leaf.result ∷ []) _ _ c.mark-in-loop-i.ensures.after n (c.loop-i.invariant.kept n h)

pub loop-i-preserved : goal.loop-i-preserved
loop-i-preserved c =
    record {
      seen_length = c.mark-in-loop-i.ensures.length ∙ c.loop-i.invariant.seen_length;
      free_length = c.mark.ensures.length ∙ c.loop-i.invariant.free_length;
      kept = λ n h. keeps_also (c.u32_at-leaf.result ∷ []) _ _ c.mark-in-loop-i.ensures.after n (c.loop-i.invariant.kept n h);
      zero = ap (λ t. t 0) c.mark-in-loop-i.ensures.after ∙ zero_on c.u32_at-leaf.result (marked c.loop-i.seen) (subst (λ n. 2 ≤ n) (sym c.u32_at-leaf.ensures) (c.requires.low c.loop-i.i c.loop-i-test.true)) ∙ c.loop-i.invariant.zero;
      less =
          let fewer : open_count c.mark-in-loop-i.new.self + 1 ≡ open_count c.loop-i.seen = c.mark-in-loop-i.ensures.count c.if-not-mark.false in
          let before : open_count c.loop-i.seen + c.loop-i.i ≡ open_count c.args.seen.now = c.loop-i.invariant.less in
          omega arith;
      on = λ pages all taken fuel next found at.
          let e : found + (c.loop-i.i + 1) ≡ found + c.loop-i.i + 1 = omega arith in
          rw (e, c.mark.ensures.after, c.mark-in-loop-i.ensures.after)
          (leaf_on pages all taken fuel next c.u32_at-leaf.result (numbers_at c.args.bytes.now (8 + 4 * (c.loop-i.i + 1)) (c.args.size - (c.loop-i.i + 1)))
          (found + c.loop-i.i) (marked c.loop-i.seen) (marked c.loop-i.free)
          (subst (λ ns. IsInside pages all taken fuel next ns (found + c.loop-i.i) (marked c.loop-i.seen) (marked c.loop-i.free))
          (from_step c.args.bytes.now c.args.size c.loop-i.i c.loop-i-test.true
          ∙ ap (λ n. n ∷ numbers_at c.args.bytes.now (8 + 4 * (c.loop-i.i + 1)) (c.args.size - (c.loop-i.i + 1))) (sym c.u32_at-leaf.ensures))
          (c.loop-i.invariant.on pages all taken fuel next found at))
          (c.mark-in-loop-i.ensures.fresh ∙ ap not c.if-not-mark.false));
    }

pub returns-clause-on : goal.returns-clause-on
returns-clause-on c pages all taken fuel next found at =
    let done : c.loop-i.i ≡ c.args.size = omega arith in
    let none : c.args.size - c.loop-i.i ≡ 0 = omega arith in
    subst (λ i. IsFreeWalkAt pages all taken fuel next (found + i) (marked c.loop-i.seen) (marked c.loop-i.free)) done
    (leaves_done pages all taken fuel next (found + c.loop-i.i) (marked c.loop-i.seen) (marked c.loop-i.free)
    (subst (λ k. IsInside pages all taken fuel next (numbers_at c.args.bytes.now (8 + 4 * c.loop-i.i) k) (found + c.loop-i.i) (marked c.loop-i.seen) (marked c.loop-i.free)) none
    (c.loop-i.invariant.on pages all taken fuel next found at)))

pub returns-then-not-mark-clause-zero : goal.returns-then-not-mark-clause-zero
returns-then-not-mark-clause-zero c =
    ap (λ t. t 0) c.mark-in-loop-i.ensures.after
    ∙ zero_on c.u32_at-leaf.result (marked c.loop-i.seen) (subst (λ n. 2 ≤ n) (sym c.u32_at-leaf.ensures) (c.requires.low c.loop-i.i c.loop-i-test.true))
    ∙ c.loop-i.invariant.zero
