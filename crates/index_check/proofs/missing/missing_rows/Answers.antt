use Rattle.std.proofs.Common.{◌≡◌, ◌<◌, ◌+◌, ◌++◌, ◌∷◌, [], ℕ, ℤ, Bool, true, false, not, length, take, slice_index_or, cond, List, pos, arith, rules, ap, sym, subst, ◌∙◌}
use Rattle.std.specs.Int.{w64}
use mir.Val.{SFits}
use Rattle.std.proofs.lemmas.Int.{to_z-of_z}
use Rattle.std.specs.List.{filter}
use Rattle.std.proofs.lemmas.List.{append-nil}
use Rattle.std.proofs.lemmas.List.Elements.{filter_more}
use Rattle.index_check.specs.Checked.{AreCounted}
use Rattle.index_check.proofs.missing.missing_rows.Goals as goal

-- one rowid more, by whether it is met
step : (test : ℤ → Bool) (rows : List ℤ) (at : ℕ) (d : ℤ) (met : Bool) → at < length rows → test (slice_index_or rows at d) ≡ met
    → filter (λ rowid. not (test rowid)) (take (at + 1) rows) ≡ filter (λ rowid. not (test rowid)) (take at rows) ++ cond (not met) (slice_index_or rows at d ∷ []) []
step test rows at d met l is =
    filter_more (λ rowid. not (test rowid)) rows at d l ∙ ap (λ b. filter (λ rowid. not (test rowid)) (take at rows) ++ cond (not b) (slice_index_or rows at d ∷ []) []) is

pub loop-at-preserved-then-has : goal.loop-at-preserved-then-has
loop-at-preserved-then-has c = record {
  few = omega (arith, c.loop-at.invariant.few);
  counted = λ test same.
      let d : ℤ = slice_index_or c.args.rowids.now c.loop-at.at (pos 0) in
      subst (λ (l : List ℤ). AreCounted l c.loop-at.missing)
      (sym (step test c.args.rowids.now c.loop-at.at d true c.loop-at-test.true (sym (same c.loop-at.at d c.loop-at-test.true) ∙ sym c.has.ensures ∙ c.if-has.true) ∙ append-nil (filter (λ rowid. not (test rowid)) (take c.loop-at.at c.args.rowids.now))))
      (c.loop-at.invariant.counted test same);
}

pub loop-at-preserved : goal.loop-at-preserved
loop-at-preserved c = record {
  few = omega (arith, c.loop-at.invariant.few, c.add.ensures.more);
  counted = λ test same.
      let rowid : ℤ = slice_index_or c.args.rowids.now c.loop-at.at (pos 0) in
      let fits : SFits w64 rowid = search rules in
      subst (λ (l : List ℤ). AreCounted l c.add.new.self)
      (ap (λ (z : ℤ). filter (λ rowid. not (test rowid)) (take c.loop-at.at c.args.rowids.now) ++ z ∷ []) (to_z-of_z w64 rowid fits)
      ∙ sym (step test c.args.rowids.now c.loop-at.at (pos 0) false c.loop-at-test.true (sym (same c.loop-at.at (pos 0) c.loop-at-test.true) ∙ sym c.has.ensures ∙ c.if-has.false)))
      (c.add.ensures.counted (filter (λ rowid. not (test rowid)) (take c.loop-at.at c.args.rowids.now)) (c.loop-at.invariant.counted test same));
}
