use Rattle.std.proofs.Common.{◌∷◌, [], ℤ, Some, arith, ap, sym, ◌∙◌}
use Rattle.std.specs.Int.{w64}
use Rattle.std.proofs.lemmas.Int.{to_z-of_z}
use Rattle.std.proofs.lemmas.List.{length-append}
use Rattle.index_check.specs.Agree.{lesser}
use Rattle.index_check.proofs.LeastLemmas.{least-append}
use Rattle.index_check.proofs.rowids.Rowids.add.Goals as goal

pub returns-clause-counted : goal.returns-clause-counted
returns-clause-counted c before are = record {
  count_is = omega (arith, are.count_is, length-append before (c.args.rowid ∷ []));
  least_is = c.lesser-self.ensures ∙ ap (λ (z : ℤ). lesser c.args.self.now.least (Some z)) (to_z-of_z w64 c.args.rowid c.ranges.rowid)
      ∙ ap (λ a. lesser a (Some c.args.rowid)) are.least_is ∙ sym (least-append before (c.args.rowid ∷ []));
}
