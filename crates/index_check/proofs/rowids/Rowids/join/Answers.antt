use Rattle.std.proofs.Common.{arith, ap, sym, ◌∙◌}
use Rattle.std.proofs.lemmas.List.{length-append}
use Rattle.index_check.specs.Agree.{lesser, least}
use Rattle.index_check.proofs.LeastLemmas.{least-append}
use Rattle.index_check.proofs.rowids.Rowids.join.Goals as goal

pub returns : goal.returns
returns c first second few one two = record {
  count_is = omega (arith, c.saturating_add.ensures, one.count_is, two.count_is, length-append first second);
  least_is = c.lesser.ensures ∙ ap (λ a. lesser a c.args.others.now.least) one.least_is ∙ ap (lesser (least first)) two.least_is ∙ sym (least-append first second);
}
