use Rattle.std.proofs.Common.{sym, arith, ◌∙◌}
use Rattle.bulk_load.proofs.PutLemmas.{still_free}
use Rattle.load_tests.proofs.loading.load.Goals as goal

pub loop-before-preserved : goal.loop-before-preserved
loop-before-preserved c = record {
  ready = c.in_ok-push.ensures.ready;
  family = c.in_ok-push.ensures.family ∙ c.loop-before.invariant.family;
  free = λ h. still_free _ _ _ _ c.loop-before.out c.push.new.out c.loop-before.out.least c.in_ok-push.ensures.keeps
      (c.loop-before.invariant.free (sym c.in_ok-push.ensures.at_one ∙ h));
  short = omega (arith, c.number.ensures, c.loop-before.invariant.short);
}
