use Rattle.std.proofs.Common.{arith}
use Rattle.profile_word.proofs.PartLaws.{part_ends, part_goes_on, part_stops}
use Rattle.profile_word.proofs.part.part_end.Goals as goal

pub returns-then-word-i-eq58-clause-end : goal.returns-then-word-i-eq58-clause-end
returns-then-word-i-eq58-clause-end c =
    omega (arith, c.loop-i.invariant.same, part_stops c.args.word.now c.loop-i.i (omega (arith, c.loop-i-test.true)) c.if-word-i-eq58.true)

pub loop-i-preserved : goal.loop-i-preserved
loop-i-preserved c =
    record {
      from = omega (arith, c.loop-i.invariant.from);
      within = omega (arith, c.loop-i-test.true);
      same = omega (arith, c.loop-i.invariant.same, part_goes_on c.args.word.now c.loop-i.i (omega (arith, c.loop-i-test.true)) c.if-word-i-eq58.false);
    }

pub returns-clause-end : goal.returns-clause-end
returns-clause-end c =
    omega (arith, c.loop-i.invariant.same, c.loop-i.invariant.within, c.loop-i-test.false, part_ends c.args.word.now c.loop-i.i (omega (arith, c.loop-i-test.false, c.loop-i.invariant.within)))
