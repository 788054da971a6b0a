use Rattle.std.proofs.Common.{count_by, not, arith, sym}
use Rattle.std.specs.List.{range_with_len}
use Rattle.db_format.specs.Seen.{marked}
use Rattle.schema_map.proofs.WholeLemmas.{page_marked, page_unmarked}
use Rattle.schema_map.proofs.unused.count_unmarked.Goals as goal

pub loop-n-preserved : goal.loop-n-preserved
loop-n-preserved c = (
  omega arith,
  page_unmarked (marked c.args.seen.now) c.loop-n.unmarked c.loop-n.n c.args.pages (count_by (λ n. not (marked c.args.seen.now n)) (range_with_len 1 c.args.pages)) c.loop-n-test.true
      c.loop-n.invariant.1 (sym c.if-has.ensures),
)

pub loop-n-preserved-then-has : goal.loop-n-preserved-then-has
loop-n-preserved-then-has c = (
  omega arith,
  page_marked (marked c.args.seen.now) c.loop-n.unmarked c.loop-n.n c.args.pages (count_by (λ n. not (marked c.args.seen.now n)) (range_with_len 1 c.args.pages)) c.loop-n-test.true
      c.loop-n.invariant.1 (sym c.if-has.ensures),
)
