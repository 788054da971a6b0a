use Rattle.bulk_load.specs.Chain.{IsPutting}
use Rattle.bulk_load.proofs.chain.put_chain.Given as goal

abbrev pub invariant-loop-end : goal.invariant-loop-end
invariant-loop-end g l =
    IsPutting g.P.PageOut.pages g.P.PageOut.limit g.P.PageOut.faults g.P.PageOut.well g.P.PageOut.only_fresh l.fn.out l.out l.next l.rest l.page.items l.size l.end l.left

abbrev pub decreases-loop-end : goal.decreases-loop-end
decreases-loop-end g l = l.end
