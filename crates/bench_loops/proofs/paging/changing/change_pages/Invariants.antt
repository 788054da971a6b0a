use Rattle.std.proofs.Common.{[]}
use Rattle.pager.specs.UnderWay.{IsReadyFor, zeros}
use Rattle.bench_loops.proofs.paging.changing.change_pages.Given as goal

abbrev pub ghost-write : goal.ghost-write
ghost-write a = record { base = zeros a.self.now.write.profile.page_size a.self.now.count; drawn = [] }

abbrev pub invariant-loop-n : goal.invariant-loop-n
invariant-loop-n l = IsReadyFor l.txn.recorded l.txn.writer
