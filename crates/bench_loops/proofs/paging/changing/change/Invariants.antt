use Rattle.std.proofs.Common.{[]}
use Rattle.pager.specs.UnderWay.{zeros}
use Rattle.bench_loops.proofs.paging.changing.change.Given as goal

abbrev pub ghost-begin : goal.ghost-begin
ghost-begin a = record { base = zeros a.self.codec.profile.page_size a.self.count; drawn = [] }
