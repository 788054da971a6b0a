use Rattle.std.proofs.Common.{[]}
use Rattle.pager.specs.UnderWay.{zeros}
use Rattle.bench_loops.proofs.paging.changing.is_ended.Given as goal

abbrev pub ghost-end : goal.ghost-end
ghost-end a = record { base = zeros a.self.write.profile.page_size a.self.count; drawn = [] }
