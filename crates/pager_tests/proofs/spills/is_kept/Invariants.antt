use Rattle.std.proofs.Common.{[]}
use Rattle.pager.specs.UnderWay.{zeros}
use Rattle.pager_tests.proofs.spills.is_kept.Given as goal

abbrev pub ghost-keep_ahead : goal.ghost-keep_ahead
ghost-keep_ahead a = record { base = zeros a.self.now.write.profile.page_size a.self.now.count; drawn = [] }
