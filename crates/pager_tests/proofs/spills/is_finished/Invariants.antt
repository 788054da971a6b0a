use Rattle.std.proofs.Common.{[]}
use Rattle.pager.specs.UnderWay.{zeros}
use Rattle.pager_tests.proofs.spills.is_finished.Given as goal

abbrev pub ghost-abandon : goal.ghost-abandon
ghost-abandon a = record { base = zeros a.self.write.profile.page_size a.self.count; drawn = [] }

abbrev pub ghost-end : goal.ghost-end
ghost-end a = record { base = zeros a.self.write.profile.page_size a.self.count; drawn = [] }
