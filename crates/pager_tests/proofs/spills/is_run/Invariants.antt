use Rattle.std.proofs.Common.{[]}
use Rattle.pager.specs.UnderWay.{zeros}
use Rattle.pager_tests.proofs.spills.is_run.Given as goal

abbrev pub ghost-begin : goal.ghost-begin
ghost-begin g a = record { base = zeros a.self.codec.profile.page_size a.self.count; drawn = [] }
