use Rattle.std.specs.Prelude.{None}
use Rattle.job_tests.proofs.new_file.write_two.Goals as goal
use Rattle.fresh_file.proofs.FreshLaws.{two_put}

pub finish-requires-clause-put : goal.finish-requires-clause-put
finish-requires-clause-put g c =
    let filled = c.in_ok-fill_state.ensures in
    two_put c.fill_state.new.state None filled.count filled.first filled.second
