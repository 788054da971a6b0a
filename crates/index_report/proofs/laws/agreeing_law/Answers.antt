use Rattle.index_report.proofs.AgreeSteps.{agreeing, agreeing_only}
use Rattle.index_report.proofs.laws.agreeing_law.Goals as goal

pub returns-clause-agree : goal.returns-clause-agree
returns-clause-agree c = agreeing

pub returns-clause-only : goal.returns-clause-only
returns-clause-only c = agreeing_only
