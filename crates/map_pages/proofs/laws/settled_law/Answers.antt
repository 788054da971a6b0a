use Rattle.map_pages.proofs.SettledLaws.{same_database}
use Rattle.map_pages.proofs.laws.settled_law.Goals as goal

pub returns : goal.returns
returns c = λ old new can all. same_database old new can all
