use Rattle.aes_lanes.proofs.SwapFacts.{mask1, swapped}
use Rattle.aes_lanes.proofs.transpose.swap1.Goals as goal

pub returns : goal.returns
returns c = swapped 1 6148914691236517205 c.args.a c.args.b mask1 c.requires.first c.requires.second
