use Rattle.aes_lanes.proofs.SwapFacts.{mask8, swapped}
use Rattle.aes_lanes.proofs.transpose.swap8.Goals as goal

pub returns : goal.returns
returns c = swapped 8 71777214294589695 c.args.a c.args.b mask8 c.requires.first c.requires.second
