use Rattle.aes_lanes.proofs.SwapFacts.{mask16, swapped}
use Rattle.aes_lanes.proofs.transpose.swap16.Goals as goal

pub returns : goal.returns
returns c = swapped 16 281470681808895 c.args.a c.args.b mask16 c.requires.first c.requires.second
