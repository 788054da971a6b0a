use Rattle.aes_lanes.proofs.SwapFacts.{mask2, swapped}
use Rattle.aes_lanes.proofs.transpose.swap2.Goals as goal

pub returns : goal.returns
returns c = swapped 2 3689348814741910323 c.args.a c.args.b mask2 c.requires.first c.requires.second
