use Rattle.aes_lanes.proofs.SwapFacts.{mask4, swapped}
use Rattle.aes_lanes.proofs.transpose.swap4.Goals as goal

pub returns : goal.returns
returns c = swapped 4 1085102592571150095 c.args.a c.args.b mask4 c.requires.first c.requires.second
