use Rattle.std.proofs.Common.{◌++◌, ◌∙◌}
use Rattle.aes_lanes.proofs.blocks.block_of.Goals as goal

pub returns : goal.returns
returns c = c.bytes_of.ensures ∙ (λ i. c.joined.ensures i ++ c.joined-2.ensures i)
