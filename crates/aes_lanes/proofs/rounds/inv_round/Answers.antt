use Rattle.std.proofs.Common.{ap, ◌∙◌}
use Rattle.aes_block.specs.Aes.{inv_mix_columns}
use Rattle.aes_lanes.proofs.rounds.inv_round.Goals as goal

pub returns-clause-blocks : goal.returns-clause-blocks
returns-clause-blocks c j hj = c.inv_mix_columns.ensures.blocks j hj ∙ ap inv_mix_columns (c.inv_start.ensures.blocks j hj)
