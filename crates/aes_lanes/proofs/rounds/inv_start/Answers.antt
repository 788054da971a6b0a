use Rattle.std.proofs.Common.{ℕ, List, ap, ◌∙◌}
use Rattle.aes_block.specs.Aes.{inv_sub_bytes, xor_bytes}
use Rattle.aes_lanes.proofs.rounds.inv_start.Goals as goal

pub returns-clause-blocks : goal.returns-clause-blocks
returns-clause-blocks c j hj =
    c.add_key.ensures.blocks j hj
    ∙ ap (λ (l : List ℕ). xor_bytes l c.args.k.now) (c.inv_sub_bytes.ensures.blocks j hj ∙ ap inv_sub_bytes (c.inv_shift_rows.ensures.blocks j hj))
