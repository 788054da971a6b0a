use Rattle.std.proofs.Common.{ℕ, List, ap, ◌∙◌}
use Rattle.aes_block.specs.Aes.{mix_columns, shift_rows, xor_bytes}
use Rattle.aes_lanes.proofs.rounds.round.Goals as goal

pub returns-clause-blocks : goal.returns-clause-blocks
returns-clause-blocks c j hj =
    c.add_key.ensures.blocks j hj
    ∙ ap (λ (l : List ℕ). xor_bytes l c.args.k.now) (c.mix_columns.ensures.blocks j hj
    ∙ ap mix_columns (c.shift_rows.ensures.blocks j hj ∙ ap shift_rows (c.sub_bytes.ensures.blocks j hj)))
