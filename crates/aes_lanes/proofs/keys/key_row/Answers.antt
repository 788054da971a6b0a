use Rattle.std.proofs.Common.{[], ◌∷◌, slice_index, ◌∙◌}
use Rattle.aes_lanes.specs.Bits.{number}
use Rattle.aes_lanes.proofs.KeyFacts.{eight_bits}
use Rattle.aes_lanes.proofs.keys.key_row.Goals as goal

pub returns-clause-bytes : goal.returns-clause-bytes
returns-clause-bytes c k j hk hj =
    (λ t. number (c.key_plane.ensures.bits k j hk hj t ∷ c.key_plane-2.ensures.bits k j hk hj t ∷ c.key_plane-3.ensures.bits k j hk hj t
    ∷ c.key_plane-4.ensures.bits k j hk hj t ∷ c.key_plane-5.ensures.bits k j hk hj t ∷ c.key_plane-6.ensures.bits k j hk hj t
    ∷ c.key_plane-7.ensures.bits k j hk hj t ∷ c.key_plane-8.ensures.bits k j hk hj t ∷ []))
    ∙ eight_bits (slice_index c.args.w k) c.args.i
