use Rattle.std.proofs.Common.{[], ◌∷◌}
use Rattle.aes_block.specs.Aes.{shift_rows}
use Rattle.aes_lanes.specs.Planes.{byte_in}
use Rattle.aes_lanes.proofs.shift.shift_rows.Goals as goal

pub returns-clause-blocks : goal.returns-clause-blocks
unfolding shift_rows
returns-clause-blocks c j hj =
    let h1 = c.rotate_by_1.ensures.bytes j in
    let h2 = c.rotate_by_2.ensures.bytes j in
    let h3 = c.rotate_by_3.ensures.bytes j in
    λ i. byte_in c.args.s.r0 0 j
    ∷ h3.b0 i
    ∷ h2.b0 i
    ∷ h1.b0 i
    ∷ byte_in c.args.s.r0 1 j
    ∷ h3.b1 i
    ∷ h2.b1 i
    ∷ h1.b1 i
    ∷ byte_in c.args.s.r0 2 j
    ∷ h3.b2 i
    ∷ h2.b2 i
    ∷ h1.b2 i
    ∷ byte_in c.args.s.r0 3 j
    ∷ h3.b3 i
    ∷ h2.b3 i
    ∷ h1.b3 i ∷ []
