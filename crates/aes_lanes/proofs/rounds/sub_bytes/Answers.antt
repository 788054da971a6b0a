use Rattle.std.proofs.Common.{[], ◌∷◌, arith}
use Rattle.aes_lanes.proofs.rounds.sub_bytes.Goals as goal

pub returns-clause-blocks : goal.returns-clause-blocks
returns-clause-blocks c j hj =
    λ i. c.sub_row.ensures.bytes 0 j (omega arith) hj i
    ∷ c.sub_row-2.ensures.bytes 0 j (omega arith) hj i
    ∷ c.sub_row-3.ensures.bytes 0 j (omega arith) hj i
    ∷ c.sub_row-4.ensures.bytes 0 j (omega arith) hj i
    ∷ c.sub_row.ensures.bytes 1 j (omega arith) hj i
    ∷ c.sub_row-2.ensures.bytes 1 j (omega arith) hj i
    ∷ c.sub_row-3.ensures.bytes 1 j (omega arith) hj i
    ∷ c.sub_row-4.ensures.bytes 1 j (omega arith) hj i
    ∷ c.sub_row.ensures.bytes 2 j (omega arith) hj i
    ∷ c.sub_row-2.ensures.bytes 2 j (omega arith) hj i
    ∷ c.sub_row-3.ensures.bytes 2 j (omega arith) hj i
    ∷ c.sub_row-4.ensures.bytes 2 j (omega arith) hj i
    ∷ c.sub_row.ensures.bytes 3 j (omega arith) hj i
    ∷ c.sub_row-2.ensures.bytes 3 j (omega arith) hj i
    ∷ c.sub_row-3.ensures.bytes 3 j (omega arith) hj i
    ∷ c.sub_row-4.ensures.bytes 3 j (omega arith) hj i ∷ []
