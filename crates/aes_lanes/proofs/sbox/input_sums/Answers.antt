use Rattle.std.proofs.Common.{ℕ, [], ◌∷◌}
use Rattle.aes_lanes.proofs.LaneFacts.{shown, shows_xor}
use Rattle.aes_lanes.specs.Gates.{input_sums_of}
use Rattle.aes_lanes.proofs.sbox.input_sums.Goals as goal

pub returns-clause-lanes : goal.returns-clause-lanes
returns-clause-lanes c =
    let k : ℕ = 0 in
    let j : ℕ = 0 in
    let q0 = shown k j c.args.v.p0 c.requires.l0 in
    let q1 = shown k j c.args.v.p1 c.requires.l1 in
    let q2 = shown k j c.args.v.p2 c.requires.l2 in
    let q3 = shown k j c.args.v.p3 c.requires.l3 in
    let q4 = shown k j c.args.v.p4 c.requires.l4 in
    let q5 = shown k j c.args.v.p5 c.requires.l5 in
    let q6 = shown k j c.args.v.p6 c.requires.l6 in
    let q7 = shown k j c.args.v.p7 c.requires.l7 in
    let y14 = shows_xor k j _ _ _ _ q4 q2 in
    let y13 = shows_xor k j _ _ _ _ q7 q1 in
    let y9 = shows_xor k j _ _ _ _ q7 q4 in
    let y8 = shows_xor k j _ _ _ _ q7 q2 in
    let a0 = shows_xor k j _ _ _ _ q6 q5 in
    let y1 = shows_xor k j _ _ _ _ a0 q0 in
    let y4 = shows_xor k j _ _ _ _ y1 q4 in
    let y12 = shows_xor k j _ _ _ _ y13 y14 in
    let y2 = shows_xor k j _ _ _ _ y1 q7 in
    let y5 = shows_xor k j _ _ _ _ y1 q1 in
    let y3 = shows_xor k j _ _ _ _ y5 y8 in
    let a1 = shows_xor k j _ _ _ _ q3 y12 in
    let y15 = shows_xor k j _ _ _ _ a1 q2 in
    let y20 = shows_xor k j _ _ _ _ a1 q6 in
    let y6 = shows_xor k j _ _ _ _ y15 q0 in
    let y10 = shows_xor k j _ _ _ _ y15 a0 in
    let y11 = shows_xor k j _ _ _ _ y20 y9 in
    let y7 = shows_xor k j _ _ _ _ q0 y11 in
    let y17 = shows_xor k j _ _ _ _ y10 y11 in
    let y19 = shows_xor k j _ _ _ _ y10 y8 in
    let y16 = shows_xor k j _ _ _ _ a0 y11 in
    let y21 = shows_xor k j _ _ _ _ y13 y16 in
    let y18 = shows_xor k j _ _ _ _ q7 y16 in
    record { x7 = q0.lanes; y1 = y1.lanes; y2 = y2.lanes; y3 = y3.lanes; y4 = y4.lanes; y5 = y5.lanes; y6 = y6.lanes; y7 = y7.lanes; y8 = y8.lanes; y9 = y9.lanes; y10 = y10.lanes; y11 = y11.lanes; y12 = y12.lanes; y13 = y13.lanes; y14 = y14.lanes; y15 = y15.lanes; y16 = y16.lanes; y17 = y17.lanes; y18 = y18.lanes; y19 = y19.lanes; y20 = y20.lanes; y21 = y21.lanes }

pub returns-clause-bits : goal.returns-clause-bits
unfolding input_sums_of
returns-clause-bits c k j hk hj =
    let q0 = shown k j c.args.v.p0 c.requires.l0 in
    let q1 = shown k j c.args.v.p1 c.requires.l1 in
    let q2 = shown k j c.args.v.p2 c.requires.l2 in
    let q3 = shown k j c.args.v.p3 c.requires.l3 in
    let q4 = shown k j c.args.v.p4 c.requires.l4 in
    let q5 = shown k j c.args.v.p5 c.requires.l5 in
    let q6 = shown k j c.args.v.p6 c.requires.l6 in
    let q7 = shown k j c.args.v.p7 c.requires.l7 in
    let y14 = shows_xor k j _ _ _ _ q4 q2 in
    let y13 = shows_xor k j _ _ _ _ q7 q1 in
    let y9 = shows_xor k j _ _ _ _ q7 q4 in
    let y8 = shows_xor k j _ _ _ _ q7 q2 in
    let a0 = shows_xor k j _ _ _ _ q6 q5 in
    let y1 = shows_xor k j _ _ _ _ a0 q0 in
    let y4 = shows_xor k j _ _ _ _ y1 q4 in
    let y12 = shows_xor k j _ _ _ _ y13 y14 in
    let y2 = shows_xor k j _ _ _ _ y1 q7 in
    let y5 = shows_xor k j _ _ _ _ y1 q1 in
    let y3 = shows_xor k j _ _ _ _ y5 y8 in
    let a1 = shows_xor k j _ _ _ _ q3 y12 in
    let y15 = shows_xor k j _ _ _ _ a1 q2 in
    let y20 = shows_xor k j _ _ _ _ a1 q6 in
    let y6 = shows_xor k j _ _ _ _ y15 q0 in
    let y10 = shows_xor k j _ _ _ _ y15 a0 in
    let y11 = shows_xor k j _ _ _ _ y20 y9 in
    let y7 = shows_xor k j _ _ _ _ q0 y11 in
    let y17 = shows_xor k j _ _ _ _ y10 y11 in
    let y19 = shows_xor k j _ _ _ _ y10 y8 in
    let y16 = shows_xor k j _ _ _ _ a0 y11 in
    let y21 = shows_xor k j _ _ _ _ y13 y16 in
    let y18 = shows_xor k j _ _ _ _ q7 y16 in
    λ i. q0.bit i ∷ y1.bit i ∷ y2.bit i ∷ y3.bit i ∷ y4.bit i ∷ y5.bit i ∷ y6.bit i ∷ y7.bit i
    ∷ y8.bit i ∷ y9.bit i ∷ y10.bit i ∷ y11.bit i ∷ y12.bit i ∷ y13.bit i ∷ y14.bit i ∷ y15.bit i
    ∷ y16.bit i ∷ y17.bit i ∷ y18.bit i ∷ y19.bit i ∷ y20.bit i ∷ y21.bit i ∷ []
