use Rattle.std.proofs.Common.{ℕ, [], ◌∷◌}
use Rattle.aes_lanes.proofs.LaneFacts.{shown, shows_and, shows_xor}
use Rattle.aes_lanes.specs.Gates.{multiplied_of}
use Rattle.aes_lanes.proofs.inv_sbox.multiplied.Goals as goal

pub returns-clause-lanes : goal.returns-clause-lanes
returns-clause-lanes c =
    let k : ℕ = 0 in
    let j : ℕ = 0 in
    let x7 = shown k j c.args.v.x7 c.requires.sums.x7 in
    let y1 = shown k j c.args.v.y1 c.requires.sums.y1 in
    let y2 = shown k j c.args.v.y2 c.requires.sums.y2 in
    let y3 = shown k j c.args.v.y3 c.requires.sums.y3 in
    let y4 = shown k j c.args.v.y4 c.requires.sums.y4 in
    let y5 = shown k j c.args.v.y5 c.requires.sums.y5 in
    let y6 = shown k j c.args.v.y6 c.requires.sums.y6 in
    let y7 = shown k j c.args.v.y7 c.requires.sums.y7 in
    let y8 = shown k j c.args.v.y8 c.requires.sums.y8 in
    let y9 = shown k j c.args.v.y9 c.requires.sums.y9 in
    let y10 = shown k j c.args.v.y10 c.requires.sums.y10 in
    let y11 = shown k j c.args.v.y11 c.requires.sums.y11 in
    let y12 = shown k j c.args.v.y12 c.requires.sums.y12 in
    let y13 = shown k j c.args.v.y13 c.requires.sums.y13 in
    let y14 = shown k j c.args.v.y14 c.requires.sums.y14 in
    let y15 = shown k j c.args.v.y15 c.requires.sums.y15 in
    let y16 = shown k j c.args.v.y16 c.requires.sums.y16 in
    let y17 = shown k j c.args.v.y17 c.requires.sums.y17 in
    let y18 = shown k j c.args.v.y18 c.requires.sums.y18 in
    let y19 = shown k j c.args.v.y19 c.requires.sums.y19 in
    let y20 = shown k j c.args.v.y20 c.requires.sums.y20 in
    let y21 = shown k j c.args.v.y21 c.requires.sums.y21 in
    let t29 = shown k j c.args.by.a c.requires.inverse.a in
    let t33 = shown k j c.args.by.b c.requires.inverse.b in
    let t37 = shown k j c.args.by.c c.requires.inverse.c in
    let t40 = shown k j c.args.by.d c.requires.inverse.d in
    let t41 = shows_xor k j _ _ _ _ t40 t37 in
    let t42 = shows_xor k j _ _ _ _ t29 t33 in
    let t43 = shows_xor k j _ _ _ _ t29 t40 in
    let t44 = shows_xor k j _ _ _ _ t33 t37 in
    let t45 = shows_xor k j _ _ _ _ t42 t41 in
    let z0 = shows_and k j _ _ _ _ t44 y15 in
    let z1 = shows_and k j _ _ _ _ t37 y6 in
    let z2 = shows_and k j _ _ _ _ t33 x7 in
    let z3 = shows_and k j _ _ _ _ t43 y16 in
    let z4 = shows_and k j _ _ _ _ t40 y1 in
    let z5 = shows_and k j _ _ _ _ t29 y7 in
    let z6 = shows_and k j _ _ _ _ t42 y11 in
    let z7 = shows_and k j _ _ _ _ t45 y17 in
    let z8 = shows_and k j _ _ _ _ t41 y10 in
    let z9 = shows_and k j _ _ _ _ t44 y12 in
    let z10 = shows_and k j _ _ _ _ t37 y3 in
    let z11 = shows_and k j _ _ _ _ t33 y4 in
    let z12 = shows_and k j _ _ _ _ t43 y13 in
    let z13 = shows_and k j _ _ _ _ t40 y5 in
    let z14 = shows_and k j _ _ _ _ t29 y2 in
    let z15 = shows_and k j _ _ _ _ t42 y9 in
    let z16 = shows_and k j _ _ _ _ t45 y14 in
    let z17 = shows_and k j _ _ _ _ t41 y8 in
    record {
      z0 = z0.lanes;
      z1 = z1.lanes;
      z2 = z2.lanes;
      z3 = z3.lanes;
      z4 = z4.lanes;
      z5 = z5.lanes;
      z6 = z6.lanes;
      z7 = z7.lanes;
      z8 = z8.lanes;
      z9 = z9.lanes;
      z10 = z10.lanes;
      z11 = z11.lanes;
      z12 = z12.lanes;
      z13 = z13.lanes;
      z14 = z14.lanes;
      z15 = z15.lanes;
      z16 = z16.lanes;
      z17 =
          z17.lanes;
    }

pub returns-clause-bits : goal.returns-clause-bits
unfolding multiplied_of
returns-clause-bits c k j hk hj =
    let x7 = shown k j c.args.v.x7 c.requires.sums.x7 in
    let y1 = shown k j c.args.v.y1 c.requires.sums.y1 in
    let y2 = shown k j c.args.v.y2 c.requires.sums.y2 in
    let y3 = shown k j c.args.v.y3 c.requires.sums.y3 in
    let y4 = shown k j c.args.v.y4 c.requires.sums.y4 in
    let y5 = shown k j c.args.v.y5 c.requires.sums.y5 in
    let y6 = shown k j c.args.v.y6 c.requires.sums.y6 in
    let y7 = shown k j c.args.v.y7 c.requires.sums.y7 in
    let y8 = shown k j c.args.v.y8 c.requires.sums.y8 in
    let y9 = shown k j c.args.v.y9 c.requires.sums.y9 in
    let y10 = shown k j c.args.v.y10 c.requires.sums.y10 in
    let y11 = shown k j c.args.v.y11 c.requires.sums.y11 in
    let y12 = shown k j c.args.v.y12 c.requires.sums.y12 in
    let y13 = shown k j c.args.v.y13 c.requires.sums.y13 in
    let y14 = shown k j c.args.v.y14 c.requires.sums.y14 in
    let y15 = shown k j c.args.v.y15 c.requires.sums.y15 in
    let y16 = shown k j c.args.v.y16 c.requires.sums.y16 in
    let y17 = shown k j c.args.v.y17 c.requires.sums.y17 in
    let y18 = shown k j c.args.v.y18 c.requires.sums.y18 in
    let y19 = shown k j c.args.v.y19 c.requires.sums.y19 in
    let y20 = shown k j c.args.v.y20 c.requires.sums.y20 in
    let y21 = shown k j c.args.v.y21 c.requires.sums.y21 in
    let t29 = shown k j c.args.by.a c.requires.inverse.a in
    let t33 = shown k j c.args.by.b c.requires.inverse.b in
    let t37 = shown k j c.args.by.c c.requires.inverse.c in
    let t40 = shown k j c.args.by.d c.requires.inverse.d in
    let t41 = shows_xor k j _ _ _ _ t40 t37 in
    let t42 = shows_xor k j _ _ _ _ t29 t33 in
    let t43 = shows_xor k j _ _ _ _ t29 t40 in
    let t44 = shows_xor k j _ _ _ _ t33 t37 in
    let t45 = shows_xor k j _ _ _ _ t42 t41 in
    let z0 = shows_and k j _ _ _ _ t44 y15 in
    let z1 = shows_and k j _ _ _ _ t37 y6 in
    let z2 = shows_and k j _ _ _ _ t33 x7 in
    let z3 = shows_and k j _ _ _ _ t43 y16 in
    let z4 = shows_and k j _ _ _ _ t40 y1 in
    let z5 = shows_and k j _ _ _ _ t29 y7 in
    let z6 = shows_and k j _ _ _ _ t42 y11 in
    let z7 = shows_and k j _ _ _ _ t45 y17 in
    let z8 = shows_and k j _ _ _ _ t41 y10 in
    let z9 = shows_and k j _ _ _ _ t44 y12 in
    let z10 = shows_and k j _ _ _ _ t37 y3 in
    let z11 = shows_and k j _ _ _ _ t33 y4 in
    let z12 = shows_and k j _ _ _ _ t43 y13 in
    let z13 = shows_and k j _ _ _ _ t40 y5 in
    let z14 = shows_and k j _ _ _ _ t29 y2 in
    let z15 = shows_and k j _ _ _ _ t42 y9 in
    let z16 = shows_and k j _ _ _ _ t45 y14 in
    let z17 = shows_and k j _ _ _ _ t41 y8 in
    λ i. z0.bit i ∷ z1.bit i ∷ z2.bit i ∷ z3.bit i ∷ z4.bit i ∷ z5.bit i ∷ z6.bit i ∷ z7.bit i
    ∷ z8.bit i ∷ z9.bit i ∷ z10.bit i ∷ z11.bit i ∷ z12.bit i ∷ z13.bit i ∷ z14.bit i ∷ z15.bit i
    ∷ z16.bit i ∷ z17.bit i ∷ []
