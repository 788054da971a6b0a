use Rattle.std.proofs.Common.{ℕ, [], ◌∷◌, ◌∙◌, refl}
use Rattle.aes_lanes.specs.Bits.{number}
use Rattle.aes_lanes.specs.Planes.{row_bits}
use Rattle.aes_lanes.proofs.LaneFacts.{shown, shows_xor}
use Rattle.aes_lanes.proofs.SumFacts.{number-xor, row_bits-lt}
use Rattle.aes_lanes.proofs.mix.xor.Goals as goal

pub returns-clause-lanes : goal.returns-clause-lanes
returns-clause-lanes c =
    let k : ℕ = 0 in
    let j : ℕ = 0 in
    let h0 = shows_xor k j _ _ _ _ (shown k j c.args.a.p0 c.requires.left.l0) (shown k j c.args.b.p0 c.requires.right.l0) in
    let h1 = shows_xor k j _ _ _ _ (shown k j c.args.a.p1 c.requires.left.l1) (shown k j c.args.b.p1 c.requires.right.l1) in
    let h2 = shows_xor k j _ _ _ _ (shown k j c.args.a.p2 c.requires.left.l2) (shown k j c.args.b.p2 c.requires.right.l2) in
    let h3 = shows_xor k j _ _ _ _ (shown k j c.args.a.p3 c.requires.left.l3) (shown k j c.args.b.p3 c.requires.right.l3) in
    let h4 = shows_xor k j _ _ _ _ (shown k j c.args.a.p4 c.requires.left.l4) (shown k j c.args.b.p4 c.requires.right.l4) in
    let h5 = shows_xor k j _ _ _ _ (shown k j c.args.a.p5 c.requires.left.l5) (shown k j c.args.b.p5 c.requires.right.l5) in
    let h6 = shows_xor k j _ _ _ _ (shown k j c.args.a.p6 c.requires.left.l6) (shown k j c.args.b.p6 c.requires.right.l6) in
    let h7 = shows_xor k j _ _ _ _ (shown k j c.args.a.p7 c.requires.left.l7) (shown k j c.args.b.p7 c.requires.right.l7) in
    record { l0 = h0.lanes; l1 = h1.lanes; l2 = h2.lanes; l3 = h3.lanes; l4 = h4.lanes; l5 = h5.lanes; l6 = h6.lanes; l7 = h7.lanes }

pub returns-clause-bytes : goal.returns-clause-bytes
returns-clause-bytes c k j hk hj =
    let h0 = shows_xor k j _ _ _ _ (shown k j c.args.a.p0 c.requires.left.l0) (shown k j c.args.b.p0 c.requires.right.l0) in
    let h1 = shows_xor k j _ _ _ _ (shown k j c.args.a.p1 c.requires.left.l1) (shown k j c.args.b.p1 c.requires.right.l1) in
    let h2 = shows_xor k j _ _ _ _ (shown k j c.args.a.p2 c.requires.left.l2) (shown k j c.args.b.p2 c.requires.right.l2) in
    let h3 = shows_xor k j _ _ _ _ (shown k j c.args.a.p3 c.requires.left.l3) (shown k j c.args.b.p3 c.requires.right.l3) in
    let h4 = shows_xor k j _ _ _ _ (shown k j c.args.a.p4 c.requires.left.l4) (shown k j c.args.b.p4 c.requires.right.l4) in
    let h5 = shows_xor k j _ _ _ _ (shown k j c.args.a.p5 c.requires.left.l5) (shown k j c.args.b.p5 c.requires.right.l5) in
    let h6 = shows_xor k j _ _ _ _ (shown k j c.args.a.p6 c.requires.left.l6) (shown k j c.args.b.p6 c.requires.right.l6) in
    let h7 = shows_xor k j _ _ _ _ (shown k j c.args.a.p7 c.requires.left.l7) (shown k j c.args.b.p7 c.requires.right.l7) in
    (λ i. number (h0.bit i ∷ h1.bit i ∷ h2.bit i ∷ h3.bit i ∷ h4.bit i ∷ h5.bit i ∷ h6.bit i ∷ h7.bit i ∷ []))
    ∙ number-xor (row_bits c.args.a k j) (row_bits c.args.b k j) refl (row_bits-lt c.args.a k j) (row_bits-lt c.args.b k j)
