use Rattle.std.proofs.Common.{◌≡◌, ℕ, ◌%◌, [], ◌∷◌, ◌∙◌, refl, arith}
use Rattle.aes_lanes.specs.Transposed.{bits, first_lane_of, four_transposed, four_vectors, second_of}
use Rattle.aes_lanes.proofs.SwapFacts.{same64}
use Rattle.aes_lanes.proofs.transpose.transpose_four.Goals as goal

pub returns-clause-bits : goal.returns-clause-bits
returns-clause-bits c j hj =
    let sa_at : ℕ → ℕ = λ n. first_lane_of 8 (bits c.args.v.a j) (bits c.args.v.b j) (n % 64) in
    let sa_is : bits c.swap8-s.result.a j ≡ sa_at = λ i n. c.swap8-s.ensures.first j n hj i in
    let sb_at : ℕ → ℕ = λ n. second_of 8 (bits c.args.v.a j) (bits c.args.v.b j) (n % 64) in
    let sb_is : bits c.swap8-s.result.b j ≡ sb_at = λ i n. c.swap8-s.ensures.second j n hj i in
    let ta_at : ℕ → ℕ = λ n. first_lane_of 8 (bits c.args.v.c j) (bits c.args.v.d j) (n % 64) in
    let ta_is : bits c.swap8-t.result.a j ≡ ta_at = λ i n. c.swap8-t.ensures.first j n hj i in
    let tb_at : ℕ → ℕ = λ n. second_of 8 (bits c.args.v.c j) (bits c.args.v.d j) (n % 64) in
    let tb_is : bits c.swap8-t.result.b j ≡ tb_at = λ i n. c.swap8-t.ensures.second j n hj i in
    let xa_at : ℕ → ℕ = λ n. first_lane_of 16 (sa_at) (ta_at) (n % 64) in
    let xa_is : bits c.swap16-x.result.a j ≡ xa_at = λ i n. (c.swap16-x.ensures.first j n hj ∙ (λ t. first_lane_of 16 (sa_is t) (ta_is t) (n % 64))) i in
    let xb_at : ℕ → ℕ = λ n. second_of 16 (sa_at) (ta_at) (n % 64) in
    let xb_is : bits c.swap16-x.result.b j ≡ xb_at = λ i n. (c.swap16-x.ensures.second j n hj ∙ (λ t. second_of 16 (sa_is t) (ta_is t) (n % 64))) i in
    let ya_at : ℕ → ℕ = λ n. first_lane_of 16 (sb_at) (tb_at) (n % 64) in
    let ya_is : bits c.swap16-y.result.a j ≡ ya_at = λ i n. (c.swap16-y.ensures.first j n hj ∙ (λ t. first_lane_of 16 (sb_is t) (tb_is t) (n % 64))) i in
    let yb_at : ℕ → ℕ = λ n. second_of 16 (sb_at) (tb_at) (n % 64) in
    let yb_is : bits c.swap16-y.result.b j ≡ yb_at = λ i n. (c.swap16-y.ensures.second j n hj ∙ (λ t. second_of 16 (sb_is t) (tb_is t) (n % 64))) i in
    λ i. (λ k. ((λ t. xa_is t k) ∙ same64 (first_lane_of 16 sa_at ta_at) (four_transposed (four_vectors c.args.v j) 0) refl (k % 64) (omega arith)) i)
    ∷ (λ k. ((λ t. ya_is t k) ∙ same64 (first_lane_of 16 sb_at tb_at) (four_transposed (four_vectors c.args.v j) 1) refl (k % 64) (omega arith)) i)
    ∷ (λ k. ((λ t. xb_is t k) ∙ same64 (second_of 16 sa_at ta_at) (four_transposed (four_vectors c.args.v j) 2) refl (k % 64) (omega arith)) i)
    ∷ (λ k. ((λ t. yb_is t k) ∙ same64 (second_of 16 sb_at tb_at) (four_transposed (four_vectors c.args.v j) 3) refl (k % 64) (omega arith)) i) ∷ []
