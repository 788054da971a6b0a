use Rattle.std.proofs.Common.{◌≡◌, ℕ, ◌%◌, [], ◌∷◌, ◌∙◌, refl, arith}
use Rattle.aes_lanes.specs.Transposed.{bits, first_lane_of, row_transposed, row_vectors, second_of}
use Rattle.aes_lanes.proofs.SwapFacts.{same64}
use Rattle.aes_lanes.proofs.transpose.transpose_row.Goals as goal

pub returns-clause-bits : goal.returns-clause-bits
returns-clause-bits c j hj =
    let sa_at : ℕ → ℕ = λ n. first_lane_of 1 (bits c.args.v.p0 j) (bits c.args.v.p1 j) (n % 64) in
    let sa_is : bits c.swap1-s.result.a j ≡ sa_at = λ i n. c.swap1-s.ensures.first j n hj i in
    let sb_at : ℕ → ℕ = λ n. second_of 1 (bits c.args.v.p0 j) (bits c.args.v.p1 j) (n % 64) in
    let sb_is : bits c.swap1-s.result.b j ≡ sb_at = λ i n. c.swap1-s.ensures.second j n hj i in
    let ta_at : ℕ → ℕ = λ n. first_lane_of 1 (bits c.args.v.p2 j) (bits c.args.v.p3 j) (n % 64) in
    let ta_is : bits c.swap1-t.result.a j ≡ ta_at = λ i n. c.swap1-t.ensures.first j n hj i in
    let tb_at : ℕ → ℕ = λ n. second_of 1 (bits c.args.v.p2 j) (bits c.args.v.p3 j) (n % 64) in
    let tb_is : bits c.swap1-t.result.b j ≡ tb_at = λ i n. c.swap1-t.ensures.second j n hj i in
    let ua_at : ℕ → ℕ = λ n. first_lane_of 1 (bits c.args.v.p4 j) (bits c.args.v.p5 j) (n % 64) in
    let ua_is : bits c.swap1-u.result.a j ≡ ua_at = λ i n. c.swap1-u.ensures.first j n hj i in
    let ub_at : ℕ → ℕ = λ n. second_of 1 (bits c.args.v.p4 j) (bits c.args.v.p5 j) (n % 64) in
    let ub_is : bits c.swap1-u.result.b j ≡ ub_at = λ i n. c.swap1-u.ensures.second j n hj i in
    let wa_at : ℕ → ℕ = λ n. first_lane_of 1 (bits c.args.v.p6 j) (bits c.args.v.p7 j) (n % 64) in
    let wa_is : bits c.swap1-w.result.a j ≡ wa_at = λ i n. c.swap1-w.ensures.first j n hj i in
    let wb_at : ℕ → ℕ = λ n. second_of 1 (bits c.args.v.p6 j) (bits c.args.v.p7 j) (n % 64) in
    let wb_is : bits c.swap1-w.result.b j ≡ wb_at = λ i n. c.swap1-w.ensures.second j n hj i in
    let xa_at : ℕ → ℕ = λ n. first_lane_of 2 (sa_at) (ta_at) (n % 64) in
    let xa_is : bits c.swap2-x.result.a j ≡ xa_at = λ i n. (c.swap2-x.ensures.first j n hj ∙ (λ t. first_lane_of 2 (sa_is t) (ta_is t) (n % 64))) i in
    let xb_at : ℕ → ℕ = λ n. second_of 2 (sa_at) (ta_at) (n % 64) in
    let xb_is : bits c.swap2-x.result.b j ≡ xb_at = λ i n. (c.swap2-x.ensures.second j n hj ∙ (λ t. second_of 2 (sa_is t) (ta_is t) (n % 64))) i in
    let ya_at : ℕ → ℕ = λ n. first_lane_of 2 (sb_at) (tb_at) (n % 64) in
    let ya_is : bits c.swap2-y.result.a j ≡ ya_at = λ i n. (c.swap2-y.ensures.first j n hj ∙ (λ t. first_lane_of 2 (sb_is t) (tb_is t) (n % 64))) i in
    let yb_at : ℕ → ℕ = λ n. second_of 2 (sb_at) (tb_at) (n % 64) in
    let yb_is : bits c.swap2-y.result.b j ≡ yb_at = λ i n. (c.swap2-y.ensures.second j n hj ∙ (λ t. second_of 2 (sb_is t) (tb_is t) (n % 64))) i in
    let za_at : ℕ → ℕ = λ n. first_lane_of 2 (ua_at) (wa_at) (n % 64) in
    let za_is : bits c.swap2-z.result.a j ≡ za_at = λ i n. (c.swap2-z.ensures.first j n hj ∙ (λ t. first_lane_of 2 (ua_is t) (wa_is t) (n % 64))) i in
    let zb_at : ℕ → ℕ = λ n. second_of 2 (ua_at) (wa_at) (n % 64) in
    let zb_is : bits c.swap2-z.result.b j ≡ zb_at = λ i n. (c.swap2-z.ensures.second j n hj ∙ (λ t. second_of 2 (ua_is t) (wa_is t) (n % 64))) i in
    let qa_at : ℕ → ℕ = λ n. first_lane_of 2 (ub_at) (wb_at) (n % 64) in
    let qa_is : bits c.swap2-q.result.a j ≡ qa_at = λ i n. (c.swap2-q.ensures.first j n hj ∙ (λ t. first_lane_of 2 (ub_is t) (wb_is t) (n % 64))) i in
    let qb_at : ℕ → ℕ = λ n. second_of 2 (ub_at) (wb_at) (n % 64) in
    let qb_is : bits c.swap2-q.result.b j ≡ qb_at = λ i n. (c.swap2-q.ensures.second j n hj ∙ (λ t. second_of 2 (ub_is t) (wb_is t) (n % 64))) i in
    let ka_at : ℕ → ℕ = λ n. first_lane_of 4 (xa_at) (za_at) (n % 64) in
    let ka_is : bits c.swap4-k.result.a j ≡ ka_at = λ i n. (c.swap4-k.ensures.first j n hj ∙ (λ t. first_lane_of 4 (xa_is t) (za_is t) (n % 64))) i in
    let kb_at : ℕ → ℕ = λ n. second_of 4 (xa_at) (za_at) (n % 64) in
    let kb_is : bits c.swap4-k.result.b j ≡ kb_at = λ i n. (c.swap4-k.ensures.second j n hj ∙ (λ t. second_of 4 (xa_is t) (za_is t) (n % 64))) i in
    let la_at : ℕ → ℕ = λ n. first_lane_of 4 (ya_at) (qa_at) (n % 64) in
    let la_is : bits c.swap4-l.result.a j ≡ la_at = λ i n. (c.swap4-l.ensures.first j n hj ∙ (λ t. first_lane_of 4 (ya_is t) (qa_is t) (n % 64))) i in
    let lb_at : ℕ → ℕ = λ n. second_of 4 (ya_at) (qa_at) (n % 64) in
    let lb_is : bits c.swap4-l.result.b j ≡ lb_at = λ i n. (c.swap4-l.ensures.second j n hj ∙ (λ t. second_of 4 (ya_is t) (qa_is t) (n % 64))) i in
    let ma_at : ℕ → ℕ = λ n. first_lane_of 4 (xb_at) (zb_at) (n % 64) in
    let ma_is : bits c.swap4-m.result.a j ≡ ma_at = λ i n. (c.swap4-m.ensures.first j n hj ∙ (λ t. first_lane_of 4 (xb_is t) (zb_is t) (n % 64))) i in
    let mb_at : ℕ → ℕ = λ n. second_of 4 (xb_at) (zb_at) (n % 64) in
    let mb_is : bits c.swap4-m.result.b j ≡ mb_at = λ i n. (c.swap4-m.ensures.second j n hj ∙ (λ t. second_of 4 (xb_is t) (zb_is t) (n % 64))) i in
    let na_at : ℕ → ℕ = λ n. first_lane_of 4 (yb_at) (qb_at) (n % 64) in
    let na_is : bits c.swap4-n.result.a j ≡ na_at = λ i n. (c.swap4-n.ensures.first j n hj ∙ (λ t. first_lane_of 4 (yb_is t) (qb_is t) (n % 64))) i in
    let nb_at : ℕ → ℕ = λ n. second_of 4 (yb_at) (qb_at) (n % 64) in
    let nb_is : bits c.swap4-n.result.b j ≡ nb_at = λ i n. (c.swap4-n.ensures.second j n hj ∙ (λ t. second_of 4 (yb_is t) (qb_is t) (n % 64))) i in
    λ i. (λ k. ((λ t. ka_is t k) ∙ same64 (first_lane_of 4 xa_at za_at) (row_transposed (row_vectors c.args.v j) 0) refl (k % 64) (omega arith)) i)
    ∷ (λ k. ((λ t. la_is t k) ∙ same64 (first_lane_of 4 ya_at qa_at) (row_transposed (row_vectors c.args.v j) 1) refl (k % 64) (omega arith)) i)
    ∷ (λ k. ((λ t. ma_is t k) ∙ same64 (first_lane_of 4 xb_at zb_at) (row_transposed (row_vectors c.args.v j) 2) refl (k % 64) (omega arith)) i)
    ∷ (λ k. ((λ t. na_is t k) ∙ same64 (first_lane_of 4 yb_at qb_at) (row_transposed (row_vectors c.args.v j) 3) refl (k % 64) (omega arith)) i)
    ∷ (λ k. ((λ t. kb_is t k) ∙ same64 (second_of 4 xa_at za_at) (row_transposed (row_vectors c.args.v j) 4) refl (k % 64) (omega arith)) i)
    ∷ (λ k. ((λ t. lb_is t k) ∙ same64 (second_of 4 ya_at qa_at) (row_transposed (row_vectors c.args.v j) 5) refl (k % 64) (omega arith)) i)
    ∷ (λ k. ((λ t. mb_is t k) ∙ same64 (second_of 4 xb_at zb_at) (row_transposed (row_vectors c.args.v j) 6) refl (k % 64) (omega arith)) i)
    ∷ (λ k. ((λ t. nb_is t k) ∙ same64 (second_of 4 yb_at qb_at) (row_transposed (row_vectors c.args.v j) 7) refl (k % 64) (omega arith)) i) ∷ []
