use Rattle.std.proofs.Common.{ℕ, List, zero, suc, ◌*◌, take, drop, ap, ◌∙◌, arith}
use Rattle.std.proofs.lemmas.List.{take_all}
use Rattle.hash_lanes.proofs.Parts.{first_of, fourth_of, second_of, third_of}
use Rattle.hash_lanes.proofs.message.digests.Goals as goal

pub returns : goal.returns
returns c H e zero lt =
    let a : List ℕ = c.digest.result in
    ap (λ (l : List ℕ). take 64 (drop (0 * 64) l)) c.joined_digests.ensures
    ∙ first_of a c.digest-2.result c.digest-3.result c.digest-4.result 64 64 (omega (arith, c.digest.type_inv)) (omega (arith, c.digest-2.type_inv))
    (omega (arith, c.digest-3.type_inv)) (omega arith)
    ∙ take_all 64 a (omega (arith, c.digest.type_inv)) ∙ c.digest.ensures H e
returns c H e (suc zero) lt =
    let b : List ℕ = c.digest-2.result in
    ap (λ (l : List ℕ). take 64 (drop (1 * 64) l)) c.joined_digests.ensures
    ∙ second_of c.digest.result b c.digest-3.result c.digest-4.result 64 64 (omega (arith, c.digest.type_inv)) (omega (arith, c.digest-2.type_inv))
    (omega (arith, c.digest-3.type_inv)) (omega arith)
    ∙ take_all 64 b (omega (arith, c.digest-2.type_inv)) ∙ c.digest-2.ensures H e
returns c H e (suc (suc zero)) lt =
    let d : List ℕ = c.digest-3.result in
    ap (λ (l : List ℕ). take 64 (drop (2 * 64) l)) c.joined_digests.ensures
    ∙ third_of c.digest.result c.digest-2.result d c.digest-4.result 64 64 (omega (arith, c.digest.type_inv)) (omega (arith, c.digest-2.type_inv))
    (omega (arith, c.digest-3.type_inv)) (omega arith)
    ∙ take_all 64 d (omega (arith, c.digest-3.type_inv)) ∙ c.digest-3.ensures H e
returns c H e (suc (suc (suc zero))) lt =
    let f : List ℕ = c.digest-4.result in
    ap (λ (l : List ℕ). take 64 (drop (3 * 64) l)) c.joined_digests.ensures
    ∙ fourth_of c.digest.result c.digest-2.result c.digest-3.result f 64 64 (omega (arith, c.digest.type_inv)) (omega (arith, c.digest-2.type_inv))
    (omega (arith, c.digest-3.type_inv)) (omega arith)
    ∙ take_all 64 f (omega (arith, c.digest-4.type_inv)) ∙ c.digest-4.ensures H e
returns c H e (suc (suc (suc (suc i)))) lt = absurd (omega arith)
