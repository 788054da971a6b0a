use Rattle.std.proofs.Common.{◌≡◌, ◌/◌, ◌%◌, [], ◌∷◌, ◌∙◌, arith}
use Rattle.page_build.proofs.bytes.four_bytes.Goals as goal

pub returns : goal.returns
returns c =
    let n = c.args.number in
    let first : n / 16777216 % 256 ≡ n / 65536 / 256 = omega (arith, c.ranges.number) in
    let third : n / 256 % 256 ≡ n % 65536 / 256 = omega arith in
    let last : n % 256 ≡ n % 65536 % 256 = omega arith in
    c.u32_bytes.ensures ∙ (λ i. first i ∷ n / 65536 % 256 ∷ third i ∷ last i ∷ [])
