use Rattle.std.proofs.Common.{◌≡◌, ◌/◌, ◌%◌, [], ◌∷◌, ◌∙◌, arith}
use Rattle.page_build.proofs.bytes.two_bytes.Goals as goal

pub returns : goal.returns
returns c =
    let n = c.args.number in
    let high : n / 256 % 256 ≡ n / 256 = omega (arith, c.ranges.number) in
    c.u16_bytes.ensures ∙ (λ i. high i ∷ n % 256 ∷ [])
