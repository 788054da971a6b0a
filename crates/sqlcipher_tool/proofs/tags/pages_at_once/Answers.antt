use Rattle.std.proofs.Common.{◌*◌, ◌/◌, ◌≤◌, arith}
use Rattle.std.proofs.Math.Nat.{div-mul-le_self, mul-le-mul_right}
use Rattle.std.proofs.lemmas.Nat.{le-div}
use Rattle.sqlcipher_tool.proofs.tags.pages_at_once.Goals as goal

pub returns-clause-some : goal.returns-clause-some
returns-clause-some c =
    let one : 1 ≤ 65536 / c.args.size = le-div 1 65536 c.args.size (omega (arith, c.requires.range.0)) (omega (arith, c.requires.range.1)) in
    omega (arith, one, c.min-held.ensures, c.min.ensures, c.requires.some)

pub returns-clause-bounded : goal.returns-clause-bounded
returns-clause-bounded c =
    let held : c.min.result * c.args.size ≤ 65536 / c.args.size * c.args.size =
    mul-le-mul_right c.args.size (omega (arith, c.min-held.ensures, c.min.ensures)) in
    let most : 65536 / c.args.size * c.args.size ≤ 65536 = div-mul-le_self 65536 c.args.size in
    omega (arith, held, most)
