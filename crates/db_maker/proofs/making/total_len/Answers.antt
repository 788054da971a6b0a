use Rattle.std.proofs.Common.{◌≡◌, ◌≤◌, ◌+◌, ℕ, ap, ◌∙◌, arith}
use Rattle.db_maker.specs.Rows.{data_len, total_len}
use Rattle.db_maker.proofs.LoadLaws.{data_most, total_more}
use Rattle.db_maker.proofs.making.total_len.Goals as goal

pub loop-before-preserved : goal.loop-before-preserved
loop-before-preserved c =
    let n : ℕ = c.loop-before.before in
    let i = c.loop-before.invariant in
    let most : data_len (n + 1) ≤ 4500 = data_most (n + 1) in
    let one : c.data_len.result ≡ data_len (n + 1) = c.data_len.ensures in
    (ap (λ t. t + c.data_len.result) i.0 ∙ ap (λ d. total_len n + d) one ∙ total_more n, omega (arith, i.1))
