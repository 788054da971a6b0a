use Rattle.std.proofs.Common.{◌≤◌, ◌<◌, ℕ, sym, arith, subst}
use Rattle.std.proofs.lemmas.List.Elements.{All-from_get_or}
use Rattle.pager.proofs.ahead.open_listed.Goals as goal

pub open_pages-requires-clause-numbers : goal.open_pages-requires-clause-numbers
open_pages-requires-clause-numbers g c =
    All-from_get_or (λ (n : ℕ). 2 ≤ n) c.pages-numbers.result.now 0
    (λ i less.
    let there : i < c.args.wanted.now.count = omega (arith, less, c.pages-numbers.ensures.many) in
    subst (λ (n : ℕ). 2 ≤ n) (sym (c.pages-numbers.ensures.each i there)) (c.requires.readable i there))
