use Rattle.std.proofs.Common.{◌≡◌, ◌++◌, ◌≤◌, ◌∙◌, ap, sym, ⊎_elim, List, ℕ, [], length, take, arith, length-append, length-take-le}
use Rattle.system_calls.proofs.retries.read_some.Goals as goal

-- where nothing was left, none came
none_came : (count : ℕ) (buf left after : List ℕ) → count ≤ length buf → left ≡ take count buf ++ after → left ≡ [] → count ≡ 0
none_came count buf left after few told none =
    omega (arith, length-take-le count buf few, length-append (take count buf) after, ap (λ (l : List ℕ). length l) (sym told ∙ none))

pub returns-in-Ok-clause-end : goal.returns-in-Ok-clause-end
returns-in-Ok-clause-end g c told room = (
  λ none.
      ⊎_elim (λ empty. absurd (omega (arith, room, empty, c.loop.invariant.size))) (λ end. sym (c.loop.invariant.same told) ∙ end)
      (c.in-Ok.ensures.end told none),
  λ end.
      none_came c.in-Ok.count c.read.new.buf _ _ (omega (arith, c.in-Ok.ensures.count, c.read.auto.buf)) (c.in-Ok.ensures.told told) (c.loop.invariant.same told ∙ end),
)
