use Rattle.std.proofs.Common.{◌≡◌, ◌++◌, ◌+◌, ◌-◌, List, ℕ, length, take, drop, ap, sym, ◌∙◌}
use Rattle.std.proofs.lemmas.List.{take_rest, take-append-drop, drop-drop}
use Rattle.std.proofs.Math.Seq.{take-add}
use Rattle.edge_memory.specs.Memory.{Supplied}
use Rattle.edge_memory.proofs.supply.Supply.hand_out.Goals as goal

-- the front of the rest of a slice
moved : (bytes slice front : List ℕ) (at count : ℕ) → slice ≡ bytes → front ≡ take count (take (length slice - at) (drop at slice))
    → front ≡ take count (drop at bytes)
moved bytes slice front at count same is = is ∙ ap (λ (l : List ℕ). take count l) (take_rest slice at) ∙ ap (λ (l : List ℕ). take count (drop at l)) same

-- what was left is what is moved and what is left then
left_of : (bytes front : List ℕ) (at count : ℕ) → front ≡ take count (drop at bytes) → drop at bytes ≡ front ++ drop (at + count) bytes
left_of bytes front at count is =
    sym (take-append-drop count (drop at bytes))
    ∙ ap (λ (l : List ℕ). take count (drop at bytes) ++ l) (drop-drop count at bytes)
    ∙ ap (λ (l : List ℕ). l ++ drop (at + count) bytes) (sym is)

given_of : (bytes front : List ℕ) (at count : ℕ) → front ≡ take count (drop at bytes) → take (at + count) bytes ≡ take at bytes ++ front
given_of bytes front at count is = take-add at count bytes ∙ ap (λ (l : List ℕ). take at bytes ++ l) (sym is)

pub returns-clause-left : goal.returns-clause-left
returns-clause-left c =
    let bytes = c.self.inside.bytes.items in
    let at = c.self.inside.at in
    let count = c.copy_front-count.result in
    let front = take count c.copy_front-count.new.buf in
    sym (ap (λ (s : Supplied). s.left) c.self.view_is)
    ∙ left_of bytes front at count (moved bytes c.deref.result.now front at count c.deref.ensures.value c.copy_front-count.ensures.front)

pub returns-clause-given : goal.returns-clause-given
returns-clause-given c =
    let bytes = c.self.inside.bytes.items in
    let at = c.self.inside.at in
    let count = c.copy_front-count.result in
    let front = take count c.copy_front-count.new.buf in
    given_of bytes front at count (moved bytes c.deref.result.now front at count c.deref.ensures.value c.copy_front-count.ensures.front)
    ∙ ap (λ (s : Supplied). s.given ++ front) c.self.view_is
