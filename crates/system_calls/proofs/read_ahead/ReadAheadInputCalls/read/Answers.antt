use Rattle.std.proofs.Common.{◌≡◌, ◌++◌, ◌∙◌, ap, sym, inl, inr, refl, ⊎_elim, List, ℕ, []}
use Rattle.std.proofs.lemmas.Result.{IfOk-weaker}
use Rattle.system_calls.proofs.read_ahead.ReadAheadInputCalls.read.Goals as goal

-- nothing stands before what is left
told_of : (none left front after : List ℕ) → none ≡ [] → left ≡ front ++ after → none ++ left ≡ front ++ (none ++ after)
told_of none left front after empty told =
    ap (λ (l : List ℕ). l ++ left) empty ∙ told ∙ ap (λ (l : List ℕ). front ++ (l ++ after)) (sym empty)

pub returns-then-passes_on-clause-told : goal.returns-then-passes_on-clause-told
returns-then-passes_on-clause-told g c =
    IfOk-weaker c.read.result _ _ (λ count is told. told_of _ _ _ _ (c.if-passes_on.ensures.empty refl) (is told)) c.read.ensures.told

pub returns-then-passes_on-clause-end : goal.returns-then-passes_on-clause-end
returns-then-passes_on-clause-end g c =
    IfOk-weaker c.read.result _ _
    (λ count is told none. ⊎_elim inl (λ end. inr (ap (λ (l : List ℕ). l ++ g.I.InputCalls.left c.args.self.now.input) (c.if-passes_on.ensures.empty refl) ∙ end)) (is told none))
    c.read.ensures.end
