use Rattle.std.proofs.Common.{◌≡◌, ◌++◌, ◌≤◌, List, ℕ, [], length, take, drop, sym, ap, ◌∙◌}
use Rattle.std.proofs.lemmas.List.{take-append-drop, append-nil}
use Rattle.row_text.specs.Out.{MovesPart}
use Rattle.row_text.proofs.Moving.{at_exit}
use Rattle.row_text.proofs.line_out.LineOut.flush.Goals as goal

-- the first bytes of what waited are a part of it
first_bytes : (waiting bytes before after : List ℕ) → bytes ≡ waiting → (n : ℕ) × (n ≤ length bytes) × (after ≡ before ++ take n bytes) → MovesPart [] before waiting after
first_bytes waiting bytes before after same some = record {
  lost = drop some.0 waiting;
  moves = record {
    put = take some.0 waiting;
    given = some.2 ∙ ap (λ (l : List ℕ). before ++ take some.0 l) same;
    whole = append-nil waiting ∙ sym (take-append-drop some.0 waiting);
  };
}

pub returns-in_err-put_all-clause-part : goal.returns-in_err-put_all-clause-part
returns-in_err-put_all-clause-part g c =
    at_exit c.from_residual.result (λ told. first_bytes _ _ _ _ (ap (λ (l : List ℕ). take c.self.inside.len l) c.deref.ensures.value ∙ c.self.view_is) (c.in_err-put_all.ensures.failed told))
