use Rattle.std.proofs.Common.{◌≡◌, ◌∙◌, true, false, sym}
use Rattle.atomic_commit.proofs.Behind.{changed_weaker}
use Rattle.session_hall.proofs.commit.commit_session.Goals as goal

-- of a plain file nothing is told
pub returns-then-is_plain-clause-any_moment : goal.returns-then-is_plain-clause-any_moment
returns-then-is_plain-clause-any_moment g c = λ told.
    changed_weaker (λ made is. record {
      changes = is.changes;
      draws = λ both. let never : true ≡ false = sym c.if-is_plain.true ∙ c.is_plain.ensures ∙ both.1 in cc;
    }) (c.commit_drawing.ensures.any_moment told)

pub returns-clause-any_moment : goal.returns-clause-any_moment
returns-clause-any_moment g c = λ told.
    changed_weaker (λ made is. record { changes = is.changes; draws = λ both. is.draws both.0 }) (c.commit_drawing-2.ensures.any_moment told)
