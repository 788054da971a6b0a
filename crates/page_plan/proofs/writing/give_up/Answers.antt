use Rattle.std.proofs.Common.{◌∙◌, sym}
use Rattle.page_plan.proofs.writing.give_up.Goals as goal

-- the conditions, by their places: sizes, base_is, refused, asked
pub abandon-disk-requires : goal.abandon-disk-requires
abandon-disk-requires g c κs within =
    let r = c.requires.1.1 in
    let refused = r.1.1.0 (sym c.is_failure.ensures ∙ c.if-is_failure.false) in
    (within.0, (within.1, (r.0, (r.1.0, (refused.0, λ told. absurd (refused.1 told))))))

pub returns-in-Ok-clause-told : goal.returns-in-Ok-clause-told
returns-in-Ok-clause-told g c told = absurd ((c.requires.1.1.1.1.0 (sym c.is_failure.ensures ∙ c.if-is_failure.false)).1 told)

pub returns-in-Err-clause-told : goal.returns-in-Err-clause-told
returns-in-Err-clause-told g c told = absurd ((c.requires.1.1.1.1.0 (sym c.is_failure.ensures ∙ c.if-is_failure.false)).1 told)
