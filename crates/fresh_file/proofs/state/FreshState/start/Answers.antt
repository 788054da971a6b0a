use Rattle.std.proofs.Common.{ℕ, List, length, arith, ap}
use Rattle.fresh_file.proofs.FreshLaws.{none_accepted, well_none}
use Rattle.fresh_file.proofs.HeldLaws.{once_written}
use Rattle.fresh_file.proofs.state.FreshState.start.Goals as goal

pub returns-in-Ok-side_create-clause-none : goal.returns-in-Ok-side_create-clause-none
returns-in-Ok-side_create-clause-none g c = (search arith, none_accepted _ _ c.in-Ok.ensures.first.0 c.in-Ok.ensures.none)

pub returns-in-Ok-side_create-clause-well : goal.returns-in-Ok-side_create-clause-well
returns-in-Ok-side_create-clause-well g c told =
    once_written _ _ _ _ _ _ _ _ _ _ _ c.in-Ok.ensures.held
    (well_none _ _ _ _ _ _ _ _ c.in-Ok.ensures.none (omega (arith, ap (λ (l : List ℕ). length l) c.side_create.ensures.drawn)) told (c.in-Ok-side_create.ensures.done told))
