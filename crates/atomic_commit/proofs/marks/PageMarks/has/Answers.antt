use Rattle.std.proofs.Common.{◌-◌, ◌<◌, ◌≤◌, Bool, List, length, sym, ◌∙◌, subst, arith}
use Rattle.atomic_commit.specs.Marks.{marked_count}
use Rattle.atomic_commit.proofs.Counts.{marked_room}
use Rattle.atomic_commit.proofs.marks.PageMarks.has.Goals as goal

pub returns-clause-room : goal.returns-clause-room
returns-clause-room c none =
    let lt = subst (λ (l : List Bool). c.args.n ≤ length l) (sym c.self.view_is) c.requires.1 in
    subst (λ (l : List Bool). marked_count l < length l) c.self.view_is
    (marked_room c.self.inside.marks.items (c.args.n - 1) c.index.result.now (omega (arith, lt, c.requires.0)) (sym c.index.ensures ∙ none))
