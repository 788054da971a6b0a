use Rattle.std.proofs.Common.{◌-◌, ◌≤◌, Bool, List, false, length, IsFalse, sym, subst, arith}
use Rattle.atomic_commit.specs.Marks.{is_marked}
use Rattle.atomic_commit.proofs.Counts.{marked_room}
use Rattle.atomic_commit.proofs.marks.PageMarks.put.Goals as goal

pub overflow_add-self : goal.overflow_add-self
overflow_add-self c =
    let marks = c.self.inside.marks.items in
    let lt = subst (λ (l : List Bool). c.args.n ≤ length l) (sym c.self.view_is) c.requires.number.1 in
    let none = subst (λ (l : List Bool). IsFalse (is_marked c.args.n l)) (sym c.self.view_is) c.requires.fresh in
    let room = marked_room marks (c.args.n - 1) false (omega (arith, lt, c.requires.number.0)) none in
    omega (arith, room, c.self.invariant.0, c.self.invariant.1)
