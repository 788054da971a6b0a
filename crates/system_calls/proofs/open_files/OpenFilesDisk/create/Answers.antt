use Rattle.std.proofs.Common.{sym, subst}
use Rattle.std.specs.Prelude.{IsTrue}
use Rattle.system_calls.specs.System.{IsNamed}
use Rattle.system_calls.proofs.Seen.{done_ok, named_made, home_make}
use Rattle.system_calls.proofs.open_files.OpenFilesDisk.create.Goals as goal

pub invariant_of-self-2-clause-named : goal.invariant_of-self-2-clause-named
invariant_of-self-2-clause-named g c free told =
    let done = done_ok _ c.changed.result _ c.create_new-outcome.result c.in_ok-changed.was c.changed.ensures.same c.create_new-outcome.ensures.done told in
    subst IsNamed (sym done) (named_made c.args.role (g.C.Calls.next c.admit.new.self.calls) (g.C.Calls.system c.admit.new.self.calls) (c.admit.new.self.named c.in_ok-admit.ensures.ok told))

pub invariant_of-self-2-clause-home : goal.invariant_of-self-2-clause-home
invariant_of-self-2-clause-home g c free told =
    let done = done_ok _ c.changed.result _ c.create_new-outcome.result c.in_ok-changed.was c.changed.ensures.same c.create_new-outcome.ensures.done told in
    home_make (IsTrue g.C.Calls.tells) c.args.role (g.C.Calls.next c.admit.new.self.calls) (g.C.Calls.system c.admit.new.self.calls) (g.C.Calls.system c.create_new-outcome.new.self)
    (g.C.Calls.images c.admit.new.self.calls) (g.C.Calls.images c.create_new-outcome.new.self)
    (g.met.C.Calls.unborn c.admit.new.self.calls) done (g.met.C.Calls.reads_now c.admit.new.self.calls) (g.met.C.Calls.numbered c.admit.new.self.calls)
    (c.admit.new.self.home c.in_ok-admit.ensures.ok told) (c.create_new-outcome.ensures.crash told)
