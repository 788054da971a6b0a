use Rattle.std.proofs.Common.{◌∙◌, ap, sym, subst}
use Rattle.system_calls.specs.System.{IsNamed, closing}
use Rattle.system_calls.proofs.Seen.{done_ok, named_closed, home_drop}
use Rattle.system_calls.proofs.open_files.OpenFilesDisk.remove.Goals as goal

pub invariant_of-self-2-clause-named : goal.invariant_of-self-2-clause-named
invariant_of-self-2-clause-named g c free told =
    let done = done_ok _ c.changed.result _ c.remove-outcome.result c.in_ok-changed.was c.changed.ensures.same c.remove-outcome.ensures.done told in
    subst IsNamed (sym (c.close.ensures.done told ∙ ap (closing c.args.role) done))
    (named_closed c.args.role (g.C.Calls.system c.admit.new.self.calls) (c.admit.new.self.named c.in_ok-admit.ensures.ok told))

pub invariant_of-self-2-clause-home : goal.invariant_of-self-2-clause-home
invariant_of-self-2-clause-home g c free told =
    let done = done_ok _ c.changed.result _ c.remove-outcome.result c.in_ok-changed.was c.changed.ensures.same c.remove-outcome.ensures.done told in
    home_drop c.args.role (g.C.Calls.system c.admit.new.self.calls) (g.C.Calls.system c.remove-outcome.new.self) (g.C.Calls.system c.close.new.self)
    (g.C.Calls.images c.admit.new.self.calls) (g.C.Calls.images c.remove-outcome.new.self) (g.C.Calls.images c.close.new.self)
    done (c.close.ensures.done told) (c.admit.new.self.home c.in_ok-admit.ensures.ok told) (c.remove-outcome.ensures.crash told) (c.close.ensures.crash told)
