use Rattle.std.proofs.Common.{◌≡◌, ◌∙◌, ◌<◌, ◌≤◌, ◌*◌, length, ℕ, List, None, Some, Err, sym, ap, subst, arith}
use Rattle.std.specs.Prelude.{slice_set}
use Rattle.edge_model.specs.Files.{main_of}
use Rattle.session_hall.specs.Machine.{ChangesByte, changing, is_content, seen_page, state}
use Rattle.session_hall.specs.Session.{Session, session_at}
use Rattle.session_hall.specs.declared.step.Answer.{Answer}
use Rattle.session_hall.specs.declared.reading.Unseen.{Unseen}
use Rattle.session_hall.proofs.Answers.{change_unseen, one_state, same_state}
use Rattle.session_hall.proofs.Places.{as_many, at_place, put_at}
use Rattle.session_hall.proofs.Sound.{page_in_reserved}
use Rattle.session_hall.proofs.hall.Hall.change.Goals as goal

pub see_page-requires-clause-there : goal.see_page-requires-clause-there
see_page-requires-clause-there g c = λ told.
    let s = c.args.self.now in
    let xs = s.sessions.items in
    let file = main_of (g.D.Disk.reads s.disk.now) in
    let small : c.args.i < length xs = omega (arith, c.requires.number, s.many) in
    subst (λ (x : Session). c.args.n * x.access.profile.page_size ≤ length file) (sym (at_place xs c.args.i c.index_mut.result.now small c.index_mut.ensures.value))
    (page_in_reserved file xs c.args.i c.args.n (is_content (session_at xs c.args.i).access.profile c.args.n c.args.at) small (c.requires.kept told).sound
    (sym c.may_change.ensures ∙ c.if-not-may_change.false))

pub returns-in-Err-clause-told : goal.returns-in-Err-clause-told
returns-in-Err-clause-told g c = λ told.
    let d = g.D.Disk in
    let s = c.args.self.now in
    let xs = s.sessions.items in
    let i = c.args.i in
    let small : i < length xs = omega (arith, c.requires.number, s.many) in
    let here : c.index_mut.result.now ≡ session_at xs i = at_place xs i c.index_mut.result.now small c.index_mut.ensures.value in
    let back = c.see_page.new.session in
    subst (λ (a : Answer). ChangesByte (state (d.reads s.disk.now) s.layout xs s.page) i c.args.n c.args.at c.args.byte a (state (d.reads c.see_page.new.disk) s.layout (slice_set xs i back) s.page))
    (sym c.unseen_answer.ensures.value)
    (change_unseen (state (d.reads s.disk.now) s.layout xs s.page) (state (d.reads c.see_page.new.disk) s.layout (slice_set xs i back) s.page) i c.args.n c.args.at c.args.byte c.in-Err.unseen
    (sym c.may_change.ensures ∙ c.if-not-may_change.false)
    (λ is. subst (λ (x : Session). seen_page x (main_of (d.reads s.disk.now)) c.args.n ≡ None) here (c.see_page.ensures.unseen (c.in-Err.is ∙ ap (λ (u : Unseen). Err u) is) told))
    (same_state (d.reads s.disk.now) (d.reads c.see_page.new.disk) s.layout xs s.page i back (c.see_page.ensures.only_read told).stays (c.see_page.ensures.same ∙ here)))

pub returns-in-Ok-change_to-clause-told : goal.returns-in-Ok-change_to-clause-told
returns-in-Ok-change_to-clause-told g c = λ told.
    let d = g.D.Disk in
    let s = c.args.self.now in
    let xs = s.sessions.items in
    let i = c.args.i in
    let small : i < length xs = omega (arith, c.requires.number, s.many) in
    let here : c.index_mut.result.now ≡ session_at xs i = at_place xs i c.index_mut.result.now small c.index_mut.ensures.value in
    let back = c.see_page.new.session in
    let came : back ≡ session_at xs i = c.see_page.ensures.same ∙ here in
    let again : c.index_mut-in-Ok.result.now ≡ session_at xs i =
    at_place _ i c.index_mut-in-Ok.result.now (omega (arith, small, as_many xs i back)) c.index_mut-in-Ok.ensures.value ∙ (put_at xs i back small ∙ came) in
    let next : List ℕ = slice_set c.in-Ok.page c.args.at c.args.byte in (
      sym c.may_change.ensures ∙ c.if-not-may_change.false,
      (
        c.in-Ok.page,
        subst (λ (x : Session). seen_page x (main_of (d.reads s.disk.now)) c.args.n ≡ Some c.in-Ok.page) here (c.in-Ok.ensures.seen told),
        one_state (d.reads s.disk.now) (d.reads c.see_page.new.disk) s.layout xs s.page i back c.change_to.new.self (changing (session_at xs i) c.args.n next)
            (c.see_page.ensures.only_read told).stays
            (c.in-Ok-change_to.ensures.changed ∙ (ap (λ (x : Session). changing x c.args.n c.put.new.self) again ∙ ap (λ (p : List ℕ). changing (session_at xs i) c.args.n p) c.put.ensures)),
      ),
    )
