use Rattle.std.proofs.Common.{◌≡◌, ◌∙◌, ◌<◌, ◌≤◌, ◌*◌, length, Some, None, Err, sym, ap, subst, arith}
use Rattle.std.specs.Prelude.{slice_set}
use Rattle.session_hall.specs.Machine.{Reads, seen_page, state}
use Rattle.session_hall.specs.declared.step.Answer.{Answer}
use Rattle.session_hall.specs.declared.reading.Unseen.{Unseen}
use Rattle.session_hall.proofs.Answers.{read_unseen, same_state}
use Rattle.edge_model.specs.Files.{main_of}
use Rattle.session_hall.specs.Session.{Session, session_at}
use Rattle.session_hall.proofs.Places.{at_place}
use Rattle.session_hall.proofs.Sound.{page_in}
use Rattle.session_hall.proofs.hall.Hall.read.Goals as goal

pub see_page-requires-clause-there : goal.see_page-requires-clause-there
see_page-requires-clause-there g c = λ told.
    let s = c.args.self.now in
    let xs = s.sessions.items in
    let file = main_of (g.D.Disk.reads s.disk.now) in
    let small : c.args.i < length xs = omega (arith, c.requires.number, s.many) in
    subst (λ (x : Session). c.args.n * x.access.profile.page_size ≤ length file) (sym (at_place xs c.args.i c.index_mut.result.now small c.index_mut.ensures.value))
    (page_in file xs c.args.i c.args.n small (c.requires.kept told).sound (sym c.may_read.ensures ∙ c.if-not-may_read.false))

pub returns-in-Ok-clause-told : goal.returns-in-Ok-clause-told
returns-in-Ok-clause-told g c = λ told.
    let d = g.D.Disk in
    let s = c.args.self.now in
    let xs = s.sessions.items in
    let i = c.args.i in
    let small : i < length xs = omega (arith, c.requires.number, s.many) in
    let here : c.index_mut.result.now ≡ session_at xs i = at_place xs i c.index_mut.result.now small c.index_mut.ensures.value in
    let back = c.see_page.new.session in (
      sym c.may_read.ensures ∙ c.if-not-may_read.false,
      subst (λ (x : Session). seen_page x (main_of (d.reads s.disk.now)) c.args.n ≡ Some c.in-Ok.page) here (c.in-Ok.ensures.seen told),
      same_state (d.reads s.disk.now) (d.reads c.see_page.new.disk) s.layout xs c.in-Ok.page i back (c.see_page.ensures.only_read told).stays (c.see_page.ensures.same ∙ here),
    )

pub returns-in-Err-clause-told : goal.returns-in-Err-clause-told
returns-in-Err-clause-told g c = λ told.
    let d = g.D.Disk in
    let s = c.args.self.now in
    let xs = s.sessions.items in
    let i = c.args.i in
    let small : i < length xs = omega (arith, c.requires.number, s.many) in
    let here : c.index_mut.result.now ≡ session_at xs i = at_place xs i c.index_mut.result.now small c.index_mut.ensures.value in
    let back = c.see_page.new.session in
    let old = state (d.reads s.disk.now) s.layout xs s.page in
    let new = state (d.reads c.see_page.new.disk) s.layout (slice_set xs i back) s.page in
    subst (λ (a : Answer). Reads old i c.args.n a new) (sym c.unseen_answer.ensures.value)
    (read_unseen old new i c.args.n c.in-Err.unseen (sym c.may_read.ensures ∙ c.if-not-may_read.false)
    (λ is. subst (λ (x : Session). seen_page x (main_of (d.reads s.disk.now)) c.args.n ≡ None) here (c.see_page.ensures.unseen (c.in-Err.is ∙ ap (λ (u : Unseen). Err u) is) told))
    (same_state (d.reads s.disk.now) (d.reads c.see_page.new.disk) s.layout xs s.page i back (c.see_page.ensures.only_read told).stays (c.see_page.ensures.same ∙ here)))
