use Rattle.std.proofs.Common.{◌≡◌, ◌∙◌, ◌<◌, length, Some, sym, ap, subst, arith}
use Rattle.edge_model.specs.Files.{main_of}
use Rattle.pager.specs.Opening.{IsRefusedBy}
use Rattle.session_hall.specs.Machine.{Shares, opened_by, counted_pages, sharing, state}
use Rattle.session_hall.specs.Session.{Session, session_at}
use Rattle.session_hall.specs.declared.step.Answer.{Answer}
use Rattle.session_hall.proofs.Answers.{one_state, same_state, share_refused}
use Rattle.session_hall.proofs.Places.{as_many, at_place, put_at}
use Rattle.session_hall.proofs.hall.Hall.share.Goals as goal

pub returns-in-Ok-clause-told : goal.returns-in-Ok-clause-told
returns-in-Ok-clause-told g c = λ told.
    let d = g.D.Disk in
    let s = c.args.self.now in
    let xs = s.sessions.items in
    let i = c.args.i in
    let small : i < length xs = omega (arith, c.requires.number, s.many) in
    let back = c.count_pages-counted.new.session in
    let here : c.index_mut.result.now ≡ session_at xs i = at_place xs i c.index_mut.result.now small c.index_mut.ensures.value in
    let came : back ≡ session_at xs i = c.count_pages-counted.ensures.same ∙ here in
    let again : c.index_mut-in-Ok.result.now ≡ session_at xs i =
    at_place _ i c.index_mut-in-Ok.result.now (omega (arith, small, as_many xs i back)) c.index_mut-in-Ok.ensures.value ∙ (put_at xs i back small ∙ came) in (
      c.has.ensures.yes c.if-not-has.false,
      c.other_has.ensures.no c.if-other_has.false,
      (
        c.in-Ok.pages,
        subst (λ (x : Session). counted_pages (opened_by x.access (main_of (d.reads s.disk.now))) ≡ Some c.in-Ok.pages) here (c.in-Ok.ensures.opens told),
        one_state (d.reads s.disk.now) (d.reads c.count_pages-counted.new.disk) s.layout xs s.page i back c.share.new.self (sharing (session_at xs i) c.in-Ok.pages)
            (c.count_pages-counted.ensures.only_read told).stays
            (c.share.ensures ∙ ap (λ (x : Session). sharing x c.in-Ok.pages) again),
      ),
    )

pub returns-in-Err-clause-told : goal.returns-in-Err-clause-told
returns-in-Err-clause-told g c = λ told.
    let d = g.D.Disk in
    let s = c.args.self.now in
    let xs = s.sessions.items in
    let i = c.args.i in
    let small : i < length xs = omega (arith, c.requires.number, s.many) in
    let back = c.count_pages-counted.new.session in
    let here : c.index_mut.result.now ≡ session_at xs i = at_place xs i c.index_mut.result.now small c.index_mut.ensures.value in
    let old = state (d.reads s.disk.now) s.layout xs s.page in
    let new = state (d.reads c.count_pages-counted.new.disk) s.layout (Rattle.std.specs.Prelude.slice_set xs i back) s.page in
    subst (λ (a : Answer). Shares old i a new) (sym c.open_answer.ensures.value)
    (share_refused old new i c.in-Err.error (c.has.ensures.yes c.if-not-has.false) (c.other_has.ensures.no c.if-other_has.false)
    (subst (λ (x : Session). IsRefusedBy (opened_by x.access (main_of (d.reads s.disk.now))) c.in-Err.error) here (c.in-Err.ensures.refused told))
    (same_state (d.reads s.disk.now) (d.reads c.count_pages-counted.new.disk) s.layout xs s.page i back
    (c.count_pages-counted.ensures.only_read told).stays (c.count_pages-counted.ensures.same ∙ here)))
