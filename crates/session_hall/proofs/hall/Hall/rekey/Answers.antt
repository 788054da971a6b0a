use Rattle.std.proofs.Common.{◌≡◌, ◌∙◌, ◌<◌, ◌≤◌, ◌*◌, length, ℕ, Option, Some, Ok, sym, ap, subst, arith}
use Rattle.edge_model.specs.Files.{main_of}
use Rattle.pager.proofs.BatchLemmas.{and_true}
use Rattle.session_hall.specs.Key.{Access, codec_of}
use Rattle.session_hall.specs.Locks.{is_reserved}
use Rattle.session_hall.specs.Machine.{IsFirstUnseen, SeesUpTo, may_be_under}
use Rattle.session_hall.specs.Session.{Session, session_at}
use Rattle.session_hall.proofs.Answers.{one_state, same_state}
use Rattle.session_hall.proofs.Counting.{count_whole}
use Rattle.session_hall.proofs.Places.{as_many, at_place, put_at}
use Rattle.session_hall.proofs.Sound.{reserved_holds}
use Rattle.session_hall.proofs.hall.Hall.rekey.Goals as goal

pub first_unseen-requires : goal.first_unseen-requires
first_unseen-requires g c = record {
  there = λ told.
      let s = c.args.self.now in
      let xs = s.sessions.items in
      let i = c.args.i in
      let file = main_of (g.D.Disk.reads s.disk.now) in
      let small : i < length xs = omega (arith, c.requires.number, s.many) in
      let may = and_true (is_reserved (session_at xs i).lock) (may_be_under s.layout (record { profile = c.args.profile; secret = c.args.secret })) (sym c.may_rekey.ensures ∙ c.if-not-may_rekey.false) in
      subst (λ (x : Session). x.pages * x.access.profile.page_size ≤ length file) (sym (at_place xs i c.index_mut.result.now small c.index_mut.ensures.value))
      (count_whole (codec_of (session_at xs i).access file) file (session_at xs i).pages
      (((c.requires.kept told).sound.each i small).opens (reserved_holds (session_at xs i).lock may.0)));
}

pub returns-in-Ok-None-clause-told : goal.returns-in-Ok-None-clause-told
returns-in-Ok-None-clause-told g c = λ told.
    let d = g.D.Disk in
    let s = c.args.self.now in
    let xs = s.sessions.items in
    let i = c.args.i in
    let file = main_of (d.reads s.disk.now) in
    let small : i < length xs = omega (arith, c.requires.number, s.many) in
    let back = c.first_unseen.new.session in
    let here : c.index_mut.result.now ≡ session_at xs i = at_place xs i c.index_mut.result.now small c.index_mut.ensures.value in
    let came : back ≡ session_at xs i = c.first_unseen.ensures.same ∙ here in
    let again : c.index_mut-in-Ok-None.result.now ≡ session_at xs i =
    at_place _ i c.index_mut-in-Ok-None.result.now (omega (arith, small, as_many xs i back)) c.index_mut-in-Ok-None.ensures.value ∙ (put_at xs i back small ∙ came) in (
      sym c.may_rekey.ensures ∙ c.if-not-may_rekey.false,
      subst (λ (x : Session). SeesUpTo x file x.pages) here (c.first_unseen.ensures.all (c.in-Ok-None.is ∙ ap (λ (o : Option ℕ). Ok o) c.in-Ok-None.field-0-is) told),
      one_state (d.reads s.disk.now) (d.reads c.first_unseen.new.disk) s.layout xs s.page i back c.rekey.new.self _
          (c.first_unseen.ensures.only_read told).stays
          (c.rekey.ensures ∙ (ap (λ (x : Session). record x { new_access = Some c.new.result }) again
          ∙ ap (λ (a : Access). record (session_at xs i) { new_access = Some a }) c.new.ensures)),
    )

pub returns-in-Ok-Some-clause-told : goal.returns-in-Ok-Some-clause-told
returns-in-Ok-Some-clause-told g c = λ told.
    let d = g.D.Disk in
    let s = c.args.self.now in
    let xs = s.sessions.items in
    let i = c.args.i in
    let file = main_of (d.reads s.disk.now) in
    let small : i < length xs = omega (arith, c.requires.number, s.many) in
    let here : c.index_mut.result.now ≡ session_at xs i = at_place xs i c.index_mut.result.now small c.index_mut.ensures.value in (
      sym c.may_rekey.ensures ∙ c.if-not-may_rekey.false,
      subst (λ (x : Session). IsFirstUnseen x file c.in-Ok-Some.page) here (c.first_unseen.ensures.first c.in-Ok-Some.page (c.in-Ok-Some.is ∙ ap (λ (o : Option ℕ). Ok o) c.in-Ok-Some.field-0-is) told),
      same_state (d.reads s.disk.now) (d.reads c.first_unseen.new.disk) s.layout xs s.page i c.first_unseen.new.session
          (c.first_unseen.ensures.only_read told).stays (c.first_unseen.ensures.same ∙ here),
    )

pub returns-in-Err-clause-told : goal.returns-in-Err-clause-told
returns-in-Err-clause-told g c = λ told.
    let d = g.D.Disk in
    let s = c.args.self.now in
    let xs = s.sessions.items in
    let i = c.args.i in
    let small : i < length xs = omega (arith, c.requires.number, s.many) in
    let here : c.index_mut.result.now ≡ session_at xs i = at_place xs i c.index_mut.result.now small c.index_mut.ensures.value in (
      sym c.may_rekey.ensures ∙ c.if-not-may_rekey.false,
      same_state (d.reads s.disk.now) (d.reads c.first_unseen.new.disk) s.layout xs s.page i c.first_unseen.new.session
          (c.first_unseen.ensures.only_read told).stays (c.first_unseen.ensures.same ∙ here),
    )
