use Rattle.std.proofs.Common.{◌≡◌, false, true, inl, inr, Result, Ok, refl, sym, ap, subst}
use Rattle.std.specs.Prelude.{IsErr, IsOk}
use Rattle.atomic_commit.specs.Facts.{SameFresh}
use Rattle.edge_model.specs.Moments.{and_then, started_from, weaker}
use Rattle.rollback_journal.specs.Recovery.{KeepsRecovered}
use Rattle.rollback_journal.specs.declared.recovery.Recovery.{Recovery}
use Rattle.rollback_journal.specs.declared.recovery.RecoverError.{RecoverError}
use Rattle.session_hall.proofs.Fresh.{then_fresh}
use Rattle.sqlcipher_tool.proofs.Playing.{ends_unread, keeps_fresh, keeps_itself, played_recovered, unread_same}
use Rattle.sqlcipher_tool.proofs.play.play_file.Goals as goal

-- memory ran out before the first call of the disk
pub returns-in_default-clause-plays : goal.returns-in_default-clause-plays
returns-in_default-clause-plays g c = inl (record {
  ends = inr (inr refl, refl);
  unread = refl;
  undrawn = refl;
  moments = λ told. (started_from {moment = g.D.Disk.moment} {since = g.D.Disk.since} g.met.D.Disk.only_now c.args.disk.now (KeepsRecovered c.args.profile.page_size) (keeps_itself c.args.profile.page_size)).each;
})

pub returns-in-Ok-recover_main-clause-plays : goal.returns-in-Ok-recover_main-clause-plays
returns-in-Ok-recover_main-clause-plays g c =
    let size = c.args.profile.page_size in
    let start = g.D.Disk.images c.args.disk.now in
    inr (record {
      begun = c.recover_main.new.disk;
      recovered = λ told. record {
        recovers = subst (λ (r : Result Recovery RecoverError). IsOk r) (sym (c.in-Ok-recover_main.ensures.recovery told)) refl;
        keeps = c.recover_main.ensures.keeps told;
        stands = record { main = c.in-Ok-recover_main.ensures.main told; settled = c.in-Ok-recover_main.ensures.settled told };
      };
      script = played_recovered c.args.profile c.play_recovered.result g.K.Source.tells g.S.Sink.tells g.D.Disk.tells g.E.Entropy.tells c.in-Ok-recover_main.ensures.main
          (λ told P run. (and_then (weaker (λ image old. inl old) (c.recover_main.ensures.keeps told)) (weaker (λ image p. inr p) run)).each)
          c.play_recovered.ensures.played;
    })

pub play_recovered-requires-clause-layout : goal.play_recovered-requires-clause-layout
play_recovered-requires-clause-layout g c = c.in-Ok.ensures.layout

pub returns-in-Ok-recover_main-clause-unrecovered : goal.returns-in-Ok-recover_main-clause-unrecovered
returns-in-Ok-recover_main-clause-unrecovered g c = λ told is. absurd (c.play_recovered.ensures.recovered is)

pub returns-in-Err-clause-plays : goal.returns-in-Err-clause-plays
returns-in-Err-clause-plays g c =
    inl (record {
      ends = ends_unread c.args.profile g.D.Disk.tells g.S.Sink.tells (g.D.Disk.reads c.args.disk.now) c.in-Err.stop c.conclude_stop.result
          (g.S.Sink.taken c.args.out.now) (g.S.Sink.taken c.conclude_stop.new.out) c.in-Err.ensures.of_recovery c.in-Err.ensures.stop
          c.conclude_stop.ensures.status c.conclude_stop.ensures.text
          (λ is. let failed = c.conclude_stop.ensures.disk is in (failed.0, ap g.S.Sink.taken failed.1))
          (λ is. let starved = c.conclude_stop.ensures.memory is in (starved.0, ap g.S.Sink.taken starved.1));
      unread = refl;
      undrawn = refl;
      moments = λ told. (c.recover_main.ensures.keeps told).each;
    })

pub returns-in-Err-clause-unrecovered : goal.returns-in-Err-clause-unrecovered
returns-in-Err-clause-unrecovered g c = λ told is.
    unread_same c.in-Err.stop c.conclude_stop.result (c.in-Err.ensures.refused told) (λ same. (c.conclude_stop.ensures.disk same).0)
    (λ same. (c.conclude_stop.ensures.memory same).0) is

-- where the recovery is refused it is not answered as done
not_recovered : (r : Result Recovery RecoverError) (did : Recovery) → r ≡ Ok did → IsErr r → ⊥
not_recovered r did is err = differ (subst IsErr is err)
  where
    differ : false ≡ true → ⊥
    differ e = cc

pub returns-in-Ok-recover_main-clause-unwritten : goal.returns-in-Ok-recover_main-clause-unwritten
returns-in-Ok-recover_main-clause-unwritten g c = λ told err.
    absurd (not_recovered _ c.in-Ok-recover_main.field-0 (c.in-Ok-recover_main.ensures.recovery told) err)

pub returns-in-Err-clause-unwritten : goal.returns-in-Err-clause-unwritten
returns-in-Err-clause-unwritten g c = λ told err. c.recover_main.ensures.untouched told (inr err)

-- ---- Fresh

pub returns-in_default-clause-fresh : goal.returns-in_default-clause-fresh
returns-in_default-clause-fresh g c = λ told. (started_from {moment = g.D.Disk.moment} {since = g.D.Disk.since} g.met.D.Disk.only_now c.args.disk.now SameFresh (λ image. refl)).each

pub returns-in-Ok-recover_main-clause-fresh : goal.returns-in-Ok-recover_main-clause-fresh
returns-in-Ok-recover_main-clause-fresh g c = λ told.
    let start = g.D.Disk.images c.args.disk.now in
    (then_fresh g.met.D.Disk.counts_now (weaker (keeps_fresh c.args.profile.page_size start) (c.recover_main.ensures.keeps told)) (c.play_recovered.ensures.fresh told)).each

pub returns-in-Err-clause-fresh : goal.returns-in-Err-clause-fresh
returns-in-Err-clause-fresh g c = λ told.
    (weaker (keeps_fresh c.args.profile.page_size (g.D.Disk.images c.args.disk.now)) (c.recover_main.ensures.keeps told)).each
