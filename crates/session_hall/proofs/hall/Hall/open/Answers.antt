use Rattle.std.proofs.Common.{◌≡◌, Result, Ok, Err}
use Rattle.cipher_profile.proofs.Layouts.{IsListed-laid_out}
use Rattle.rollback_journal.specs.declared.recovery.Recovery.{Recovery}
use Rattle.rollback_journal.specs.declared.recovery.RecoverError.{RecoverError}
use Rattle.rollback_journal.specs.declared.recovery.RecoverError.TheVariants.{DiskFault}
use Rattle.session_hall.proofs.Recovered.{recovered_settled}
use Rattle.session_hall.proofs.hall.Hall.open.Goals as goal

differ : (did : Recovery) (r : Result Recovery RecoverError) → r ≡ Ok did → r ≡ Err DiskFault → ⊥
differ did r ok is = cc

pub recover-requires : goal.recover-requires
recover-requires g c =
    let laid = IsListed-laid_out c.args.profile.now c.requires in (laid.least, laid.most)

pub on-requires : goal.on-requires
on-requires g c = λ told.
    let d = g.D.Disk in
    let now = c.recover.new.disk in
    recovered_settled c.args.profile.now.page_size (d.reads c.args.disk.now) (d.reads now) (d.images now) c.recover.result c.in_ok-recover.field-0 c.in_ok-recover.was
    (c.recover.ensures.answer told) (c.in_ok-recover.ensures.done told) (c.recover.ensures.settled told (differ c.in_ok-recover.field-0 c.recover.result c.in_ok-recover.was))
    (c.recover.ensures.unchanged told) (g.met.D.Disk.reads_now now)
