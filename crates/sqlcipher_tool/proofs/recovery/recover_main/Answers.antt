use Rattle.std.proofs.Common.{◌≡◌, ◌∙◌, Result, Ok, Err, sym}
use Rattle.rollback_journal.specs.declared.recovery.Recovery.{Recovery}
use Rattle.rollback_journal.specs.declared.recovery.RecoverError.{RecoverError}
use Rattle.rollback_journal.specs.declared.recovery.RecoverError.TheVariants.{DiskFault}
use Rattle.session_hall.proofs.Recovered.{recovered_settled}
use Rattle.sqlcipher_tool.proofs.LeftAlone.{left_idle}
use Rattle.sqlcipher_tool.proofs.Recoveries.{main_after}
use Rattle.sqlcipher_tool.proofs.recovery.recover_main.Goals as goal

pub returns-in-Ok-clause-main : goal.returns-in-Ok-clause-main
returns-in-Ok-clause-main g c = λ told.
    let d = g.D.Disk in
    let now = c.recover.new.disk in
    main_after c.args.profile.page_size (d.reads c.args.disk.now) (d.reads now) (λ byte. c.in-Ok.ensures.done told byte (d.reads now) (g.met.D.Disk.reads_now now)) (c.recover.ensures.idle_same told)

pub returns-in-Ok-clause-untouched : goal.returns-in-Ok-clause-untouched
returns-in-Ok-clause-untouched g c = λ told none. left_idle g.D.Disk.reads g.D.Disk.images c.args.profile (c.recover.ensures.idle_same told) (c.recover.ensures.idle told) none

pub returns-in-Err-JournalPageSize-clause-untouched : goal.returns-in-Err-JournalPageSize-clause-untouched
returns-in-Err-JournalPageSize-clause-untouched g c = λ told none. left_idle g.D.Disk.reads g.D.Disk.images c.args.profile (c.recover.ensures.idle_same told) (c.recover.ensures.idle told) none

pub returns-in-Err-SuperJournal-clause-untouched : goal.returns-in-Err-SuperJournal-clause-untouched
returns-in-Err-SuperJournal-clause-untouched g c = λ told none. left_idle g.D.Disk.reads g.D.Disk.images c.args.profile (c.recover.ensures.idle_same told) (c.recover.ensures.idle told) none

pub returns-in-Err-DiskFault-clause-untouched : goal.returns-in-Err-DiskFault-clause-untouched
returns-in-Err-DiskFault-clause-untouched g c = λ told none. left_idle g.D.Disk.reads g.D.Disk.images c.args.profile (c.recover.ensures.idle_same told) (c.recover.ensures.idle told) none

pub returns-in-Err-OutOfMemory-clause-untouched : goal.returns-in-Err-OutOfMemory-clause-untouched
returns-in-Err-OutOfMemory-clause-untouched g c = λ told none. left_idle g.D.Disk.reads g.D.Disk.images c.args.profile (c.recover.ensures.idle_same told) (c.recover.ensures.idle told) none

not_fault : (r : Result Recovery RecoverError) (did : Recovery) → r ≡ Ok did → r ≡ Err DiskFault → ⊥
not_fault r did ok fault = differ (sym ok ∙ fault)
  where
    differ : ◌≡◌ {A = Result Recovery RecoverError} (Ok did) (Err DiskFault) → ⊥
    differ is = cc

pub returns-in-Ok-clause-settled : goal.returns-in-Ok-clause-settled
returns-in-Ok-clause-settled g c = λ told.
    let d = g.D.Disk in
    let now = c.recover.new.disk in
    let did = c.in-Ok.recovery in
    recovered_settled c.args.profile.page_size (d.reads c.args.disk.now) (d.reads now) (d.images now) c.recover.result did c.in-Ok.is (c.recover.ensures.answer told)
    (c.in-Ok.ensures.done told) (c.recover.ensures.settled told (not_fault c.recover.result did c.in-Ok.is)) (c.recover.ensures.unchanged told) (g.met.D.Disk.reads_now now)
