use Rattle.std.proofs.Common.{◌≡◌, inl, ◌≤◌, ◌<◌, true, ℕ, List, Result, drop, length, refl, sym, ap, subst, ◌∙◌, arith}
use Rattle.cipher_profile.proofs.Layouts.{IsListed-laid_out}
use Rattle.fresh_disk.specs.Published.{IsAlone}
use Rattle.edge_model.specs.Files.{Files, bytes_of, main_of}
use Rattle.edge_model.specs.Images.{Each, From, LeavesOnly}
use Rattle.edge_model.specs.Moments.{at_exit, then_from, weaker}
use Rattle.page_codec.specs.Page.{keys_of}
use Rattle.rollback_journal.specs.declared.recovery.RecoverError.{RecoverError}
use Rattle.rollback_journal.specs.declared.recovery.Recovery.{Recovery}
use Rattle.atomic_commit.specs.Facts.{SameFresh}
use Rattle.sqlcipher_tool.specs.Change.{KeepsOrCommits}
use Rattle.sqlcipher_tool.specs.Due.{change_answers}
use Rattle.sqlcipher_tool.specs.Holding.{HoldsOnly, held_by}
use Rattle.sqlcipher_tool.specs.Promises.{AnswersOne}
use Rattle.sqlcipher_tool.specs.Recovered.{answers_after, recovered_main, recovery_of}
use Rattle.sqlcipher_tool.specs.Renewal.{IsNewDrawn, Renewal, renewed, secret_after}
use Rattle.sqlcipher_tool.specs.Words.{profile_after, profile_before}
use Rattle.sqlcipher_tool.specs.declared.command.Command.TheVariants.{Change as ChangeFile}
use Rattle.sqlcipher_tool.proofs.Answered.{holds_on}
use Rattle.sqlcipher_tool.proofs.Behind.{old_done, recovery_last}
use Rattle.sqlcipher_tool.proofs.Changing.{after_old, as_run}
use Rattle.sqlcipher_tool.proofs.Recoveries.{had_byte, journal_gone}
use Rattle.sqlcipher_tool.proofs.SomeDue.{after_some, change_some}
use Rattle.sqlcipher_tool.proofs.Changed.{causes_after, causes_stopped, done_alone, last_not_done, stop_last}
use Rattle.sqlcipher_tool.proofs.Verified.{stop_one}
use Rattle.sqlcipher_tool.proofs.VerifiedFile.{answers_recovered, change_of_file, refused_due}
use Rattle.sqlcipher_tool.proofs.LeftAlone.{empty_unopened, has_no_byte, unwritten_read}
use Rattle.sqlcipher_tool.proofs.change.change_file.Goals as goal

pub returns-in-Ok-clause-answer : goal.returns-in-Ok-clause-answer
returns-in-Ok-clause-answer g c = λ told.
    let d = g.D.Disk in
    let before = d.reads c.args.disk.now in
    let after = main_of (d.reads c.change_main.new.disk) in
    let renewal : Renewal = renewed c.args.profile c.args.change c.args.secrets.now.first c.args.secrets.now.second in
    let taken = g.S.Sink.taken in
    subst (λ (r : Result Recovery RecoverError). AnswersOne (answers_after r (change_answers c.args.change renewal (recovered_main c.args.profile before) after)) c.change_main.result g.S.Sink.tells (taken c.args.out.now) (taken c.change_main.new.out))
    (sym (c.in-Ok.ensures.recovery told))
    (subst (λ (l : List ℕ). AnswersOne (change_answers c.args.change renewal l after) c.change_main.result g.S.Sink.tells (taken c.args.out.now) (taken c.change_main.new.out))
    (c.in-Ok.ensures.main told) (c.change_main.ensures.answer told))

pub returns-in-Ok-clause-causes : goal.returns-in-Ok-clause-causes
returns-in-Ok-clause-causes g c = causes_after c.change_main.result _ _ _ _ _ _ _ c.recover_main.ensures.later c.change_main.ensures.causes

pub returns-in-Ok-clause-changes : goal.returns-in-Ok-clause-changes
returns-in-Ok-clause-changes g c = λ told start.
    let d = g.D.Disk in
    let profile = c.args.profile in
    let secret = c.args.secrets.now.first in
    let file = recovered_main profile (d.reads c.args.disk.now) in
    let keys = keys_of (profile_before profile c.args.change) secret file in
    let first : LeavesOnly d.moment d.since c.args.disk.now c.recover_main.new.disk (HoldsOnly (held_by keys file)) =
    weaker (λ image from. holds_on profile.page_size (held_by keys file) from.0 image refl from.2 (start from.0 from.1)) (c.recover_main.ensures.keeps told) in
    let main = main_of (d.reads c.recover_main.new.disk) in
    let same : file ≡ main = sym (c.in-Ok.ensures.main told) in
    let begun : Each (d.images c.recover_main.new.disk) (HoldsOnly (held_by (keys_of (profile_before profile c.args.change) secret main) main)) =
    subst (λ (l : List ℕ). Each (d.images c.recover_main.new.disk) (HoldsOnly (held_by (keys_of (profile_before profile c.args.change) secret l) l))) same (at_exit g.met.D.Disk.counts_now first) in
    let drawn = drop (length (g.E.Entropy.drawn c.args.entropy.now)) (g.E.Entropy.drawn c.change_main.new.entropy) in
    let renewal : Renewal = renewed c.args.profile c.args.change c.args.secrets.now.first c.args.secrets.now.second in
    let next = subst (λ (l : List ℕ). KeepsOrCommits d.reads d.images d.moment d.since c.change_main.result (IsNewDrawn (ChangeFile c.args.profile c.args.change) renewal g.E.Entropy.tells drawn l)
    (HoldsOnly (held_by (keys_of (profile_before profile c.args.change) secret l) l)) (λ n. HoldsOnly (held_by (keys_of (profile_after c.args.profile c.args.change) (secret_after c.args.change c.args.secrets.now.first c.args.secrets.now.second) n) n)) c.recover_main.new.disk c.change_main.new.disk) (sym same)
    (c.change_main.ensures.safely told begun) in
    as_run d.reads d.images d.moment d.since g.met.D.Disk.counts_now g.met.D.Disk.only_now c.change_main.result
    (after_old d.reads d.images d.moment d.since g.met.D.Disk.counts_now g.met.D.Disk.only_now c.change_main.result first next)

pub returns-in-Ok-clause-fresh : goal.returns-in-Ok-clause-fresh
returns-in-Ok-clause-fresh g c = λ told in_place.
    let first : LeavesOnly g.D.Disk.moment g.D.Disk.since c.args.disk.now c.recover_main.new.disk (From SameFresh (g.D.Disk.images c.args.disk.now)) =
    weaker (λ image from. (from.0, from.1, from.2.fresh)) (c.recover_main.ensures.keeps told) in
    then_from g.met.D.Disk.counts_now (λ a b e ab be. be ∙ ab) first (c.change_main.ensures.fresh told in_place)

pub returns-in-Ok-clause-unrecovered : goal.returns-in-Ok-clause-unrecovered
returns-in-Ok-clause-unrecovered g c = λ told is.
    let file = main_of (g.D.Disk.reads c.recover_main.new.disk) in
    let after = main_of (g.D.Disk.reads c.change_main.new.disk) in
    let renewal : Renewal = renewed c.args.profile c.args.change c.args.secrets.now.first c.args.secrets.now.second in
    let answers = change_answers c.args.change renewal file after in
    absurd (answers_recovered answers (change_of_file c.args.change renewal file after) c.change_main.result g.S.Sink.tells
    (g.S.Sink.taken c.args.out.now) (g.S.Sink.taken c.change_main.new.out) (c.change_main.ensures.answer told) is)

pub change_main-requires-clause-recovered : goal.change_main-requires-clause-recovered
change_main-requires-clause-recovered g c = λ told byte image now.
    let files = g.D.Disk.reads c.args.disk.now in
    journal_gone c.args.profile.page_size (bytes_of files.main) (bytes_of files.journal) image
    (c.in-Ok.ensures.done told (had_byte c.args.profile files (main_of (g.D.Disk.reads c.recover_main.new.disk)) (c.in-Ok.ensures.main told) byte) image now)

pub change_main-requires-clause-alone : goal.change_main-requires-clause-alone
change_main-requires-clause-alone g c = λ told long image now.
    let files = g.D.Disk.reads c.args.disk.now in
    let main = main_of (g.D.Disk.reads c.recover_main.new.disk) in
    let least = (IsListed-laid_out c.args.profile c.requires.served.0).least in
    let some : 1 ≤ c.args.profile.page_size = omega (arith, least) in
    let byte : 0 < length main = omega (arith, some, long) in
    subst (λ (l : List ℕ). IsAlone l image) (sym (c.in-Ok.ensures.main told)) (done_alone c.args.profile.page_size (bytes_of files.main) (bytes_of files.journal) image
    (c.in-Ok.ensures.done told (had_byte c.args.profile files main (c.in-Ok.ensures.main told) byte) image now))

pub returns-in-Err-clause-answer : goal.returns-in-Err-clause-answer
returns-in-Err-clause-answer g c = λ told.
    let files = g.D.Disk.reads c.args.disk.now in
    let main = recovered_main c.args.profile files in
    let after = main_of (g.D.Disk.reads c.recover_main.new.disk) in
    let renewal : Renewal = renewed c.args.profile c.args.change c.args.secrets.now.first c.args.secrets.now.second in
    let answers = change_answers c.args.change renewal main after in
    let recovery = recovery_of c.args.profile files in
    stop_one _ c.in-Err.stop c.conclude_stop.result g.S.Sink.tells (g.S.Sink.taken c.args.out.now) (g.S.Sink.taken c.conclude_stop.new.out)
    (after_some recovery answers (change_some c.args.change renewal main after))
    (refused_due recovery answers c.in-Err.stop (c.in-Err.ensures.stop told))
    c.conclude_stop.ensures.status c.conclude_stop.ensures.text
    (λ is. let failed = c.conclude_stop.ensures.disk is in (failed.0, ap g.S.Sink.taken failed.1))
    (λ is. let starved = c.conclude_stop.ensures.memory is in (starved.0, ap g.S.Sink.taken starved.1))

pub returns-in-Err-clause-causes : goal.returns-in-Err-clause-causes
returns-in-Err-clause-causes g c =
    causes_stopped c.in-Err.stop c.conclude_stop.result _ _ _ _ _ _ c.conclude_stop.ensures.no_disk c.in-Err.ensures.cause c.conclude_stop.ensures.fault c.conclude_stop.ensures.others
    (c.conclude_stop.ensures.late c.in-Err.ensures.late) c.recover_main.ensures.later c.conclude_stop.ensures.later (omega arith)

pub returns-in-Err-clause-changes : goal.returns-in-Err-clause-changes
returns-in-Err-clause-changes g c = λ told start.
    let profile = c.args.profile in
    let file = recovered_main profile (g.D.Disk.reads c.args.disk.now) in
    let held = held_by (keys_of (profile_before profile c.args.change) c.args.secrets.now.first file) file in
    inl (record {
      any_moment = λ image ever. let from = (c.recover_main.ensures.keeps told).each image ever in holds_on profile.page_size held from.0 image refl from.2 (start from.0 from.1);
      not_done = last_not_done c.in-Err.stop c.conclude_stop.result (stop_last c.in-Err.stop c.conclude_stop.result c.conclude_stop.ensures.status
          (λ same. (c.conclude_stop.ensures.disk same).0) (λ same. (c.conclude_stop.ensures.memory same).0));
    })

pub returns-in-Err-clause-fresh : goal.returns-in-Err-clause-fresh
returns-in-Err-clause-fresh g c = λ told in_place. weaker (λ image from. (from.0, from.1, from.2.fresh)) (c.recover_main.ensures.keeps told)

pub returns-in-Err-clause-own_draws : goal.returns-in-Err-clause-own_draws
returns-in-Err-clause-own_draws g c = λ told drawing is.
    absurd (last_not_done c.in-Err.stop c.conclude_stop.result (stop_last c.in-Err.stop c.conclude_stop.result c.conclude_stop.ensures.status
    (λ same. (c.conclude_stop.ensures.disk same).0) (λ same. (c.conclude_stop.ensures.memory same).0)) is)

pub returns-in-Ok-clause-untouched : goal.returns-in-Ok-clause-untouched
returns-in-Ok-clause-untouched g c = λ told none.
    let files = g.D.Disk.reads c.args.disk.now in
    let main = main_of (g.D.Disk.reads c.recover_main.new.disk) in
    let unwritten = c.recover_main.ensures.untouched told none in
    let same : main ≡ main_of files = ap (λ (f : Files). main_of f) unwritten.reads in
    let empty = ap (λ (l : List ℕ). length l) same ∙ has_no_byte c.args.profile files c.in-Ok.field-0 (c.in-Ok.ensures.recovery told) none in
    unwritten_read g.met.D.Disk.counts_now (c.recover_main.ensures.keeps told).later unwritten
    (c.change_main.ensures.unopened told (empty_unopened (profile_before c.args.profile c.args.change) c.args.secrets.now.first main empty))

pub returns-in-Err-clause-fresh_gone : goal.returns-in-Err-clause-fresh_gone
returns-in-Err-clause-fresh_gone g c = λ told is beside.
    absurd (last_not_done c.in-Err.stop c.conclude_stop.result (stop_last c.in-Err.stop c.conclude_stop.result c.conclude_stop.ensures.status
    (λ same. (c.conclude_stop.ensures.disk same).0) (λ same. (c.conclude_stop.ensures.memory same).0)) is)

pub returns-in-Ok-clause-recovered : goal.returns-in-Ok-clause-recovered
returns-in-Ok-clause-recovered g c = λ told has byte image now.
    let files = g.D.Disk.reads c.args.disk.now in
    let from = c.change_main.ensures.stays told has image now in
    old_done c.args.profile.page_size (bytes_of files.main) (bytes_of files.journal) from.0 image from.2 (c.in-Ok.ensures.done told byte from.0 from.1)

pub returns-in-Err-clause-recovered : goal.returns-in-Err-clause-recovered
returns-in-Err-clause-recovered g c = λ told has.
    absurd (recovery_last true c.in-Err.stop c.conclude_stop.result c.in-Err.ensures.of_recovery
    (stop_last c.in-Err.stop c.conclude_stop.result c.conclude_stop.ensures.status
    (λ same. (c.conclude_stop.ensures.disk same).0) (λ same. (c.conclude_stop.ensures.memory same).0)) has)
