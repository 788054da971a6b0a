use Rattle.std.proofs.Common.{◌≡◌, ⊎_elim, inl, inr, ℕ, List, drop, length, Result, Err, refl, sym, ap, subst, ◌∙◌, rules}
use Rattle.fresh_disk.specs.Published.{IsAlone}
use Rattle.fresh_file.specs.Draws.{HasOwnDraws}
use Rattle.make_job.specs.Made.{IsMade}
use Rattle.page_codec.specs.Page.{keys_of}
use Rattle.sqlcipher_tool.specs.Answer.{done}
use Rattle.sqlcipher_tool.specs.Change.{KeepsOrCommits, change_answer, change_status}
use Rattle.sqlcipher_tool.specs.Crash.{HasNoMain}
use Rattle.sqlcipher_tool.specs.Make.{make_answers}
use Rattle.sqlcipher_tool.specs.Renewal.{WithDraws}
use Rattle.sqlcipher_tool.specs.declared.opening.ChangeError.{ChangeError}
use Rattle.sqlcipher_tool.specs.declared.opening.ChangeError.TheVariants.{Stopped, EntropyFault as EntropyFails}
use Rattle.sqlcipher_tool.specs.declared.opening.Stop.{Stop}
use Rattle.sqlcipher_tool.specs.declared.status.Status.TheVariants.{Done, EntropyFault}
use Rattle.sqlcipher_tool.proofs.Answered.{printed_among}
use Rattle.sqlcipher_tool.proofs.Changing.{as_run, printed}
use Rattle.sqlcipher_tool.proofs.Changed.{causes_printed, causes_stopped, causes_undrawn, last_not_done, late_stop, silent_one, stop_last}
use Rattle.sqlcipher_tool.proofs.SomeDue.{make_some}
use Rattle.sqlcipher_tool.proofs.Stamping.{was_ok}
use Rattle.sqlcipher_tool.proofs.Verified.{stop_one}
use Rattle.sqlcipher_tool.proofs.VerifiedFile.{answers_recovered, make_of_file}
use Rattle.sqlcipher_tool.proofs.make.make_file.Goals as goal

abbrev Outcome : Type 0
Outcome = Result (List ℕ) ChangeError

entropy_not_done : EntropyFault ≡ Done → ⊥
entropy_not_done is = cc

pub returns-in-Ok-clause-answer : goal.returns-in-Ok-clause-answer
returns-in-Ok-clause-answer g c = λ told.
    let answers = make_answers c.args.profile c.args.rows (g.D.Disk.reads c.args.disk.now) in
    printed_among answers (done c.in-Ok.report) c.conclude.result g.S.Sink.tells (g.S.Sink.taken c.args.out.now) (g.S.Sink.taken c.conclude.new.out)
    (c.make_database.ensures.told told (done c.in-Ok.report) (ap change_answer c.in-Ok.is)) tt c.conclude.ensures.status c.conclude.ensures.text

pub returns-in-Ok-clause-causes : goal.returns-in-Ok-clause-causes
returns-in-Ok-clause-causes g c =
    causes_printed c.conclude.result _ _ _ _ _ _ c.conclude.ensures.status c.conclude.ensures.fault c.make_database.ensures.disk_later c.conclude.ensures.later c.make_database.ensures.entropy_later

pub returns-in-Ok-clause-changes : goal.returns-in-Ok-clause-changes
returns-in-Ok-clause-changes g c = λ told.
    let d = g.D.Disk in
    let own : List ℕ → Type 0 = λ file. HasOwnDraws (keys_of c.args.profile c.args.secret.now file) file (drop (length (g.E.Entropy.drawn c.args.entropy.now)) (g.E.Entropy.drawn c.make_database.new.entropy)) in
    record {
      made = λ is. was_ok c.make_database.result c.in-Ok.report c.in-Ok.is c.make_database.ensures.made told;
      safely = λ free.
          let was = subst (λ (r : Outcome). KeepsOrCommits d.reads d.images d.moment d.since (change_status r) (WithDraws (IsMade c.args.profile c.args.secret.now c.args.rows) g.E.Entropy.tells own) HasNoMain IsAlone c.args.disk.now c.make_database.new.disk)
          c.in-Ok.is (c.make_database.ensures.safely told free) in
          as_run d.reads d.images d.moment d.since g.met.D.Disk.counts_now g.met.D.Disk.only_now c.conclude.result
          (printed d.reads d.images d.moment d.since g.met.D.Disk.counts_now g.met.D.Disk.only_now Done c.conclude.result
          (⊎_elim (λ same. inl same) (λ out. inr (out, tt)) c.conclude.ensures.status) was);
    }

pub returns-in-Ok-clause-only_read : goal.returns-in-Ok-clause-only_read
returns-in-Ok-clause-only_read g c = c.make_database.ensures.only_read

pub returns-in-Ok-clause-unrecovered : goal.returns-in-Ok-clause-unrecovered
returns-in-Ok-clause-unrecovered g c = λ told is.
    let files = g.D.Disk.reads c.args.disk.now in
    absurd (answers_recovered (make_answers c.args.profile c.args.rows files) (make_of_file c.args.profile c.args.rows files) c.conclude.result g.S.Sink.tells
    (g.S.Sink.taken c.args.out.now) (g.S.Sink.taken c.conclude.new.out) (returns-in-Ok-clause-answer g c told) is)

pub returns-in-Ok-clause-own_draws : goal.returns-in-Ok-clause-own_draws
returns-in-Ok-clause-own_draws g c = λ told drawing is. was_ok c.make_database.result c.in-Ok.report c.in-Ok.is c.make_database.ensures.own_draws told drawing

pub returns-in-Err-Stopped-clause-answer : goal.returns-in-Err-Stopped-clause-answer
returns-in-Err-Stopped-clause-answer g c = λ told.
    let files = g.D.Disk.reads c.args.disk.now in
    let answers = make_answers c.args.profile c.args.rows files in
    let found : c.make_database.result ≡ Err (Stopped c.in-Err-Stopped.stop) = search rules in
    let is = subst (λ (s : Stop). c.make_database.result ≡ Err (Stopped s)) (sym c.in-Err-Stopped.stop-is) found in
    stop_one answers _ c.conclude_stop.result g.S.Sink.tells (g.S.Sink.taken c.args.out.now) (g.S.Sink.taken c.conclude_stop.new.out) (make_some c.args.profile c.args.rows files)
    (λ answer same. c.make_database.ensures.told told answer (ap change_answer is ∙ same))
    c.conclude_stop.ensures.status c.conclude_stop.ensures.text
    (λ same. let failed = c.conclude_stop.ensures.disk same in (failed.0, ap g.S.Sink.taken failed.1))
    (λ same. let starved = c.conclude_stop.ensures.memory same in (starved.0, ap g.S.Sink.taken starved.1))

pub returns-in-Err-Stopped-clause-causes : goal.returns-in-Err-Stopped-clause-causes
returns-in-Err-Stopped-clause-causes g c =
    let found : c.make_database.result ≡ Err (Stopped c.in-Err-Stopped.stop) = search rules in
    let is = subst (λ (s : Stop). c.make_database.result ≡ Err (Stopped s)) (sym c.in-Err-Stopped.stop-is) found in
    causes_stopped _ c.conclude_stop.result _ _ _ _ _ _ c.conclude_stop.ensures.no_disk
    (λ same. c.make_database.ensures.disk_fault (is ∙ ap (λ (s : _). Err (Stopped s)) same)) c.conclude_stop.ensures.fault c.conclude_stop.ensures.others
    (c.conclude_stop.ensures.late (late_stop c.make_database.result _ is c.make_database.ensures.late))
    c.make_database.ensures.disk_later c.conclude_stop.ensures.later c.make_database.ensures.entropy_later

pub returns-in-Err-Stopped-clause-changes : goal.returns-in-Err-Stopped-clause-changes
returns-in-Err-Stopped-clause-changes g c = λ told.
    let d = g.D.Disk in
    let own : List ℕ → Type 0 = λ file. HasOwnDraws (keys_of c.args.profile c.args.secret.now file) file (drop (length (g.E.Entropy.drawn c.args.entropy.now)) (g.E.Entropy.drawn c.make_database.new.entropy)) in
    let found : c.make_database.result ≡ Err (Stopped c.in-Err-Stopped.stop) = search rules in
    let is = subst (λ (s : Stop). c.make_database.result ≡ Err (Stopped s)) (sym c.in-Err-Stopped.stop-is) found in
    let last = stop_last _ c.conclude_stop.result c.conclude_stop.ensures.status (λ same. (c.conclude_stop.ensures.disk same).0) (λ same. (c.conclude_stop.ensures.memory same).0) in
    record {
      made = λ done. absurd (last_not_done _ c.conclude_stop.result last done);
      safely = λ free.
          let was = subst (λ (r : Outcome). KeepsOrCommits d.reads d.images d.moment d.since (change_status r) (WithDraws (IsMade c.args.profile c.args.secret.now c.args.rows) g.E.Entropy.tells own) HasNoMain IsAlone c.args.disk.now c.make_database.new.disk)
          is (c.make_database.ensures.safely told free) in
          as_run d.reads d.images d.moment d.since g.met.D.Disk.counts_now g.met.D.Disk.only_now c.conclude_stop.result
          (printed d.reads d.images d.moment d.since g.met.D.Disk.counts_now g.met.D.Disk.only_now _ c.conclude_stop.result last was);
    }

pub returns-in-Err-Stopped-clause-only_read : goal.returns-in-Err-Stopped-clause-only_read
returns-in-Err-Stopped-clause-only_read g c = c.make_database.ensures.only_read

pub returns-in-Err-Stopped-clause-unrecovered : goal.returns-in-Err-Stopped-clause-unrecovered
returns-in-Err-Stopped-clause-unrecovered g c = λ told is.
    let files = g.D.Disk.reads c.args.disk.now in
    absurd (answers_recovered (make_answers c.args.profile c.args.rows files) (make_of_file c.args.profile c.args.rows files) c.conclude_stop.result g.S.Sink.tells
    (g.S.Sink.taken c.args.out.now) (g.S.Sink.taken c.conclude_stop.new.out) (returns-in-Err-Stopped-clause-answer g c told) is)

pub returns-in-Err-Stopped-clause-own_draws : goal.returns-in-Err-Stopped-clause-own_draws
returns-in-Err-Stopped-clause-own_draws g c = λ told drawing is.
    absurd (last_not_done _ c.conclude_stop.result (stop_last _ c.conclude_stop.result c.conclude_stop.ensures.status
    (λ same. (c.conclude_stop.ensures.disk same).0) (λ same. (c.conclude_stop.ensures.memory same).0)) is)

pub returns-in-Err-EntropyFault-clause-answer : goal.returns-in-Err-EntropyFault-clause-answer
returns-in-Err-EntropyFault-clause-answer g c = λ told.
    let files = g.D.Disk.reads c.args.disk.now in
    silent_one (make_answers c.args.profile c.args.rows files) EntropyFault g.S.Sink.tells _ _ (make_some c.args.profile c.args.rows files) tt refl

pub returns-in-Err-EntropyFault-clause-causes : goal.returns-in-Err-EntropyFault-clause-causes
returns-in-Err-EntropyFault-clause-causes g c =
    let is : c.make_database.result ≡ Err EntropyFails = search rules in
    causes_undrawn _ _ _ _ _ (c.make_database.ensures.entropy_fault is) c.make_database.ensures.disk_later c.make_database.ensures.entropy_later

pub returns-in-Err-EntropyFault-clause-changes : goal.returns-in-Err-EntropyFault-clause-changes
returns-in-Err-EntropyFault-clause-changes g c = λ told.
    let d = g.D.Disk in
    let own : List ℕ → Type 0 = λ file. HasOwnDraws (keys_of c.args.profile c.args.secret.now file) file (drop (length (g.E.Entropy.drawn c.args.entropy.now)) (g.E.Entropy.drawn c.make_database.new.entropy)) in
    let is : c.make_database.result ≡ Err EntropyFails = search rules in
    record {
      made = λ done. absurd (entropy_not_done done);
      safely = λ free. as_run d.reads d.images d.moment d.since g.met.D.Disk.counts_now g.met.D.Disk.only_now EntropyFault
          (subst (λ (r : Outcome). KeepsOrCommits d.reads d.images d.moment d.since (change_status r) (WithDraws (IsMade c.args.profile c.args.secret.now c.args.rows) g.E.Entropy.tells own) HasNoMain IsAlone c.args.disk.now c.make_database.new.disk)
          is (c.make_database.ensures.safely told free));
    }

pub returns-in-Err-EntropyFault-clause-only_read : goal.returns-in-Err-EntropyFault-clause-only_read
returns-in-Err-EntropyFault-clause-only_read g c = c.make_database.ensures.only_read

pub returns-in-Err-EntropyFault-clause-own_draws : goal.returns-in-Err-EntropyFault-clause-own_draws
returns-in-Err-EntropyFault-clause-own_draws g c = λ told drawing is. absurd (entropy_not_done is)

pub returns-in-Ok-clause-journal : goal.returns-in-Ok-clause-journal
returns-in-Ok-clause-journal g c = c.make_database.ensures.journal

pub returns-in-Ok-clause-undrawn : goal.returns-in-Ok-clause-undrawn
returns-in-Ok-clause-undrawn g c = c.make_database.ensures.undrawn

pub returns-in-Err-Stopped-clause-journal : goal.returns-in-Err-Stopped-clause-journal
returns-in-Err-Stopped-clause-journal g c = c.make_database.ensures.journal

pub returns-in-Err-Stopped-clause-undrawn : goal.returns-in-Err-Stopped-clause-undrawn
returns-in-Err-Stopped-clause-undrawn g c = c.make_database.ensures.undrawn

pub returns-in-Err-EntropyFault-clause-journal : goal.returns-in-Err-EntropyFault-clause-journal
returns-in-Err-EntropyFault-clause-journal g c = c.make_database.ensures.journal

pub returns-in-Err-EntropyFault-clause-undrawn : goal.returns-in-Err-EntropyFault-clause-undrawn
returns-in-Err-EntropyFault-clause-undrawn g c = c.make_database.ensures.undrawn

pub returns-in-Ok-clause-fresh_gone : goal.returns-in-Ok-clause-fresh_gone
returns-in-Ok-clause-fresh_gone g c = λ told is. was_ok c.make_database.result c.in-Ok.report c.in-Ok.is (c.make_database.ensures.fresh_gone told)

pub returns-in-Err-Stopped-clause-fresh_gone : goal.returns-in-Err-Stopped-clause-fresh_gone
returns-in-Err-Stopped-clause-fresh_gone g c = λ told is.
    absurd (last_not_done _ c.conclude_stop.result (stop_last _ c.conclude_stop.result c.conclude_stop.ensures.status
    (λ same. (c.conclude_stop.ensures.disk same).0) (λ same. (c.conclude_stop.ensures.memory same).0)) is)
