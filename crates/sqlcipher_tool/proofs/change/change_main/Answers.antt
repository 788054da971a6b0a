use Rattle.std.proofs.Common.{◌≡◌, ⊎_elim, inl, inr, ℕ, List, drop, length, Result, Err, refl, sym, ap, subst, ◌∙◌, rules}
use Rattle.page_codec.specs.Page.{keys_of}
use Rattle.edge_model.specs.Files.{main_of}
use Rattle.std.specs.Prelude.{IfErr, IsTrue}
use Rattle.fresh_disk.specs.OnlyFresh.{IsOld}
use Rattle.edge_model.specs.Images.{Each}
use Rattle.sqlcipher_tool.specs.Answer.{done}
use Rattle.sqlcipher_tool.specs.Behind.{IsRefusedChange}
use Rattle.sqlcipher_tool.specs.Change.{KeepsOrCommits, change_answer, change_status}
use Rattle.sqlcipher_tool.specs.Due.{change_answers}
use Rattle.sqlcipher_tool.specs.Holding.{HoldsOnly, held_by}
use Rattle.sqlcipher_tool.specs.Renewal.{IsNewDrawn, renewed, secret_after}
use Rattle.sqlcipher_tool.specs.Words.{profile_after, profile_before}
use Rattle.sqlcipher_tool.specs.declared.command.Command.TheVariants.{Change as ChangeFile}
use Rattle.sqlcipher_tool.specs.declared.opening.ChangeError.{ChangeError}
use Rattle.sqlcipher_tool.specs.declared.opening.ChangeError.TheVariants.{Stopped, EntropyFault as EntropyFails}
use Rattle.sqlcipher_tool.specs.declared.opening.Stop.{Stop}
use Rattle.sqlcipher_tool.specs.declared.status.Status.TheVariants.{Done, EntropyFault}
use Rattle.sqlcipher_tool.proofs.Answered.{printed_among}
use Rattle.sqlcipher_tool.proofs.Behind.{done_last, refusal_last}
use Rattle.sqlcipher_tool.proofs.Changing.{printed}
use Rattle.sqlcipher_tool.proofs.Changed.{causes_printed, causes_stopped, causes_undrawn, last_not_done, late_stop, silent_one, stop_last}
use Rattle.sqlcipher_tool.proofs.SomeDue.{change_some}
use Rattle.sqlcipher_tool.proofs.Stamping.{was_ok}
use Rattle.sqlcipher_tool.proofs.Verified.{stop_one}
use Rattle.sqlcipher_tool.proofs.change.change_main.Goals as goal

abbrev pub Outcome : Type 0
Outcome = Result (List ℕ) ChangeError

pub returns-in-Ok-clause-answer : goal.returns-in-Ok-clause-answer
returns-in-Ok-clause-answer g c = λ told.
    let answers = change_answers c.args.change (renewed c.args.profile c.args.change c.args.secrets.now.first c.args.secrets.now.second) (main_of (g.D.Disk.reads c.args.disk.now)) (main_of (g.D.Disk.reads c.change_opened.new.disk)) in
    printed_among answers (done c.in-Ok.report) c.conclude.result g.S.Sink.tells (g.S.Sink.taken c.args.out.now) (g.S.Sink.taken c.conclude.new.out)
    (c.change_opened.ensures.told told (done c.in-Ok.report) (ap change_answer c.in-Ok.is)) tt c.conclude.ensures.status c.conclude.ensures.text

pub returns-in-Ok-clause-causes : goal.returns-in-Ok-clause-causes
returns-in-Ok-clause-causes g c =
    causes_printed c.conclude.result _ _ _ _ _ _ c.conclude.ensures.status c.conclude.ensures.fault c.change_opened.ensures.disk_later c.conclude.ensures.later c.change_opened.ensures.entropy_later

pub returns-in-Ok-clause-safely : goal.returns-in-Ok-clause-safely
returns-in-Ok-clause-safely g c = λ told start.
    let d = g.D.Disk in
    let file = main_of (d.reads c.args.disk.now) in
    let renewal = renewed c.args.profile c.args.change c.args.secrets.now.first c.args.secrets.now.second in
    let was = subst (λ (r : Outcome). KeepsOrCommits d.reads d.images d.moment d.since (change_status r) (IsNewDrawn (ChangeFile c.args.profile c.args.change) renewal g.E.Entropy.tells (drop (length (g.E.Entropy.drawn c.args.entropy.now)) (g.E.Entropy.drawn c.change_opened.new.entropy)) file)
    (HoldsOnly (held_by (keys_of (profile_before c.args.profile c.args.change) c.args.secrets.now.first file) file)) (λ n. HoldsOnly (held_by (keys_of (profile_after c.args.profile c.args.change) (secret_after c.args.change c.args.secrets.now.first c.args.secrets.now.second) n) n)) c.args.disk.now c.change_opened.new.disk) c.in-Ok.is (c.change_opened.ensures.safely told start) in
    printed d.reads d.images d.moment d.since g.met.D.Disk.counts_now g.met.D.Disk.only_now Done c.conclude.result
    (⊎_elim (λ same. inl same) (λ out. inr (out, tt)) c.conclude.ensures.status) was

pub returns-in-Ok-clause-fresh : goal.returns-in-Ok-clause-fresh
returns-in-Ok-clause-fresh g c = λ told in_place. c.change_opened.ensures.fresh told in_place

pub returns-in-Ok-clause-own_draws : goal.returns-in-Ok-clause-own_draws
returns-in-Ok-clause-own_draws g c = λ told drawing is. was_ok c.change_opened.result c.in-Ok.report c.in-Ok.is c.change_opened.ensures.own_draws told drawing

pub returns-in-Err-Stopped-clause-answer : goal.returns-in-Err-Stopped-clause-answer
returns-in-Err-Stopped-clause-answer g c = λ told.
    let file = main_of (g.D.Disk.reads c.args.disk.now) in
    let after = main_of (g.D.Disk.reads c.change_opened.new.disk) in
    let renewal = renewed c.args.profile c.args.change c.args.secrets.now.first c.args.secrets.now.second in
    let answers = change_answers c.args.change renewal file after in
    let found : c.change_opened.result ≡ Err (Stopped c.in-Err-Stopped.stop) = search rules in
    let is = subst (λ (s : Stop). c.change_opened.result ≡ Err (Stopped s)) (sym c.in-Err-Stopped.stop-is) found in
    stop_one answers _ c.conclude_stop.result g.S.Sink.tells (g.S.Sink.taken c.args.out.now) (g.S.Sink.taken c.conclude_stop.new.out) (change_some c.args.change renewal file after)
    (λ answer same. c.change_opened.ensures.told told answer (ap change_answer is ∙ same))
    c.conclude_stop.ensures.status c.conclude_stop.ensures.text
    (λ same. let failed = c.conclude_stop.ensures.disk same in (failed.0, ap g.S.Sink.taken failed.1))
    (λ same. let starved = c.conclude_stop.ensures.memory same in (starved.0, ap g.S.Sink.taken starved.1))

pub returns-in-Err-Stopped-clause-causes : goal.returns-in-Err-Stopped-clause-causes
returns-in-Err-Stopped-clause-causes g c =
    let found : c.change_opened.result ≡ Err (Stopped c.in-Err-Stopped.stop) = search rules in
    let is = subst (λ (s : Stop). c.change_opened.result ≡ Err (Stopped s)) (sym c.in-Err-Stopped.stop-is) found in
    causes_stopped _ c.conclude_stop.result _ _ _ _ _ _ c.conclude_stop.ensures.no_disk
    (λ same. c.change_opened.ensures.disk_fault (is ∙ ap (λ (s : _). Err (Stopped s)) same)) c.conclude_stop.ensures.fault c.conclude_stop.ensures.others
    (c.conclude_stop.ensures.late (late_stop c.change_opened.result _ is c.change_opened.ensures.late))
    c.change_opened.ensures.disk_later c.conclude_stop.ensures.later c.change_opened.ensures.entropy_later

pub returns-in-Err-Stopped-clause-safely : goal.returns-in-Err-Stopped-clause-safely
returns-in-Err-Stopped-clause-safely g c = λ told start.
    let d = g.D.Disk in
    let found : c.change_opened.result ≡ Err (Stopped c.in-Err-Stopped.stop) = search rules in
    let is = subst (λ (s : Stop). c.change_opened.result ≡ Err (Stopped s)) (sym c.in-Err-Stopped.stop-is) found in
    let file = main_of (d.reads c.args.disk.now) in
    let renewal = renewed c.args.profile c.args.change c.args.secrets.now.first c.args.secrets.now.second in
    let was = subst (λ (r : Outcome). KeepsOrCommits d.reads d.images d.moment d.since (change_status r) (IsNewDrawn (ChangeFile c.args.profile c.args.change) renewal g.E.Entropy.tells (drop (length (g.E.Entropy.drawn c.args.entropy.now)) (g.E.Entropy.drawn c.change_opened.new.entropy)) file)
    (HoldsOnly (held_by (keys_of (profile_before c.args.profile c.args.change) c.args.secrets.now.first file) file)) (λ n. HoldsOnly (held_by (keys_of (profile_after c.args.profile c.args.change) (secret_after c.args.change c.args.secrets.now.first c.args.secrets.now.second) n) n)) c.args.disk.now c.change_opened.new.disk) is (c.change_opened.ensures.safely told start) in
    printed d.reads d.images d.moment d.since g.met.D.Disk.counts_now g.met.D.Disk.only_now _ c.conclude_stop.result
    (stop_last _ c.conclude_stop.result c.conclude_stop.ensures.status (λ same. (c.conclude_stop.ensures.disk same).0) (λ same. (c.conclude_stop.ensures.memory same).0)) was

pub returns-in-Err-Stopped-clause-fresh : goal.returns-in-Err-Stopped-clause-fresh
returns-in-Err-Stopped-clause-fresh g c = λ told in_place. c.change_opened.ensures.fresh told in_place

pub returns-in-Err-Stopped-clause-own_draws : goal.returns-in-Err-Stopped-clause-own_draws
returns-in-Err-Stopped-clause-own_draws g c = λ told drawing is.
    absurd (last_not_done _ c.conclude_stop.result (stop_last _ c.conclude_stop.result c.conclude_stop.ensures.status
    (λ same. (c.conclude_stop.ensures.disk same).0) (λ same. (c.conclude_stop.ensures.memory same).0)) is)

pub returns-in-Err-EntropyFault-clause-answer : goal.returns-in-Err-EntropyFault-clause-answer
returns-in-Err-EntropyFault-clause-answer g c = λ told.
    let file = main_of (g.D.Disk.reads c.args.disk.now) in
    let after = main_of (g.D.Disk.reads c.change_opened.new.disk) in
    let renewal = renewed c.args.profile c.args.change c.args.secrets.now.first c.args.secrets.now.second in
    let answers = change_answers c.args.change renewal file after in
    silent_one answers EntropyFault g.S.Sink.tells _ _ (change_some c.args.change renewal file after) tt refl

pub returns-in-Err-EntropyFault-clause-causes : goal.returns-in-Err-EntropyFault-clause-causes
returns-in-Err-EntropyFault-clause-causes g c =
    let is : c.change_opened.result ≡ Err EntropyFails = search rules in
    causes_undrawn _ _ _ _ _ (c.change_opened.ensures.entropy_fault is) c.change_opened.ensures.disk_later c.change_opened.ensures.entropy_later

pub returns-in-Err-EntropyFault-clause-safely : goal.returns-in-Err-EntropyFault-clause-safely
returns-in-Err-EntropyFault-clause-safely g c = λ told start.
    let d = g.D.Disk in
    let is : c.change_opened.result ≡ Err EntropyFails = search rules in
    let file = main_of (d.reads c.args.disk.now) in
    let renewal = renewed c.args.profile c.args.change c.args.secrets.now.first c.args.secrets.now.second in
    subst (λ (r : Outcome). KeepsOrCommits d.reads d.images d.moment d.since (change_status r) (IsNewDrawn (ChangeFile c.args.profile c.args.change) renewal g.E.Entropy.tells (drop (length (g.E.Entropy.drawn c.args.entropy.now)) (g.E.Entropy.drawn c.change_opened.new.entropy)) file)
    (HoldsOnly (held_by (keys_of (profile_before c.args.profile c.args.change) c.args.secrets.now.first file) file)) (λ n. HoldsOnly (held_by (keys_of (profile_after c.args.profile c.args.change) (secret_after c.args.change c.args.secrets.now.first c.args.secrets.now.second) n) n)) c.args.disk.now c.change_opened.new.disk) is (c.change_opened.ensures.safely told start)

pub returns-in-Err-EntropyFault-clause-fresh : goal.returns-in-Err-EntropyFault-clause-fresh
returns-in-Err-EntropyFault-clause-fresh g c = λ told in_place. c.change_opened.ensures.fresh told in_place

pub returns-in-Err-EntropyFault-clause-own_draws : goal.returns-in-Err-EntropyFault-clause-own_draws
returns-in-Err-EntropyFault-clause-own_draws g c = λ told drawing is. absurd (entropy_not_done is)
  where
    entropy_not_done : EntropyFault ≡ Done → ⊥
    entropy_not_done is = cc

pub returns-in-Ok-clause-unopened : goal.returns-in-Ok-clause-unopened
returns-in-Ok-clause-unopened g c = λ told err. c.change_opened.ensures.unopened told err

pub returns-in-Err-Stopped-clause-unopened : goal.returns-in-Err-Stopped-clause-unopened
returns-in-Err-Stopped-clause-unopened g c = λ told err. c.change_opened.ensures.unopened told err

pub returns-in-Err-EntropyFault-clause-unopened : goal.returns-in-Err-EntropyFault-clause-unopened
returns-in-Err-EntropyFault-clause-unopened g c = λ told err. c.change_opened.ensures.unopened told err

pub returns-in-Ok-clause-fresh_gone : goal.returns-in-Ok-clause-fresh_gone
returns-in-Ok-clause-fresh_gone g c = λ told is beside. was_ok c.change_opened.result c.in-Ok.report c.in-Ok.is (c.change_opened.ensures.fresh_gone told beside)

pub returns-in-Err-Stopped-clause-fresh_gone : goal.returns-in-Err-Stopped-clause-fresh_gone
returns-in-Err-Stopped-clause-fresh_gone g c = λ told is beside.
    absurd (last_not_done _ c.conclude_stop.result (stop_last _ c.conclude_stop.result c.conclude_stop.ensures.status
    (λ same. (c.conclude_stop.ensures.disk same).0) (λ same. (c.conclude_stop.ensures.memory same).0)) is)

pub returns-in-Ok-clause-stays : goal.returns-in-Ok-clause-stays
returns-in-Ok-clause-stays g c = λ told has. absurd (done_last c.conclude.result c.conclude.ensures.status has)

pub returns-in-Err-Stopped-clause-stays : goal.returns-in-Err-Stopped-clause-stays
returns-in-Err-Stopped-clause-stays g c = λ told has.
    let d = g.D.Disk in
    let found : c.change_opened.result ≡ Err (Stopped c.in-Err-Stopped.stop) = search rules in
    let is = subst (λ (s : Stop). c.change_opened.result ≡ Err (Stopped s)) (sym c.in-Err-Stopped.stop-is) found in
    let stays = subst (λ (r : Outcome). IfErr r (λ e. IsRefusedChange e → IsTrue d.tells → Each (d.images c.change_opened.new.disk) (IsOld (d.images c.args.disk.now)))) is c.change_opened.ensures.stays in
    stays (refusal_last _ c.conclude_stop.result
    (stop_last _ c.conclude_stop.result c.conclude_stop.ensures.status (λ same. (c.conclude_stop.ensures.disk same).0) (λ same. (c.conclude_stop.ensures.memory same).0)) has) told

pub returns-in-Err-EntropyFault-clause-stays : goal.returns-in-Err-EntropyFault-clause-stays
returns-in-Err-EntropyFault-clause-stays g c = λ told has. absurd has
