use Rattle.std.proofs.Common.{◌≡◌, inr, ℕ, IsTrue, List, drop, length, Ok, Err, sym, ap, subst, ◌∙◌}
use Rattle.edge_model.specs.Files.{Files, main_of}
use Rattle.fresh_file.specs.Draws.{HasOwnDraws}
use Rattle.make_job.specs.Made.{IsMade}
use Rattle.page_codec.specs.Page.{keys_of}
use Rattle.sqlcipher_tool.specs.Change.{IsLateChange, KeepsOrCommits, change_answer, change_status}
use Rattle.sqlcipher_tool.specs.Crash.{HasNoMain}
use Rattle.sqlcipher_tool.specs.Renewal.{WithDraws}
use Rattle.fresh_disk.specs.Published.{IsAlone}
use Rattle.sqlcipher_tool.specs.declared.opening.ChangeError.{ChangeError}
use Rattle.sqlcipher_tool.proofs.Making.{made_due, made_there, make_disk, make_entropy, make_late, place_with, same_journal, stands_some, unmade_due, unmade_there}
use Rattle.sqlcipher_tool.proofs.make.make_database.Goals as goal

abbrev failed : ChangeError → Rattle.std.specs.Prelude.Result (List ℕ) ChangeError
failed error = Err error

error_same : (a b : ChangeError) → failed a ≡ Err b → a ≡ b
error_same a b is = cc

pub returns-in-Ok-clause-told : goal.returns-in-Ok-clause-told
returns-in-Ok-clause-told g c = λ told answer is.
    made_due c.make.result c.in-Ok.made (g.D.Disk.reads c.args.disk.now) c.args.profile c.args.rows c.in-Ok.made.rows c.in-Ok.made.bytes c.in-Ok.is
    (λ e way. (c.make.ensures.stopped e told way).0) c.in-Ok.ensures.counts.0 c.in-Ok.ensures.counts.1 answer
    (sym (ap (λ (l : List ℕ). change_answer (Ok l)) c.made_report.ensures) ∙ is)

pub returns-in-Ok-clause-made : goal.returns-in-Ok-clause-made
returns-in-Ok-clause-made g c = λ told.
    let there = c.in-Ok.ensures.made told in
    subst (λ (l : List ℕ). IsMade c.args.profile c.args.secret.now c.args.rows l) (sym (ap (λ (files : Files). main_of files) there.reads_so)) there.may.is

pub returns-in-Ok-clause-safely : goal.returns-in-Ok-clause-safely
returns-in-Ok-clause-safely g c = λ told free.
    let d = g.D.Disk in
    let n = g.E.Entropy in
    let own : List ℕ → Type 0 = λ file. IsTrue n.tells → HasOwnDraws (keys_of c.args.profile c.args.secret.now file) file (drop (length (n.drawn c.args.entropy.now)) (n.drawn c.make.new.entropy)) in
    inr (made_there d.reads d.images d.moment d.since g.met.D.Disk.counts_now g.met.D.Disk.only_now free
    (place_with own (c.in-Ok.ensures.made told) (λ drawing. c.in-Ok.ensures.own_draws told drawing)))

pub returns-in-Ok-clause-only_read : goal.returns-in-Ok-clause-only_read
returns-in-Ok-clause-only_read g c = λ told there.
    let way = stands_some (g.D.Disk.reads c.args.disk.now) there in
    (c.make.ensures.stopped way.0 told way.1).1

pub returns-in-Err-clause-told : goal.returns-in-Err-clause-told
returns-in-Err-clause-told g c = λ told answer is.
    unmade_due c.make.result c.in-Err.error (g.D.Disk.reads c.args.disk.now) c.args.profile c.args.rows c.in-Err.is
    (λ e way. (c.make.ensures.stopped e told way).0) (λ stands. c.in-Err.ensures.there stands told) c.make.ensures.limit answer
    (sym (ap (λ (e : ChangeError). change_answer (Err e)) c.make_error.ensures) ∙ is)

pub returns-in-Err-clause-safely : goal.returns-in-Err-clause-safely
returns-in-Err-clause-safely g c = λ told free.
    let d = g.D.Disk in
    let n = g.E.Entropy in
    let own : List ℕ → Type 0 = λ file. HasOwnDraws (keys_of c.args.profile c.args.secret.now file) file (drop (length (n.drawn c.args.entropy.now)) (n.drawn c.make.new.entropy)) in
    subst (λ (e : ChangeError). KeepsOrCommits d.reads d.images d.moment d.since (change_status (Err e)) (WithDraws (IsMade c.args.profile c.args.secret.now c.args.rows) n.tells own) HasNoMain IsAlone c.args.disk.now c.make.new.disk)
    (sym c.make_error.ensures)
    (unmade_there d.reads d.images d.moment d.since g.met.D.Disk.counts_now g.met.D.Disk.only_now free c.in-Err.error (λ other. c.in-Err.ensures.only_old other told) (c.make.ensures.any_moment told))

pub returns-in-Err-clause-only_read : goal.returns-in-Err-clause-only_read
returns-in-Err-clause-only_read g c = λ told there.
    let way = stands_some (g.D.Disk.reads c.args.disk.now) there in
    (c.make.ensures.stopped way.0 told way.1).1

pub returns-in-Err-clause-late : goal.returns-in-Err-clause-late
returns-in-Err-clause-late g c = subst IsLateChange (sym c.make_error.ensures) (make_late c.in-Err.error)

pub returns-in-Err-clause-disk_fault : goal.returns-in-Err-clause-disk_fault
returns-in-Err-clause-disk_fault g c = λ is.
    c.make.ensures.disk_fault (c.in-Err.is ∙ ap (λ (e : _). Err e) (make_disk c.in-Err.error (sym c.make_error.ensures ∙ error_same c.make_error.result _ is)))

pub returns-in-Err-clause-entropy_fault : goal.returns-in-Err-clause-entropy_fault
returns-in-Err-clause-entropy_fault g c = λ is.
    c.make.ensures.entropy_fault (c.in-Err.is ∙ ap (λ (e : _). Err e) (make_entropy c.in-Err.error (sym c.make_error.ensures ∙ error_same c.make_error.result _ is)))

pub returns-in-Ok-clause-journal : goal.returns-in-Ok-clause-journal
returns-in-Ok-clause-journal g c = λ told. same_journal (c.make.ensures.any_moment told)

pub returns-in-Ok-clause-undrawn : goal.returns-in-Ok-clause-undrawn
returns-in-Ok-clause-undrawn g c = λ told there.
    let way = stands_some (g.D.Disk.reads c.args.disk.now) there in
    (c.make.ensures.stopped way.0 told way.1).2

pub returns-in-Err-clause-journal : goal.returns-in-Err-clause-journal
returns-in-Err-clause-journal g c = λ told. same_journal (c.make.ensures.any_moment told)

pub returns-in-Err-clause-undrawn : goal.returns-in-Err-clause-undrawn
returns-in-Err-clause-undrawn g c = λ told there.
    let way = stands_some (g.D.Disk.reads c.args.disk.now) there in
    (c.make.ensures.stopped way.0 told way.1).2

pub returns-in-Ok-clause-fresh_gone : goal.returns-in-Ok-clause-fresh_gone
returns-in-Ok-clause-fresh_gone g c = λ told. ap (λ (files : Files). files.fresh) (c.in-Ok.ensures.made told).reads_so
