use Rattle.std.proofs.Common.{◌≡◌, inr, ◌≤◌, ℕ, List, drop, length, true, false, IsTrue, Some, Err, sym, ap, subst, ◌∙◌, arith}
use Rattle.edge_model.specs.Files.{main_of}
use Rattle.pager.specs.Pages.{is_page_number, opened_pages}
use Rattle.sqlcipher_tool.specs.Answer.{done}
use Rattle.sqlcipher_tool.specs.Change.{IsLateChange, KeepsOrCommits, change_answer, change_status}
use Rattle.sqlcipher_tool.specs.declared.opening.ChangeError.{ChangeError}
use Rattle.sqlcipher_tool.specs.Behind.{IsRefusedChange}
use Rattle.sqlcipher_tool.proofs.Behind.{read_stays, rekey_read}
use Rattle.sqlcipher_tool.proofs.Rekeying.{New, Old, begun, done_rekey, main_there, rekey_late, report_due, same_laid, shown_due, stopped_rekey}
use Rattle.sqlcipher_tool.proofs.Stamping.{was_ok}
use Rattle.sqlcipher_tool.proofs.VerifiedFile.{opened_header}
use Rattle.rekey_job.specs.Draws.{FileDraws}
use Rattle.rekey_job.specs.Rekeyed.{IsRekeyed}
use Rattle.sqlcipher_tool.specs.Renewal.{WithDraws}
use Rattle.rekey_job.specs.Stops.{IsRekeyShown, is_unwritten}
use Rattle.rekey_job.specs.declared.error.RekeyError.{RekeyError}
use Rattle.page_plan.proofs.Results.{err_at}
use Rattle.edge_model.specs.OnlyRead.{OnlyRead}
use Rattle.sqlcipher_tool.proofs.rekey.rekey_pages.Goals as goal

pub rekey-disk-requires-clause-header : goal.rekey-disk-requires-clause-header
rekey-disk-requires-clause-header g c = λ told.
    let p = c.args.pager in
    opened_header p.codec (main_of (g.D.Disk.reads p.disk.now)) p.header p.count (c.requires.opened told) p.some

pub rekey-disk-requires-clause-begun : goal.rekey-disk-requires-clause-begun
rekey-disk-requires-clause-begun g c = λ told.
    let d = g.D.Disk in
    let p = c.args.pager in
    let sized : 1 ≤ p.codec.profile.page_size = omega (arith, p.lendable.least) in
    begun d.reads d.images d.moment d.since g.met.D.Disk.counts_now g.met.D.Disk.only_now p.codec c.args.write (main_of (d.reads p.disk.now)) p.header p.count (c.requires.opened told) p.some sized
    c.requires.layout.0 c.requires.layout.1 c.requires.layout.2 p.disk.now p.disk.now (c.requires.alone told) g.E.Entropy.tells (λ main. Unit {0})

pub rekey_error-requires : goal.rekey_error-requires
rekey_error-requires g c = λ differs.
    let layout = c.requires.layout in
    let other = c.rekey-disk.ensures.layout (c.in-Err.is ∙ ap (λ (e : RekeyError). Err e) differs) in
    let no : true ≡ false = sym (same_laid c.args.pager.codec c.args.write layout.0 layout.1 layout.2) ∙ other in cc

pub returns-in-Ok-clause-told : goal.returns-in-Ok-clause-told
returns-in-Ok-clause-told g c = λ told answer is.
    let p = c.args.pager in
    let text = c.rekeyed_report-report.ensures ∙ ap Rattle.sqlcipher_tool.specs.Text.rekeyed_report c.pages.ensures in
    report_due (opened_pages p.codec (main_of (g.D.Disk.reads p.disk.now)) p.count) answer (was_ok c.rekey-disk.result.2 c.in-Ok.field-0 c.in-Ok.is c.rekey-disk.ensures.clean told)
    (sym (ap (λ (l : List ℕ). Some (done l)) text) ∙ is)

pub returns-in-Ok-clause-safely : goal.returns-in-Ok-clause-safely
returns-in-Ok-clause-safely g c = λ told.
    let d = g.D.Disk in
    let p = c.args.pager in
    let end = c.rekey-disk.result.0.now in
    let main = main_of (d.reads end) in
    let sized : 1 ≤ p.codec.profile.page_size = omega (arith, p.lendable.least) in
    let own : List ℕ → Type 0 = λ main. FileDraws c.args.write main (is_page_number p.count) 0 (drop (length (g.E.Entropy.drawn p.entropy.now)) (g.E.Entropy.drawn c.rekey-disk.result.1.now)) in
    let rekeyed = was_ok c.rekey-disk.result.2 c.in-Ok.field-0 c.in-Ok.is c.rekey-disk.ensures.rekeyed told in
    let either = was_ok c.rekey-disk.result.2 c.in-Ok.field-0 c.in-Ok.is c.rekey-disk.ensures.one_new told in
    inr (done_rekey d.reads d.images d.moment d.since g.met.D.Disk.counts_now g.met.D.Disk.only_now p.codec c.args.write (main_of (d.reads p.disk.now)) p.header p.count (c.requires.opened told) p.some sized
    c.requires.layout.0 c.requires.layout.1 c.requires.layout.2 p.disk.now end (c.requires.alone told) g.E.Entropy.tells own main
    (rekeyed, λ drawing. was_ok c.rekey-disk.result.2 c.in-Ok.field-0 c.in-Ok.is c.rekey-disk.ensures.own_draws told drawing)
    (was_ok c.rekey-disk.result.2 c.in-Ok.field-0 c.in-Ok.is c.rekey-disk.ensures.new told) either
    (main_there c.args.write (d.reads end) p.count (omega (arith, sized, c.requires.layout.0)) rekeyed.is))

pub returns-in-Ok-clause-rekeyed : goal.returns-in-Ok-clause-rekeyed
returns-in-Ok-clause-rekeyed g c = λ told. was_ok c.rekey-disk.result.2 c.in-Ok.field-0 c.in-Ok.is c.rekey-disk.ensures.rekeyed told

pub returns-in-Ok-clause-own_draws : goal.returns-in-Ok-clause-own_draws
returns-in-Ok-clause-own_draws g c = λ told drawing. was_ok c.rekey-disk.result.2 c.in-Ok.field-0 c.in-Ok.is c.rekey-disk.ensures.own_draws told drawing

pub returns-in-Err-clause-told : goal.returns-in-Err-clause-told
returns-in-Err-clause-told g c = λ told answer is.
    let p = c.args.pager in
    shown_due (opened_pages p.codec (main_of (g.D.Disk.reads p.disk.now)) p.count) c.in-Err.error answer
    (err_at (λ e. IsTrue g.D.Disk.tells → IsRekeyShown (opened_pages p.codec (main_of (g.D.Disk.reads p.disk.now)) p.count) e) c.rekey-disk.result.2 c.in-Err.error c.in-Err.is c.rekey-disk.ensures.shown told)
    (ap (λ (error : ChangeError). change_answer (Err error)) (sym c.rekey_error.ensures) ∙ is)

pub returns-in-Err-clause-safely : goal.returns-in-Err-clause-safely
returns-in-Err-clause-safely g c = λ told.
    let d = g.D.Disk in
    let p = c.args.pager in
    let end = c.rekey-disk.result.0.now in
    let file = main_of (d.reads p.disk.now) in
    let sized : 1 ≤ p.codec.profile.page_size = omega (arith, p.lendable.least) in
    let is = c.in-Err.is in
    let tells = g.E.Entropy.tells in
    let own : List ℕ → Type 0 = λ main. FileDraws c.args.write main (is_page_number p.count) 0 (drop (length (g.E.Entropy.drawn p.entropy.now)) (g.E.Entropy.drawn c.rekey-disk.result.1.now)) in
    subst (λ (error : ChangeError). KeepsOrCommits d.reads d.images d.moment d.since (change_status (Err error)) (WithDraws (IsRekeyed p.codec c.args.write p.count file) tells own)
    (Old d.reads d.images d.moment d.since g.met.D.Disk.counts_now g.met.D.Disk.only_now p.codec c.args.write file p.header p.count (c.requires.opened told) p.some sized c.requires.layout.0 c.requires.layout.1 c.requires.layout.2 p.disk.now end (c.requires.alone told) tells own)
    (New d.reads d.images d.moment d.since g.met.D.Disk.counts_now g.met.D.Disk.only_now p.codec c.args.write file p.header p.count (c.requires.opened told) p.some sized c.requires.layout.0 c.requires.layout.1 c.requires.layout.2 p.disk.now end (c.requires.alone told) tells own) p.disk.now end)
    (sym c.rekey_error.ensures)
    (stopped_rekey d.reads d.images d.moment d.since g.met.D.Disk.counts_now g.met.D.Disk.only_now p.codec c.args.write file p.header p.count (c.requires.opened told) p.some sized
    c.requires.layout.0 c.requires.layout.1 c.requires.layout.2 p.disk.now end (c.requires.alone told) tells own c.in-Err.error
    (λ unwritten. (err_at (λ e. is_unwritten e ≡ true → IsTrue d.tells → OnlyRead d.reads d.images d.moment d.since p.disk.now end × (c.rekey-disk.result.1.now ≡ p.entropy.now)) c.rekey-disk.result.2 c.in-Err.error is c.rekey-disk.ensures.unwritten unwritten told).0)
    (λ undrawn. c.rekey-disk.ensures.only_old (is ∙ ap (λ e. Err e) undrawn) told)
    (c.rekey-disk.ensures.any_moment told))

pub returns-in-Err-clause-late : goal.returns-in-Err-clause-late
returns-in-Err-clause-late g c = subst (λ (error : ChangeError). IsLateChange error) (sym c.rekey_error.ensures) (rekey_late c.in-Err.error)

pub returns-in-Err-clause-stays : goal.returns-in-Err-clause-stays
returns-in-Err-clause-stays g c = λ refused told.
    let d = g.D.Disk in
    let p = c.args.pager in
    let end = c.rekey-disk.result.0.now in
    let unwritten = rekey_read c.in-Err.error (subst IsRefusedChange c.rekey_error.ensures refused) in
    read_stays (err_at (λ e. is_unwritten e ≡ true → IsTrue d.tells → OnlyRead d.reads d.images d.moment d.since p.disk.now end × (c.rekey-disk.result.1.now ≡ p.entropy.now))
    c.rekey-disk.result.2 c.in-Err.error c.in-Err.is c.rekey-disk.ensures.unwritten unwritten told).0
