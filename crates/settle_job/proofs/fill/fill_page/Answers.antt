use Rattle.std.proofs.Common.{◌≡◌, ◌∙◌, ◌==◌, if◌then◌else◌, Bool, true, ℕ, ap, refl, subst, sym}
use Rattle.std.proofs.lemmas.Bool.{eq-eqb}
use Rattle.std.proofs.lemmas.Result.{IfErr-weaker, on_ok_weaker}
use Rattle.edge_model.specs.Files.{main_of}
use Rattle.edge_model.specs.Moments.{and_then, then_from}
use Rattle.cipher_profile.specs.Profile.{usable}
use Rattle.pager.specs.Pages.{is_page_number}
use Rattle.pager.specs.UnderWay.{is_touched, seen_pages}
use Rattle.settle_job.proofs.Filled.{changed_accepted, filled_seen, touched_once, write_failed, zeros_failed}
use Rattle.settle_job.proofs.fill.fill_page.Goals as goal

-- the conditions, by their places: other, number, within, sizes, ready, under_way
pub returns-in-Err-clause-failed : goal.returns-in-Err-clause-failed
returns-in-Err-clause-failed g c told =
    let t = c.args.txn.now in
    let n = c.page_zero.new.self in
    zeros_failed g.D.Disk.tells t.read t.write (main_of (g.D.Disk.reads t.disk.now)) t.count c.args.n t.written t.changed.held (g.D.Disk.faults t.disk.now) (g.D.Disk.faults n.disk.now)
    (g.E.Entropy.faults t.entropy.now) (g.E.Entropy.faults n.entropy.now) c.in-Err.error c.requires.1.1.1.0 c.in-Err.ensures.unopened c.in-Err.ensures.refused

pub returns-clause-seen : goal.returns-clause-seen
returns-clause-seen g c =
    let t = c.args.txn.now in
    let mid = c.page_zero.new.self in
    on_ok_weaker c.write.result (λ changed told m.
    filled_seen m c.args.n (usable t.write.profile) c.args.bytes.now _
    (seen_pages mid.read mid.write (main_of (g.D.Disk.reads mid.disk.now)) mid.count mid.written mid.changed.held).page
    (seen_pages t.read t.write (main_of (g.D.Disk.reads t.disk.now)) t.count t.written t.changed.held).page
    (changed told m) (c.in-Ok.ensures.zeros told)) c.write.ensures.changed

pub returns-clause-touched : goal.returns-clause-touched
returns-clause-touched g c =
    on_ok_weaker c.write.result (λ touched m num.
    touched_once (m == c.args.n) _ _ _
    (touched m (subst (λ (k : ℕ). is_page_number k m ≡ true) (sym c.page_zero.ensures.file.2) num)) (c.in-Ok.ensures.touched m num)) c.write.ensures.touched

pub returns-clause-failed : goal.returns-clause-failed
returns-clause-failed g c =
    let t = c.args.txn.now in
    let mid = c.page_zero.new.self in
    let new = c.write.new.self in
    let n = c.args.n in
    let r = c.requires.1.1 in
    let same = c.page_zero.ensures.file.2 in
    let num : is_page_number mid.count n ≡ true = subst (λ (k : ℕ). is_page_number k n ≡ true) (sym same) r.1.0 in
    let touched : is_touched mid.written mid.changed.held n ≡ true =
    c.in-Ok.ensures.touched n r.1.0 ∙ ap (λ (b : Bool). if b then true else is_touched t.written t.changed.held n) (eq-eqb n n refl) in
    IfErr-weaker c.write.result _ _ (λ e refused told.
    write_failed g.D.Disk.tells mid.read mid.write (main_of (g.D.Disk.reads mid.disk.now)) mid.count n mid.written mid.changed.held (g.D.Disk.faults mid.disk.now) (g.D.Disk.faults new.disk.now)
    (g.E.Entropy.faults mid.entropy.now) (g.E.Entropy.faults new.entropy.now) e num
    (λ on. changed_accepted g.start mid.read mid.write mid.recorded mid.written mid.writer (g.D.Disk.reads mid.disk.now) (g.D.Disk.images mid.disk.now) g.E.Entropy.tells
    (g.E.Entropy.drawn mid.entropy.now) mid.changed.held mid.count n (same ∙ r.1.1.1.0.1) num touched (c.in-Ok.ensures.under_way on)) refused told) c.write.ensures.refused

pub returns-clause-any_moment : goal.returns-clause-any_moment
returns-clause-any_moment g c told = and_then (c.page_zero.ensures.any_moment told) (c.write.ensures.any_moment told)

pub returns-clause-fresh : goal.returns-clause-fresh
returns-clause-fresh g c told = then_from g.met.D.Disk.counts_now (λ a b d ab bd. bd ∙ ab) (c.page_zero.ensures.fresh told) (c.write.ensures.fresh told)

-- a page that is refused leaves the transaction as it was
pub returns-in-Err-clause-still : goal.returns-in-Err-clause-still
returns-in-Err-clause-still g c none =
    let same = c.in-Err.ensures.still none in
    rw (same.1, same.2) c.requires.1.1.1.1.1.1.0

pub returns-clause-still : goal.returns-clause-still
returns-clause-still g c =
    IfErr-weaker c.write.result _ _ (λ e still none. let same = still none in rw (same.1, same.2) c.in-Ok.ensures.ready) c.write.ensures.still
