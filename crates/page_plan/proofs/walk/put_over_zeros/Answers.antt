use Rattle.std.proofs.Common.{◌≡◌, ◌∙◌, ◌==◌, if◌then◌else◌, ℕ, Bool, List, true, replicate, sym, ap, subst, rules}
use Rattle.std.proofs.lemmas.Result.{on_ok_weaker}
use Rattle.edge_model.specs.Files.{main_of}
use Rattle.edge_model.specs.Moments.{and_then, then_from}
use Rattle.cipher_profile.specs.Profile.{usable}
use Rattle.page_codec.specs.Page.{FileKeys, accepts}
use Rattle.rollback_journal.specs.Writing.{Writing}
use Rattle.atomic_commit.specs.Marks.{marked_count}
use Rattle.pager.specs.File.{page_stored}
use Rattle.pager.specs.Pages.{is_page_number}
use Rattle.pager.specs.Reads.{then_read}
use Rattle.pager.specs.UnderWay.{IsReadyFor, is_touched, seen_pages}
use Rattle.page_plan.proofs.Accepting.{never_refused, touched_accepted}
use Rattle.page_plan.proofs.Planning.{over_zeros, touched_twice}
use Rattle.page_plan.proofs.Results.{err_both}
use Rattle.page_plan.proofs.walk.put_over_zeros.Goals as goal

self : (n : ℕ) (b : Bool) → (if n == n then true else b) ≡ true
self n b =
    let same : (n == n) ≡ true = search rules in
    ap (λ (e : Bool). if e then true else b) same

-- the conditions, by their places: number, other, within, sizes, ready, under_way
pub returns-clause-seen : goal.returns-clause-seen
returns-clause-seen g c =
    let t = c.args.txn.now in
    let mid = c.page_zero.new.self in
    let n = c.args.n in
    let before : ℕ → List ℕ = λ k. (seen_pages t.read t.write (main_of (g.D.Disk.reads t.disk.now)) t.count t.written t.changed.held).page k in
    let between : ℕ → List ℕ = λ k. (seen_pages mid.read mid.write (main_of (g.D.Disk.reads mid.disk.now)) mid.count mid.written mid.changed.held).page k in
    on_ok_weaker c.write.result (λ changed told m. changed told m
    ∙ over_zeros m n c.args.at c.args.bytes.now (replicate (usable t.write.profile) 0) before between (c.in_ok-page_zero.ensures.zeros told)) c.write.ensures.changed

pub returns-clause-touched : goal.returns-clause-touched
returns-clause-touched g c =
    let t = c.args.txn.now in
    let n = c.args.n in
    on_ok_weaker c.write.result (λ touched m num. touched m (subst (λ (k : ℕ). is_page_number k m ≡ true) (sym c.page_zero.ensures.file.2) num)
    ∙ ap (λ (b : Bool). if m == n then true else b) (c.in_ok-page_zero.ensures.touched m num)
    ∙ touched_twice (m == n) (is_touched t.written t.changed.held m)) c.write.ensures.touched

pub returns-clause-refused : goal.returns-clause-refused
returns-clause-refused g c =
    let r = c.requires.1.1 in
    let n = c.args.n in
    let d = g.D.Disk in
    let mid = c.page_zero.new.self in
    let ok = c.in_ok-page_zero.ensures in
    let file = c.page_zero.ensures.file in
    let num : is_page_number mid.count n ≡ true = subst (λ (k : ℕ). is_page_number k n ≡ true) (sym file.2) r.0 in
    err_both c.write.result c.write.ensures.refused c.write.ensures.still (λ e refused still fine.
    let stays = still fine in (
      subst (λ (w : Writing). IsReadyFor c.write.new.self.recorded w) (sym stays.2) (subst (λ (marks : List Bool). IsReadyFor marks mid.writer) (sym stays.1) ok.ready),
      never_refused d.tells mid.read mid.write (main_of (d.reads mid.disk.now)) mid.count n mid.written mid.changed.held _ _ _ _ e num
          (λ told. touched_accepted g.start mid.read mid.write mid.recorded mid.written mid.writer (d.reads mid.disk.now) (d.images mid.disk.now) g.E.Entropy.tells (g.E.Entropy.drawn mid.entropy.now)
          mid.changed.held mid.count n (file.2 ∙ r.1.1.1.0.1) num (ok.touched n r.0 ∙ self n (is_touched c.args.txn.now.written c.args.txn.now.changed.held n)) (ok.under_way told))
          refused fine,
    ))

pub returns-clause-any_moment : goal.returns-clause-any_moment
returns-clause-any_moment g c = λ told. and_then (c.page_zero.ensures.any_moment told) (c.write.ensures.any_moment told)

pub returns-clause-unrecorded : goal.returns-clause-unrecorded
returns-clause-unrecorded g c =
    on_ok_weaker c.write.result (λ step none.
    let still = step none in
    let first = c.in_ok-page_zero.ensures.unrecorded (ap marked_count (sym still.0) ∙ none) in
    (ap marked_count (sym first.0) ∙ (ap marked_count (sym still.0) ∙ none), λ told. then_read (first.1.only_read told) (still.1.only_read told))) c.write.ensures.unrecorded

pub returns-clause-fresh : goal.returns-clause-fresh
returns-clause-fresh g c = λ told. then_from g.met.D.Disk.counts_now (λ a b d ab bd. bd ∙ ab) (c.page_zero.ensures.fresh told) (c.write.ensures.fresh told)
