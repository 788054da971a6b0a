use Rattle.std.proofs.Common.{◌≡◌, ◌∙◌, ◌==◌, if◌then◌else◌, ℕ, Bool, List, replicate, sym, ap, subst}
use Rattle.std.proofs.lemmas.Result.{IfErr-weaker, on_ok_weaker}
use Rattle.cipher_profile.specs.Profile.{usable}
use Rattle.edge_model.specs.Files.{main_of}
use Rattle.rollback_journal.specs.Writing.{Writing}
use Rattle.atomic_commit.specs.Marks.{marked_count}
use Rattle.pager.specs.Changed.{with_bytes}
use Rattle.pager.specs.UnderWay.{IsReadyFor, seen_pages}
use Rattle.pager.specs.declared.fill.PageError.TheVariants.{DiskFault, EntropyFault}
use Rattle.pager.proofs.Refusals.{change_refusal}
use Rattle.page_plan.proofs.Accepting.{never_refused, still_accepted}
use Rattle.page_plan.proofs.Results.{err_at, err_both}
use Rattle.page_plan.proofs.walk.put_over.Goals as goal

-- the conditions, by their places: number, within, first, sizes, ready, under_way, accepted
pub returns-then-over-clause-seen : goal.returns-then-over-clause-seen
returns-then-over-clause-seen g c =
    let t = c.args.txn.now in
    let n = c.args.n in
    let over = c.args.over in
    let zeros = replicate (usable t.write.profile) 0 in
    let seen : ℕ → List ℕ = λ m. (seen_pages t.read t.write (main_of (g.D.Disk.reads t.disk.now)) t.count t.written t.changed.held).page m in
    on_ok_weaker c.put_over_zeros.result (λ zeroed told m. zeroed told m
    ∙ ap (λ (b : Bool). if m == n then with_bytes over.at over.bytes.now (if b then zeros else seen n) else seen m) (sym c.if-over.true)) c.put_over_zeros.ensures.seen

pub returns-clause-seen : goal.returns-clause-seen
returns-clause-seen g c =
    let t = c.args.txn.now in
    let n = c.args.n in
    let over = c.args.over in
    let zeros = replicate (usable t.write.profile) 0 in
    let seen : ℕ → List ℕ = λ m. (seen_pages t.read t.write (main_of (g.D.Disk.reads t.disk.now)) t.count t.written t.changed.held).page m in
    on_ok_weaker c.write.result (λ changed told m. changed told m
    ∙ ap (λ (b : Bool). if m == n then with_bytes over.at over.bytes.now (if b then zeros else seen n) else seen m) (sym c.if-over.false)) c.write.ensures.changed

pub returns-clause-refused : goal.returns-clause-refused
returns-clause-refused g c =
    let r = c.requires.1.1 in
    let n = c.args.n in
    let d = g.D.Disk in
    let t = c.args.txn.now in
    err_both c.write.result c.write.ensures.refused c.write.ensures.still (λ e refused still fine.
    let stays = still fine in (
      subst (λ (w : Writing). IsReadyFor c.write.new.self.recorded w) (sym stays.2) (subst (λ (marks : List Bool). IsReadyFor marks t.writer) (sym stays.1) r.1.1.1.1.0),
      never_refused d.tells t.read t.write (main_of (d.reads t.disk.now)) t.count n t.written t.changed.held _ _ _ _ e r.0
          (λ told. still_accepted g.start t.read t.write t.recorded t.written t.writer (d.reads t.disk.now) (d.images t.disk.now) g.E.Entropy.tells (g.E.Entropy.drawn t.entropy.now)
          t.changed.held t.count n t.layout.0 r.1.1.1.0.1 r.0 (r.1.1.1.1.1.1 told c.if-over.false) (r.1.1.1.1.1.0 told))
          refused fine,
    ))

pub returns-clause-unrecorded : goal.returns-clause-unrecorded
returns-clause-unrecorded g c =
    on_ok_weaker c.write.result (λ step none. let still = step none in (ap marked_count (sym still.0) ∙ none, λ told. still.1.only_read told)) c.write.ensures.unrecorded
