use Rattle.std.proofs.Common.{◌≡◌, ◌∙◌, ◌==◌, ◌||◌, if◌then◌else◌, ℕ, Bool, List, replicate, refl, sym, ap, subst}
use Rattle.std.proofs.lemmas.Result.{on_ok_weaker}
use Rattle.cipher_profile.specs.Profile.{usable}
use Rattle.edge_model.specs.Files.{main_of}
use Rattle.edge_model.specs.Moments.{started}
use Rattle.atomic_commit.specs.Database.{HoldsOld}
use Rattle.atomic_commit.proofs.Batched.{batches_hold_old}
use Rattle.pager.specs.Changed.{with_bytes}
use Rattle.pager.specs.Reads.{not_read}
use Rattle.pager.specs.UnderWay.{is_touched, seen_pages}
use Rattle.page_plan.specs.Planned.{planned}
use Rattle.page_plan.proofs.Planning.{none_touched, none_written, one_touched, one_written, planned_is}
use Rattle.page_plan.proofs.walk.put_planned.Goals as goal

-- the conditions, by their places: number, sizes, usable, ready, under_way, accepted
pub returns-in-Some-clause-seen : goal.returns-in-Some-clause-seen
returns-in-Some-clause-seen g c =
    let t = c.args.txn.now in
    let x = c.args.plan.now in
    let n = c.args.n in
    let over = c.in-Some.over in
    let seen : ℕ → List ℕ = λ m. (seen_pages t.read t.write (main_of (g.D.Disk.reads t.disk.now)) t.count t.written t.changed.held).page m in
    let size : replicate (usable t.write.profile) 0 ≡ replicate (g.P.Plan.plain_size x) 0 = ap (λ (k : ℕ). replicate k 0) c.requires.1.1.1.1.1.0 in
    on_ok_weaker c.put_over.result (λ put told m. put told m
    ∙ one_written m n _ _ seen
    (ap (λ (zeros : List ℕ). with_bytes over.at over.bytes.now (if over.zeroed then zeros else seen n)) size
    ∙ sym (c.in-Some.ensures.becomes (seen n))
    ∙ sym (planned_is (g.P.Plan.writes x) (g.P.Plan.becomes x) n (seen n) c.in-Some.ensures.written))) c.put_over.ensures.seen

pub returns-in-Some-clause-touched : goal.returns-in-Some-clause-touched
returns-in-Some-clause-touched g c =
    let t = c.args.txn.now in
    let n = c.args.n in
    on_ok_weaker c.put_over.result (λ touched m num. touched m num
    ∙ one_touched m n (g.P.Plan.writes c.args.plan.now n) (is_touched t.written t.changed.held) c.in-Some.ensures.written) c.put_over.ensures.touched

pub returns-in-None-clause-seen : goal.returns-in-None-clause-seen
returns-in-None-clause-seen g c = λ told m.
    let t = c.args.txn.now in
    let x = c.args.plan.now in
    none_written (g.P.Plan.writes x) (g.P.Plan.becomes x) m c.args.n
    (λ k. (seen_pages t.read t.write (main_of (g.D.Disk.reads t.disk.now)) t.count t.written t.changed.held).page k) (c.over.ensures.none c.in-None.is)

pub returns-in-None-clause-touched : goal.returns-in-None-clause-touched
returns-in-None-clause-touched g c = λ m num.
    let t = c.args.txn.now in
    none_touched m c.args.n (g.P.Plan.writes c.args.plan.now c.args.n) (is_touched t.written t.changed.held) (c.over.ensures.none c.in-None.is)

pub returns-in-None-clause-any_moment : goal.returns-in-None-clause-any_moment
returns-in-None-clause-any_moment g c = λ told.
    started g.met.D.Disk.only_now c.args.txn.now.disk.now (HoldsOld g.start.base)
    (λ d here. batches_hold_old g.start.base _ _ _ _ _ _ _ (c.requires.1.1.1.1.1.1.1.0 told).batches d here)

pub returns-in-None-clause-unrecorded : goal.returns-in-None-clause-unrecorded
returns-in-None-clause-unrecorded g c = λ none. (none, λ told. not_read c.args.txn.now.disk.now)
