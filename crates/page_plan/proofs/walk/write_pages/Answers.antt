use Rattle.std.proofs.Common.{◌≡◌, ◌∙◌, ◌<◌, ◌||◌, ℕ, true, false, List, None, Result, Err, refl, sym, ap, subst, arith, rules}
use Rattle.edge_model.specs.Files.{main_of}
use Rattle.edge_model.specs.Moments.{and_then, started, started_from, then_from}
use Rattle.cipher_profile.specs.Profile.{usable}
use Rattle.page_codec.specs.Page.{FileKeys, accepts}
use Rattle.pager.specs.File.{page_stored}
use Rattle.pager.specs.Pages.{is_page_number}
use Rattle.pager.specs.Reads.{not_read, then_read}
use Rattle.pager.specs.UnderWay.{is_touched, seen_pages}
use Rattle.pager.specs.declared.fill.PageError.{PageError}
use Rattle.pager.specs.declared.fill.PageError.TheVariants.{DiskFault, EntropyFault}
use Rattle.pager.proofs.BatchLemmas.{number_in, number_is}
use Rattle.atomic_commit.specs.Database.{HoldsOld}
use Rattle.atomic_commit.specs.Facts.{SameFresh}
use Rattle.atomic_commit.proofs.Batched.{batches_hold_old}
use Rattle.page_plan.specs.Planned.{planned}
use Rattle.page_plan.proofs.SoFar.{all_now, none_yet, one_more}
use Rattle.page_plan.proofs.Planning.{or_nothing, planned_not}
use Rattle.page_plan.proofs.walk.write_pages.Goals as goal

-- the error of a page, as that of all of them
error_same : (a b : PageError) → ◌≡◌ {A = Result (Unit {0}) PageError} (Err a) (Err b) → a ≡ b
error_same a b is = cc

as_page : (a b : PageError) → ◌≡◌ {A = Result (Unit {0}) PageError} (Err a) (Err b) → ◌≡◌ {A = Result ℕ PageError} (Err a) (Err b)
as_page a b is = ap (λ (e : PageError). Err e) (error_same a b is)

-- the conditions, by their places: sizes, usable, untouched, ready, under_way, accepted
pub loop-n-init : goal.loop-n-init
loop-n-init g c =
    let t = c.args.txn.now in
    let r = c.requires.1.1.1 in
    let seen : ℕ → List ℕ = λ n. (seen_pages t.read t.write (main_of (g.D.Disk.reads t.disk.now)) t.count t.written t.changed.held).page n in
    record {
      seen = λ told n num. none_yet (λ k. planned (g.P.Plan.writes c.args.plan.now) (g.P.Plan.becomes c.args.plan.now) k (seen k)) seen n (number_in t.count n num).0;
      touched = λ n num. r.1.1.0 n ∙ none_yet (g.P.Plan.writes c.args.plan.now) (λ k. false) n (number_in t.count n num).0;
      ready = r.1.1.1.0;
      under_way = r.1.1.1.1.0;
      unrecorded = λ none told. not_read t.disk.now;
      any_moment = λ told. started g.met.D.Disk.only_now t.disk.now (HoldsOld g.start.base) (λ d here. batches_hold_old g.start.base _ _ _ _ _ _ _ (r.1.1.1.1.0 told).batches d here);
      fresh = λ told. started_from g.met.D.Disk.only_now t.disk.now SameFresh (λ d. refl);
      names = (refl, refl);
      later = (omega arith, omega arith);
      file = (refl, refl, refl);
    }

pub loop-n-preserved : goal.loop-n-preserved
loop-n-preserved g c =
    let t = c.args.txn.now in
    let m = c.loop-n.txn in
    let done = c.loop-n.done in
    let n = c.in-Some.n in
    let plan = c.args.plan.now in
    let writes = g.P.Plan.writes plan in
    let put = planned writes (g.P.Plan.becomes plan) in
    let inv = c.loop-n.invariant in
    let ok = c.in-Ok.ensures in
    let more : done < n = c.in-Some.ensures.next.0 in
    let next : is_page_number t.count n ≡ true = number_is t.count n (omega (arith, more)) (omega (arith, c.in-Some.ensures.next.1, c.pages-pages.ensures)) in
    let first : ℕ → List ℕ = λ k. (seen_pages t.read t.write (main_of (g.D.Disk.reads t.disk.now)) t.count t.written t.changed.held).page k in
    let seen : ℕ → List ℕ = λ k. (seen_pages m.read m.write (main_of (g.D.Disk.reads m.disk.now)) m.count m.written m.changed.held).page k in
    record {
      seen = λ told k num. one_more (λ i. put i (first i)) first k done n put seen _ more
          (λ i lt less. planned_not writes (g.P.Plan.becomes plan) i (first i) (c.in-Some.ensures.between i lt less)) (λ i. refl)
          (inv.seen told k num) (inv.seen told n next) (ok.seen told k);
      touched = λ k num. one_more (writes) (λ i. false) k done n (λ i b. writes i || b) (is_touched m.written m.changed.held) _ more
          c.in-Some.ensures.between (λ i. or_nothing (writes i)) (inv.touched k num) (inv.touched n next)
          (ok.touched k (subst (λ (i : ℕ). is_page_number i k ≡ true) (sym inv.file.2) num));
      ready = ok.ready;
      under_way = ok.under_way;
      unrecorded = λ none told. let step = ok.unrecorded none in then_read (inv.unrecorded step.0 told) (step.1 told);
      any_moment = λ told. and_then (inv.any_moment told) (c.put_next.ensures.any_moment told);
      fresh = λ told. then_from g.met.D.Disk.counts_now (λ a b d ab bd. bd ∙ ab) (inv.fresh told) (c.put_next.ensures.fresh told);
      names = (c.put_next.ensures.names.0 ∙ inv.names.0, c.put_next.ensures.names.1 ∙ inv.names.1);
      later = (omega (arith, inv.later.0, c.put_next.ensures.later.0), omega (arith, inv.later.1, c.put_next.ensures.later.1));
      file = (c.put_next.ensures.file.0 ∙ inv.file.0, c.put_next.ensures.file.1 ∙ inv.file.1, c.put_next.ensures.file.2 ∙ inv.file.2);
    }

pub returns-in-Err-clause-disk_fault : goal.returns-in-Err-clause-disk_fault
returns-in-Err-clause-disk_fault g c is = omega (arith, c.in-Err.ensures.disk_fault (as_page c.in-Err.error DiskFault is), c.loop-n.invariant.later.0)

pub returns-in-Err-clause-entropy_fault : goal.returns-in-Err-clause-entropy_fault
returns-in-Err-clause-entropy_fault g c is = omega (arith, c.in-Err.ensures.entropy_fault (as_page c.in-Err.error EntropyFault is), c.loop-n.invariant.later.1)

pub returns-in-Err-clause-any_moment : goal.returns-in-Err-clause-any_moment
returns-in-Err-clause-any_moment g c told = and_then (c.loop-n.invariant.any_moment told) (c.put_next.ensures.any_moment told)

pub returns-clause-seen : goal.returns-clause-seen
returns-clause-seen g c told n num =
    let t = c.args.txn.now in
    let x = c.args.plan.now in
    let first : ℕ → List ℕ = λ k. (seen_pages t.read t.write (main_of (g.D.Disk.reads t.disk.now)) t.count t.written t.changed.held).page k in
    let none : c.next.result ≡ None = search rules in
    c.loop-n.invariant.seen told n num
    ∙ all_now (λ k. planned (g.P.Plan.writes x) (g.P.Plan.becomes x) k (first k)) first n c.loop-n.done c.pages-pages.result (omega (arith, (number_in t.count n num).1, c.pages-pages.ensures))
    (λ k lt less. planned_not (g.P.Plan.writes x) (g.P.Plan.becomes x) k (first k) (c.next.ensures.none none k lt (omega (arith, less))))

pub returns-clause-touched : goal.returns-clause-touched
returns-clause-touched g c n num =
    let x = c.args.plan.now in
    let none : c.next.result ≡ None = search rules in
    c.loop-n.invariant.touched n num
    ∙ all_now (g.P.Plan.writes x) (λ k. false) n c.loop-n.done c.pages-pages.result (omega (arith, (number_in c.args.txn.now.count n num).1, c.pages-pages.ensures))
    (λ k lt less. c.next.ensures.none none k lt (omega (arith, less)))

pub put_next-requires : goal.put_next-requires
put_next-requires g c κs within =
    let m = c.loop-n.txn in
    let n = c.in-Some.n in
    let inv = c.loop-n.invariant in
    let r = c.requires.1.1.1 in
    let num : is_page_number m.count n ≡ true = number_is m.count n (omega (arith, c.in-Some.ensures.next.0)) (omega (arith, inv.file.2, c.in-Some.ensures.next.1, c.pages-pages.ensures)) in (
      within.0,
      (
        within.1.0,
        (
          within.1.1,
          (
            num,
            (
              (ap (λ (k : FileKeys). k.profile.page_size) inv.file.1 ∙ r.0.0, inv.file.2 ∙ r.0.1),
              (
                ap (λ (k : FileKeys). usable k.profile) inv.file.1 ∙ r.1.0,
                (
                  inv.ready,
                  (
                    inv.under_way,
                    λ told sealed. subst (λ (k : FileKeys). accepts k n (page_stored k g.start.base.start n) ≡ true) (sym inv.file.0)
                        (r.1.1.1.1.1 told n (subst (λ (k : ℕ). is_page_number k n ≡ true) inv.file.2 num) sealed),
                  ),
                ),
              ),
            ),
          ),
        ),
      ),
    )

pub returns-in-Err-clause-refused : goal.returns-in-Err-clause-refused
returns-in-Err-clause-refused g c = c.in-Err.ensures.refused

pub returns-in-Err-clause-asked : goal.returns-in-Err-clause-asked
returns-in-Err-clause-asked g c = c.in-Err.ensures.asked

pub returns-in-Err-clause-names : goal.returns-in-Err-clause-names
returns-in-Err-clause-names g c = (c.put_next.ensures.names.0 ∙ c.loop-n.invariant.names.0, c.put_next.ensures.names.1 ∙ c.loop-n.invariant.names.1)

pub returns-in-Err-clause-later : goal.returns-in-Err-clause-later
returns-in-Err-clause-later g c = (omega (arith, c.loop-n.invariant.later.0, c.put_next.ensures.later.0), omega (arith, c.loop-n.invariant.later.1, c.put_next.ensures.later.1))

pub returns-in-Err-clause-file : goal.returns-in-Err-clause-file
returns-in-Err-clause-file g c =
    let inv = c.loop-n.invariant in
    (c.put_next.ensures.file.0 ∙ inv.file.0, c.put_next.ensures.file.1 ∙ inv.file.1, c.put_next.ensures.file.2 ∙ inv.file.2)

pub returns-clause-ready : goal.returns-clause-ready
returns-clause-ready g c = c.loop-n.invariant.ready

pub returns-clause-under_way : goal.returns-clause-under_way
returns-clause-under_way g c = c.loop-n.invariant.under_way

pub returns-clause-disk_fault : goal.returns-clause-disk_fault
returns-clause-disk_fault g c is = cc

pub returns-clause-entropy_fault : goal.returns-clause-entropy_fault
returns-clause-entropy_fault g c is = cc

pub returns-clause-any_moment : goal.returns-clause-any_moment
returns-clause-any_moment g c = c.loop-n.invariant.any_moment

pub returns-clause-names : goal.returns-clause-names
returns-clause-names g c = c.loop-n.invariant.names

pub returns-clause-later : goal.returns-clause-later
returns-clause-later g c = c.loop-n.invariant.later

pub returns-clause-file : goal.returns-clause-file
returns-clause-file g c = c.loop-n.invariant.file

pub returns-clause-unrecorded : goal.returns-clause-unrecorded
returns-clause-unrecorded g c = c.loop-n.invariant.unrecorded

pub returns-in-Err-clause-fresh : goal.returns-in-Err-clause-fresh
returns-in-Err-clause-fresh g c told = then_from g.met.D.Disk.counts_now (λ a b d ab bd. bd ∙ ab) (c.loop-n.invariant.fresh told) (c.put_next.ensures.fresh told)

pub returns-clause-fresh : goal.returns-clause-fresh
returns-clause-fresh g c = c.loop-n.invariant.fresh
