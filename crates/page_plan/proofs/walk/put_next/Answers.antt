use Rattle.std.proofs.Common.{◌≡◌, ◌∙◌, ◌==◌, ◌||◌, if◌then◌else◌, ℕ, Bool, List, true, sym, ap, subst}
use Rattle.edge_model.specs.Files.{main_of}
use Rattle.edge_model.specs.Moments.{and_then, then_from}
use Rattle.pager.specs.Changed.{Changed}
use Rattle.pager.specs.Pages.{is_page_number}
use Rattle.pager.specs.Reads.{then_read}
use Rattle.pager.specs.UnderWay.{is_touched, seen_pages}
use Rattle.page_plan.specs.Planned.{planned}
use Rattle.page_plan.proofs.walk.put_next.Goals as goal

pub returns-in_err-put_planned-2-clause-any_moment : goal.returns-in_err-put_planned-2-clause-any_moment
returns-in_err-put_planned-2-clause-any_moment g c = λ told. and_then (c.keep_segment.ensures.any_moment told) (c.put_planned-2.ensures.any_moment told)

pub returns-clause-seen : goal.returns-clause-seen
returns-clause-seen g c = λ told m.
    let t = c.args.txn.now in
    let mid = c.keep_segment.new.txn in
    let x = c.args.plan.now in
    let n = c.args.n in
    let before : ℕ → List ℕ = λ k. (seen_pages t.read t.write (main_of (g.D.Disk.reads t.disk.now)) t.count t.written t.changed.held).page k in
    let between : ℕ → List ℕ = λ k. (seen_pages mid.read mid.write (main_of (g.D.Disk.reads mid.disk.now)) mid.count mid.written mid.changed.held).page k in
    c.in_ok-put_planned-2.ensures.seen told m
    ∙ ap (λ (l : List ℕ). if m == n then planned (g.P.Plan.writes x) (g.P.Plan.becomes x) n l else between m) (c.in_ok-last.ensures.seen told n)
    ∙ ap (λ (l : List ℕ). if m == n then planned (g.P.Plan.writes x) (g.P.Plan.becomes x) n (before n) else l) (c.in_ok-last.ensures.seen told m)

pub returns-clause-touched : goal.returns-clause-touched
returns-clause-touched g c = λ m num.
    let t = c.args.txn.now in
    let mid = c.keep_segment.new.txn in
    let sealed = g.P.Plan.writes c.args.plan.now c.args.n in
    let n = c.args.n in
    let kept = c.keep_segment.ensures in
    let same : (k : ℕ) → is_touched mid.written mid.changed.held k ≡ is_touched t.written t.changed.held k =
    λ k. ap (λ (ms : List Bool). is_touched ms mid.changed.held k) kept.kept.1 ∙ ap (λ (v : Changed). is_touched t.written v.held k) kept.kept.0 in
    c.in_ok-put_planned-2.ensures.touched m (subst (λ (k : ℕ). is_page_number k m ≡ true) (sym kept.file.2) num)
    ∙ ap (λ (b : Bool). if m == n then sealed || b else is_touched mid.written mid.changed.held m) (same n)
    ∙ ap (λ (b : Bool). if m == n then sealed || is_touched t.written t.changed.held n else b) (same m)

pub returns-clause-any_moment : goal.returns-clause-any_moment
returns-clause-any_moment g c = λ told. and_then (c.keep_segment.ensures.any_moment told) (c.put_planned-2.ensures.any_moment told)

pub returns-clause-unrecorded : goal.returns-clause-unrecorded
returns-clause-unrecorded g c = λ none.
    let step = c.in_ok-put_planned-2.ensures.unrecorded none in
    let kept = c.in_ok-last.ensures.unrecorded step.0 in
    (kept.0, λ told. then_read (kept.1 told) (step.1 told))

pub returns-in_err-put_planned-2-clause-fresh : goal.returns-in_err-put_planned-2-clause-fresh
returns-in_err-put_planned-2-clause-fresh g c = λ told. then_from g.met.D.Disk.counts_now (λ a b d ab bd. bd ∙ ab) (c.keep_segment.ensures.fresh told) (c.put_planned-2.ensures.fresh told)

pub returns-clause-fresh : goal.returns-clause-fresh
returns-clause-fresh g c = λ told. then_from g.met.D.Disk.counts_now (λ a b d ab bd. bd ∙ ab) (c.keep_segment.ensures.fresh told) (c.put_planned-2.ensures.fresh told)
