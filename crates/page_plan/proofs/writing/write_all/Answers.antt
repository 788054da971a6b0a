use Rattle.std.proofs.Common.{◌≡◌, ◌∙◌, inl, inr, ⊎_elim, ℕ, List, false, true, sym, subst}
use Rattle.std.proofs.lemmas.Result.{on_ok_weaker}
use Rattle.edge_model.specs.Files.{main_of}
use Rattle.edge_model.specs.Images.{LeavesOnly}
use Rattle.edge_model.specs.Moments.{and_then, then_from, weaker}
use Rattle.edge_model.specs.OnlyRead.{OnlyRead}
use Rattle.page_codec.specs.Page.{FileKeys}
use Rattle.pager.specs.Pages.{is_page_number}
use Rattle.pager.specs.UnderWay.{HasNewPages, is_touched, seen_pages}
use Rattle.atomic_commit.specs.Database.{HoldsOld}
use Rattle.atomic_commit.proofs.Behind.{changed_weaker, then_changed}
use Rattle.page_plan.specs.Stops.{is_fault, page_stop}
use Rattle.page_plan.proofs.Planning.{new_as, planned_is}
use Rattle.page_plan.proofs.Results.{err_map, err_told, page_failed}
use Rattle.page_plan.proofs.writing.write_all.Goals as goal

-- the conditions, by their places: sizes, base_is, usable, untouched, ready, under_way, accepted
pub returns-in-Ok-clause-changed : goal.returns-in-Ok-clause-changed
returns-in-Ok-clause-changed g c =
    let t = c.args.txn in
    let x = c.args.plan.now in
    let m = c.write_pages.new.txn in
    let ok = c.in-Ok.ensures in
    let new : ℕ → List ℕ = λ n. g.P.Plan.becomes x n ((seen_pages t.read t.write (main_of (g.D.Disk.reads t.disk.now)) t.count t.written t.changed.held).page n) in
    let main = main_of (g.D.Disk.reads c.finish.result.0.now) in
    let drawn = g.E.Entropy.drawn c.finish.result.1.now in
    on_ok_weaker c.finish.result.2 (λ has told. subst (λ (k : FileKeys). HasNewPages g.start k (g.P.Plan.writes x) new g.E.Entropy.tells drawn main) ok.file.1
    (new_as g.start m.write (is_touched m.written m.changed.held) (g.P.Plan.writes x) (seen_pages m.read m.write (main_of (g.D.Disk.reads m.disk.now)) m.count m.written m.changed.held).page new g.E.Entropy.tells drawn main
    (λ n num. ok.touched n (subst (λ (p : ℕ). is_page_number p n ≡ true) (sym c.requires.1.1.1.0.1) num))
    (λ n num is. ok.seen told n (subst (λ (p : ℕ). is_page_number p n ≡ true) (sym c.requires.1.1.1.0.1) num)
    ∙ planned_is (g.P.Plan.writes x) (g.P.Plan.becomes x) n _ is)
    (has told))) c.finish.ensures.changed

pub returns-in-Ok-clause-any_moment : goal.returns-in-Ok-clause-any_moment
returns-in-Ok-clause-any_moment g c = λ told.
    let t = c.args.txn in
    let x = c.args.plan.now in
    let m = c.write_pages.new.txn in
    let ok = c.in-Ok.ensures in
    let new : ℕ → List ℕ = λ n. g.P.Plan.becomes x n ((seen_pages t.read t.write (main_of (g.D.Disk.reads t.disk.now)) t.count t.written t.changed.held).page n) in
    let drawn = g.E.Entropy.drawn c.finish.result.1.now in
    then_changed (c.write_pages.ensures.any_moment told)
    (changed_weaker (λ main has. subst (λ (k : FileKeys). HasNewPages g.start k (g.P.Plan.writes x) new g.E.Entropy.tells drawn main) ok.file.1
    (new_as g.start m.write (is_touched m.written m.changed.held) (g.P.Plan.writes x) (seen_pages m.read m.write (main_of (g.D.Disk.reads m.disk.now)) m.count m.written m.changed.held).page new g.E.Entropy.tells drawn main
    (λ n num. ok.touched n (subst (λ (p : ℕ). is_page_number p n ≡ true) (sym c.requires.1.1.1.0.1) num))
    (λ n num is. ok.seen told n (subst (λ (p : ℕ). is_page_number p n ≡ true) (sym c.requires.1.1.1.0.1) num)
    ∙ planned_is (g.P.Plan.writes x) (g.P.Plan.becomes x) n _ is)
    has)) (c.finish.ensures.any_moment told))

pub returns-in-Ok-clause-only_old : goal.returns-in-Ok-clause-only_old
returns-in-Ok-clause-only_old g c is told = and_then (c.write_pages.ensures.any_moment told) (c.finish.ensures.only_old is told)

pub returns-in-Ok-clause-failed : goal.returns-in-Ok-clause-failed
returns-in-Ok-clause-failed g c = err_map (λ e. is_fault e ≡ true) _ c.finish.result.2 (λ e is told. is) c.finish.ensures.failed

pub returns-in-Err-clause-any_moment : goal.returns-in-Err-clause-any_moment
returns-in-Err-clause-any_moment g c = λ told.
    let run : LeavesOnly g.D.Disk.moment g.D.Disk.since c.args.txn.disk.now c.give_up.result.0.now (HoldsOld g.start.base) = rw (c.give_up.ensures.told told).0 (c.write_pages.ensures.any_moment told) in
    inl run

pub returns-in-Err-clause-only_old : goal.returns-in-Err-clause-only_old
returns-in-Err-clause-only_old g c = λ is told.
    let run : LeavesOnly g.D.Disk.moment g.D.Disk.since c.args.txn.disk.now c.give_up.result.0.now (HoldsOld g.start.base) = rw (c.give_up.ensures.told told).0 (c.write_pages.ensures.any_moment told) in
    run

pub returns-in-Err-clause-failed : goal.returns-in-Err-clause-failed
returns-in-Err-clause-failed g c =
    err_told g.D.Disk.tells c.give_up.result.2 (page_stop c.in-Err.error) (λ told. (c.give_up.ensures.told told).1)
    (λ told. page_failed c.in-Err.error (λ still. (c.in-Err.ensures.refused still).1 told))

pub returns-in-Ok-clause-settled : goal.returns-in-Ok-clause-settled
returns-in-Ok-clause-settled g c =
    let d = g.D.Disk in
    let end = c.finish.result.0.now in
    on_ok_weaker c.finish.result.2 (λ settled told. ⊎_elim
    (λ still. inl (subst (λ (y : _). OnlyRead d.reads d.images d.moment d.since c.args.txn.disk.now y) (sym still.2) (c.in-Ok.ensures.unrecorded still.1 told)))
    (λ each. inr each) (settled told)) c.finish.ensures.settled

pub returns-in-Ok-clause-fresh : goal.returns-in-Ok-clause-fresh
returns-in-Ok-clause-fresh g c told = then_from g.met.D.Disk.counts_now (λ a b d ab bd. bd ∙ ab) (c.write_pages.ensures.fresh told) (c.finish.ensures.fresh told)

pub returns-in-Ok-clause-one_new : goal.returns-in-Ok-clause-one_new
returns-in-Ok-clause-one_new g c =
    on_ok_weaker c.finish.result.2 (λ run told. and_then (weaker (λ d old. inl old) (c.write_pages.ensures.any_moment told)) (run told)) c.finish.ensures.one_new
