use Rattle.std.proofs.Common.{◌≡◌, ◌∙◌, inl, inr, ⊎_elim, IsTrue, ℕ, true, false, refl, sym, ap, subst}
use Rattle.std.proofs.lemmas.Result.{on_ok_weaker}
use Rattle.cipher_profile.specs.Profile.{usable}
use Rattle.edge_model.specs.Files.{main_of}
use Rattle.edge_model.specs.Images.{From, LeavesOnly}
use Rattle.edge_model.specs.Moments.{started, started_from}
use Rattle.edge_model.specs.OnlyRead.{OnlyRead}
use Rattle.page_codec.specs.Page.{FileKeys, accepts}
use Rattle.pager.specs.Changed.{same_layout}
use Rattle.pager.specs.File.{page_stored}
use Rattle.pager.specs.Pages.{is_page_number}
use Rattle.pager.specs.UnderWay.{IsUnderWay}
use Rattle.atomic_commit.specs.Database.{HoldsEither, HoldsOld, stored_pages}
use Rattle.atomic_commit.proofs.Behind.{changed_weaker}
use Rattle.page_plan.specs.Stops.{is_begun, is_fault}
use Rattle.page_plan.proofs.Planning.{from_begun}
use Rattle.page_plan.proofs.Results.{begun_layout, err_map, usable_same}
use Rattle.atomic_commit.specs.Facts.{SameFresh}
use Rattle.page_plan.proofs.writing.write_plan.Goals as goal

-- the conditions, by their places: frames, sizes, drawn, base_is, begun, usable, accepted
pub write_all-requires : goal.write_all-requires
write_all-requires g c κs within =
    let d = g.D.Disk in
    let p = c.args.pager in
    let t = c.in-Ok.txn in
    let e = c.in-Ok.ensures in
    let r = c.requires.1.1.1.1 in
    let layout : same_layout p.codec c.args.write ≡ true = begun_layout _ (same_layout p.codec c.args.write) c.begin.result t c.in-Ok.is c.begin.ensures.differs in (
      within.0,
      (
        within.1.0,
        (
          within.1.1,
          (
            (t.layout.0 ∙ (ap (λ (k : FileKeys). k.profile.page_size) e.file.0 ∙ r.0.0), e.file.2 ∙ r.0.1),
            (
              r.1.1.0,
              (
                ap (λ (k : FileKeys). usable k.profile) e.file.1 ∙ (usable_same p.codec c.args.write layout ∙ r.1.1.1.1.0),
                (
                  e.untouched,
                  (
                    e.ready,
                    (
                      λ told. subst (λ (k : FileKeys). IsUnderWay g.start k t.recorded t.written t.writer (d.reads t.disk.now) (d.images t.disk.now) g.E.Entropy.tells (g.E.Entropy.drawn t.entropy.now)) (sym e.file.1) (e.under_way told),
                      λ told n num sealed. subst (λ (k : FileKeys). accepts k n (page_stored k g.start.base.start n) ≡ true) (sym e.file.0)
                          (r.1.1.1.1.1 told n (subst (λ (k : ℕ). is_page_number k n ≡ true) e.file.2 num) sealed),
                    ),
                  ),
                ),
              ),
            ),
          ),
        ),
      ),
    )

pub returns-in-Ok-clause-changed : goal.returns-in-Ok-clause-changed
returns-in-Ok-clause-changed g c =
    let d = g.D.Disk in
    let p = c.args.pager in
    let t = c.in-Ok.txn in
    let e = c.in-Ok.ensures in
    on_ok_weaker c.write_all.result.2 (λ has told. from_begun g.start p.codec c.args.write (g.P.Plan.writes c.args.plan.now) (g.P.Plan.becomes c.args.plan.now) (d.reads p.disk.now) p.count t.read t.write (d.reads t.disk.now) t.count
    t.written t.changed.held g.E.Entropy.tells (g.E.Entropy.drawn c.write_all.result.1.now) (main_of (d.reads c.write_all.result.0.now))
    e.file.0 e.file.1 (ap (λ (x : _). d.reads x) e.disk.1) e.file.2 e.unchanged.0 e.untouched (has told)) c.write_all.ensures.changed

pub returns-in-Ok-clause-any_moment : goal.returns-in-Ok-clause-any_moment
returns-in-Ok-clause-any_moment g c = λ told.
    let d = g.D.Disk in
    let p = c.args.pager in
    let t = c.in-Ok.txn in
    let e = c.in-Ok.ensures in
    changed_weaker (λ main has. from_begun g.start p.codec c.args.write (g.P.Plan.writes c.args.plan.now) (g.P.Plan.becomes c.args.plan.now) (d.reads p.disk.now) p.count t.read t.write (d.reads t.disk.now) t.count
    t.written t.changed.held g.E.Entropy.tells (g.E.Entropy.drawn c.write_all.result.1.now) main
    e.file.0 e.file.1 (ap (λ (x : _). d.reads x) e.disk.1) e.file.2 e.unchanged.0 e.untouched has)
    (rw (sym e.disk.1) (c.write_all.ensures.any_moment told))

pub returns-in-Err-clause-any_moment : goal.returns-in-Err-clause-any_moment
returns-in-Err-clause-any_moment g c = λ told.
    let d = g.D.Disk in
    let p = c.args.pager in
    let same = c.into_parts-disk.ensures.disk.1 ∙ c.in-Err.ensures.back.1 in
    let run : LeavesOnly d.moment d.since p.disk.now c.into_parts-disk.result.0.now (HoldsOld g.start.base) =
    rw same (started g.met.D.Disk.only_now p.disk.now (HoldsOld g.start.base) (λ files here. (c.requires.1.1.1.1.1.1.1.0 told).holds files here)) in
    inl run

pub returns-in-Ok-clause-settled : goal.returns-in-Ok-clause-settled
returns-in-Ok-clause-settled g c =
    let d = g.D.Disk in
    let end = c.write_all.result.0.now in
    on_ok_weaker c.write_all.result.2 (λ settled told. ⊎_elim
    (λ read. inl (subst (λ (x : _). OnlyRead d.reads d.images d.moment d.since x end) c.in-Ok.ensures.disk.1 read)) (λ each. inr each) (settled told)) c.write_all.ensures.settled

pub returns-in-Err-clause-fresh : goal.returns-in-Err-clause-fresh
returns-in-Err-clause-fresh g c = λ told.
    let d = g.D.Disk in
    let p = c.args.pager in
    let same = c.into_parts-disk.ensures.disk.1 ∙ c.in-Err.ensures.back.1 in
    let run : LeavesOnly d.moment d.since p.disk.now c.into_parts-disk.result.0.now (From SameFresh (d.images p.disk.now)) =
    rw same (started_from g.met.D.Disk.only_now p.disk.now SameFresh (λ files. refl)) in
    run

pub returns-in-Ok-clause-one_new : goal.returns-in-Ok-clause-one_new
returns-in-Ok-clause-one_new g c =
    let d = g.D.Disk in
    let new = stored_pages g.start.base.size g.start.base.pages (main_of (d.reads c.write_all.result.0.now)) in
    on_ok_weaker c.write_all.result.2 (λ run told. subst (λ (x : _). LeavesOnly d.moment d.since x c.write_all.result.0.now (HoldsEither g.start.base new)) c.in-Ok.ensures.disk.1 (run told)) c.write_all.ensures.one_new
