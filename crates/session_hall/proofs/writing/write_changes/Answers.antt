use Rattle.std.proofs.Common.{◌≡◌, ◌∙◌, inl, ℕ, true, false, Err, refl, sym, ap, subst}
use Rattle.cipher_profile.specs.Profile.{is_clear}
use Rattle.edge_model.specs.Files.{main_of}
use Rattle.edge_model.specs.Images.{LeavesOnly}
use Rattle.edge_model.specs.Moments.{started}
use Rattle.page_codec.specs.Page.{FileKeys}
use Rattle.page_plan.proofs.Results.{err_at}
use Rattle.page_plan.specs.declared.error.WriteError.{WriteError}
use Rattle.page_plan.specs.declared.error.WriteError.TheVariants.{LayoutDiffers}
use Rattle.pager.specs.Changed.{same_layout}
use Rattle.atomic_commit.specs.Database.{HoldsOld}
use Rattle.session_hall.specs.Writing.{IsChangeAnswer}
use Rattle.session_hall.proofs.Fresh.{still_fresh}
use Rattle.session_hall.proofs.Written.{begin_alike, change_stop, err_same, layout_of, ok_at, was_entropy, was_memory, written_moments}
use Rattle.session_hall.proofs.writing.write_changes.Goals as goal

-- the conditions, by their places: sizes, drawn, base_is, begun, usable, accepted
pub returns-in-Ok-clause-changed : goal.returns-in-Ok-clause-changed
returns-in-Ok-clause-changed g c = λ told.
    let p = c.args.pager in
    let w = c.write_plan-disk in
    let alike : is_clear c.args.write.profile ≡ is_clear p.codec.profile =
    begin_alike p.codec c.args.write c.profile.result.now c.profile-2.result.now c.is_clear.result c.is_clear-2.result (c.profile.ensures.value ∙ ap (λ (k : FileKeys). k.profile) c.codec.ensures) c.profile-2.ensures.value
    c.is_clear.ensures c.is_clear-2.ensures c.if-is_clear.false in
    let layout : same_layout p.codec c.args.write ≡ true = layout_of (same_layout p.codec c.args.write) w.result.2 _ c.in-Ok.is w.ensures.differs in
    (alike, layout, ok_at w.result.2 _ c.in-Ok.is w.ensures.changed told)

pub returns-in-Ok-clause-any_moment : goal.returns-in-Ok-clause-any_moment
returns-in-Ok-clause-any_moment g c = λ told.
    let p = c.args.pager in
    let w = c.write_plan-disk in
    let alike : is_clear c.args.write.profile ≡ is_clear p.codec.profile =
    begin_alike p.codec c.args.write c.profile.result.now c.profile-2.result.now c.is_clear.result c.is_clear-2.result (c.profile.ensures.value ∙ ap (λ (k : FileKeys). k.profile) c.codec.ensures) c.profile-2.ensures.value
    c.is_clear.ensures c.is_clear-2.ensures c.if-is_clear.false in
    let layout : same_layout p.codec c.args.write ≡ true = layout_of (same_layout p.codec c.args.write) w.result.2 _ c.in-Ok.is w.ensures.differs in
    written_moments true (λ same main has. (alike, layout, has)) (λ same. cc) (w.ensures.any_moment told)

pub returns-in-Err-clause-any_moment : goal.returns-in-Err-clause-any_moment
returns-in-Err-clause-any_moment g c = λ told.
    let d = g.D.Disk in
    let p = c.args.pager in
    let w = c.write_plan-disk in
    let alike : is_clear c.args.write.profile ≡ is_clear p.codec.profile =
    begin_alike p.codec c.args.write c.profile.result.now c.profile-2.result.now c.is_clear.result c.is_clear-2.result (c.profile.ensures.value ∙ ap (λ (k : FileKeys). k.profile) c.codec.ensures) c.profile-2.ensures.value
    c.is_clear.ensures c.is_clear-2.ensures c.if-is_clear.false in
    let still : same_layout p.codec c.args.write ≡ false → LeavesOnly d.moment d.since p.disk.now w.result.0.now (HoldsOld g.start.base) =
    λ other. subst (λ (x : _). LeavesOnly d.moment d.since p.disk.now x (HoldsOld g.start.base)) (sym (err_at _ w.result.2 LayoutDiffers (w.ensures.differs other) w.ensures.unbegun refl).0)
    (started g.met.D.Disk.only_now p.disk.now (HoldsOld g.start.base) (λ files here. (c.requires.1.1.1.1.1.0 told).holds files here)) in
    written_moments (same_layout p.codec c.args.write) (λ same main has. (alike, same, has)) still (w.ensures.any_moment told)

pub returns-in-Err-clause-only_old : goal.returns-in-Err-clause-only_old
returns-in-Err-clause-only_old g c = λ is told.
    c.write_plan-disk.ensures.only_old (c.in-Err.is ∙ ap (λ (e : WriteError). Err e) (was_entropy c.in-Err.error (sym c.write_answer.ensures.value ∙ err_same _ _ is))) told

pub returns-in-Err-clause-unwritten : goal.returns-in-Err-clause-unwritten
returns-in-Err-clause-unwritten g c = λ is told.
    err_at _ c.write_plan-disk.result.2 c.in-Err.error c.in-Err.is c.write_plan-disk.ensures.unbegun (was_memory c.in-Err.error (sym c.write_answer.ensures.value ∙ err_same _ _ is))

pub returns-in-Err-clause-stopped : goal.returns-in-Err-clause-stopped
returns-in-Err-clause-stopped g c = λ told.
    subst IsChangeAnswer (sym c.write_answer.ensures.value)
    (change_stop g.D.Disk.tells c.in-Err.error (err_at _ c.write_plan-disk.result.2 c.in-Err.error c.in-Err.is c.write_plan-disk.ensures.stopped) told)

-- ---- files that begin otherwise

pub returns-then-is_clear-clause-any_moment : goal.returns-then-is_clear-clause-any_moment
returns-then-is_clear-clause-any_moment g c = λ told.
    let d = g.D.Disk in
    let run : LeavesOnly d.moment d.since c.args.pager.disk.now c.into_parts-disk.result.0.now (HoldsOld g.start.base) =
    rw c.into_parts-disk.ensures.disk.1 (started g.met.D.Disk.only_now c.args.pager.disk.now (HoldsOld g.start.base) (λ files here. (c.requires.1.1.1.1.1.0 told).holds files here)) in
    inl run

pub returns-then-is_clear-clause-fresh : goal.returns-then-is_clear-clause-fresh
returns-then-is_clear-clause-fresh g c = λ told.
    let d = g.D.Disk in
    still_fresh d.images d.moment d.since g.met.D.Disk.counts_now g.met.D.Disk.only_now c.args.pager.disk.now c.into_parts-disk.result.0.now
    c.into_parts-disk.ensures.disk.1
