use Rattle.std.proofs.Common.{◌≡◌, ◌∙◌, ◌*◌, ℕ, List, length, take, refl, sym, ap, subst, arith, rules}
use Rattle.cipher_profile.specs.declared.profile.Profile.{Profile}
use Rattle.edge_model.specs.Moments.{started}
use Rattle.edge_model.specs.Files.{main_of}
use Rattle.atomic_commit.specs.Batches.{HasMarked}
use Rattle.atomic_commit.specs.Database.{HoldsOld}
use Rattle.atomic_commit.specs.Commit.{AreChanges}
use Rattle.atomic_commit.proofs.Batched.{batch_some, batches_hold_old}
use Rattle.pager.specs.Changed.{IsDrawn}
use Rattle.pager.proofs.EndingLemmas.{are_changes, listed_small}
use Rattle.pager.proofs.UnderWayLemmas.{pages_after}
use Rattle.pager.proofs.spilled.write_frames.Goals as goal

-- the conditions, by their places: sizes, journal, some, marks, plain, room, ready, under_way
pub returns-in-Err-clause-any_moment : goal.returns-in-Err-clause-any_moment
returns-in-Err-clause-any_moment g c told =
    started g.met.D.Disk.only_now c.args.disk.now (HoldsOld g.start.base) (λ d here. batches_hold_old g.start.base _ _ _ _ _ _ _ (c.requires.1.1.1.1.1.1.1.1.1 told).batches d here)

pub write_batch-requires : goal.write_batch-requires
write_batch-requires g c κs within =
    let r = c.requires.1.1 in
    let small = listed_small c.profile.result.now c.profile.ensures.listed in
    let size = ap (λ (p : Profile). p.page_size) c.profile.ensures.value in (
      within,
      (
        search rules,
        (
          search rules depth 8 fits 4000,
          (
            r.1.0,
            (
              r.1.1.1.1.1.1.0.0 ∙ r.1.0.1,
              (
                r.1.1.1.1.1.1.0.1,
                (
                  λ told. (r.1.1.1.1.1.1.1 told).batches,
                  (
                    are_changes c.args.changed.now g.start.base.pages c.len.ensures.listing r.0.1 r.1.1.0,
                    (r.0.2, omega (arith, small, size, r.0.0), r.0.0),
                  ),
                ),
              ),
            ),
          ),
        ),
      ),
    )

pub returns-clause-under_way : goal.returns-clause-under_way
returns-clause-under_way g c told =
    let r = c.requires.1.1 in
    let way = r.1.1.1.1.1.1.1 told in
    let ok = c.in_ok-write_batch.ensures in
    let codec = c.args.codec.now in
    let changed = c.args.changed.now in
    let many : c.len.result * c.profile.result.now.reserve ≡ length changed.numbers * codec.profile.reserve =
    ap (λ (k : ℕ). k * c.profile.result.now.reserve) c.len.ensures.value ∙ ap (λ (p : Profile). length changed.numbers * p.reserve) c.profile.ensures.value in
    let drawn : IsDrawn g.E.Entropy.tells (g.E.Entropy.drawn c.args.entropy.now) (g.E.Entropy.drawn c.draw_for.new.entropy) (length changed.numbers * codec.profile.reserve) (take (c.len.result * c.profile.result.now.reserve) c.draw_for.new.draws) =
    subst (λ (k : ℕ). IsDrawn g.E.Entropy.tells (g.E.Entropy.drawn c.args.entropy.now) (g.E.Entropy.drawn c.draw_for.new.entropy) k (take (c.len.result * c.profile.result.now.reserve) c.draw_for.new.draws)) many c.in-Ok.ensures.drawn in
    let marked = subst (λ (ns : List ℕ). HasMarked ns (length ns) c.args.written.now c.mark_pages.new.marks) c.write_batch.ensures.numbers c.mark_pages.ensures in
    record {
      batches = ok.batches told;
      pages = pages_after g.start codec codec c.args.written.now changed (take (c.len.result * c.profile.result.now.reserve) c.draw_for.new.draws) (main_of (g.D.Disk.reads c.args.disk.now)) (main_of (g.D.Disk.reads c.write_batch.new.disk))
          refl r.0.0 c.len.ensures.listing (are_changes changed g.start.base.pages c.len.ensures.listing r.0.1 r.1.1.0) (ok.written told) c.mark_pages.new.marks marked
          g.E.Entropy.tells (g.E.Entropy.drawn c.args.entropy.now) (g.E.Entropy.drawn c.draw_for.new.entropy) drawn way.pages;
    }

pub returns-clause-written : goal.returns-clause-written
returns-clause-written g c told = (take (c.len.result * c.profile.result.now.reserve) c.draw_for.new.draws, c.in_ok-write_batch.ensures.written told)

pub returns-clause-recorded : goal.returns-clause-recorded
returns-clause-recorded g c some =
    let r = c.requires.1.1 in
    let changed = c.args.changed.now in
    let changes = are_changes changed g.start.base.pages c.len.ensures.listing r.0.1 r.1.1.0 in
    batch_some changed.numbers c.args.recorded.now c.write_batch.new.recorded (subst (λ (p : ℕ). AreChanges p changed.numbers) (sym (r.1.1.1.1.1.1.0.0 ∙ r.1.0.1)) changes) some c.in_ok-write_batch.ensures.marks
