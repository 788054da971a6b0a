use Rattle.std.proofs.Common.{◌≡◌, true, false, ◌∙◌, ◌*◌, inl, inr, ⊎_elim, ℕ, length, take, ap, subst, arith, rules}
use Rattle.cipher_profile.specs.declared.profile.Profile.{Profile}
use Rattle.edge_model.specs.Moments.{started}
use Rattle.edge_model.specs.Files.{main_of}
use Rattle.atomic_commit.specs.Database.{HoldsOld}
use Rattle.atomic_commit.proofs.Batched.{batches_hold_old}
use Rattle.pager.specs.Changed.{IsDrawn}
use Rattle.pager.proofs.EndingLemmas.{are_changes, listed_small}
use Rattle.pager.proofs.UnderWayLemmas.{pages_ended, zero_times}
use Rattle.pager.proofs.spilled.end_frames.Goals as goal

-- the conditions, by their places: sizes, journal, plain, room, base_is, ready, under_way
pub returns-in-Err-clause-any_moment : goal.returns-in-Err-clause-any_moment
returns-in-Err-clause-any_moment g c told read layout =
    inl (started g.met.D.Disk.only_now c.args.disk.now (HoldsOld g.start.base) (λ d here. batches_hold_old g.start.base _ _ _ _ _ _ _ (c.requires.1.1.1.1.1.1.1.1 told).batches d here))

pub returns-in-Err-clause-only_old : goal.returns-in-Err-clause-only_old
returns-in-Err-clause-only_old g c is told =
    started g.met.D.Disk.only_now c.args.disk.now (HoldsOld g.start.base) (λ d here. batches_hold_old g.start.base _ _ _ _ _ _ _ (c.requires.1.1.1.1.1.1.1.1 told).batches d here)

pub end_batches-requires : goal.end_batches-requires
end_batches-requires g c κs within =
    let r = c.requires.1.1 in
    let small = listed_small c.profile.result.now c.profile.ensures.listed in
    let size = ap (λ (p : Profile). p.page_size) c.profile.ensures.value in (
      within,
      (
        search rules,
        (
          search rules depth 8 fits 4000,
          (
            r.1.0,
            (
              r.1.1.1.1.1.0.0 ∙ r.1.0.1,
              (
                r.1.1.1.1.1.0.1,
                (
                  λ told. (r.1.1.1.1.1.1 told).batches,
                  (
                    r.1.1.1.1.0,
                    (
                      are_changes c.args.changed.now g.start.base.pages c.len.ensures.listing r.0.1 r.1.1.1.1.0.pages,
                      (r.0.2, omega (arith, small, size, r.0.0), r.0.0),
                    ),
                  ),
                ),
              ),
            ),
          ),
        ),
      ),
    )

pub returns-clause-changed : goal.returns-clause-changed
returns-clause-changed g c told read layout =
    let r = c.requires.1.1 in
    let way = r.1.1.1.1.1.1 told in
    let codec = c.args.codec.now in
    let changed = c.args.changed.now in
    let many : c.len.result * c.profile.result.now.reserve ≡ length changed.numbers * codec.profile.reserve =
    ap (λ (k : ℕ). k * c.profile.result.now.reserve) c.len.ensures.value ∙ ap (λ (p : Profile). length changed.numbers * p.reserve) c.profile.ensures.value in
    let drawn : IsDrawn g.E.Entropy.tells (g.E.Entropy.drawn c.args.entropy.now) (g.E.Entropy.drawn c.draw_for.new.entropy) (length changed.numbers * codec.profile.reserve) (take (c.len.result * c.profile.result.now.reserve) c.draw_for.new.draws) =
    subst (λ (k : ℕ). IsDrawn g.E.Entropy.tells (g.E.Entropy.drawn c.args.entropy.now) (g.E.Entropy.drawn c.draw_for.new.entropy) k (take (c.len.result * c.profile.result.now.reserve) c.draw_for.new.draws)) many c.in-Ok.ensures.drawn in
    pages_ended g.start read codec c.args.written.now changed (take (c.len.result * c.profile.result.now.reserve) c.draw_for.new.draws) (main_of (g.D.Disk.reads c.args.disk.now)) (main_of (g.D.Disk.reads c.end_batches.new.disk))
    layout r.0.0 c.len.ensures.listing (are_changes changed g.start.base.pages c.len.ensures.listing r.0.1 r.1.1.1.1.0.pages) (c.in_ok-end_batches.ensures.changed told)
    g.E.Entropy.tells (g.E.Entropy.drawn c.args.entropy.now) (g.E.Entropy.drawn c.draw_for.new.entropy) drawn way.pages

pub returns-in_err-end_batches-clause-any_moment : goal.returns-in_err-end_batches-clause-any_moment
returns-in_err-end_batches-clause-any_moment g c told read layout =
    let r = c.requires.1.1 in
    let way = r.1.1.1.1.1.1 told in
    let codec = c.args.codec.now in
    let changed = c.args.changed.now in
    let many : c.len.result * c.profile.result.now.reserve ≡ length changed.numbers * codec.profile.reserve =
    ap (λ (k : ℕ). k * c.profile.result.now.reserve) c.len.ensures.value ∙ ap (λ (p : Profile). length changed.numbers * p.reserve) c.profile.ensures.value in
    let drawn : IsDrawn g.E.Entropy.tells (g.E.Entropy.drawn c.args.entropy.now) (g.E.Entropy.drawn c.draw_for.new.entropy) (length changed.numbers * codec.profile.reserve) (take (c.len.result * c.profile.result.now.reserve) c.draw_for.new.draws) =
    subst (λ (k : ℕ). IsDrawn g.E.Entropy.tells (g.E.Entropy.drawn c.args.entropy.now) (g.E.Entropy.drawn c.draw_for.new.entropy) k (take (c.len.result * c.profile.result.now.reserve) c.draw_for.new.draws)) many c.in-Ok.ensures.drawn in
    ⊎_elim (λ old. inl old) (λ new. inr (
      new.0,
      pages_ended g.start read codec c.args.written.now changed (take (c.len.result * c.profile.result.now.reserve) c.draw_for.new.draws) (main_of (g.D.Disk.reads c.args.disk.now)) new.0
          layout r.0.0 c.len.ensures.listing (are_changes changed g.start.base.pages c.len.ensures.listing r.0.1 r.1.1.1.1.0.pages) new.1
          g.E.Entropy.tells (g.E.Entropy.drawn c.args.entropy.now) (g.E.Entropy.drawn c.draw_for.new.entropy) drawn way.pages,
      new.2,
    )) (c.end_batches.ensures.any_moment told)

pub returns-clause-any_moment : goal.returns-clause-any_moment
returns-clause-any_moment g c told read layout =
    let r = c.requires.1.1 in
    let way = r.1.1.1.1.1.1 told in
    let codec = c.args.codec.now in
    let changed = c.args.changed.now in
    let many : c.len.result * c.profile.result.now.reserve ≡ length changed.numbers * codec.profile.reserve =
    ap (λ (k : ℕ). k * c.profile.result.now.reserve) c.len.ensures.value ∙ ap (λ (p : Profile). length changed.numbers * p.reserve) c.profile.ensures.value in
    let drawn : IsDrawn g.E.Entropy.tells (g.E.Entropy.drawn c.args.entropy.now) (g.E.Entropy.drawn c.draw_for.new.entropy) (length changed.numbers * codec.profile.reserve) (take (c.len.result * c.profile.result.now.reserve) c.draw_for.new.draws) =
    subst (λ (k : ℕ). IsDrawn g.E.Entropy.tells (g.E.Entropy.drawn c.args.entropy.now) (g.E.Entropy.drawn c.draw_for.new.entropy) k (take (c.len.result * c.profile.result.now.reserve) c.draw_for.new.draws)) many c.in-Ok.ensures.drawn in
    ⊎_elim (λ old. inl old) (λ new. inr (
      new.0,
      pages_ended g.start read codec c.args.written.now changed (take (c.len.result * c.profile.result.now.reserve) c.draw_for.new.draws) (main_of (g.D.Disk.reads c.args.disk.now)) new.0
          layout r.0.0 c.len.ensures.listing (are_changes changed g.start.base.pages c.len.ensures.listing r.0.1 r.1.1.1.1.0.pages) new.1
          g.E.Entropy.tells (g.E.Entropy.drawn c.args.entropy.now) (g.E.Entropy.drawn c.draw_for.new.entropy) drawn way.pages,
      new.2,
    )) (c.end_batches.ensures.any_moment told)

pub returns-in-Err-clause-none : goal.returns-in-Err-clause-none
returns-in-Err-clause-none g c none marks =
    let zero : c.len.result * c.profile.result.now.reserve ≡ 0 = ap (λ (k : ℕ). k * c.profile.result.now.reserve) (c.len.ensures.value ∙ ap length none) ∙ zero_times c.profile.result.now.reserve in
    let ok : false ≡ true = (c.in-Err.ensures.none zero).0 in
    absurd (never ok)
  where
    never : false ≡ true → ⊥
    never e = cc
