use Rattle.std.proofs.Common.{inl, refl, sym, ◌∙◌, ap, subst}
use Rattle.edge_model.specs.Files.{Files, main_of}
use Rattle.edge_model.specs.Moments.{weaker, started, started_from, goes_less, and_then, then_from}
use Rattle.atomic_commit.specs.Database.{stored_pages, HoldsOld, HoldsEither}
use Rattle.atomic_commit.specs.Facts.{HasPages, SameFresh}
use Rattle.atomic_commit.proofs.Recovered.{facts_hold_old}
use Rattle.atomic_commit.proofs.Kept.{synced_main}
use Rattle.atomic_commit.proofs.steps.finish.Goals as goal

-- the conditions, by their places: stage, small, sizes, base_is, facts, left
pub returns-in_err-sync-clause-any_moment : goal.returns-in_err-sync-clause-any_moment
returns-in_err-sync-clause-any_moment g c told =
    let r = c.requires.1.1 in
    weaker (λ f holds. inl holds) (goes_less g.met.D.Disk.counts_now (started g.met.D.Disk.only_now c.args.disk.now (HoldsOld g.base) (λ d here. facts_hold_old g.base _ _ _ _ (r.1.1.1.1.0 told) d here)) (c.sync.ensures.time told) (c.sync.ensures.crash told))

pub returns-in_err-sync-clause-fresh : goal.returns-in_err-sync-clause-fresh
returns-in_err-sync-clause-fresh g c told =
    goes_less g.met.D.Disk.counts_now (started_from g.met.D.Disk.only_now c.args.disk.now SameFresh (λ d. refl)) (c.sync.ensures.time told) (c.sync.ensures.crash told)

pub close-requires : goal.close-requires
close-requires g c κs lives =
    let r = c.requires.1.1 in
    let w = c.args.writer.now in
    let now = g.D.Disk.reads c.args.disk.now in
    let new = g.D.Disk.reads c.sync.new.self in (
      lives.0,
      (
        lives.1,
        (
          r.0,
          (
            r.1.0,
            (
              r.1.1.0,
              (
                r.1.1.1.0,
                (
                  λ told f here. synced_main g.base _ _ now _ f (r.1.1.1.1.0 told) (c.sync.ensures.crash told f here) (c.in_ok-sync.ensures.done told f here) ∙ sym (ap (λ (x : Files). x.main) (c.sync.ensures.same told)),
                  (
                    λ told. subst (λ (x : Files). HasPages g.base (main_of x)) (sym (c.sync.ensures.same told)) ((r.1.1.1.1.0 told).guarded now (g.met.D.Disk.reads_now c.args.disk.now)).pages,
                    (
                      λ told f here. facts_hold_old g.base _ _ _ _ (r.1.1.1.1.0 told) f (c.sync.ensures.crash told f here),
                      λ told. (
                        g.met.W.RecordWriter.stays_left w now new (r.1.1.1.1.1 told).0 (ap (λ (x : Files). x.journal) (c.sync.ensures.same told)),
                        λ f here. g.met.W.RecordWriter.stays_beside w now new f f ((r.1.1.1.1.1 told).1 f (c.sync.ensures.crash told f here)) (ap (λ (x : Files). x.journal) (c.sync.ensures.same told)) refl,
                      ),
                    ),
                  ),
                ),
              ),
            ),
          ),
        ),
      ),
    )

pub returns-in_err-close-clause-any_moment : goal.returns-in_err-close-clause-any_moment
returns-in_err-close-clause-any_moment g c told =
    let r = c.requires.1.1 in
    and_then
    (weaker (λ f holds. inl holds) (goes_less g.met.D.Disk.counts_now (started g.met.D.Disk.only_now c.args.disk.now (HoldsOld g.base) (λ d here. facts_hold_old g.base _ _ _ _ (r.1.1.1.1.0 told) d here)) (c.sync.ensures.time told) (c.sync.ensures.crash told)))
    (weaker (λ f holds. subst (λ (x : Files). HoldsEither g.base (stored_pages g.base.size g.base.pages (main_of x)) f) (c.sync.ensures.same told) holds) (c.close.ensures.any_moment told))

pub returns-in_err-close-clause-fresh : goal.returns-in_err-close-clause-fresh
returns-in_err-close-clause-fresh g c told =
    then_from g.met.D.Disk.counts_now (λ a b d ab bd. bd ∙ ab) (goes_less g.met.D.Disk.counts_now (started_from g.met.D.Disk.only_now c.args.disk.now SameFresh (λ d. refl)) (c.sync.ensures.time told) (c.sync.ensures.crash told)) (c.close.ensures.fresh told)

pub returns-clause-any_moment : goal.returns-clause-any_moment
returns-clause-any_moment g c told =
    let r = c.requires.1.1 in
    and_then
    (weaker (λ f holds. inl holds) (goes_less g.met.D.Disk.counts_now (started g.met.D.Disk.only_now c.args.disk.now (HoldsOld g.base) (λ d here. facts_hold_old g.base _ _ _ _ (r.1.1.1.1.0 told) d here)) (c.sync.ensures.time told) (c.sync.ensures.crash told)))
    (weaker (λ f holds. subst (λ (x : Files). HoldsEither g.base (stored_pages g.base.size g.base.pages (main_of x)) f) (c.sync.ensures.same told) holds) (c.close.ensures.any_moment told))

pub returns-clause-fresh : goal.returns-clause-fresh
returns-clause-fresh g c told =
    then_from g.met.D.Disk.counts_now (λ a b d ab bd. bd ∙ ab) (goes_less g.met.D.Disk.counts_now (started_from g.met.D.Disk.only_now c.args.disk.now SameFresh (λ d. refl)) (c.sync.ensures.time told) (c.sync.ensures.crash told)) (c.close.ensures.fresh told)
