use Rattle.std.proofs.Common.{◌≡◌, inl, inr, ⊎_elim, ℕ, ◌*◌, ◌≤◌, List, length, sym, ◌∙◌, ap, subst}
use Rattle.edge_model.specs.Files.{Files, main_of}
use Rattle.edge_model.specs.Moments.{weaker, at_exit, and_then, then_from}
use Rattle.journal_format.specs.Records.{Record}
use Rattle.rollback_journal.specs.Laying.{laid}
use Rattle.atomic_commit.specs.Database.{Base, stored_pages, old_pages, HoldsPages}
use Rattle.atomic_commit.specs.Facts.{HasPages, Facts}
use Rattle.atomic_commit.proofs.Recovered.{facts_hold_old, old_front}
use Rattle.atomic_commit.proofs.Kept.{keeps_holds, laid_back, fresh_run}
use Rattle.atomic_commit.proofs.steps.abandon.Goals as goal

-- the conditions, by their places: stage, small, sizes, base_is, facts, left
pub returns-in_err-lay_back-clause-any_moment : goal.returns-in_err-lay_back-clause-any_moment
returns-in_err-lay_back-clause-any_moment g c told =
    let r = c.requires.1.1 in
    weaker (λ f from. keeps_holds g.base _ _ from.0 f r.1.1.0.0 from.2 (facts_hold_old g.base _ _ _ _ (r.1.1.1.1.0 told) from.0 from.1)) (c.lay_back.ensures.any_moment told)

pub returns-in_err-lay_back-clause-fresh : goal.returns-in_err-lay_back-clause-fresh
returns-in_err-lay_back-clause-fresh g c told = fresh_run g.D.Disk.images _ _ _ (λ d f step. step.fresh) (c.lay_back.ensures.any_moment told)

back : (base : Base) (size : ℕ) (safe waiting : List Record) (now : Files) (images : Files → Type 0) (after : List ℕ) → size ≡ base.size → Facts base safe waiting now images → images now → after ≡ laid size safe (main_of now)
    → HasPages base after × (stored_pages base.size base.pages after ≡ old_pages base)
back base size safe waiting now images after same facts here is =
    laid_back base safe (main_of now) after facts.base_is (old_front base safe waiting facts.old_bytes) (facts.guarded now here).pages (facts.guarded now here).differs (is ∙ ap (λ (s : ℕ). laid s safe (main_of now)) same)

pub close-requires : goal.close-requires
close-requires g c κs lives =
    let r = c.requires.1.1 in (
      lives.0,
      (
        lives.1,
        (
          ⊎_elim (λ e. inl (c.in_ok-lay_back.ensures.stage.0 ∙ e)) (λ e. inr (c.in_ok-lay_back.ensures.stage.0 ∙ e)) r.0,
          (
            c.in_ok-lay_back.ensures.stage.1,
            (
              (c.lay_back.ensures.page_size ∙ r.1.1.0.0, c.lay_back.ensures.initial ∙ r.1.1.0.1),
              (
                r.1.1.1.0,
                (
                  λ told f here. c.in_ok-lay_back.ensures.settled told f here,
                  (
                    λ told. (back g.base _ _ _ _ _ _ r.1.1.0.0 (r.1.1.1.1.0 told) (g.met.D.Disk.reads_now c.args.disk.now) (c.in_ok-lay_back.ensures.laid told)).0,
                    (
                      λ told f here. (let from = at_exit g.met.D.Disk.counts_now (c.lay_back.ensures.any_moment told) f here in keeps_holds g.base _ _ from.0 f r.1.1.0.0 from.2 (facts_hold_old g.base _ _ _ _ (r.1.1.1.1.0 told) from.0 from.1)),
                      λ told. c.in_ok-lay_back.ensures.left told,
                    ),
                  ),
                ),
              ),
            ),
          ),
        ),
      ),
    )

pub lay_back-requires-clause-pages : goal.lay_back-requires-clause-pages
lay_back-requires-clause-pages g c told f here =
    let r = c.requires.1.1 in
    let long = ((r.1.1.1.1.0 told).guarded f here).pages.long in
    subst (λ (s : ℕ). g.W.RecordWriter.initial c.args.writer.now * s ≤ length (main_of f)) (sym r.1.1.0.0) (subst (λ (p : ℕ). p * g.base.size ≤ length (main_of f)) (sym r.1.1.0.1) long)

pub returns-in_err-close-clause-any_moment : goal.returns-in_err-close-clause-any_moment
returns-in_err-close-clause-any_moment g c told =
    let r = c.requires.1.1 in
    let old = back g.base _ _ _ _ _ _ r.1.1.0.0 (r.1.1.1.1.0 told) (g.met.D.Disk.reads_now c.args.disk.now) (c.in_ok-lay_back.ensures.laid told) in
    and_then
    (weaker (λ f from. keeps_holds g.base _ _ from.0 f r.1.1.0.0 from.2 (facts_hold_old g.base _ _ _ _ (r.1.1.1.1.0 told) from.0 from.1)) (c.lay_back.ensures.any_moment told))
    (weaker (λ f holds. ⊎_elim (λ is. is) (λ is. subst (λ (db : List (List ℕ)). HoldsPages g.base db f) old.1 is) holds) (c.close.ensures.any_moment told))

pub returns-in_err-close-clause-fresh : goal.returns-in_err-close-clause-fresh
returns-in_err-close-clause-fresh g c told = then_from g.met.D.Disk.counts_now (λ a b d ab bd. bd ∙ ab) (fresh_run g.D.Disk.images _ _ _ (λ d f step. step.fresh) (c.lay_back.ensures.any_moment told)) (c.close.ensures.fresh told)

pub returns-clause-any_moment : goal.returns-clause-any_moment
returns-clause-any_moment g c told =
    let r = c.requires.1.1 in
    let old = back g.base _ _ _ _ _ _ r.1.1.0.0 (r.1.1.1.1.0 told) (g.met.D.Disk.reads_now c.args.disk.now) (c.in_ok-lay_back.ensures.laid told) in
    and_then
    (weaker (λ f from. keeps_holds g.base _ _ from.0 f r.1.1.0.0 from.2 (facts_hold_old g.base _ _ _ _ (r.1.1.1.1.0 told) from.0 from.1)) (c.lay_back.ensures.any_moment told))
    (weaker (λ f holds. ⊎_elim (λ is. is) (λ is. subst (λ (db : List (List ℕ)). HoldsPages g.base db f) old.1 is) holds) (c.close.ensures.any_moment told))

pub returns-clause-fresh : goal.returns-clause-fresh
returns-clause-fresh g c told = then_from g.met.D.Disk.counts_now (λ a b d ab bd. bd ∙ ab) (fresh_run g.D.Disk.images _ _ _ (λ d f step. step.fresh) (c.lay_back.ensures.any_moment told)) (c.close.ensures.fresh told)

pub returns-clause-old : goal.returns-clause-old
returns-clause-old g c told f here =
    let r = c.requires.1.1 in
    let old = back g.base _ _ _ _ _ _ r.1.1.0.0 (r.1.1.1.1.0 told) (g.met.D.Disk.reads_now c.args.disk.now) (c.in_ok-lay_back.ensures.laid told) in
    let new = c.in_ok-close.ensures.new told f here in
    (subst (λ (db : List (List ℕ)). HoldsPages g.base db f) old.1 new.holds, new.no_journal)
