use Rattle.std.proofs.Common.{◌≡◌, inl, inr, ◌∙◌, ℕ, length, Option, ap, subst, sym, rules}
use Rattle.edge_model.specs.Files.{File, contents, main_of}
use Rattle.edge_model.specs.Images.{LeavesOnly}
use Rattle.edge_model.specs.Moments.{weaker, and_then, then_from}
use Rattle.atomic_commit.specs.Commit.{AreChanges}
use Rattle.atomic_commit.specs.Marks.{marked_count}
use Rattle.atomic_commit.proofs.Batched.{unmarked_none}
use Rattle.atomic_commit.specs.Database.{HoldsEither, stored_pages}
use Rattle.atomic_commit.proofs.batches.end_batches.Goals as goal

pub returns-in-Ok-clause-any_moment : goal.returns-in-Ok-clause-any_moment
returns-in-Ok-clause-any_moment g c told = inr (main_of (g.D.Disk.reads c.write_batch.new.disk), c.in_ok-write_batch.ensures.written told, and_then (weaker (λ f holds. inl holds) (c.write_batch.ensures.any_moment told)) (c.finish.ensures.any_moment told))

pub returns-in-Ok-clause-fresh : goal.returns-in-Ok-clause-fresh
returns-in-Ok-clause-fresh g c told = then_from g.met.D.Disk.counts_now (λ a b d ab bd. bd ∙ ab) (c.write_batch.ensures.fresh told) (c.finish.ensures.fresh told)

pub returns-in-Err-clause-any_moment : goal.returns-in-Err-clause-any_moment
returns-in-Err-clause-any_moment g c told = inr (main_of (g.D.Disk.reads c.write_batch.new.disk), c.in_ok-write_batch.ensures.written told, and_then (weaker (λ f holds. inl holds) (c.write_batch.ensures.any_moment told)) (c.finish.ensures.any_moment told))

pub returns-in-Err-clause-fresh : goal.returns-in-Err-clause-fresh
returns-in-Err-clause-fresh g c told = then_from g.met.D.Disk.counts_now (λ a b d ab bd. bd ∙ ab) (c.write_batch.ensures.fresh told) (c.finish.ensures.fresh told)

pub returns-in-Ok-clause-one_new : goal.returns-in-Ok-clause-one_new
returns-in-Ok-clause-one_new g c told =
    subst (λ (f : Option File). LeavesOnly g.D.Disk.moment g.D.Disk.since c.args.disk.now c.finish.new.disk (HoldsEither g.base (stored_pages g.base.size g.base.pages (contents f))))
    (sym (c.finish.ensures.main told)) (and_then (weaker (λ f holds. inl holds) (c.write_batch.ensures.any_moment told)) (c.finish.ensures.any_moment told))

pub returns-in-Ok-clause-settled : goal.returns-in-Ok-clause-settled
returns-in-Ok-clause-settled g c told = inr (λ f here. (c.in-Ok.ensures.new told f here).main_is ∙ sym (c.finish.ensures.main told))

pub returns-then-count-eq0-clause-settled : goal.returns-then-count-eq0-clause-settled
returns-then-count-eq0-clause-settled g c told =
    let r = c.requires.1.1.1 in
    let numbers = g.C.PageNumbers.numbers c.args.changes.now in
    let changes : AreChanges (length c.args.recorded.now) numbers = subst (λ (p : ℕ). AreChanges p numbers) (sym r.1.0) r.1.1.1.1.1.0 in
    let unmarked : marked_count c.write_batch.new.recorded ≡ 0 = search (rules, c.if-count-eq0.true, c.count.ensures) in
    let none = unmarked_none numbers c.args.recorded.now c.write_batch.new.recorded changes c.in_ok-write_batch.ensures.marks unmarked in
    let still = c.write_batch.ensures.none none in
    inl (none, ap marked_count (sym still.2) ∙ unmarked, still.1)
