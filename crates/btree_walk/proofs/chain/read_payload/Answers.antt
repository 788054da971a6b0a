use Rattle.std.proofs.Common.{ℕ, ◌≡◌, ◌+◌, ◌-◌, ◌/◌, List, [], length, ap, sym, refl, subst, ◌∙◌}
use Rattle.btree_model.specs.Walk.{links_needed}
use Rattle.db_format.specs.Seen.{marked}
use Rattle.btree_walk.specs.Chain.{IsPaid}
use Rattle.btree_walk.proofs.ChainLemmas.{paid_local, paid, cut, cut_marked, none_needed, some_needed}
use Rattle.btree_walk.proofs.chain.read_payload.Goals as goal

links_are : (u usable size have missing : ℕ) (local : List ℕ) (first : ℕ) → usable ≡ u → have ≡ length local → missing ≡ size - have
    → links_needed u (record { size = size; local = local; first = first }) ≡ (missing + (usable - 5)) / (usable - 4)
links_are u usable size have missing local first same long less =
    ap (λ v. (size - length local + (v - 5)) / (v - 4)) (sym same) ∙ ap (λ m. (m + (usable - 5)) / (usable - 4)) (ap (λ h. size - h) (sym long) ∙ sym less)

pub returns-then-missing-eq0-clause-on : goal.returns-then-missing-eq0-clause-on
returns-then-missing-eq0-clause-on g c told taken met marks =
    subst (λ l. IsPaid (g.S.PageSource.plain c.args.source.now) taken met c.args.n (record { size = c.args.size; local = c.args.payload.now.items; first = c.args.first }) l (marked c.args.seen.now) (marked c.args.seen.now))
    (sym c.truncate.ensures.items)
    (paid_local (g.S.PageSource.plain c.args.source.now) taken met c.args.n (record { size = c.args.size; local = c.args.payload.now.items; first = c.args.first }) _
    (none_needed (g.S.PageSource.plain c.args.source.now).usable c.args.size c.args.payload.now.items c.args.first
    (ap (λ k. c.args.size - k) (sym c.args.payload.now.ok.0 ∙ sym c.len.ensures) ∙ sym c.saturating_sub-missing.ensures ∙ c.if-missing-eq0.true)) (marked c.args.seen.now) refl)

pub returns-in-Err-clause-on : goal.returns-in-Err-clause-on
returns-in-Err-clause-on g c told taken met marks =
    cut (g.S.PageSource.plain c.args.source.now) taken met c.args.n (record { size = c.args.size; local = c.args.payload.now.items; first = c.args.first }) _
    (links_are _ c.usable-usable.result c.args.size c.len.result c.saturating_sub-missing.result c.args.payload.now.items c.args.first c.usable-usable.ensures.value (c.len.ensures ∙ c.args.payload.now.ok.0) c.saturating_sub-missing.ensures)
    (some_needed _ _ c.usable-usable.ensures.range.least c.if-missing-eq0.false) c.if-first-eq0.false g.S.PageSource.refuses c.in-Err.error (c.in-Err.ensures.on told taken met marks)

pub returns-in-Ok-clause-on : goal.returns-in-Ok-clause-on
returns-in-Ok-clause-on g c told taken met marks =
    subst (λ l. IsPaid (g.S.PageSource.plain c.args.source.now) taken met c.args.n (record { size = c.args.size; local = c.args.payload.now.items; first = c.args.first }) l (marked c.args.seen.now) (marked c.read_chain.new.seen))
    (sym c.truncate-in-Ok.ensures.items)
    (paid (g.S.PageSource.plain c.args.source.now) taken met c.args.n (record { size = c.args.size; local = c.args.payload.now.items; first = c.args.first }) _
    (links_are _ c.usable-usable.result c.args.size c.len.result c.saturating_sub-missing.result c.args.payload.now.items c.args.first c.usable-usable.ensures.value (c.len.ensures ∙ c.args.payload.now.ok.0) c.saturating_sub-missing.ensures)
    (some_needed _ _ c.usable-usable.ensures.range.least c.if-missing-eq0.false) c.if-first-eq0.false c.read_chain.new.payload.items (marked c.args.seen.now) (marked c.read_chain.new.seen) (c.in-Ok.ensures.on told taken met marks))

pub returns-in-Err-clause-marks : goal.returns-in-Err-clause-marks
returns-in-Err-clause-marks g c told taken met marks =
    cut_marked (g.S.PageSource.plain c.args.source.now) taken met c.args.n (record { size = c.args.size; local = c.args.payload.now.items; first = c.args.first }) _
    (links_are _ c.usable-usable.result c.args.size c.len.result c.saturating_sub-missing.result c.args.payload.now.items c.args.first c.usable-usable.ensures.value (c.len.ensures ∙ c.args.payload.now.ok.0) c.saturating_sub-missing.ensures)
    (some_needed _ _ c.usable-usable.ensures.range.least c.if-missing-eq0.false) c.if-first-eq0.false (marked c.args.seen.now) (marked c.read_chain.new.seen) (c.in-Err.ensures.marks told taken met marks)

pub returns-then-first-eq0-clause-marks : goal.returns-then-first-eq0-clause-marks
returns-then-first-eq0-clause-marks g c told taken met marks = record { found = []; more = _; whole = refl; marks = refl }
