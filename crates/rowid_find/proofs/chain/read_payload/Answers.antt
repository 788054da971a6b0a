use Rattle.std.proofs.Common.{ℕ, ◌≡◌, ◌+◌, ◌-◌, ◌/◌, List, length, refl, ap, sym, ◌∙◌}
use Rattle.db_format.specs.Seen.{marked}
use Rattle.btree_model.specs.Walk.{links_needed}
use Rattle.btree_walk.proofs.ChainLemmas.{none_needed, some_needed}
use Rattle.rowid_find.proofs.ChainSteps.{payload_cut, payload_local, payload_nowhere, payload_read}
use Rattle.rowid_find.proofs.chain.read_payload.Goals as goal

links_are : (u usable size have missing : ℕ) (local : List ℕ) (first : ℕ) → usable ≡ u → have ≡ length local → missing ≡ size - have
    → links_needed u (record { size = size; local = local; first = first }) ≡ (missing + (usable - 5)) / (usable - 4)
links_are u usable size have missing local first same long less =
    ap (λ v. (size - length local + (v - 5)) / (v - 4)) (sym same) ∙ ap (λ m. (m + (usable - 5)) / (usable - 4)) (ap (λ h. size - h) (sym long) ∙ sym less)

pub returns-then-missing-eq0-clause-on : goal.returns-then-missing-eq0-clause-on
returns-then-missing-eq0-clause-on g c told =
    rw c.truncate.ensures.items
    (payload_local (g.S.PageSource.plain c.args.source.now.source.now) c.args.n (record { size = c.args.size; local = c.args.payload.now.items; first = c.args.first }) _
    (none_needed (g.S.PageSource.plain c.args.source.now.source.now).usable c.args.size c.args.payload.now.items c.args.first
    (ap (λ k. c.args.size - k) (sym c.args.payload.now.ok.0 ∙ sym c.len.ensures) ∙ sym c.saturating_sub-missing.ensures ∙ c.if-missing-eq0.true)) (record { reads = c.args.source.now.reads; marks = marked c.args.seen.now }) refl)

pub returns-then-first-eq0-clause-on : goal.returns-then-first-eq0-clause-on
returns-then-first-eq0-clause-on g c told =
    payload_nowhere (g.S.PageSource.plain c.args.source.now.source.now) c.args.n (record { size = c.args.size; local = c.args.payload.now.items; first = c.args.first }) _
    (links_are _ c.usable-usable.result c.args.size c.len.result c.saturating_sub-missing.result c.args.payload.now.items c.args.first c.usable-usable.ensures.value (c.len.ensures ∙ c.args.payload.now.ok.0) c.saturating_sub-missing.ensures)
    (some_needed _ _ c.usable-usable.ensures.range.least c.if-missing-eq0.false) g.S.PageSource.refuses (record { reads = c.args.source.now.reads; marks = marked c.args.seen.now }) c.if-first-eq0.true

pub returns-in-Err-clause-on : goal.returns-in-Err-clause-on
returns-in-Err-clause-on g c told =
    payload_cut (g.S.PageSource.plain c.args.source.now.source.now) c.args.n (record { size = c.args.size; local = c.args.payload.now.items; first = c.args.first }) _
    (links_are _ c.usable-usable.result c.args.size c.len.result c.saturating_sub-missing.result c.args.payload.now.items c.args.first c.usable-usable.ensures.value (c.len.ensures ∙ c.args.payload.now.ok.0) c.saturating_sub-missing.ensures)
    (some_needed _ _ c.usable-usable.ensures.range.least c.if-missing-eq0.false) c.if-first-eq0.false g.S.PageSource.refuses (record { reads = c.args.source.now.reads; marks = marked c.args.seen.now }) (record { reads = c.read_links.new.source.reads; marks = marked c.read_links.new.seen })
    c.in-Err.error (c.in-Err.ensures.on told)

pub returns-in-Ok-clause-on : goal.returns-in-Ok-clause-on
returns-in-Ok-clause-on g c told =
    rw c.truncate-in-Ok.ensures.items
    (payload_read (g.S.PageSource.plain c.args.source.now.source.now) c.args.n (record { size = c.args.size; local = c.args.payload.now.items; first = c.args.first }) _
    (links_are _ c.usable-usable.result c.args.size c.len.result c.saturating_sub-missing.result c.args.payload.now.items c.args.first c.usable-usable.ensures.value (c.len.ensures ∙ c.args.payload.now.ok.0) c.saturating_sub-missing.ensures)
    (some_needed _ _ c.usable-usable.ensures.range.least c.if-missing-eq0.false) c.if-first-eq0.false c.read_links.new.payload.items (record { reads = c.args.source.now.reads; marks = marked c.args.seen.now }) (record { reads = c.read_links.new.source.reads; marks = marked c.read_links.new.seen })
    (c.in-Ok.ensures.on told))
