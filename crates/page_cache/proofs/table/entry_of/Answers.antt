use Rattle.std.proofs.Common.{sym, ◌∙◌}
use Rattle.page_cache.proofs.Effects.{entry_by, no_frame}
use Rattle.page_cache.proofs.table.entry_of.Goals as goal

pub returns-in-Some-held_in-clause-value : goal.returns-in-Some-held_in-clause-value
returns-in-Some-held_in-clause-value c =
    let entry = entry_by c.args.n c.in-Some.frame c.args.table.now.entries (sym c.frame_of.ensures.value ∙ c.in-Some.is) c.requires.apart c.frame_of.ensures.valid.0 in
    rw (sym c.held_in.ensures ∙ c.in-Some-held_in.is) at entry

pub returns-in-None-held_in-clause-value : goal.returns-in-None-held_in-clause-value
returns-in-None-held_in-clause-value c =
    let entry = entry_by c.args.n c.in-Some.frame c.args.table.now.entries (sym c.frame_of.ensures.value ∙ c.in-Some.is) c.requires.apart c.frame_of.ensures.valid.0 in
    rw (sym c.held_in.ensures ∙ c.in-None-held_in.is) at entry

pub returns-in-None-clause-value : goal.returns-in-None-clause-value
returns-in-None-clause-value c = sym (no_frame c.args.n c.args.table.now.entries (sym c.frame_of.ensures.value ∙ c.in-None.is))
