use Rattle.std.proofs.Common.{refl, sym, ◌∙◌}
use Rattle.page_cache.proofs.FreeLast.{last_entry-is}
use Rattle.page_cache.proofs.table.free_frame.Goals as goal

pub returns-in-Some-held-clause-value : goal.returns-in-Some-held-clause-value
returns-in-Some-held-clause-value c =
    let told = rw c.in-Some.is at c.peek_lru.ensures in
    rw (sym (told ∙ last_entry-is c.args.table.now.entries)) (rw c.in-Some-held.is refl)

pub returns-in-None-held-clause-value : goal.returns-in-None-held-clause-value
returns-in-None-held-clause-value c =
    let told = rw c.in-Some.is at c.peek_lru.ensures in
    rw (sym (told ∙ last_entry-is c.args.table.now.entries)) (rw c.in-None-held.is refl)

pub returns-in-None-clause-value : goal.returns-in-None-clause-value
returns-in-None-clause-value c =
    let told = rw c.in-None.is at c.peek_lru.ensures in
    rw (sym (told ∙ last_entry-is c.args.table.now.entries)) refl
