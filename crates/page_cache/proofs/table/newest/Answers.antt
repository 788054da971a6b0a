use Rattle.std.proofs.Common.{◌∙◌, Option, Some, sym, ap}
use Rattle.page_cache.specs.declared.table.Held.{Held}
use Rattle.page_cache.proofs.Newest.{newest_frame}
use Rattle.page_cache.proofs.table.newest.Goals as goal

pub returns-then-held-n-clause-value : goal.returns-then-held-n-clause-value
returns-then-held-n-clause-value c =
    let first = c.in-Some.ensures in
    newest_frame c.args.n c.in-Some.frame.now c.in-Some-held.held c.args.table.now.entries (sym first ∙ ap (λ (h : Option Held). Some (c.in-Some.frame.now, h)) c.in-Some-held.is) c.if-held-n.true
