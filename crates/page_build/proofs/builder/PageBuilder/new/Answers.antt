use Rattle.std.proofs.Common.{rules, ◌≡◌, ◌≤◌, length, replicate, ap, sym, ◌∙◌, arith}
use Rattle.std.proofs.lemmas.List.{length-replicate}
use Rattle.page_build.proofs.Building.{blank_built}
use Rattle.page_build.proofs.builder.PageBuilder.new.Goals.{then-first, else-first}
use Rattle.page_build.proofs.builder.PageBuilder.new.Goals as goal

pub invariant_of-result : goal.invariant_of-result
invariant_of-result c =
    let low : c.if-first.result ≤ 100 = elim c.if-first.branch [ then-first w ↦ omega arith | else-first w ↦ omega arith ] in
    let filled : c.in-Ok.page.items ≡ replicate c.args.usable 0 = search rules in
    blank_built c.in-Ok.page.items c.args.kind c.if-first.result c.args.usable c.args.usable c.requires low filled
    (sym (ap length filled ∙ length-replicate c.args.usable 0))
