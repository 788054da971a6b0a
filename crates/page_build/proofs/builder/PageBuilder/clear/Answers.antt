use Rattle.std.proofs.Common.{rules, ◌≡◌, length, replicate, ap, ◌∙◌}
use Rattle.std.proofs.lemmas.List.{length-replicate}
use Rattle.page_build.proofs.Building.{blank_built}
use Rattle.page_build.proofs.builder.PageBuilder.clear.Goals as goal

pub invariant_of-self : goal.invariant_of-self
invariant_of-self c =
    let a = c.self.inside in
    let filled : c.fill.new.self.items ≡ replicate (length a.page.items) 0 = search rules in
    let long : length c.fill.new.self.items ≡ length a.page.items = ap length filled ∙ length-replicate (length a.page.items) 0 in
    blank_built c.fill.new.self.items a.kind a.header (length a.page.items) c.len-self-inside.result c.self.invariant.usable c.self.invariant.first filled
    (search rules)
