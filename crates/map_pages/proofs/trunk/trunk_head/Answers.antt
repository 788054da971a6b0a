use Rattle.std.proofs.Common.{◌≡◌, ◌≤◌, List, ℕ, length, rules, subst, sym}
use Rattle.map_pages.specs.Maps.{map_count}
use Rattle.map_pages.specs.Trunks.{trunk_head}
use Rattle.map_pages.proofs.Heads.{head_fits}
use Rattle.map_pages.proofs.trunk.trunk_head.Goals as goal

pub returns-clause-fits : goal.returns-clause-fits
returns-clause-fits c =
    let is : c.append_numbers.new.page.items ≡ trunk_head c.args.usable (map_count c.args.usable c.args.count) c.args.old_first c.args.k = search rules in
    subst (λ (l : List ℕ). length l ≤ c.args.usable) (sym is)
    (head_fits c.args.usable (map_count c.args.usable c.args.count) c.args.old_first c.args.k c.requires.usable.least)
