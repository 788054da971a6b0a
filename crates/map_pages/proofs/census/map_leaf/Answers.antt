use Rattle.std.proofs.Common.{ap, ◌∙◌}
use Rattle.map_pages.specs.Maps.{is_map_page}
use Rattle.map_pages.proofs.MapLaws.{number_is_map}
use Rattle.map_pages.proofs.census.map_leaf.Goals as goal

pub returns-then-is_leaf-clause-map : goal.returns-then-is_leaf-clause-map
returns-then-is_leaf-clause-map c = ap (is_map_page c.args.usable) c.map_number-n.ensures ∙ number_is_map c.args.usable c.loop-k.k
