use Rattle.std.proofs.Common.{ap₂, ◌∙◌}
use Rattle.db_format.specs.Row.{values_held}
use Rattle.db_format.proofs.RowLemmas.{no_pieces, no_values}
use Rattle.db_format.proofs.row.RowPieces.new.Goals as goal

pub invariant_of-result : goal.invariant_of-result
invariant_of-result c = rw (c.new.ensures.items, c.new-2.ensures.items) no_pieces

pub returns : goal.returns
returns c = ap₂ values_held c.new.ensures.items c.new-2.ensures.items ∙ no_values
