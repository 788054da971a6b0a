use Rattle.std.proofs.Common.{◌∙◌}
use Rattle.db_format.proofs.VarintLemmas.{length-varint_bytes}
use Rattle.bulk_load.proofs.cells.varint_len.Goals as goal

pub returns-clause-value : goal.returns-clause-value
returns-clause-value c = c.write_varint.ensures.size ∙ length-varint_bytes c.args.number
