use Rattle.std.proofs.Common.{ap, ◌∷◌, ◌++◌, [], ◌∙◌}
use Rattle.db_maker.specs.Rows.{data_byte}
use Rattle.db_maker.proofs.LoadLaws.{data_more}
use Rattle.db_maker.proofs.rows.data_bytes.Goals as goal

pub loop-k-preserved : goal.loop-k-preserved
loop-k-preserved c = c.in-Ok.ensures.items ∙ ap (λ l. l ++ data_byte c.args.i c.loop-k.k ∷ []) c.loop-k.invariant ∙ data_more c.args.i c.loop-k.k
