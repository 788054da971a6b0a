use Rattle.std.proofs.Common.{refl}
use Rattle.bulk_load.proofs.RowLemmas.{empty_loaded}
use Rattle.bulk_load.proofs.loader.Loader.new.Goals as goal

pub returns-clause-empty : goal.returns-clause-empty
returns-clause-empty c pages size free =
    empty_loaded pages c.in_ok-leaf.leaf c.new-2.result.items c.args.usable c.in_ok-leaf.leaf.page.kind refl c.in_ok-leaf.ensures.none c.in_ok-leaf.ensures.empty c.new-2.ensures.items size free
