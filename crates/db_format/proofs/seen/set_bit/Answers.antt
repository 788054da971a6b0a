use Rattle.db_format.proofs.SeenLemmas.{put_here, put_others}
use Rattle.db_format.proofs.seen.set_bit.Goals as goal

pub returns-clause-here : goal.returns-clause-here
returns-clause-here c = put_here c.args.bytes.now c.args.n c.requires

pub returns-clause-others : goal.returns-clause-others
returns-clause-others c m other = put_others c.args.bytes.now c.args.n m c.requires other
