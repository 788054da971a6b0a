use Rattle.std.proofs.Common.{ap, ◌∙◌, length}
use Rattle.db_format.specs.Source.{page_at}
use Rattle.bulk_load.proofs.MemOutLemmas.{others_stay, within_rows}
use Rattle.bulk_load.proofs.mem_out.MemOutPageOut.put.Goals as goal

pub returns-clause-told : goal.returns-clause-told
returns-clause-told c start well k other =
    let out = c.args.self.now in
    ap (λ l. page_at out.usable l k) c.lay.ensures
    ∙ others_stay out.usable c.args.n k c.args.plain.now out.bytes.items c.requires.least
    (within_rows c.args.n out.last out.limit out.usable (length out.bytes.items) c.requires.taken out.within out.whole) c.requires.size other
