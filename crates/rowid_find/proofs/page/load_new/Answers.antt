use Rattle.std.proofs.Common.{arith}
use Rattle.rowid_find.proofs.page.load_new.Goals as goal

pub returns-in-Err-clause-given : goal.returns-in-Err-clause-given
returns-in-Err-clause-given g c =
    record {
      state = c.args.source.now.source.now;
      since = g.met.S.PageSource.reflexive c.args.source.now.source.now;
      page = c.args.n;
      range = let low = c.requires.low in let high = c.requires.high in grind (arith, low, high);
      refused = c.in-Err.ensures.refused;
    }
