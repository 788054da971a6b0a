use Rattle.std.proofs.Common.{arith, Some}
use Rattle.btree_page.specs.declared.kind.Family.TheVariants.{Table}
use Rattle.db_format.specs.Row.{record_bytes}
use Rattle.bulk_load.proofs.FewLemmas.{few_late}
use Rattle.db_maker.specs.Parts.{part_values}
use Rattle.db_maker.proofs.schema.push_part.Goals as goal

pub returns-in-Err-clause-few : goal.returns-in-Err-clause-few
returns-in-Err-clause-few g c from entries few =
    let pages = g.P.PageOut.pages c.args.out.now in
    few_late Table pages.usable from pages.count entries (record { rowid = Some c.args.rowid; payload = record_bytes (part_values c.args.part c.args.root) }) c.args.loader.now (omega (arith, c.requires.ready.usable_is.least)) few
