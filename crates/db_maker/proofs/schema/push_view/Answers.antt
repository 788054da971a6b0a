use Rattle.std.proofs.Common.{arith}
use Rattle.btree_page.specs.declared.kind.Family.TheVariants.{Table}
use Rattle.bulk_load.proofs.FewLemmas.{few_late}
use Rattle.db_maker.specs.Parts.{schema_entry, view_values}
use Rattle.db_maker.proofs.schema.push_view.Goals as goal

pub returns-in-Err-clause-few : goal.returns-in-Err-clause-few
returns-in-Err-clause-few g c from entries few =
    let pages = g.P.PageOut.pages c.args.out.now in
    few_late Table pages.usable from pages.count entries (schema_entry 4 view_values) c.args.loader.now (omega (arith, c.requires.ready.usable_is.least)) few
