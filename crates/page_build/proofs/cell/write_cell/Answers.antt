use Rattle.btree_page.specs.Shown.{cell_shown}
use Rattle.page_build.proofs.CellBack.{IsWritten-cell_bytes}
use Rattle.page_build.proofs.cell.write_cell.Goals as goal

pub returns-in-Ok-clause-reads_back : goal.returns-in-Ok-clause-reads_back
returns-in-Ok-clause-reads_back c usable sized is = IsWritten-cell_bytes usable (cell_shown c.args.cell.now) is c.push_cell.ensures.ranged

pub returns-in-Err-clause-reads_back : goal.returns-in-Err-clause-reads_back
returns-in-Err-clause-reads_back c usable sized is = IsWritten-cell_bytes usable (cell_shown c.args.cell.now) is c.push_cell.ensures.ranged
