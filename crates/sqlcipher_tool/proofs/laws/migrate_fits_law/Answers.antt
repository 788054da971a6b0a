use Rattle.sqlcipher_tool.proofs.DoneAnswers.{migrate_fits}
use Rattle.sqlcipher_tool.proofs.laws.migrate_fits_law.Goals as goal

pub returns : goal.returns
returns c = migrate_fits
