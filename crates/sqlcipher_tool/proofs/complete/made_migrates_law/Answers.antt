use Rattle.sqlcipher_tool.proofs.MigrateServable.{migrate_servable}
use Rattle.sqlcipher_tool.proofs.complete.made_migrates_law.Goals as goal

pub returns : goal.returns
returns c = migrate_servable
