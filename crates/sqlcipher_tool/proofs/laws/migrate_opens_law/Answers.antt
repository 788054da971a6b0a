use Rattle.sqlcipher_tool.proofs.MigratedFile.{migrated_opens}
use Rattle.sqlcipher_tool.proofs.laws.migrate_opens_law.Goals as goal

pub returns : goal.returns
returns c = migrated_opens
