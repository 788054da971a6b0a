use Rattle.std.proofs.Common.{sym, ◌∙◌}
use Rattle.salvage_scan.proofs.PageSteps.{main_absent, main_there}
use Rattle.salvage_scan.proofs.salvaging.main_length.Goals as goal

pub returns-in-Ok-None-clause-told : goal.returns-in-Ok-None-clause-told
returns-in-Ok-None-clause-told g c told = main_absent (g.D.Disk.reads c.args.disk.now).main (sym c.in-Ok-None.field-0-is ∙ c.in-Ok-None.ensures.told told)

pub returns-in-Ok-Some-clause-told : goal.returns-in-Ok-Some-clause-told
returns-in-Ok-Some-clause-told g c told = main_there (g.D.Disk.reads c.args.disk.now).main c.in-Ok-Some.length (sym c.in-Ok-Some.field-0-is ∙ c.in-Ok-Some.ensures.told told)
