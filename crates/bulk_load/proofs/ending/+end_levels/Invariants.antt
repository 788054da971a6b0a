use Rattle.bulk_load.proofs.ending.+end_levels.Given as goal

abbrev pub decreases-end_levels : goal.decreases-end_levels
decreases-end_levels g l = l.left
