use Rattle.edge_model.specs.Files.{main_of}
use Rattle.pager.proofs.Bases.{any_base}
use Rattle.rekey_job.proofs.job.rekey_clean.Given as goal

abbrev pub ghost-rewrite_pages : goal.ghost-rewrite_pages
ghost-rewrite_pages g a = record { base = any_base g.D.Disk.tells a.pager.codec (main_of (g.D.Disk.reads a.pager.disk.now)) a.pager.count; drawn = g.E.Entropy.drawn a.pager.entropy.now }
