use Rattle.edge_model.specs.Files.{main_of}
use Rattle.pager.proofs.Bases.{any_base}
use Rattle.session_hall.proofs.commit.write_pages.Given as goal

-- The transaction starts from Main as it reads, and from all that was drawn.
abbrev pub ghost-write_changes : goal.ghost-write_changes
ghost-write_changes g a = record {
  base = any_base g.D.Disk.tells a.pager.codec (main_of (g.D.Disk.reads a.pager.disk.now)) a.pager.count;
  drawn = g.E.Entropy.drawn a.pager.entropy.now;
}
