use Rattle.edge_model.specs.Files.{main_of}
use Rattle.sqlcipher_tool.proofs.Databases.{any_base}
use Rattle.sqlcipher_tool.proofs.settle.settle_file.Given as goal

abbrev pub ghost-settle_pages : goal.ghost-settle_pages
ghost-settle_pages g a = record {
  base = any_base g.D.Disk.tells a.pager.codec (main_of (g.D.Disk.reads a.pager.disk.now)) a.pager.count;
  drawn = g.E.Entropy.drawn a.pager.entropy.now;
}
