-- The plain pages of the file that a pager has open.
use Rattle.db_format.specs.Pages.{Pages}
use Rattle.edge_model.specs.Files.{main_of}
use Rattle.edge_model.specs.declared.disk.Disk
use Rattle.edge_model.specs.declared.entropy.Entropy
use Rattle.pager.specs.Pages.{opened_pages}
use Rattle.pager.specs.declared.pager.Pager.{Pager}

-- the plain pages of Main, as it stands, under the pager's codec
abbrev pub pages_of : {X Y : Type 0} {D : Disk.Ghosts X} {E : Entropy.Ghosts Y} → Pager X Y D E → Pages
pages_of {X} {Y} {D} {E} pager = opened_pages pager.codec (main_of (D.reads pager.disk.now)) pager.count
