-- An open page.
use Rattle.std.specs.Prelude.{ℕ, ◌≡◌, List, Ok}
use Rattle.btree_page.specs.Cell.{Cell}
use Rattle.btree_page.specs.Kind.{family_of}
use Rattle.btree_page.specs.Page.{Node, read_node}
use Rattle.db_format.specs.Pages.{Pages}
use Rattle.load_model.specs.Stands.{IsPut}
use Rattle.page_build.specs.Draft.{Draft}
use Rattle.page_build.specs.Written.{AreWritten}

-- an open page of this usable size with these cells
pub record HasCells (page : Draft) (usable : ℕ) (cells : List Cell) : Type 0 where
  pub size : page.usable ≡ usable
  pub written : AreWritten page.kind page.usable page.cells cells

-- a page of the same size and kind, whatever its cells
pub record SameShape (old new : Draft) : Type 0 where
  pub usable : new.usable ≡ old.usable
  pub kind : new.kind ≡ old.kind
  pub header : new.header ≡ old.header

-- page r was put, where nothing was put before, and it reads so
pub record IsRoot (old new : Pages) (r : ℕ) (one : Node) : Type 0 where
  pub put : IsPut old new r
  pub reads : read_node (family_of one.kind) r (new.page r) ≡ Ok one
