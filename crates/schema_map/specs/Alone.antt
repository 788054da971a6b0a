-- The schema and a tree, each read by itself.
use Rattle.std.specs.Prelude.{ℕ, List}
use Rattle.db_format.specs.Pages.{Pages, nothing}
use Rattle.btree_page.specs.declared.kind.Family.TheVariants.{Table}
use Rattle.btree_model.specs.Finding.{Row, entries}
use Rattle.btree_model.specs.Tree.{root_family, tree_walk}

-- the entries of the schema
abbrev pub schema_rows : Pages → List Row
schema_rows pages = entries (tree_walk pages Table nothing 1)

-- the entries of the tree with this root
abbrev pub tree_rows : Pages → ℕ → List Row
tree_rows pages root = entries (tree_walk pages (root_family root (pages.page root)) nothing root)
