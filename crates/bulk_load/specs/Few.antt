-- How many pages a load has taken at most.
use Rattle.std.specs.Prelude.{ℕ, ◌+◌, ◌*◌, ◌≤◌, List, length}
use Rattle.btree_page.specs.declared.kind.Family.{Family}
use Rattle.btree_model.specs.Content.{Entry}
use Rattle.bulk_load.specs.declared.loader.Loader.{Loader}
use Rattle.bulk_load.specs.Bound.{chain_pages, tree_pages, weights}
use Rattle.bulk_load.specs.Count.{weight}
use Rattle.bulk_load.specs.Depth.{IsShallow}
use Rattle.bulk_load.specs.Volume.{price, volume}

-- all pages of a tree of these entries at most
abbrev pub load_pages : Family → ℕ → List Entry → ℕ
load_pages family usable entries = tree_pages family usable entries + chain_pages family usable entries

-- these entries were pushed into a new loader, and the count of pages rose from the one number to the other
pub record TookFew (family : Family) (usable from : ℕ) (entries : List Entry) (to : ℕ) (loader : Loader) : Type 0 where
  pub shallow : IsShallow usable from to loader
  -- beside the overflow pages two for an entry, and three bytes for each that it counts, with what the loader holds
  pub count : to + weight loader ≤ from + (2 * length entries + chain_pages family usable entries)
  pub paid : price usable to + volume loader ≤ price usable (from + chain_pages family usable entries) + 6 * weights family usable entries
