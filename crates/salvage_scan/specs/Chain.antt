-- The overflow pages of one payload, as they are read.
use Rattle.std.specs.Prelude.{◌≡◌, ℕ, Bool, true, List, ◌++◌}
use Rattle.db_format.specs.Pages.{Pages}
use Rattle.btree_page.specs.Cell.{StoredCell}
use Rattle.btree_model.specs.Walk.{chain_bytes, payload_of}
use Rattle.salvage_scan.specs.Salvage.{is_chain, is_whole_cell}

-- a chain that was read in part: it began with `needed` pages from `first` on, and `more` from n on are left
pub record IsOnPayloadChain (pages : Pages) (needed first more n : ℕ) (local got : List ℕ) : Type 0 where
  pub there : is_chain pages needed first ≡ is_chain pages more n
  pub bytes : local ++ chain_bytes pages needed first ≡ got ++ chain_bytes pages more n

-- it was read, or a page of it is not there
pub record IsChainFollowed (pages : Pages) (needed first : ℕ) (local : List ℕ) (there : Bool) (got : List ℕ) : Type 0 where
  pub is : there ≡ is_chain pages needed first
  pub bytes : there ≡ true → got ≡ local ++ chain_bytes pages needed first

-- a payload was read, or is not whole
pub record IsPayloadRead (pages : Pages) (stored : StoredCell) (whole : Bool) (got : List ℕ) : Type 0 where
  pub is : whole ≡ is_whole_cell pages stored
  pub bytes : whole ≡ true → got ≡ payload_of pages stored
