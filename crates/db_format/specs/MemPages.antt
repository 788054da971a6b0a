-- Reads of pages in memory.
use Rattle.std.specs.Prelude.{◌≡◌}
use Rattle.db_format.specs.declared.mem_pages.MemPages.{MemPages}

-- the pages are the same
pub record SamePages (old new : MemPages) : Type 0 where
  pub bytes : new.bytes.items ≡ old.bytes.items
  pub usable : new.usable ≡ old.usable
