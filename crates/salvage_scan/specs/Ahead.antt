-- Pages that were read before they are asked for.
use Rattle.std.specs.Prelude.{ℕ, ◌*◌, ◌≤◌, List, length}
use Rattle.page_codec.specs.Page.{FileKeys}
use Rattle.pager.specs.Ahead.{IsAhead}
use Rattle.salvage_scan.specs.declared.ahead.PagesAhead.{PagesAhead}

-- those that are held are opened, and the file has as many pages as it is held to have
pub record AreAhead (keys : FileKeys) (file : List ℕ) (ahead : PagesAhead) : Type 0 where
  pub opened : IsAhead keys file ahead.window ahead.bytes.items
  pub last : ahead.last * keys.profile.page_size ≤ length file
