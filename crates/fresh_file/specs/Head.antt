-- How page 1 of a new file begins.
use Rattle.std.specs.Prelude.{◌≡◌, ℕ, List, take}
use Rattle.db_format.specs.Header.{header_bytes}
use Rattle.db_format.specs.declared.header.Header.{Header}
use Rattle.fresh_file.specs.Sealed.{plain_page}
use Rattle.page_codec.specs.Page.{FileKeys}

-- the first 100 bytes of plain page 1 are those of this header: 0 where no field stands
abbrev pub BeginsWith : FileKeys → Header → List ℕ → Type 0
BeginsWith keys header file = take 100 (plain_page keys 1 file) ≡ header_bytes header
