-- How many pages a made database has at most.
use Rattle.std.specs.Prelude.{ℕ, ◌+◌}
use Rattle.bulk_load.specs.Few.{load_pages}
use Rattle.db_maker.specs.declared.part.Part.{Part}
use Rattle.db_maker.specs.declared.part.Part.TheVariants.{Items, Names, Codes}
use Rattle.db_maker.specs.Parts.{entries_in, family_in}

-- the pages of one of its trees
abbrev pub part_pages : ℕ → Part → ℕ → ℕ
part_pages usable part rows = load_pages (family_in part) usable (entries_in part rows)

-- two for each of the four rows of the schema and one, since these want no overflow page
abbrev pub schema_pages : ℕ
schema_pages = 9

-- the three trees and the schema
abbrev pub filled_pages : ℕ → ℕ → ℕ
filled_pages usable rows = part_pages usable Items rows + part_pages usable Names rows + part_pages usable Codes rows + schema_pages

-- and page 1
abbrev pub made_pages : ℕ → ℕ → ℕ
made_pages usable rows = filled_pages usable rows + 1
