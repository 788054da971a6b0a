-- What a made database holds.
use Rattle.std.specs.Prelude.{ℕ, pos, List, [], ◌∷◌}
use Rattle.db_format.specs.Pages.{Pages}
use Rattle.db_format.specs.Row.{record_bytes}
use Rattle.btree_model.specs.Content.{SchemaItem, with_tree, alone, without_fourth}
use Rattle.bulk_load.specs.Found.{HasTree, HoldsItems}
use Rattle.db_maker.specs.declared.part.Part.{Part}
use Rattle.db_maker.specs.declared.part.Part.TheVariants.{Items, Names, Codes}
use Rattle.db_maker.specs.Parts.{entries_in, family_in, part_values, view_values}

abbrev pub HasPart : Pages → Part → ℕ → ℕ → Type 0
HasPart pages part root rows = HasTree pages (family_in part) root (entries_in part rows)

-- a row of the schema with its tree, whatever the number of its root page
abbrev pub made_item : ℕ → Part → ℕ → SchemaItem
made_item rowid part rows = with_tree (pos rowid) (without_fourth (part_values part 0)) (family_in part) (entries_in part rows)

-- the schema of a database of so many rows, with its trees
abbrev pub made_items : ℕ → List SchemaItem
made_items rows = made_item 1 Items rows ∷ made_item 2 Names rows ∷ made_item 3 Codes rows ∷ alone (pos 4) (record_bytes view_values) ∷ []

-- The pages are a database of so many rows, whichever header without a freelist stands in front of page 1.
abbrev pub IsFilled : Pages → ℕ → Type 0
IsFilled pages rows = HoldsItems pages (made_items rows)
