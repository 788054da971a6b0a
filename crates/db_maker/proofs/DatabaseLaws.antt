-- Three trees and their schema, each on pages of its own, are a database.
use Rattle.std.proofs.Common.{◌≡◌, ◌≤◌, ◌<◌, ℕ, ◌^◌, true, false, List, [], ◌∷◌, ◌||◌, ◌==◌, pos, Some, None, refl, ap, ◌∙◌}
use Rattle.db_format.specs.Pages.{Pages, Test, is_page}
use Rattle.btree_page.specs.declared.kind.Family.TheVariants.{Table}
use Rattle.btree_model.specs.Range.{is_in_range}
use Rattle.bulk_load.specs.Found.{Apart, HasTree, IsPlan, IsTightBehind, SchemaPlan, Within, either}
use Rattle.bulk_load.specs.Out.{AreAllPut}
use Rattle.bulk_load.specs.Own.{only}
use Rattle.bulk_load.proofs.DatabaseLemmas.{IsSchemaTree, items_held, tight_held}
use Rattle.bulk_load.proofs.NamedLemmas.{root_is}
use Rattle.db_maker.specs.declared.part.Part.{Part}
use Rattle.db_maker.specs.declared.part.Part.TheVariants.{Items, Names, Codes}
use Rattle.db_maker.specs.Made.{HasPart, IsFilled}
use Rattle.db_maker.specs.Parts.{entries_in, family_in, part_values, schema_entries, schema_entry, view_values}
use Rattle.btree_model.specs.Schema.{at_page, root_of}
use Rattle.db_maker.proofs.EntryLaws.{entries_read, row_read, view_read}

-- a root page that a row names
pub record IsRoot (pages : Pages) (root : ℕ) : Type 0 where
  pub low : 2 ≤ root
  pub small : root < 2 ^ 63
  pub range : is_in_range pages root ≡ true

-- four trees, each on pages for which a test of its own holds
pub record AreApart (pages : Pages) (rows items names codes_root : ℕ) (of_items of_names of_codes of_schema : Test) : Type 0 where
  pub has_items : HasPart (only of_items pages) Items items rows
  pub has_names : HasPart (only of_names pages) Names names rows
  pub has_codes : HasPart (only of_codes pages) Codes codes_root rows
  pub has_schema : HasTree (only of_schema pages) Table 1 (schema_entries items names codes_root)
  pub items_named : IsRoot pages items
  pub names_named : IsRoot pages names
  pub codes_named : IsRoot pages codes_root
  pub items_from_schema : Apart of_items of_schema
  pub names_from_schema : Apart of_names of_schema
  pub codes_from_schema : Apart of_codes of_schema
  pub names_from_items : Apart of_names of_items
  pub codes_from_items : Apart of_codes of_items
  pub codes_from_names : Apart of_codes of_names
  pub some : 1 ≤ pages.count
  pub items_within : Within pages of_items
  pub names_within : Within pages of_names
  pub codes_within : Within pages of_codes
  pub schema_within : (n : ℕ) → of_schema n ≡ true → (n == 1) ≡ false → is_in_range pages n ≡ true

part_root : (part : Part) (root : ℕ) → 2 ≤ root → root_of (part_values part root) ≡ at_page (pos root)
part_root Items root low = root_is root low
part_root Names root low = root_is root low
part_root Codes root low = root_is root low

-- the row of a tree, and that of the view
abbrev part_plan : ℕ → Part → ℕ → ℕ → Test → SchemaPlan
part_plan rowid part root rows own = record {
  entry = schema_entry rowid (part_values part root);
  values = part_values part root;
  tree = Some (record { root = root; family = family_in part; entries = entries_in part rows; own = own });
}

abbrev view_plan : SchemaPlan
view_plan = record { entry = schema_entry 4 view_values; values = view_values; tree = None }

planned : (pages : Pages) (rowid : ℕ) (part : Part) (root rows : ℕ) (own : Test) → IsRoot pages root → rows < 2 ^ 32 → HasPart (only own pages) part root rows
    → Within pages own → IsPlan pages (part_plan rowid part root rows own)
planned pages rowid part root rows own named few has within = record {
  reads = row_read part root named.small;
  names = record { named = part_root part root named.low; range = named.range; has = has; records = entries_read part rows few; within = within };
}

from_both : (own one other : Test) → Apart own one → Apart own other → Apart own (either one other)
from_both own one other p q n mine = ap (λ b. b || other n) (p n mine) ∙ q n mine

-- the rows of the schema
abbrev plans : (rows items names codes_root : ℕ) (of_items of_names of_codes : Test) → List SchemaPlan
plans rows items names codes_root of_items of_names of_codes =
    part_plan 1 Items items rows of_items ∷ part_plan 2 Names names rows of_names ∷ part_plan 3 Codes codes_root rows of_codes ∷ view_plan ∷ []

module _ (pages : Pages) (rows items names codes_root : ℕ) (of_items of_names of_codes of_schema : Test)
    (t : AreApart pages rows items names codes_root of_items of_names of_codes of_schema) (few : rows < 2 ^ 32) where
  schema_is : IsSchemaTree pages of_schema (plans rows items names codes_root of_items of_names of_codes)
  schema_is = record {
    some = t.some;
    within = t.schema_within;
    has = t.has_schema;
    rows = (
      planned pages 1 Items items rows of_items t.items_named few t.has_items t.items_within,
      t.items_from_schema,
      (
        planned pages 2 Names names rows of_names t.names_named few t.has_names t.names_within,
        from_both of_names of_items of_schema t.names_from_items t.names_from_schema,
        (
          planned pages 3 Codes codes_root rows of_codes t.codes_named few t.has_codes t.codes_within,
          from_both of_codes of_names (either of_items of_schema) t.codes_from_names (from_both of_codes of_items of_schema t.codes_from_items t.codes_from_schema),
          (record { reads = view_read; names = refl }, (λ n no. cc), tt),
        ),
      ),
    );
  }

  pub database_is : IsFilled pages rows
  database_is = items_held pages of_schema (plans rows items names codes_root of_items of_names of_codes) schema_is

  -- where each page is one of the four
  pub database_tight : AreAllPut pages
      → ((n : ℕ) → is_page pages n ≡ true → (of_schema n || (of_items n || (of_names n || (of_codes n || false)))) ≡ true) → IsTightBehind pages
  database_tight put filled = tight_held pages of_schema (plans rows items names codes_root of_items of_names of_codes) schema_is put filled
