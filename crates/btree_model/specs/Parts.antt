-- The parts of a database in order: the freelist, the schema, and the tree of each schema row that has one.
use Rattle.std.specs.Prelude.{ℕ, ◌-◌, Bool, not, List, [], ◌∷◌, ◌++◌, map, length, sum, count_by, ◌==◌, if◌then◌else◌}
use Rattle.std.specs.List.{range_with_len, list_any, list_all}
use Rattle.db_format.specs.declared.defect.Defect.{Defect}
use Rattle.db_format.specs.Pages.{Pages, Test, nothing, also}
use Rattle.btree_model.specs.Finding.{Finding, places, entries, faults, refusals, is_sound}
use Rattle.btree_model.specs.Tree.{root_family}
use Rattle.btree_model.specs.Freelist.{freelist_walk}
use Rattle.btree_model.specs.Records.{tree_part}
use Rattle.btree_model.specs.Schema.{schema_part, roots}

-- the trees with these roots, each after the places of those before it
abbrev pub trees_from : Pages → Test → List ℕ → List (List Finding)
trees_from pages taken [] = []
trees_from pages taken (root ∷ rest) =
    let found = tree_part pages (root_family root (pages.page root)) taken root in
    found ∷ trees_from pages (also (places found) taken) rest

-- the trees of a schema; a schema with a defect has none
abbrev pub trees_of : Pages → Test → List Finding → List (List Finding)
trees_of pages taken schema =
    if is_sound schema then trees_from pages (also (places schema) taken) (roots (entries schema)) else []

abbrev pub parts : Pages → List (List Finding)
parts pages =
    let freelist = freelist_walk pages nothing in
    let schema = schema_part pages (also (places freelist) nothing) in
    freelist ∷ (schema ∷ trees_of pages (also (places freelist) nothing) schema)

-- the defects of the earliest part that has one, or a refused page
abbrev pub first_faults : List (List Finding) → List Defect
first_faults [] = []
first_faults (part ∷ rest) = if is_sound part then first_faults rest else faults part

-- the pages refused in that part
abbrev pub first_refusals : List (List Finding) → List ℕ
first_refusals [] = []
first_refusals (part ∷ rest) = if is_sound part then first_refusals rest else refusals part

-- no part has a defect or a refused page
abbrev pub is_database : Pages → Bool
is_database pages = list_all is_sound (parts pages)

-- the counts of a database without a defect
pub record Counts : Type 0 where
  pub trees : ℕ
  pub rows : ℕ
  pub free : ℕ
  pub unused : ℕ

abbrev pub all_places : List (List Finding) → List ℕ
all_places [] = []
all_places (part ∷ rest) = places part ++ all_places rest

abbrev pub free_places : List (List Finding) → ℕ
free_places [] = 0
free_places (part ∷ rest) = length (places part)

abbrev pub counts : Pages → Counts
counts pages =
    record {
      trees = length (parts pages) - 1;
      rows = sum (map (λ part. length (entries part)) (parts pages));
      free = free_places (parts pages);
      unused = count_by (λ n. not (list_any (λ m. m == n) (all_places (parts pages)))) (range_with_len 1 pages.count);
    }
