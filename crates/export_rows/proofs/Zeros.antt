-- The content of a database rests on its pages in use.
use Rattle.std.proofs.Common.{◌≡◌, ℕ, Bool, true, false, if◌then◌else◌, List, [], ◌∷◌, ◌++◌, Option, Some, None, map, refl, ap, sym, subst, ◌∙◌}
use Rattle.std.specs.Prelude.{ℤ, pos, negsuc, replicate}
use Rattle.std.specs.List.{list_all}
use Rattle.btree_page.specs.declared.kind.Family.{Family}
use Rattle.btree_page.specs.declared.kind.Family.TheVariants.{Table}
use Rattle.db_format.specs.Pages.{Pages, Test, nothing, also}
use Rattle.db_format.specs.Record.{columns}
use Rattle.db_format.specs.Value.{Datum}
use Rattle.db_format.specs.declared.defect.Defect.TheVariants.{PageTwice}
use Rattle.btree_model.specs.Content.{SchemaItem, with_tree, content, entry_of, item_of, item_with, kept_fields, without_fourth}
use Rattle.btree_model.specs.Finding.{Finding, Row, place, fault, entries, is_sound, places}
use Rattle.btree_model.specs.Freelist.{freelist_walk}
use Rattle.btree_model.specs.Parts.{is_database, trees_from}
use Rattle.btree_model.specs.Plain.{is_leaf, with_zeros}
use Rattle.btree_model.specs.Records.{record_faults, tree_part}
use Rattle.btree_model.specs.Schema.{Root, at_page, no_column, no_tree, numbers_of, root_of, roots, roots_of_row, rowid_or_0, schema_faults}
use Rattle.btree_model.specs.Tree.{max_path, root_family, tree_walk}
use Rattle.btree_model.specs.Walk.{walk}
use Rattle.btree_model.proofs.LeafLemmas.{is_in, no_leaf}
use Rattle.btree_model.proofs.PlainLemmas.{leaf_is}
use Rattle.btree_model.proofs.UnmarkedLemmas.{or_left, or_right, sound_left}
use Rattle.btree_model.proofs.UnreadLemmas.{AreAlikeBut, walk_same}
use Rattle.schema_map.specs.Alone.{schema_rows}
use Rattle.schema_map.proofs.FewerMarks.{alone_as_after}
use Rattle.schema_map.proofs.SoundParts.{all_sound, both_sound, both_true, free, rows_are, schema, schema_sound}

-- ---- a part without a defect begins at a page that is in no earlier part

twice : (pages : Pages) (taken : Test) (family : Family) (root : ℕ) → taken root ≡ true
    → tree_part pages family taken root ≡ place root ∷ (fault (PageTwice root) ∷ [])
unfolding walk
twice pages taken family root is = rw is refl

fresh_by : (pages : Pages) (taken : Test) (family : Family) (root : ℕ) (met : Bool) → taken root ≡ met → is_sound (tree_part pages family taken root) ≡ true → taken root ≡ false
fresh_by pages taken family root false is sound = is
fresh_by pages taken family root true is sound = let no : true ≡ false = sym sound ∙ ap is_sound (twice pages taken family root is) in cc

fresh : (pages : Pages) (taken : Test) (family : Family) (root : ℕ) → is_sound (tree_part pages family taken root) ≡ true → taken root ≡ false
fresh pages taken family root = fresh_by pages taken family root (taken root) refl

-- ---- trees

module _ (old new : Pages) where
  -- the same root, and the same walk
  pub record IsSameTree (root : ℕ) : Type 0 where
    pub bytes : new.page root ≡ old.page root
    pub walk : tree_walk new (root_family root (old.page root)) nothing root ≡ tree_walk old (root_family root (old.page root)) nothing root

  walk_of : (family : Family) (root : ℕ) (taken : Test) → AreAlikeBut taken old new → is_sound (tree_part old family taken root) ≡ true
      → tree_walk new family nothing root ≡ tree_walk old family nothing root
  walk_of family root taken alike sound =
      let found = tree_walk old family taken root in
      let same : tree_walk new family taken root ≡ found = walk_same taken old new alike family max_path [] root in
      let whole : is_sound found ≡ true = sound_left found (record_faults (entries found)) sound in
      sym (alone_as_after new family root taken (ap is_sound same ∙ whole)) ∙ same ∙ alone_as_after old family root taken whole

  tree_of : (root : ℕ) (taken : Test) → AreAlikeBut taken old new → is_sound (tree_part old (root_family root (old.page root)) taken root) ≡ true → IsSameTree root
  tree_of root taken alike sound = record {
    bytes = (alike.alike root (fresh old taken (root_family root (old.page root)) root sound)).bytes;
    walk = walk_of (root_family root (old.page root)) root taken alike sound;
  }

  still_alike : (ns : List ℕ) (taken : Test) → AreAlikeBut taken old new → AreAlikeBut (also ns taken) old new
  still_alike ns taken same =
      record { count = same.count; usable = same.usable; alike = λ n no_place. same.alike n (or_right (is_in ns n) (taken n) no_place) }

  abbrev AreSameTrees : List ℕ → Type 0
  AreSameTrees [] = Unit {0}
  AreSameTrees (root ∷ rest) = IsSameTree root × AreSameTrees rest

  trees_of_all : (taken : Test) (numbers : List ℕ) → AreAlikeBut taken old new → list_all is_sound (trees_from old taken numbers) ≡ true → AreSameTrees numbers
  trees_of_all taken [] alike sound = tt
  trees_of_all taken (root ∷ rest) alike sound =
      let part : List Finding = tree_part old (root_family root (old.page root)) taken root in
      let each = both_true (is_sound part) (list_all is_sound (trees_from old (also (places part) taken) rest)) sound in
      (tree_of root taken alike each.0, trees_of_all (also (places part) taken) rest (still_alike (places part) taken alike) each.1)

  first_trees : (xs ys : List ℕ) → AreSameTrees (xs ++ ys) → AreSameTrees xs
  first_trees [] ys all = tt
  first_trees (x ∷ xs) ys all = (all.0, first_trees xs ys all.1)

  last_trees : (xs ys : List ℕ) → AreSameTrees (xs ++ ys) → AreSameTrees ys
  last_trees [] ys all = all
  last_trees (x ∷ xs) ys all = last_trees xs ys all.1

  -- ---- the rows of the schema

  item_same : (rowid : ℤ) (payload : List ℕ) (values : List Datum) (root : Root) → AreSameTrees (numbers_of root)
      → item_with new rowid payload values root ≡ item_with old rowid payload values root
  item_same rowid payload values no_column same = refl
  item_same rowid payload values no_tree same = refl
  item_same rowid payload values (at_page (negsuc n)) same = refl
  item_same rowid payload values (at_page (pos root)) same =
      let family = root_family root (old.page root) in
      ap (λ bytes. with_tree rowid (without_fourth values) (root_family root bytes) (map entry_of (entries (tree_walk new (root_family root bytes) nothing root)))) same.0.bytes
      ∙ ap (λ (found : List Finding). with_tree rowid (without_fourth values) family (map entry_of (entries found))) same.0.walk

  row_same : (row : Row) (read : Option (List Datum)) → AreSameTrees (roots_of_row read) → item_of new row read ≡ item_of old row read
  row_same row None same = refl
  row_same row (Some values) same = item_same (rowid_or_0 row.rowid) row.payload values (root_of values) same

  rows_same : (rows : List Row) → AreSameTrees (roots rows) → map (λ row. item_of new row (columns row.payload)) rows ≡ map (λ row. item_of old row (columns row.payload)) rows
  rows_same [] same = refl
  rows_same (row ∷ rows) same =
      ap (λ item. item ∷ map (λ row. item_of new row (columns row.payload)) rows) (row_same row (columns row.payload) (first_trees (roots_of_row (columns row.payload)) (roots rows) same))
      ∙ ap (λ l. item_of old row (columns row.payload) ∷ l) (rows_same rows (last_trees (roots_of_row (columns row.payload)) (roots rows) same))

-- ---- the whole

-- the content is the same over pages that differ where the freelist has a place alone
pub content_alike : (old new : Pages) → is_database old ≡ true → AreAlikeBut (free old) old new → content new ≡ content old
content_alike old new sound alike =
    let table : List Finding = tree_part old Table (free old) 1 in
    let first_sound : is_sound table ≡ true = sound_left table (schema_faults old (entries table)) (schema_sound old sound) in
    let first : new.page 1 ≡ old.page 1 = (alike.alike 1 (fresh old (free old) Table 1 first_sound)).bytes in
    let rows = schema_rows old in
    let same : AreSameTrees old new (roots rows) =
    subst (λ (l : List Row). AreSameTrees old new (roots l)) (rows_are old sound)
    (trees_of_all old new (also (places (schema old)) (free old)) (roots (entries (schema old)))
    (still_alike old new (places (schema old)) (free old) alike) (all_sound old sound)) in
    ap (λ bytes. record { kept = kept_fields bytes; rows = map (λ row. item_of new row (columns row.payload)) (schema_rows new) }) first
    ∙ ap (λ (found : List Finding). record { kept = kept_fields (old.page 1); rows = map (λ row. item_of new row (columns row.payload)) (entries found) })
    (walk_of old new Table 1 (free old) alike first_sound)
    ∙ ap (λ (items : List SchemaItem). record { kept = kept_fields (old.page 1); rows = items }) (rows_same old new rows same)

-- a page without a place in the freelist is none of its leaves
pub no_free_leaf : (pages : Pages) → is_database pages ≡ true → (n : ℕ) → free pages n ≡ false → is_leaf pages n ≡ false
no_free_leaf pages sound n no_place =
    let list = freelist_walk pages nothing in
    leaf_is pages n (both_sound pages sound).0 ∙ no_leaf list n (or_left (is_in (places list) n) false no_place)

zeros_alike : (pages : Pages) → is_database pages ≡ true → AreAlikeBut (free pages) pages (with_zeros pages)
zeros_alike pages sound = record {
  count = refl;
  usable = refl;
  alike = λ n no_place. record {
    bytes = ap (λ b. if b then replicate pages.usable 0 else pages.page n) (no_free_leaf pages sound n no_place);
    accepted = refl;
  };
}

-- the content is the same where leaves of the freelist stand as zeros
pub zeros_content : (pages : Pages) → is_database pages ≡ true → content (with_zeros pages) ≡ content pages
zeros_content pages sound = content_alike pages (with_zeros pages) sound (zeros_alike pages sound)
