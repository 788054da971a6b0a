-- A schema and its trees, each on pages of its own, are a database.
use Rattle.std.proofs.Common.{◌≡◌, ◌≤◌, ◌<◌, ◌+◌, ℕ, zero, suc, ℤ, Bool, true, false, not, List, [], ◌∷◌, ◌++◌, ◌||◌, ◌&&◌, ◌==◌, Option, Some, None, cond, count_by, map, if◌then◌else◌, refl, ap, ◌∙◌, arith}
use Rattle.std.specs.Prelude.{is_some, nat_le}
use Rattle.std.specs.List.{flat_map, list_all, list_any, range_with_len}
use Rattle.std.specs.Cmp.Derive.{both_true}
use Rattle.std.proofs.lemmas.List.{append-nil}
use Rattle.std.proofs.lemmas.List.Folds.{list_any-append}
use Rattle.std.proofs.lemmas.List.Sums.{sum_by-cons}
use Rattle.db_format.specs.Bytes.{u32_at}
use Rattle.db_format.specs.declared.defect.Defect.TheVariants.{RootFault}
use Rattle.db_format.specs.Pages.{Pages, Test, also, is_page, nothing}
use Rattle.db_format.specs.Record.{columns}
use Rattle.db_format.specs.Value.{Datum}
use Rattle.btree_page.specs.declared.kind.Family.TheVariants.{Table}
use Rattle.btree_model.specs.Content.{Entry, HoldsContent, SchemaItem, content, entry_of, item_of, item_with, kept_fields, with_tree, without_fourth}
use Rattle.btree_model.specs.Finding.{Finding, Row, entries, fault, is_sound, places}
use Rattle.btree_model.specs.Parts.{all_places, free_places, is_database, parts, trees_from, trees_of}
use Rattle.btree_model.specs.Range.{is_in_range}
use Rattle.btree_model.specs.Records.{tree_part}
use Rattle.btree_model.specs.Schema.{numbers_of, root_fault, root_of, roots, roots_of_row, rowid_or_0, schema_fault, schema_faults, schema_part}
use Rattle.btree_model.specs.Tree.{root_family, tree_walk}
use Rattle.btree_model.proofs.RestLemmas.{none_marked}
use Rattle.btree_model.proofs.UnmarkedLemmas.{or_left, or_right}
use Rattle.load_model.proofs.StandsLemmas.{not_met}
use Rattle.bulk_load.specs.Found.{Apart, ArePlans, HasNoFreelist, HasTree, HoldsItems, IsPlanted, IsTight, IsTightBehind, NamesTree, OwnTree, SchemaPlan, either, is_record, item_with_tree, own_pages, plan_entry, plan_item}
use Rattle.bulk_load.specs.Headed.{IsHeaded}
use Rattle.bulk_load.specs.Out.{AreAllPut}
use Rattle.bulk_load.specs.Own.{only}
use Rattle.bulk_load.proofs.FoundLemmas.{IsFound, found_beside, found_headed, placed_beside, placed_headed, range_same}
use Rattle.bulk_load.proofs.NamedLemmas.{cons_same, faults_by_entry, items_by_entry, roots_by_entry, row_of}
use Rattle.bulk_load.proofs.PartLemmas.{field_is, none_of, nothing_free, part_is, root_is_of}

-- ---- what the rows name

abbrev tree_numbers : Option OwnTree → List ℕ
tree_numbers None = []
tree_numbers (Some t) = t.root ∷ []

abbrev plan_numbers : SchemaPlan → List ℕ
plan_numbers plan = tree_numbers plan.tree

-- and the walks of their trees
abbrev tree_found : Pages → Option OwnTree → List (List Finding)
tree_found pages None = []
tree_found pages (Some t) = tree_walk pages t.family nothing t.root ∷ []

abbrev plan_found : Pages → SchemaPlan → List (List Finding)
plan_found pages plan = tree_found pages plan.tree

plan_records : (pages : Pages) (taken : Test) (plans : List SchemaPlan) → ArePlans pages taken plans → list_all is_record (map plan_entry plans) ≡ true
plan_records pages taken [] are = refl
plan_records pages taken (plan ∷ plans) (is, apart, rest) =
    both_true (ap is_some is.reads) (plan_records pages (either (own_pages plan.tree) taken) plans rest)

-- the page is one of a tree of these rows
abbrev pub of_trees : List SchemaPlan → Test
of_trees [] n = false
of_trees (plan ∷ plans) n = own_pages plan.tree n || of_trees plans n

one_of : (a b c d : Bool) → (a ≡ true → c ≡ true) → (b ≡ true → d ≡ true) → (a || b) ≡ true → (c || d) ≡ true
one_of true b c d p q h = ap (λ e. e || d) (p refl)
one_of false b c d p q h = or_true c (q h)
  where
    or_true : (c : Bool) → d ≡ true → (c || d) ≡ true
    or_true true is = refl
    or_true false is = is

module _ (head : List ℕ) (pages all : Pages) (headed : IsHeaded head pages all) where
  planted : (values : List Datum) (t : OwnTree) → IsPlanted pages values t → IsFound all t.own t.family t.root t.entries
  planted values t p = found_beside head pages all headed t.own t.family t.root t.entries p.within p.has

  -- ---- one row

  fault_of : (rowid : ℤ) (values : List Datum) (t : Option OwnTree) → NamesTree pages values t → root_fault all rowid (root_of values) ≡ []
  fault_of rowid values None is = ap (root_fault all rowid) is
  fault_of rowid values (Some t) p =
      ap (root_fault all rowid) p.named
      ∙ ap (λ b. if b then [] else fault (RootFault rowid) ∷ []) (range_same head pages all headed t.root p.range)

  numbers_are : (values : List Datum) (t : Option OwnTree) → NamesTree pages values t → numbers_of (root_of values) ≡ tree_numbers t
  numbers_are values None is = ap numbers_of is
  numbers_are values (Some t) p = ap numbers_of p.named

  item_named : (entry : Entry) (values : List Datum) (t : Option OwnTree) → NamesTree pages values t
      → item_with all (rowid_or_0 entry.rowid) entry.payload values (root_of values) ≡ item_with_tree entry values t
  item_named entry values None is = ap (item_with all (rowid_or_0 entry.rowid) entry.payload values) is
  item_named entry values (Some t) p =
      let f : IsFound all t.own t.family t.root t.entries = planted values t p in
      ap (item_with all (rowid_or_0 entry.rowid) entry.payload values) p.named
      ∙ ap (λ family. with_tree (rowid_or_0 entry.rowid) (without_fourth values) family (map entry_of (entries (tree_walk all family nothing t.root))))
      (root_is_of all t.own t.family t.root t.entries f)
      ∙ ap (λ l. with_tree (rowid_or_0 entry.rowid) (without_fourth values) t.family l) f.gives

  -- ---- all rows

  no_faults : (taken : Test) (plans : List SchemaPlan) → ArePlans pages taken plans
      → flat_map (λ (e : Entry). schema_fault all (rowid_or_0 e.rowid) (columns e.payload)) (map plan_entry plans) ≡ []
  no_faults taken [] are = refl
  no_faults taken (plan ∷ plans) (is, apart, rest) =
      let later : List Finding = flat_map (λ (e : Entry). schema_fault all (rowid_or_0 e.rowid) (columns e.payload)) (map plan_entry plans) in
      ap (λ read. schema_fault all (rowid_or_0 plan.entry.rowid) read ++ later) is.reads
      ∙ ap (λ l. l ++ later) (fault_of (rowid_or_0 plan.entry.rowid) plan.values plan.tree is.names)
      ∙ no_faults (either (own_pages plan.tree) taken) plans rest

  all_numbers : (taken : Test) (plans : List SchemaPlan) → ArePlans pages taken plans
      → flat_map (λ (e : Entry). roots_of_row (columns e.payload)) (map plan_entry plans) ≡ flat_map plan_numbers plans
  all_numbers taken [] are = refl
  all_numbers taken (plan ∷ plans) (is, apart, rest) =
      let later : List ℕ = flat_map (λ (e : Entry). roots_of_row (columns e.payload)) (map plan_entry plans) in
      ap (λ read. roots_of_row read ++ later) is.reads
      ∙ ap (λ l. l ++ later) (numbers_are plan.values plan.tree is.names)
      ∙ ap (λ l. tree_numbers plan.tree ++ l) (all_numbers (either (own_pages plan.tree) taken) plans rest)

  all_items : (taken : Test) (plans : List SchemaPlan) → ArePlans pages taken plans
      → map (λ (e : Entry). item_of all (row_of e) (columns e.payload)) (map plan_entry plans) ≡ map plan_item plans
  all_items taken [] are = refl
  all_items taken (plan ∷ plans) (is, apart, rest) =
      cons_same (ap (item_of all (row_of plan.entry)) is.reads ∙ item_named plan.entry plan.values plan.tree is.names)
      (all_items (either (own_pages plan.tree) taken) plans rest)

  -- ---- the trees as parts

  -- one tree behind earlier parts, none of whose places is among its pages
  tree_behind : (values : List Datum) (t : OwnTree) (before : Test) → IsPlanted pages values t → Apart t.own before
      → tree_part all (root_family t.root (all.page t.root)) before t.root ≡ tree_walk all t.family nothing t.root
  tree_behind values t before p apart =
      let f : IsFound all t.own t.family t.root t.entries = planted values t p in
      ap (λ family. tree_part all family before t.root) (root_is_of all t.own t.family t.root t.entries f)
      ∙ part_is all t.own t.family t.root t.entries before f p.records
      (none_of t.own before (places (tree_walk all t.family nothing t.root)) apart f.within)

  -- where `before` holds, `taken` does
  abbrev Covered : Test → Test → Type 0
  Covered before taken = (n : ℕ) → taken n ≡ false → before n ≡ false

  covered_more : (values : List Datum) (t : OwnTree) (before taken : Test) → IsPlanted pages values t → Covered before taken
      → Covered (also (places (tree_walk all t.family nothing t.root)) before) (either t.own taken)
  covered_more values t before taken p covered n free =
      let f : IsFound all t.own t.family t.root t.entries = planted values t p in
      let found : List Finding = tree_walk all t.family nothing t.root in
      ap (λ b. b || before n) (or_left (list_any (λ m. m == n) (places found)) _ (not_met t.own n found (or_left (t.own n) (taken n) free) f.within))
      ∙ covered n (or_right (t.own n) (taken n) free)

  trees_by : (tree : Option OwnTree) (values : List Datum) (before taken : Test) (plans : List SchemaPlan) → NamesTree pages values tree → Apart (own_pages tree) taken
      → Covered before taken
      → ((next : Test) → Covered next (either (own_pages tree) taken) → trees_from all next (flat_map plan_numbers plans) ≡ flat_map (plan_found all) plans)
      → trees_from all before (tree_numbers tree ++ flat_map plan_numbers plans) ≡ tree_found all tree ++ flat_map (plan_found all) plans
  trees_by None values before taken plans is apart covered later = later before covered
  trees_by (Some t) values before taken plans p apart covered later =
      let found : List Finding = tree_walk all t.family nothing t.root in
      ap (λ part. part ∷ trees_from all (also (places part) before) (flat_map plan_numbers plans))
      (tree_behind values t before p (λ n mine. covered n (apart n mine)))
      ∙ ap (λ l. found ∷ l) (later (also (places found) before) (covered_more values t before taken p covered))

  trees_are : (before taken : Test) (plans : List SchemaPlan) → ArePlans pages taken plans → Covered before taken
      → trees_from all before (flat_map plan_numbers plans) ≡ flat_map (plan_found all) plans
  trees_are before taken [] are covered = refl
  trees_are before taken (plan ∷ plans) (is, apart, rest) covered =
      trees_by plan.tree plan.values before taken plans is.names apart covered
      (λ next covers. trees_are next (either (own_pages plan.tree) taken) plans rest covers)

  sound_by : (tree : Option OwnTree) (values : List Datum) (later : List (List Finding)) → NamesTree pages values tree → list_all is_sound later ≡ true
      → list_all is_sound (tree_found all tree ++ later) ≡ true
  sound_by None values later is rest = rest
  sound_by (Some t) values later p rest =
      let f : IsFound all t.own t.family t.root t.entries = planted values t p in both_true f.sound rest

  trees_sound : (taken : Test) (plans : List SchemaPlan) → ArePlans pages taken plans → list_all is_sound (flat_map (plan_found all) plans) ≡ true
  trees_sound taken [] are = refl
  trees_sound taken (plan ∷ plans) (is, apart, rest) =
      sound_by plan.tree plan.values (flat_map (plan_found all) plans) is.names (trees_sound (either (own_pages plan.tree) taken) plans rest)

  -- ---- the pages of the trees

  -- a page of one of these trees that was put is one of its places
  placed_by : (tree : Option OwnTree) (values : List Datum) (later : List (List Finding)) (more : Bool) (n : ℕ) → NamesTree pages values tree → pages.accepts n ≡ true
      → (more ≡ true → list_any (λ m. m == n) (all_places later) ≡ true) → (own_pages tree n || more) ≡ true
      → list_any (λ m. m == n) (all_places (tree_found all tree ++ later)) ≡ true
  placed_by None values later more n is put rest has = rest has
  placed_by (Some t) values later more n p put rest has =
      let found : List Finding = tree_walk all t.family nothing t.root in
      list_any-append (λ m. m == n) (places found) (all_places later)
      ∙ one_of (t.own n) more (list_any (λ m. m == n) (places found)) (list_any (λ m. m == n) (all_places later))
      (λ mine. placed_beside head pages all headed t.own t.family t.root t.entries p.within p.has n mine put) rest has

  trees_placed : (taken : Test) (plans : List SchemaPlan) → ArePlans pages taken plans → (n : ℕ) → pages.accepts n ≡ true → of_trees plans n ≡ true
      → list_any (λ m. m == n) (all_places (flat_map (plan_found all) plans)) ≡ true
  trees_placed taken [] are n put has = cc
  trees_placed taken (plan ∷ plans) (is, apart, rest) n put has =
      placed_by plan.tree plan.values (flat_map (plan_found all) plans) (of_trees plans n) n is.names put
      (trees_placed (either (own_pages plan.tree) taken) plans rest n put) has

-- ---- counts

zero_plus : (k : ℕ) → 0 + k ≡ k
zero_plus k = omega arith

-- none of the numbers from `from` on passes the test
none_counted : (test : Test) (from n : ℕ) → ((k : ℕ) → from ≤ k → k < from + n → test k ≡ false) → count_by test (range_with_len from n) ≡ 0
none_counted test from zero none = refl
none_counted test from (suc n) none =
    let rest : ℕ = count_by test (range_with_len (from + 1) n) in
    sum_by-cons (λ k. cond (test k) 1 0) from (range_with_len (from + 1) n)
    ∙ ap (λ b. cond b 1 0 + rest) (none from (omega arith) (omega arith)) ∙ zero_plus rest
    ∙ none_counted test (from + 1) n (λ k least most. none k (omega arith) (omega arith))

page_of : (n count all : ℕ) → all ≡ count → 1 ≤ n → n < 1 + all → (nat_le 1 n && nat_le n count) ≡ true
page_of n count all same least most = grind (arith, same, least, most)

-- ---- the whole

-- a schema with this list of rows at page 1, on its own pages
pub record IsSchemaTree (pages : Pages) (own : Test) (plans : List SchemaPlan) : Type 0 where
  pub some : 1 ≤ pages.count
  pub within : (n : ℕ) → own n ≡ true → (n == 1) ≡ false → is_in_range pages n ≡ true
  pub has : HasTree (only own pages) Table 1 (map plan_entry plans)
  pub rows : ArePlans pages own plans

module _ (pages : Pages) (own : Test) (plans : List SchemaPlan) (t : IsSchemaTree pages own plans) (head : List ℕ) (all : Pages) (free : HasNoFreelist head) (headed : IsHeaded head pages all) where
  s : IsFound all own Table 1 (map plan_entry plans)
  s = found_headed head pages all headed own (map plan_entry plans) free.long t.some t.within t.has

  abbrev schema_found : List Finding
  schema_found = tree_walk all Table nothing 1

  no_schema_faults : schema_faults all (entries schema_found) ≡ []
  no_schema_faults =
      faults_by_entry all (entries schema_found)
      ∙ ap (flat_map (λ (e : Entry). schema_fault all (rowid_or_0 e.rowid) (columns e.payload))) s.gives
      ∙ no_faults head pages all headed own plans t.rows

  roots_are : roots (entries schema_found) ≡ flat_map plan_numbers plans
  roots_are =
      roots_by_entry (entries schema_found) ∙ ap (flat_map (λ (e : Entry). roots_of_row (columns e.payload))) s.gives
      ∙ all_numbers head pages all headed own plans t.rows

  schema_is : schema_part all nothing ≡ schema_found
  schema_is =
      ap (λ found. found ++ schema_faults all (entries found))
      (part_is all own Table 1 (map plan_entry plans) nothing s (plan_records pages own plans t.rows) (none_marked (places schema_found)))
      ∙ ap (λ l. schema_found ++ l) no_schema_faults ∙ append-nil schema_found

  abbrev behind_schema : Test
  behind_schema = also (places schema_found) nothing

  behind : (n : ℕ) → own n ≡ false → behind_schema n ≡ false
  behind n other = ap (λ b. b || false) (or_left (list_any (λ m. m == n) (places schema_found)) _ (not_met own n schema_found other s.within))

  parts_are : parts all ≡ [] ∷ schema_found ∷ flat_map (plan_found all) plans
  parts_are =
      ap
      (λ freelist. freelist ∷ (schema_part all (also (places freelist) nothing)
      ∷ trees_of all (also (places freelist) nothing) (schema_part all (also (places freelist) nothing))))
      (nothing_free head pages all free headed)
      ∙ ap (λ schema. [] ∷ (schema ∷ trees_of all nothing schema)) schema_is
      ∙ ap (λ sound. [] ∷ (schema_found ∷ (if sound then trees_from all behind_schema (roots (entries schema_found)) else []))) s.sound
      ∙ ap (λ l. [] ∷ (schema_found ∷ trees_from all behind_schema l)) roots_are
      ∙ ap (λ l. [] ∷ (schema_found ∷ l)) (trees_are head pages all headed behind_schema own plans t.rows behind)

  sound : is_database all ≡ true
  sound = ap (list_all is_sound) parts_are ∙ both_true s.sound (trees_sound head pages all headed own plans t.rows)

  kept_is : kept_fields (all.page 1) ≡ kept_fields head
  kept_is =
      cons_same (field 40 (omega arith)) (cons_same (field 44 (omega arith)) (cons_same (field 48 (omega arith)) (cons_same (field 56 (omega arith))
      (cons_same (field 60 (omega arith)) (cons_same (field 68 (omega arith)) (cons_same (field 96 (omega arith)) refl))))))
    where
      field : (k : ℕ) → k ≤ 96 → u32_at (all.page 1) k ≡ u32_at head k
      field k low = field_is head pages all headed k free.long low

  content_is : content all ≡ record { kept = kept_fields head; rows = map plan_item plans }
  content_is =
      ap (λ kept. record { kept = kept; rows = map (λ (row : Row). item_of all row (columns row.payload)) (entries schema_found) }) kept_is
      ∙ ap (λ (l : List SchemaItem). record { kept = kept_fields head; rows = l })
      (items_by_entry all (entries schema_found) ∙ ap (map (λ (e : Entry). item_of all (row_of e) (columns e.payload))) s.gives
      ∙ all_items head pages all headed own plans t.rows)

  holds : HoldsContent all (record { kept = kept_fields head; rows = map plan_item plans })
  holds = record { sound = sound; is = content_is }

  -- ---- no page stands beside it

  module _ (put : AreAllPut pages) (filled : (n : ℕ) → is_page pages n ≡ true → (own n || of_trees plans n) ≡ true) where
    placed : (n : ℕ) → is_page pages n ≡ true → list_any (λ m. m == n) (all_places (parts all)) ≡ true
    placed n is =
        ap (λ found. list_any (λ m. m == n) (all_places found)) parts_are
        ∙ list_any-append (λ m. m == n) (places schema_found) (all_places (flat_map (plan_found all) plans))
        ∙ one_of (own n) (of_trees plans n) (list_any (λ m. m == n) (places schema_found)) (list_any (λ m. m == n) (all_places (flat_map (plan_found all) plans)))
        (λ mine. placed_headed head pages all headed own (map plan_entry plans) free.long t.some t.within t.has n mine (put n is))
        (trees_placed head pages all headed own plans t.rows n (put n is)) (filled n is)

    tight : IsTight all
    tight = record {
      free = ap free_places parts_are;
      unused =
          none_counted (λ n. not (list_any (λ m. m == n) (all_places (parts all)))) 1 all.count
          (λ n least most. ap not (placed n (page_of n pages.count all.count headed.count least most)));
    }

pub items_held : (pages : Pages) (own : Test) (plans : List SchemaPlan) → IsSchemaTree pages own plans → HoldsItems pages (map plan_item plans)
items_held pages own plans t head whole free headed = holds pages own plans t head whole free headed

-- where every page was put, and is one of the schema's or of a tree's, none stands beside them
pub tight_held : (pages : Pages) (own : Test) (plans : List SchemaPlan) → IsSchemaTree pages own plans → AreAllPut pages
    → ((n : ℕ) → is_page pages n ≡ true → (own n || of_trees plans n) ≡ true) → IsTightBehind pages
tight_held pages own plans t put filled head whole free headed = tight pages own plans t head whole free headed put filled
