-- Trees that are copied one after another, and the schema that names them.
use Rattle.std.proofs.Common.{◌≡◌, ◌≤◌, ℕ, ℤ, zero, suc, pos, Bool, true, false, List, [], ◌∷◌, ◌++◌, ◌||◌, ◌&&◌, ◌==◌, Option, Some, None, length, map, refl, ap, sym, subst, ◌∙◌, arith}
use Rattle.std.specs.Prelude.{nat_le, unwrap_or}
use Rattle.std.specs.List.{All}
use Rattle.std.proofs.lemmas.List.Elements.{All-head, All-tail}
use Rattle.db_format.specs.Pages.{Pages, Test, is_page, nothing}
use Rattle.db_format.specs.Record.{columns}
use Rattle.db_format.specs.Value.{Datum}
use Rattle.btree_page.specs.declared.kind.Family.TheVariants.{Table}
use Rattle.btree_model.specs.Content.{SchemaItem, item_of, item_with, with_tree}
use Rattle.btree_model.specs.Finding.{is_sound}
use Rattle.btree_model.specs.Schema.{at_page, root_of}
use Rattle.btree_model.specs.Tree.{root_family, tree_walk}
use Rattle.bulk_load.specs.Found.{ArePlans, HasTree, HoldsItems, IsPlan, IsTightBehind, OwnTree, SchemaPlan, either, own_pages, plan_entry, plan_item}
use Rattle.bulk_load.specs.Out.{AreAllPut, Faults, KeepsPages}
use Rattle.bulk_load.specs.Own.{between, only}
use Rattle.bulk_load.proofs.DatabaseLemmas.{IsSchemaTree, items_held, of_trees, tight_held}
use Rattle.bulk_load.proofs.FoundLemmas.{tree_kept}
use Rattle.bulk_load.proofs.NamedLemmas.{cons_same, root_is}
use Rattle.bulk_load.proofs.TakenLemmas.{between_same, earlier_from_schema, in_range, later_apart, low_of, of_schema, root_own, schema_in}
use Rattle.schema_map.specs.declared.schema.SchemaRow.{SchemaRow}
use Rattle.migrate_job.specs.Copied.{AreCopied, AreRenamed, IsCopiedTree, IsRenamed, IsRooted, IsSoundRow, new_entries, new_entry, old_entries, payload_with, row_values, values_of_payload}
use Rattle.migrate_job.proofs.RowLaws.{row_values_rest}

-- ---- one tree more

pub copied_tree : (before pages : Pages) (low high root new : ℕ) → (root ≡ 0 → ⊥)
    → HasTree (only (between low high) pages) (root_family root (before.page root)) new (old_entries before root) → IsCopiedTree before pages low high root new
copied_tree before pages low high zero new some has = absurd (some refl)
copied_tree before pages low high (suc n) new some has = has

pub copied_more : (before pages : Pages) (low middle high : ℕ) (rows : List SchemaRow) (roots : List ℕ) (row : SchemaRow) (root : ℕ) → AreCopied before pages low middle rows roots
    → middle ≤ high → IsCopiedTree before pages middle high row.root root → AreCopied before pages low high (rows ++ row ∷ []) (roots ++ root ∷ [])
copied_more before pages low middle high [] [] row root at more is =
    (high, subst (λ n. n ≤ high) (sym at) more, subst (λ n. IsCopiedTree before pages n high row.root root) (sym at) is, refl)
copied_more before pages low middle high [] (r ∷ roots) row root are more is = absurd are
copied_more before pages low middle high (first ∷ rows) [] row root are more is = absurd are
copied_more before pages low middle high (first ∷ rows) (r ∷ roots) row root (next, less, here, later) more is =
    (next, less, here, copied_more before pages next middle high rows roots row root later more is)

pub copied_ordered : (before pages : Pages) (low high : ℕ) (rows : List SchemaRow) (roots : List ℕ) → AreCopied before pages low high rows roots → low ≤ high
copied_ordered before pages low high [] [] at = omega arith
copied_ordered before pages low high [] (r ∷ roots) are = absurd are
copied_ordered before pages low high (row ∷ rows) [] are = absurd are
copied_ordered before pages low high (row ∷ rows) (root ∷ roots) (middle, less, here, later) =
    let behind : middle ≤ high = copied_ordered before pages middle high rows roots later in omega arith

-- what is put beside them leaves them as they are
module _ {S : Type 0} (pages : S → Pages) (limit : S → ℕ) (faults : S → Faults) (well : ℕ → S → Type 0) (before : Pages) (first : Bool) (a b : S) (start : ℕ)
    (told : well start a) (kept : KeepsPages pages limit faults well first a b) where
  one_kept : (low high : ℕ) → 1 ≤ low → high ≤ (pages a).count → (root new : ℕ) → IsCopiedTree before (pages a) low high root new → IsCopiedTree before (pages b) low high root new
  one_kept low high some most zero new is = is
  one_kept low high some most (suc n) new is =
      tree_kept pages limit faults well (between low high) first a b start told kept (between_same pages limit faults well first a b kept low high some most)
      (root_family (suc n) (before.page (suc n))) new (old_entries before (suc n)) is

  pub copied_kept : (low high : ℕ) → 1 ≤ low → high ≤ (pages a).count → (rows : List SchemaRow) (roots : List ℕ)
      → AreCopied before (pages a) low high rows roots → AreCopied before (pages b) low high rows roots
  copied_kept low high some most [] [] are = are
  copied_kept low high some most [] (r ∷ roots) are = are
  copied_kept low high some most (row ∷ rows) [] are = are
  copied_kept low high some most (row ∷ rows) (root ∷ roots) (middle, less, here, later) =
      let behind : middle ≤ high = copied_ordered before (pages a) middle high rows roots later in
      (middle, less, one_kept low middle some (omega arith) row.root root here, copied_kept middle high (omega arith) most rows roots later)

-- ---- the rows as plans

abbrev values_by : List Datum → ℕ → ℕ → List Datum
values_by values zero new = values
values_by values (suc n) new = row_values new values

abbrev tree_by : Pages → ℕ → ℕ → ℕ → ℕ → Option OwnTree
tree_by before low middle zero new = None
tree_by before low middle (suc n) new = Some (record {
  root = new;
  family = root_family (suc n) (before.page (suc n));
  entries = old_entries before (suc n);
  own = between low middle;
})

abbrev plan_by : Pages → ℕ → ℕ → SchemaRow → ℕ → SchemaPlan
plan_by before low middle row new = record {
  entry = new_entry row new;
  values = values_by (values_of_payload row.payload) row.root new;
  tree = tree_by before low middle row.root new;
}

abbrev plans_of : (before pages : Pages) (low high : ℕ) (rows : List SchemaRow) (roots : List ℕ) → AreCopied before pages low high rows roots → List SchemaPlan
plans_of before pages low high [] [] at = []
plans_of before pages low high [] (r ∷ roots) are = []
plans_of before pages low high (row ∷ rows) [] are = []
plans_of before pages low high (row ∷ rows) (root ∷ roots) (middle, less, here, later) =
    plan_by before low middle row root ∷ plans_of before pages middle high rows roots later

plans_entries : (before pages : Pages) (low high : ℕ) (rows : List SchemaRow) (roots : List ℕ) (are : AreCopied before pages low high rows roots)
    → map plan_entry (plans_of before pages low high rows roots are) ≡ new_entries rows roots
plans_entries before pages low high [] [] at = refl
plans_entries before pages low high [] (r ∷ roots) are = refl
plans_entries before pages low high (row ∷ rows) [] are = refl
plans_entries before pages low high (row ∷ rows) (root ∷ roots) (middle, less, here, later) =
    ap (λ l. new_entry row root ∷ l) (plans_entries before pages middle high rows roots later)

named_root : (values : List Datum) (root : ℕ) → 5 ≤ length values → 2 ≤ root → root_of (row_values root values) ≡ at_page (pos root)
named_root [] root long low = absurd (omega arith)
named_root (a ∷ []) root long low = absurd (omega arith)
named_root (a ∷ (b ∷ [])) root long low = absurd (omega arith)
named_root (a ∷ (b ∷ (c ∷ []))) root long low = absurd (omega arith)
named_root (a ∷ (b ∷ (c ∷ (d ∷ [])))) root long low = absurd (omega arith)
named_root (a ∷ (b ∷ (c ∷ (d ∷ (e ∷ rest))))) root long low = root_is root low

pub sound_values : (before : Pages) (row : SchemaRow) (is : IsSoundRow before row) → is.values ≡ values_of_payload row.payload
sound_values before row is = sym (ap (λ (o : Option (List Datum)). unwrap_or o []) is.reads)

module _ (before pages : Pages) (some : 1 ≤ pages.count) where
  plan_is : (low middle : ℕ) (payload : List ℕ) (rowid : ℤ) (old new : ℕ) → 1 ≤ low → middle ≤ pages.count → columns payload ≡ Some (values_of_payload payload)
      → IsRooted before (values_of_payload payload) old → IsCopiedTree before pages low middle old new → IsRenamed payload old new
      → IsPlan pages (record {
        entry = record { rowid = Some rowid; payload = payload_with payload old new };
        values = values_by (values_of_payload payload) old new;
        tree = tree_by before low middle old new;
      })
  plan_is low middle payload rowid zero new least most reads rooted copied renamed = record { reads = reads; names = rooted }
  plan_is low middle payload rowid (suc n) new least most reads rooted copied (long, again) =
      let mine : between low middle new ≡ true = root_own pages (between low middle) (root_family (suc n) (before.page (suc n))) new (old_entries before (suc n)) copied in
      record {
        reads = again;
        names = record {
          named = named_root (values_of_payload payload) new long (low_of low middle new least mine);
          range = in_range low middle pages.count new least most mine;
          has = copied;
          records = rooted.records;
          within = λ m is. in_range low middle pages.count m least most is;
        };
      }

  part_in : (low middle high n : ℕ) → middle ≤ high → between low middle n ≡ true → between low high n ≡ true
  part_in low middle high n less is = grind arith

  rest_in : (low middle high n : ℕ) → low ≤ middle → between middle high n ≡ true → between low high n ≡ true
  rest_in low middle high n less is = grind arith

  or_none : (a b : Bool) → a ≡ false → b ≡ false → (a || b) ≡ false
  or_none a b p q = ap (λ c. c || b) p ∙ q

  -- the pages of a tree are among those that its row took
  own_part : (low middle old new n : ℕ) → own_pages (tree_by before low middle old new) n ≡ true → between low middle n ≡ true
  own_part low middle zero new n is = cc
  own_part low middle (suc k) new n is = is

  own_none : (low middle old new n : ℕ) → between low middle n ≡ false → own_pages (tree_by before low middle old new) n ≡ false
  own_none low middle zero new n is = refl
  own_none low middle (suc k) new n is = is

  are_plans : (low high : ℕ) (taken : Test) (rows : List SchemaRow) (roots : List ℕ) (are : AreCopied before pages low high rows roots) → 1 ≤ low → high ≤ pages.count
      → All (IsSoundRow before) rows → AreRenamed rows roots → ((n : ℕ) → between low high n ≡ true → taken n ≡ false)
      → ArePlans pages taken (plans_of before pages low high rows roots are)
  are_plans low high taken [] [] at least most sound renamed free = tt
  are_plans low high taken [] (r ∷ roots) are least most sound renamed free = tt
  are_plans low high taken (row ∷ rows) [] are least most sound renamed free = tt
  are_plans low high taken (row ∷ rows) (root ∷ roots) (middle, less, here, later) least most sound (now, rest) free =
      let known : IsSoundRow before row = All-head (IsSoundRow before) row rows sound in
      let same : known.values ≡ values_of_payload row.payload = sound_values before row known in
      let behind : middle ≤ high = copied_ordered before pages middle high rows roots later in (
        plan_is low middle row.payload row.rowid row.root root least (omega arith) (known.reads ∙ ap (λ v. Some v) same)
            (subst (λ v. IsRooted before v row.root) same known.rooted) here now,
        (λ n mine. free n (part_in low middle high n behind (own_part low middle row.root root n mine))),
        are_plans middle high (either (own_pages (tree_by before low middle row.root root)) taken) rows roots later (omega arith) most
            (All-tail (IsSoundRow before) row rows sound) rest
            (λ n is. or_none (own_pages (tree_by before low middle row.root root) n) (taken n) (own_none low middle row.root root n (later_apart low middle middle high n (omega arith) is))
            (free n (rest_in low middle high n less is))),
      )

-- ---- all numbers

none_between : (low high n : ℕ) → low ≡ high → between low high n ≡ false
none_between low high n same = grind (arith, same)

rest_between : (low middle high n : ℕ) → between low middle n ≡ false → between low high n ≡ true → between middle high n ≡ true
rest_between low middle high n other is = grind (arith, other, is)

left_over : (low middle high n : ℕ) → low ≡ 1 → (n == 1 || between middle high n) ≡ false → (nat_le 1 n && nat_le n high) ≡ true → between low middle n ≡ true
left_over low middle high n one other is = grind (arith, one, other, is)

-- a row took the numbers of its tree alone
own_all : (before pages : Pages) (low middle old new n : ℕ) → IsCopiedTree before pages low middle old new → between low middle n ≡ true
    → own_pages (tree_by before low middle old new) n ≡ true
own_all before pages low middle zero new n (none, same) is = let no : true ≡ false = sym is ∙ none_between low middle n same in cc
own_all before pages low middle (suc k) new n copied is = is

or_later : (a b : Bool) → b ≡ true → (a || b) ≡ true
or_later true b h = refl
or_later false b h = h

-- it is one of the row's tree, or of those behind it
by_row : (before pages : Pages) (low middle high old new n : ℕ) (more : Bool) → IsCopiedTree before pages low middle old new → between low high n ≡ true
    → (between middle high n ≡ true → more ≡ true) → (b : Bool) → between low middle n ≡ b → (own_pages (tree_by before low middle old new) n || more) ≡ true
by_row before pages low middle high old new n more copied is later true mine = ap (λ b. b || more) (own_all before pages low middle old new n copied mine)
by_row before pages low middle high old new n more copied is later false other =
    or_later (own_pages (tree_by before low middle old new) n) more (later (rest_between low middle high n other is))

-- each number between the counts is one of a tree
copied_full : (before pages : Pages) (low high : ℕ) (rows : List SchemaRow) (roots : List ℕ) (are : AreCopied before pages low high rows roots) (n : ℕ)
    → between low high n ≡ true → of_trees (plans_of before pages low high rows roots are) n ≡ true
copied_full before pages low high [] [] at n is = let no : true ≡ false = sym is ∙ none_between low high n at in cc
copied_full before pages low high [] (r ∷ roots) are n is = absurd are
copied_full before pages low high (row ∷ rows) [] are n is = absurd are
copied_full before pages low high (row ∷ rows) (root ∷ roots) (middle, less, here, later) n is =
    by_row before pages low middle high row.root root n (of_trees (plans_of before pages middle high rows roots later) n) here is
    (λ behind. copied_full before pages middle high rows roots later n behind) (between low middle n) refl

-- ---- the items

abbrev pub kept_item : Pages → SchemaRow → SchemaItem
kept_item before row = item_of before (record { rowid = Some row.rowid; payload = row.payload; page = 0 }) (columns row.payload)

module _ (before : Pages) (low middle : ℕ) (rowid : ℤ) (payload : List ℕ) (new : ℕ) where
  item_is : (old : ℕ) → columns payload ≡ Some (values_of_payload payload) → IsRooted before (values_of_payload payload) old → IsRenamed payload old new
      → plan_item (record {
        entry = record { rowid = Some rowid; payload = payload_with payload old new };
        values = values_by (values_of_payload payload) old new;
        tree = tree_by before low middle old new;
      })
      ≡ item_of before (record { rowid = Some rowid; payload = payload; page = 0 }) (columns payload)
  item_is zero reads rooted renamed =
      sym (ap (item_of before (record { rowid = Some rowid; payload = payload; page = 0 })) reads ∙ ap (item_with before rowid payload (values_of_payload payload)) rooted)
  item_is (suc n) reads rooted (long, again) =
      ap (λ others. with_tree rowid others (root_family (suc n) (before.page (suc n))) (old_entries before (suc n))) (row_values_rest new (values_of_payload payload) long)
      ∙ sym (ap (item_of before (record { rowid = Some rowid; payload = payload; page = 0 })) reads ∙ ap (item_with before rowid payload (values_of_payload payload)) rooted.named)

plans_items : (before pages : Pages) (low high : ℕ) (rows : List SchemaRow) (roots : List ℕ) (are : AreCopied before pages low high rows roots) → All (IsSoundRow before) rows
    → AreRenamed rows roots → map plan_item (plans_of before pages low high rows roots are) ≡ map (kept_item before) rows
plans_items before pages low high [] [] at sound renamed = refl
plans_items before pages low high [] (r ∷ roots) are sound renamed = absurd are
plans_items before pages low high (row ∷ rows) [] are sound renamed = absurd are
plans_items before pages low high (row ∷ rows) (root ∷ roots) (middle, less, here, later) sound (now, rest) =
    let known : IsSoundRow before row = All-head (IsSoundRow before) row rows sound in
    let same : known.values ≡ values_of_payload row.payload = sound_values before row known in
    cons_same
    (item_is before low middle row.rowid row.payload root row.root (known.reads ∙ ap (λ v. Some v) same) (subst (λ v. IsRooted before v row.root) same known.rooted) now)
    (plans_items before pages middle high rows roots later (All-tail (IsSoundRow before) row rows sound) rest)

-- ---- the whole

-- the trees stand on the numbers that were taken first, and the schema that names them on page 1 and those that were taken then
module _ (before first pages : Pages) (low : ℕ) (rows : List SchemaRow) (roots : List ℕ) (least : 1 ≤ low) (more : first.count ≤ pages.count)
    (are : AreCopied before pages low first.count rows roots) (sound : All (IsSoundRow before) rows) (renamed : AreRenamed rows roots)
    (has : HasTree (only (of_schema first pages) pages) Table 1 (new_entries rows roots)) where
  abbrev listed : List SchemaPlan
  listed = plans_of before pages low first.count rows roots are

  schema_is : IsSchemaTree pages (of_schema first pages) listed
  schema_is =
      let ordered : low ≤ first.count = copied_ordered before pages low first.count rows roots are in
      record {
        some = omega arith;
        within = λ n is other. schema_in first.count pages.count n (omega arith) is other;
        has = subst (HasTree (only (of_schema first pages) pages) Table 1) (sym (plans_entries before pages low first.count rows roots are)) has;
        rows = are_plans before pages (omega arith) low first.count (of_schema first pages) rows roots are least more sound renamed
            (λ n is. earlier_from_schema low first.count first.count pages.count n least (omega arith) is);
      }

  pub copied_holds : HoldsItems pages (map (kept_item before) rows)
  copied_holds =
      subst (HoldsItems pages) (plans_items before pages low first.count rows roots are sound renamed) (items_held pages (of_schema first pages) listed schema_is)

  -- where no number had been taken before, each was taken by one of them
  pub copied_tight : low ≡ 1 → AreAllPut pages → IsTightBehind pages
  copied_tight none put = tight_held pages (of_schema first pages) listed schema_is put (λ n is. by_schema n is (of_schema first pages n) refl)
    where
      by_schema : (n : ℕ) → is_page pages n ≡ true → (b : Bool) → of_schema first pages n ≡ b → (of_schema first pages n || of_trees listed n) ≡ true
      by_schema n is true of = ap (λ b. b || of_trees listed n) of
      by_schema n is false of =
          ap (λ b. b || of_trees listed n) of
          ∙ copied_full before pages low first.count rows roots are n (left_over low first.count pages.count n none of is)

-- a row's tree has no defect
pub rooted_sound : (before : Pages) (values : List Datum) (root : ℕ) → (root ≡ 0 → ⊥) → IsRooted before values root
    → is_sound (tree_walk before (root_family root (before.page root)) nothing root) ≡ true
rooted_sound before values zero some is = absurd (some refl)
rooted_sound before values (suc n) some is = is.sound
