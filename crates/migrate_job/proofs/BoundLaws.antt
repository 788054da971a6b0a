-- How many pages a copy takes at most, added up.
use Rattle.std.proofs.Common.{pos, ◌≡◌, ◌≤◌, ◌<◌, ◌+◌, ◌-◌, ◌*◌, ◌^◌, ◌%◌, ◌/◌, ◌==◌, ℕ, ℤ, zero, suc, Bool, true, false, List, [], ◌∷◌, Some, length, map, if◌then◌else◌, refl, ap, sym, subst, ◌∙◌, arith}
use Rattle.std.specs.Prelude.{max, nat_le, nat_lt, sum}
use Rattle.std.proofs.Math.Nat.{add-mul, mod-add-div', mod-lt, mul-le-mul_left, mul-le-mul_right}
use Rattle.std.specs.List.{All, range_with_len}
use Rattle.std.proofs.lemmas.Bool.Decides.{nat_tests}
use Rattle.std.proofs.lemmas.List.Elements.{All-head, All-tail}
use Rattle.std.proofs.lemmas.List.Sums.{sum_by-cons}
use Rattle.btree_page.specs.declared.kind.Family.TheVariants.{Table}
use Rattle.btree_page.specs.Payload.{fitted_local, least_local, local_len}
use Rattle.btree_model.specs.Content.{Content, Entry, alone, item_of, item_with, with_tree, without_fourth}
use Rattle.btree_model.specs.Schema.{at_page, root_of}
use Rattle.btree_model.specs.Tree.{root_family}
use Rattle.bulk_load.specs.Bound.{chain_pages}
use Rattle.bulk_load.specs.Count.{overflow_pages, pages_for}
use Rattle.bulk_load.specs.Own.{between}
use Rattle.bulk_load.proofs.TakenLemmas.{low_of, root_own}
use Rattle.db_format.specs.Pages.{Pages}
use Rattle.db_format.specs.Record.{columns}
use Rattle.db_format.specs.Row.{record_bytes}
use Rattle.db_format.specs.Value.{Datum}
use Rattle.schema_map.specs.declared.schema.SchemaRow.{SchemaRow}
use Rattle.migrate_job.specs.Bound.{item_pages, most_of, pages_at_most, schema_chain, with_root}
use Rattle.migrate_job.specs.Copied.{AreCopied, IsCopiedTree, IsRooted, IsSoundRow, new_entries, old_entries, payload_with, row_values, tree_most, values_of_payload}
use Rattle.migrate_job.proofs.CopiedLaws.{copied_ordered, kept_item, sound_values}
use Rattle.migrate_job.proofs.RowLaws.{row_values_kept}

-- ---- the most of some numbers

left_most : (x y : ℕ) → x ≤ max x y
left_most x y = omega arith

right_most : (x y z : ℕ) → x ≤ y → x ≤ max z y
right_most x y z less = omega arith

most_more : (f : ℕ → ℕ) (a n k : ℕ) → (a + 1 ≤ k → f k ≤ most_of (map f (range_with_len (a + 1) n))) → a ≤ k
    → f k ≤ most_of (map f (range_with_len a (suc n)))
most_more f a n k later low = by_test (nat_lt a k) refl
  where
    by_test : (b : Bool) → nat_lt a k ≡ b → f k ≤ max (f a) (most_of (map f (range_with_len (a + 1) n)))
    by_test true is =
        let above : a + 1 ≤ k = grind (arith, nat_tests, is) in
        right_most (f k) (most_of (map f (range_with_len (a + 1) n))) (f a) (later above)
    by_test false is =
        let same : a ≡ k = grind (arith, nat_tests, is, low) in
        subst (λ m. f m ≤ max (f a) (most_of (map f (range_with_len (a + 1) n)))) same (left_most (f a) (most_of (map f (range_with_len (a + 1) n))))

most_at : (f : ℕ → ℕ) (a n k : ℕ) → a ≤ k → k < a + n → f k ≤ most_of (map f (range_with_len a n))
most_at f a zero k low high = absurd (omega arith)
most_at f a (suc n) k low high = most_more f a n k (λ above. most_at f (a + 1) n k above (omega arith)) low

-- ---- the overflow pages of the new schema

pub sum_cons : (x : ℕ) (xs : List ℕ) → sum (x ∷ xs) ≡ x + sum xs
sum_cons x xs = sum_by-cons (λ n. n) x xs

five_columns : (values : List Datum) (root : ℤ) → root_of values ≡ at_page root → 5 ≤ length values
five_columns [] root is = cc
five_columns (a ∷ []) root is = cc
five_columns (a ∷ (b ∷ [])) root is = cc
five_columns (a ∷ (b ∷ (c ∷ []))) root is = cc
five_columns (a ∷ (b ∷ (c ∷ (d ∷ [])))) root is = cc
five_columns (a ∷ (b ∷ (c ∷ (d ∷ (e ∷ rest))))) root is = omega arith

module _ (before : Pages) (usable limit : ℕ) where
  row_fits : (rowid : ℤ) (payload : List ℕ) (old new : ℕ) → columns payload ≡ Some (values_of_payload payload) → IsRooted before (values_of_payload payload) old
      → ((old ≡ 0 → ⊥) → (2 ≤ new) × (new ≤ limit))
      → overflow_pages Table usable (length (payload_with payload old new))
      ≤ schema_chain usable limit (item_of before (record { rowid = Some rowid; payload = payload; page = 0 }) (columns payload))
  row_fits rowid payload zero new reads rooted within =
      let item : item_of before (record { rowid = Some rowid; payload = payload; page = 0 }) (columns payload) ≡ alone rowid payload =
      ap (item_of before (record { rowid = Some rowid; payload = payload; page = 0 })) reads ∙ ap (item_with before rowid payload (values_of_payload payload)) rooted in
      subst (λ i. overflow_pages Table usable (length payload) ≤ schema_chain usable limit i) (sym item) (omega arith)
  row_fits rowid payload (suc n) new reads rooted within =
      let values : List Datum = values_of_payload payload in
      let item : item_of before (record { rowid = Some rowid; payload = payload; page = 0 }) (columns payload)
      ≡ with_tree rowid (without_fourth values) (root_family (suc n) (before.page (suc n))) (old_entries before (suc n)) =
      ap (item_of before (record { rowid = Some rowid; payload = payload; page = 0 })) reads ∙ ap (item_with before rowid payload values) rooted.named in
      let range : (2 ≤ new) × (new ≤ limit) = within (λ none. absurd (omega (arith, none))) in
      let most : overflow_pages Table usable (length (record_bytes (with_root new (without_fourth values)))) ≤ schema_chain usable limit (with_tree rowid (without_fourth values) (root_family (suc n) (before.page (suc n))) (old_entries before (suc n))) =
      most_at (λ root. overflow_pages Table usable (length (record_bytes (with_root root (without_fourth values))))) 2 (limit - 1) new range.0 (omega (arith, range.1, range.0)) in
      subst (λ i. overflow_pages Table usable (length (record_bytes (row_values new values))) ≤ schema_chain usable limit i) (sym item)
      (subst (λ l. overflow_pages Table usable (length (record_bytes l)) ≤ schema_chain usable limit (with_tree rowid (without_fourth values) (root_family (suc n) (before.page (suc n))) (old_entries before (suc n))))
      (row_values_kept new values (five_columns values (pos (suc n)) rooted.named)) most)

  root_within : (pages : Pages) (low middle old new : ℕ) → 1 ≤ low → middle ≤ limit → IsCopiedTree before pages low middle old new → (old ≡ 0 → ⊥) → (2 ≤ new) × (new ≤ limit)
  root_within pages low middle zero new least most copied some = absurd (some refl)
  root_within pages low middle (suc n) new least most copied some =
      let mine : between low middle new ≡ true = root_own pages (between low middle) (root_family (suc n) (before.page (suc n))) new (old_entries before (suc n)) copied in
      (low_of low middle new least mine, high_of low middle new mine most)
    where
      high_of : (a b m : ℕ) → between a b m ≡ true → b ≤ limit → m ≤ limit
      high_of a b m is less = grind arith

  -- beside its pages the new schema takes no more overflow pages than this
  pub chains_fit : (pages : Pages) (low high : ℕ) (rows : List SchemaRow) (roots : List ℕ) → AreCopied before pages low high rows roots → 1 ≤ low → high ≤ limit
      → All (IsSoundRow before) rows
      → chain_pages Table usable (new_entries rows roots) ≤ sum (map (schema_chain usable limit) (map (kept_item before) rows))
  chains_fit pages low high [] [] at least most sound = omega arith
  chains_fit pages low high [] (r ∷ roots) are least most sound = absurd are
  chains_fit pages low high (row ∷ rows) [] are least most sound = absurd are
  chains_fit pages low high (row ∷ rows) (root ∷ roots) (middle, less, here, later) least most sound =
      let known : IsSoundRow before row = All-head (IsSoundRow before) row rows sound in
      let same : known.values ≡ values_of_payload row.payload = sound_values before row known in
      let behind : middle ≤ high = copied_ordered before pages middle high rows roots later in
      let one : ℕ = overflow_pages Table usable (length (payload_with row.payload row.root root)) in
      let first : one ≤ schema_chain usable limit (kept_item before row) =
      row_fits row.rowid row.payload row.root root (known.reads ∙ ap (λ v. Some v) same) (subst (λ v. IsRooted before v row.root) same known.rooted)
      (root_within pages low middle row.root root least (omega arith) here) in
      let others : chain_pages Table usable (new_entries rows roots) ≤ sum (map (schema_chain usable limit) (map (kept_item before) rows)) =
      chains_fit pages middle high rows roots later (omega arith) most (All-tail (IsSoundRow before) row rows sound) in
      let left : chain_pages Table usable (new_entries (row ∷ rows) (root ∷ roots)) ≡ one + chain_pages Table usable (new_entries rows roots) =
      sum_cons one (map (λ (e : Entry). overflow_pages Table usable (length e.payload)) (new_entries rows roots)) in
      let right : sum (map (schema_chain usable limit) (map (kept_item before) (row ∷ rows))) ≡ schema_chain usable limit (kept_item before row) + sum (map (schema_chain usable limit) (map (kept_item before) rows)) =
      sum_cons (schema_chain usable limit (kept_item before row)) (map (schema_chain usable limit) (map (kept_item before) rows)) in
      omega (arith, first, others, left, right)

-- ---- the pages of the new trees

module _ (before : Pages) (usable : ℕ) where
  row_pages : (rowid : ℤ) (payload : List ℕ) (old : ℕ) → columns payload ≡ Some (values_of_payload payload) → IsRooted before (values_of_payload payload) old
      → tree_most before usable old ≡ item_pages usable (item_of before (record { rowid = Some rowid; payload = payload; page = 0 }) (columns payload))
  row_pages rowid payload zero reads rooted =
      sym (ap (λ i. item_pages usable i)
      (ap (item_of before (record { rowid = Some rowid; payload = payload; page = 0 })) reads ∙ ap (item_with before rowid payload (values_of_payload payload)) rooted))
  row_pages rowid payload (suc n) reads rooted =
      sym (ap (λ i. item_pages usable i)
      (ap (item_of before (record { rowid = Some rowid; payload = payload; page = 0 })) reads ∙ ap (item_with before rowid payload (values_of_payload payload)) rooted.named))

  -- they are those of the content's items
  pub trees_sum : (rows : List SchemaRow) → All (IsSoundRow before) rows
      → sum (map (λ row. tree_most before usable row.root) rows) ≡ sum (map (item_pages usable) (map (kept_item before) rows))
  trees_sum [] sound = refl
  trees_sum (row ∷ rows) sound =
      let known : IsSoundRow before row = All-head (IsSoundRow before) row rows sound in
      let same : known.values ≡ values_of_payload row.payload = sound_values before row known in
      sum_cons (tree_most before usable row.root) (map (λ (r : SchemaRow). tree_most before usable r.root) rows)
      ∙ ap (λ k. k + sum (map (λ (r : SchemaRow). tree_most before usable r.root) rows))
      (row_pages row.rowid row.payload row.root (known.reads ∙ ap (λ v. Some v) same) (subst (λ v. IsRooted before v row.root) same known.rooted))
      ∙ ap (λ k. item_pages usable (kept_item before row) + k) (trees_sum rows (All-tail (IsSoundRow before) row rows sound))
      ∙ sym (sum_cons (item_pages usable (kept_item before row)) (map (item_pages usable) (map (kept_item before) rows)))

-- ---- a row that is longer than a payload may be

covered_by : (k size bytes quotient rest : ℕ) → rest + quotient * size ≡ bytes → rest < size → k ≡ quotient + (if rest == 0 then 0 else 1) → bytes ≤ k * size
covered_by k size bytes quotient zero whole less is =
    let same : k ≡ quotient = is ∙ (omega arith) in
    subst (λ n. bytes ≤ n * size) (sym same) (omega (arith, whole))
covered_by k size bytes quotient (suc r) whole less is =
    let some : (suc r == 0) ≡ false = grind arith in
    let more : k ≡ quotient + 1 = is ∙ ap (λ b. quotient + (if b then 0 else 1)) some in
    let wide : (quotient + 1) * size ≡ quotient * size + 1 * size = add-mul quotient 1 size in
    subst (λ n. bytes ≤ n * size) (sym more) (omega (arith, whole, less, wide))

pages_cover : (size bytes : ℕ) → 1 ≤ size → bytes ≤ pages_for size bytes * size
pages_cover size bytes some =
    covered_by (pages_for size bytes) size bytes (bytes / size) (bytes % size) (mod-add-div' bytes size) (mod-lt bytes some) refl

most_is : (usable : ℕ) → 480 ≤ usable → usable ≤ 65536 → least_local usable ≤ usable - 35
most_is usable low high = omega arith

local_below : (usable len : ℕ) → 480 ≤ usable → usable ≤ 65536 → local_len Table usable len ≤ usable - 35
local_below usable len low high = by_first (nat_le len (usable - 35)) refl
  where
    by_second : (b : Bool) → nat_le (fitted_local usable len) (usable - 35) ≡ b → (if b then fitted_local usable len else least_local usable) ≤ usable - 35
    by_second true is = grind (arith, nat_tests, is)
    by_second false is = most_is usable low high

    by_first : (b : Bool) → nat_le len (usable - 35) ≡ b
        → (if b then len else (if nat_le (fitted_local usable len) (usable - 35) then fitted_local usable len else least_local usable)) ≤ usable - 35
    by_first true is = grind (arith, nat_tests, is)
    by_first false is = by_second (nat_le (fitted_local usable len) (usable - 35)) refl

-- its overflow pages alone are about as many as there may be pages at all
pub too_long : (usable limit len : ℕ) → 480 ≤ usable → usable ≤ 65536 → limit * usable ≤ 2 ^ 30 → 2 ^ 30 < len → limit < overflow_pages Table usable len + 2
too_long usable limit len low high room long = by_test (nat_lt limit (k + 2)) refl
  where
    k : ℕ
    k = overflow_pages Table usable len

    by_test : (b : Bool) → nat_lt limit (k + 2) ≡ b → limit < k + 2
    by_test true is = grind (arith, nat_tests, is)
    by_test false is =
        let more : k + 2 ≤ limit = grind (arith, nat_tests, is) in
        let local : local_len Table usable len ≤ usable - 35 = local_below usable len low high in
        let cover : len - local_len Table usable len ≤ k * (usable - 4) = pages_cover (usable - 4) (len - local_len Table usable len) (omega arith) in
        let wide : (k + 2) * usable ≤ limit * usable = mul-le-mul_right usable more in
        let parts : (k + 2) * usable ≡ k * usable + 2 * usable = add-mul k 2 usable in
        let less : k * (usable - 4) ≤ k * usable = mul-le-mul_left k (omega arith) in
        absurd (omega (arith, local, cover, wide, parts, less, room, long))

-- ---- the whole

-- as many pages as were asked for are no more than a file of this content has
pub asked_few : (usable limit trees chains : ℕ) (held : Content) → trees ≤ sum (map (item_pages usable) held.rows) → chains ≤ sum (map (schema_chain usable limit) held.rows)
    → limit + 1 ≤ 1 + trees + (2 * length held.rows + 1 + chains) → limit < pages_at_most usable limit held
asked_few usable limit trees chains held few some asked = omega (arith, few, some, asked)
