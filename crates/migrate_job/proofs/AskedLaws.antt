-- What the pages that were asked for say of the content that is copied.
use Rattle.std.proofs.Common.{◌≡◌, Some, ◌≤◌, ◌<◌, ◌+◌, ◌*◌, ◌^◌, ◌∙◌, inl, inr, ℕ, zero, suc, Bool, true, false, List, [], ◌∷◌, ◌++◌, length, map, take, drop, refl, ap, sym, subst, arith}
use Rattle.std.specs.Prelude.{◌⊎◌, nat_lt, slice_index_or, sum}
use Rattle.std.specs.List.{All}
use Rattle.std.proofs.Math.Nat.{div-mul-le_self, mul-le-mul_left}
use Rattle.std.proofs.lemmas.Bool.Decides.{nat_tests}
use Rattle.std.proofs.lemmas.List.{length-map, map-append, take-append-drop, take_more}
use Rattle.std.proofs.lemmas.List.Sums.{sum_by-append}
use Rattle.btree_model.specs.Content.{Entry, content}
use Rattle.btree_model.specs.Finding.{entries}
use Rattle.btree_model.specs.Parts.{is_database}
use Rattle.btree_model.specs.Tree.{root_family}
use Rattle.btree_page.specs.declared.kind.Family.TheVariants.{Table}
use Rattle.bulk_load.specs.Bound.{chain_pages}
use Rattle.bulk_load.specs.Count.{overflow_pages}
use Rattle.bulk_load.specs.Few.{load_pages}
use Rattle.bulk_load.specs.Out.{Faults}
use Rattle.bulk_load.specs.declared.error.LoadError.TheVariants.{RowidOrder, Out, OutOfMemory as NoRoomToLoad, TooDeep}
use Rattle.bulk_load.specs.declared.out.OutError.TheVariants.{TooManyPages as NoNumber, DiskFault as NotWritten, EntropyFault as NotDrawn}
use Rattle.cipher_profile.specs.Profile.{IsListed, usable}
use Rattle.cipher_profile.specs.declared.profile.Profile.{Profile}
use Rattle.cipher_profile.proofs.Layouts.{IsListed-laid_out}
use Rattle.db_format.specs.Pages.{IsUsable, Pages}
use Rattle.fresh_file.specs.State.{most_pages}
use Rattle.schema_map.specs.Census.{schema_after}
use Rattle.schema_map.specs.Schema.{schema_row}
use Rattle.schema_map.specs.declared.schema.SchemaRow.{SchemaRow}
use Rattle.migrate_job.specs.Bound.{item_pages, pages_at_most, schema_chain}
use Rattle.migrate_job.specs.Copied.{AreCopied, HasLongRow, HasRowsCause, IsSoundRow, new_entries, old_entries, rows_error, tree_most, trees_most}
use Rattle.migrate_job.specs.declared.error.MigrateError.TheVariants.{TooManyPages}
use Rattle.migrate_job.specs.declared.rows.RowsError.{RowsError}
use Rattle.migrate_job.specs.declared.rows.RowsError.TheVariants.{TooLong, Load}
use Rattle.migrate_job.proofs.BoundLaws.{asked_few, chains_fit, sum_cons, too_long, trees_sum}
use Rattle.migrate_job.proofs.CopiedLaws.{kept_item}
use Rattle.migrate_job.proofs.SoundRows.{items_kept, rows_sound}

-- ---- the trees of the first rows

-- a tree that is there
pub most_there : (before : Pages) (usable root : ℕ) → (root ≡ 0 → ⊥) → load_pages (root_family root (before.page root)) usable (old_entries before root) ≡ tree_most before usable root
most_there before usable zero some = absurd (some refl)
most_there before usable (suc n) some = refl

module _ (before : Pages) (usable : ℕ) where
  most_joined : (rows more : List SchemaRow) → trees_most before usable (rows ++ more) ≡ trees_most before usable rows + trees_most before usable more
  most_joined rows more =
      ap (λ l. sum l) (map-append (λ (row : SchemaRow). tree_most before usable row.root) rows more)
      ∙ sum_by-append (λ n. n) (map (λ (row : SchemaRow). tree_most before usable row.root) rows) (map (λ (row : SchemaRow). tree_most before usable row.root) more)

  -- one tree more
  pub most_more : (rows : List SchemaRow) (n : ℕ) (other : SchemaRow) → n < length rows
      → trees_most before usable (take (n + 1) rows) ≡ trees_most before usable (take n rows) + tree_most before usable (slice_index_or rows n other).root
  most_more rows n other less =
      let row : SchemaRow = slice_index_or rows n other in
      let one : trees_most before usable (row ∷ []) ≡ tree_most before usable row.root = omega arith in
      ap (λ l. trees_most before usable l) (take_more rows n other less) ∙ most_joined (take n rows) (row ∷ []) ∙ ap (λ k. trees_most before usable (take n rows) + k) one

  -- the first rows' trees are some of all
  pub most_of_first : (rows : List SchemaRow) (n : ℕ) → trees_most before usable (take n rows) ≤ trees_most before usable rows
  most_of_first rows n =
      let parts : trees_most before usable (take n rows) + trees_most before usable (drop n rows) ≡ trees_most before usable rows =
      sym (most_joined (take n rows) (drop n rows)) ∙ ap (λ l. trees_most before usable l) (take-append-drop n rows) in
      omega (arith, parts)

-- ---- the schema

entries_few : (rows : List SchemaRow) (roots : List ℕ) → length (new_entries rows roots) ≤ length rows
entries_few [] roots = omega arith
entries_few (row ∷ rows) [] = omega arith
entries_few (row ∷ rows) (root ∷ roots) = omega (arith, entries_few rows roots)

load_few : (usable : ℕ) (list : List Entry) → load_pages Table usable list ≤ 2 * length list + 1 + chain_pages Table usable list
load_few usable list = omega arith

-- the overflow pages of one entry are some of all
chain_of_one : (usable : ℕ) (earlier : List Entry) (entry : Entry) (later : List Entry)
    → overflow_pages Table usable (length entry.payload) ≤ chain_pages Table usable (earlier ++ entry ∷ later)
chain_of_one usable earlier entry later =
    let chain = λ (e : Entry). overflow_pages Table usable (length e.payload) in
    let parts : chain_pages Table usable (earlier ++ entry ∷ later) ≡ sum (map chain earlier) + sum (map chain (entry ∷ later)) =
    ap (λ l. sum l) (map-append chain earlier (entry ∷ later)) ∙ sum_by-append (λ n. n) (map chain earlier) (map chain (entry ∷ later)) in
    let first : sum (map chain (entry ∷ later)) ≡ chain entry + sum (map chain later) = sum_cons (chain entry) (map chain later) in
    omega (arith, parts, first)

-- a file of so many pages has no more than 2^30 bytes of content
pub room_of : (profile : Profile) → most_pages profile * usable profile ≤ 2 ^ 30
room_of profile =
    let all : most_pages profile * profile.page_size ≤ 2 ^ 30 = div-mul-le_self (2 ^ 30) profile.page_size in
    let less : most_pages profile * usable profile ≤ most_pages profile * profile.page_size = mul-le-mul_left (most_pages profile) (omega arith) in
    omega (arith, all, less)

pub listed_usable : (profile : Profile) → IsListed profile → IsUsable (usable profile)
listed_usable profile listed =
    let laid_out = IsListed-laid_out profile listed in
    record { least = laid_out.content; most = omega (arith, laid_out.most) }

-- why the schema was not loaded, where a limit is named
pub schema_refused : {S : Type 0} (pages : S → Pages) (limit : S → ℕ) (faults : S → Faults) (old new : S) (long : Type 0) (from load most l : ℕ) (error : RowsError)
    → (pages old).count ≡ from + 1 → rows_error most error ≡ Some (TooManyPages l) → HasRowsCause pages limit faults old new error → (error ≡ TooLong → long)
    → ((n : ℕ) → error ≡ Load (Out (NoNumber n)) → (pages new).count + 1 ≤ (pages old).count + load) → long ⊎ (limit old ≤ from + load)
schema_refused pages limit faults old new long from load most l TooLong starts is cause too asked = inl (too refl)
schema_refused pages limit faults old new long from load most l (Load RowidOrder) starts is cause too asked = cc
schema_refused pages limit faults old new long from load most l (Load (Out (NoNumber n))) starts is cause too asked = inr (omega (arith, starts, cause.1, asked n refl))
schema_refused pages limit faults old new long from load most l (Load (Out NotWritten)) starts is cause too asked = cc
schema_refused pages limit faults old new long from load most l (Load (Out NotDrawn)) starts is cause too asked = cc
schema_refused pages limit faults old new long from load most l (Load NoRoomToLoad) starts is cause too asked = cc
schema_refused pages limit faults old new long from load most l (Load TooDeep) starts is cause too asked = cc

-- ---- the whole

module _ (before : Pages) (usable limit : ℕ) (sound : is_database before ≡ true) (rows : List SchemaRow) (are : rows ≡ map schema_row (entries (schema_after before))) where
  known : All (IsSoundRow before) rows
  known = rows_sound before sound rows are

  items : map (kept_item before) rows ≡ (content before).rows
  items = items_kept before sound rows are

  trees_are : trees_most before usable rows ≡ sum (map (item_pages usable) (content before).rows)
  trees_are = trees_sum before usable rows known ∙ ap (λ l. sum (map (item_pages usable) l)) items

  -- the trees asked for as many
  pub trees_asked : limit ≤ trees_most before usable rows → limit < pages_at_most usable limit (content before)
  trees_asked asked =
      asked_few usable limit (trees_most before usable rows) 0 (content before) (omega (arith, trees_are)) (omega arith) (omega (arith, asked))

  module _ (pages : Pages) (low taken : ℕ) (roots : List ℕ) (copied : AreCopied before pages low (taken + 1) rows roots) (least : 1 ≤ low) (trees : taken ≤ trees_most before usable rows) where
    few_within : taken + 1 ≤ limit → limit + 1 ≤ 1 + taken + (2 * length rows + 1 + chain_pages Table usable (new_entries rows roots)) → limit < pages_at_most usable limit (content before)
    few_within within asked =
        let chains : chain_pages Table usable (new_entries rows roots) ≤ sum (map (schema_chain usable limit) (content before).rows) =
        subst (λ l. chain_pages Table usable (new_entries rows roots) ≤ sum (map (schema_chain usable limit) l)) items (chains_fit before usable limit pages low (taken + 1) rows roots copied least within known) in
        let count : length rows ≡ length (content before).rows = sym (length-map rows (kept_item before)) ∙ ap (λ l. length l) items in
        asked_few usable limit (trees_most before usable rows) (chain_pages Table usable (new_entries rows roots)) (content before) (omega (arith, trees_are)) chains (omega (arith, asked, trees, count))

    -- the schema asked for as many, or one of its rows would be too long
    pub schema_asked : IsUsable usable → limit * usable ≤ 2 ^ 30
        → HasLongRow rows roots ⊎ (limit ≤ taken + load_pages Table usable (new_entries rows roots)) → limit < pages_at_most usable limit (content before)
    schema_asked size room why = by_test (nat_lt taken limit) refl why
      where
        by_test : (b : Bool) → nat_lt taken limit ≡ b → HasLongRow rows roots ⊎ (limit ≤ taken + load_pages Table usable (new_entries rows roots)) → limit < pages_at_most usable limit (content before)
        by_test false is why = trees_asked (grind (arith, nat_tests, is, trees))
        by_test true is (inl long) =
            let one : limit < overflow_pages Table usable (length long.entry.payload) + 2 = too_long usable limit (length long.entry.payload) size.least size.most room long.long in
            let some : overflow_pages Table usable (length long.entry.payload) ≤ chain_pages Table usable (new_entries rows roots) =
            subst (λ l. overflow_pages Table usable (length long.entry.payload) ≤ chain_pages Table usable l) (sym long.parts) (chain_of_one usable long.earlier long.entry long.later) in
            few_within (grind (arith, nat_tests, is)) (omega (arith, one, some))
        by_test true is (inr asked) =
            let most : load_pages Table usable (new_entries rows roots) ≤ 2 * length (new_entries rows roots) + 1 + chain_pages Table usable (new_entries rows roots) = load_few usable (new_entries rows roots) in
            let few : length (new_entries rows roots) ≤ length rows = entries_few rows roots in
            few_within (grind (arith, nat_tests, is)) (omega (arith, asked, most, few))
