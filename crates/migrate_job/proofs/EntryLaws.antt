-- The rows of the new schema, one after another.
use Rattle.std.proofs.Common.{◌≡◌, ◌≤◌, ◌<◌, ◌+◌, ℕ, zero, suc, List, [], ◌∷◌, ◌++◌, Some, drop, length, take, refl, ap, sym, subst, ◌∙◌, arith}
use Rattle.std.specs.Prelude.{slice_index_or}
use Rattle.std.proofs.lemmas.List.{append_assoc, length-take-le, take_all, take_more}
use Rattle.btree_page.specs.Payload.{max_payload}
use Rattle.btree_page.specs.declared.kind.Family.TheVariants.{Table}
use Rattle.btree_model.specs.Content.{Entry}
use Rattle.bulk_load.specs.Few.{load_pages}
use Rattle.bulk_load.proofs.FewLemmas.{load_pages-more}
use Rattle.db_format.specs.Record.{columns}
use Rattle.db_format.specs.Row.{record_bytes}
use Rattle.migrate_job.specs.Copied.{AreRenamed, HasLongRow, IsRenamed, new_entries, new_entry, payload_with, row_values, values_of_payload}
use Rattle.schema_map.specs.declared.schema.SchemaRow.{SchemaRow}

-- a row without a tree stays
pub payload_stays : (payload : List ℕ) (old new : ℕ) → old ≡ 0 → payload ≡ payload_with payload old new
payload_stays payload zero new none = refl
payload_stays payload (suc n) new none = absurd (omega arith)

-- and any other is written anew
pub payload_named : (payload : List ℕ) (old new : ℕ) → (old ≡ 0 → ⊥) → record_bytes (row_values new (values_of_payload payload)) ≡ payload_with payload old new
payload_named payload zero new some = absurd (some refl)
payload_named payload (suc n) new some = refl

pub entries_push : (rows : List SchemaRow) (roots : List ℕ) (row : SchemaRow) (root : ℕ) → length roots ≡ length rows
    → new_entries (rows ++ row ∷ []) (roots ++ root ∷ []) ≡ new_entries rows roots ++ new_entry row root ∷ []
entries_push [] [] row root same = refl
entries_push [] (r ∷ roots) row root same = absurd (omega arith)
entries_push (first ∷ rows) [] row root same = absurd (omega arith)
entries_push (first ∷ rows) (r ∷ roots) row root same = ap (λ l. new_entry first r ∷ l) (entries_push rows roots row root (omega arith))

-- one row more of those that come first
pub entries_more : (i : ℕ) (rows : List SchemaRow) (roots : List ℕ) (row : SchemaRow) (root d : ℕ) → i < length rows → i < length roots
    → row ≡ slice_index_or rows i row → root ≡ slice_index_or roots i d
    → new_entries (take i rows) (take i roots) ++ new_entry row root ∷ [] ≡ new_entries (take (i + 1) rows) (take (i + 1) roots)
entries_more i rows roots row root d here there is named =
    sym (ap (λ l. new_entries l (take (i + 1) roots)) (take_more rows i row here ∙ ap (λ r. take i rows ++ r ∷ []) (sym is))
    ∙ ap (λ l. new_entries (take i rows ++ row ∷ []) l) (take_more roots i d there ∙ ap (λ r. take i roots ++ r ∷ []) (sym named))
    ∙ entries_push (take i rows) (take i roots) row root (len i roots there ∙ sym (len i rows here)))
  where
    len : {X : Type 0} (n : ℕ) (xs : List X) → n < length xs → length (take n xs) ≡ n
    len n xs less = length-take-le n xs (omega arith)

-- and all of them
pub entries_whole : (n : ℕ) (rows : List SchemaRow) (roots : List ℕ) → n ≡ length rows → length roots ≡ length rows
    → new_entries (take n rows) (take n roots) ≡ new_entries rows roots
entries_whole n rows roots whole same =
    ap (λ l. new_entries l (take n roots)) (take_all n rows (omega arith)) ∙ ap (new_entries rows) (take_all n roots (omega arith))

-- those that come first, and the others
pub entries_split : (n : ℕ) (rows : List SchemaRow) (roots : List ℕ) → new_entries (take n rows) (take n roots) ++ new_entries (drop n rows) (drop n roots) ≡ new_entries rows roots
entries_split zero rows roots = refl
entries_split (suc n) [] roots = refl
entries_split (suc n) (row ∷ rows) [] = none (drop n rows)
  where
    none : (more : List SchemaRow) → new_entries more [] ≡ []
    none [] = refl
    none (r ∷ more) = refl
entries_split (suc n) (row ∷ rows) (root ∷ roots) = ap (λ l. new_entry row root ∷ l) (entries_split n rows roots)

-- what the first rows ask for is within the pages of all
pub asked_of_all : (usable n most from : ℕ) (rows : List SchemaRow) (roots : List ℕ) → 1 ≤ usable
    → most ≤ from + load_pages Table usable (new_entries (take n rows) (take n roots)) → most ≤ from + load_pages Table usable (new_entries rows roots)
asked_of_all usable n most from rows roots some asked =
    let first : List Entry = new_entries (take n rows) (take n roots) in
    let more : load_pages Table usable first ≤ load_pages Table usable (new_entries rows roots) =
    subst (λ l. load_pages Table usable first ≤ load_pages Table usable l) (entries_split n rows roots)
    (load_pages-more Table usable first (new_entries (drop n rows) (drop n roots)) some) in
    omega (arith, asked, more)

-- a row that is too long
pub long_row : (i : ℕ) (rows : List SchemaRow) (roots : List ℕ) (row : SchemaRow) (root d : ℕ) → i < length rows → i < length roots
    → row ≡ slice_index_or rows i row → root ≡ slice_index_or roots i d → max_payload < length (payload_with row.payload row.root root) → HasLongRow rows roots
long_row i rows roots row root d here there is named long =
    let front : List Entry = new_entries (take i rows) (take i roots) in
    let rest : List Entry = new_entries (drop (i + 1) rows) (drop (i + 1) roots) in
    record {
      earlier = front;
      entry = new_entry row root;
      later = rest;
      parts = sym (entries_split (i + 1) rows roots) ∙ ap (λ l. l ++ rest) (sym (entries_more i rows roots row root d here there is named))
          ∙ append_assoc front (new_entry row root ∷ []) rest;
      long = long;
    }

-- ---- the rows that were written anew

pub renamed_none : (payload : List ℕ) (old new : ℕ) → old ≡ 0 → IsRenamed payload old new
renamed_none payload zero new none = tt
renamed_none payload (suc n) new none = absurd (omega arith)

pub renamed_some : (payload : List ℕ) (old new : ℕ) (row : List ℕ) → (old ≡ 0 → ⊥) → 5 ≤ length (values_of_payload payload)
    → row ≡ record_bytes (row_values new (values_of_payload payload)) → columns row ≡ Some (row_values new (values_of_payload payload)) → IsRenamed payload old new
renamed_some payload zero new row some long is reads = absurd (some refl)
renamed_some payload (suc n) new row some long is reads = (long, ap columns (sym is) ∙ reads)

renamed_push : (rows : List SchemaRow) (roots : List ℕ) (row : SchemaRow) (root : ℕ) → length roots ≡ length rows → AreRenamed rows roots
    → IsRenamed row.payload row.root root → AreRenamed (rows ++ row ∷ []) (roots ++ root ∷ [])
renamed_push [] [] row root same are is = (is, tt)
renamed_push [] (r ∷ roots) row root same are is = absurd (omega arith)
renamed_push (first ∷ rows) [] row root same are is = absurd (omega arith)
renamed_push (first ∷ rows) (r ∷ roots) row root same (here, later) is = (here, renamed_push rows roots row root (omega arith) later is)

pub renamed_more : (i : ℕ) (rows : List SchemaRow) (roots : List ℕ) (row : SchemaRow) (root d : ℕ) → i < length rows → i < length roots
    → row ≡ slice_index_or rows i row → root ≡ slice_index_or roots i d → AreRenamed (take i rows) (take i roots) → IsRenamed row.payload row.root root
    → AreRenamed (take (i + 1) rows) (take (i + 1) roots)
renamed_more i rows roots row root d here there is named are this =
    subst (λ l. AreRenamed l (take (i + 1) roots)) (sym (take_more rows i row here ∙ ap (λ r. take i rows ++ r ∷ []) (sym is)))
    (subst (λ l. AreRenamed (take i rows ++ row ∷ []) l) (sym (take_more roots i d there ∙ ap (λ r. take i roots ++ r ∷ []) (sym named)))
    (renamed_push (take i rows) (take i roots) row root (len i roots there ∙ sym (len i rows here)) are this))
  where
    len : {X : Type 0} (n : ℕ) (xs : List X) → n < length xs → length (take n xs) ≡ n
    len n xs less = length-take-le n xs (omega arith)

pub renamed_whole : (n : ℕ) (rows : List SchemaRow) (roots : List ℕ) → n ≡ length rows → length roots ≡ length rows → AreRenamed (take n rows) (take n roots) → AreRenamed rows roots
renamed_whole n rows roots whole same are =
    subst (λ l. AreRenamed l roots) (take_all n rows (omega arith)) (subst (λ l. AreRenamed (take n rows) l) (take_all n roots (omega arith)) are)
