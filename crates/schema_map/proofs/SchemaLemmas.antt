-- The rows of the schema.
use Rattle.std.proofs.Common.{◌≡◌, ℕ, zero, suc, ◌+◌, ◌*◌, ◌^◌, ◌≤◌, pos, negsuc, Bool, true, false, List, [], ◌∷◌, ◌++◌, ◌==◌, map, length, Option, Some, None, Result, Ok, Err, MatchResult, IfOk, ℤ, if◌then◌else◌, inl, inr, arith, refl, ap, sym, subst, ◌∙◌}
use Rattle.std.specs.List.{Contains}
use Rattle.std.proofs.Math.Dec.{eqb-suc-zero}
use Rattle.std.proofs.lemmas.List.{append_assoc, append-nil, length-map}
use Rattle.std.proofs.lemmas.List.Elements.{Contains-append_left, Contains-append_right, Contains-append_cases}
use Rattle.db_format.specs.declared.defect.Defect.{Defect}
use Rattle.db_format.specs.declared.defect.Defect.TheVariants.{SchemaRow as SchemaFault, RootFault}
use Rattle.db_format.specs.Pages.{Pages, also}
use Rattle.db_format.specs.Seen.{marked, open_count}
use Rattle.db_format.specs.Record.{columns}
use Rattle.db_format.specs.Value.{Datum}
use Rattle.btree_model.specs.Range.{is_in_range}
use Rattle.btree_model.specs.Finding.{Row, Finding, fault, entries, faults, places, is_sound}
use Rattle.btree_model.specs.Records.{record_fault, record_faults}
use Rattle.btree_model.specs.Schema.{Root, no_column, no_tree, at_page, root_of, root_fault, numbers_of, roots, roots_of_row, rowid_or_0, schema_fault, schema_faults}
use Rattle.btree_model.proofs.FindingLemmas.{entries-append, faults-append}
use Rattle.space_map.proofs.TrunkLemmas.{range_high}
use Rattle.schema_map.specs.Root.{root_shown, root_number, number_of}
use Rattle.schema_map.specs.declared.root.RootPage.TheVariants.{Missing, NoTree, At, OutOfRange}
use Rattle.btree_walk.specs.declared.error.WalkError.{WalkError}
use Rattle.btree_walk.specs.declared.error.WalkError.TheVariants.{Defect as Found, Source, OutOfMemory}
use Rattle.btree_walk.specs.Causes.{IsAmong, IsGivenBy, is_failure}
use Rattle.schema_map.specs.Schema.{IsKept, IsRowRead, IsSchema, schema_row, tree_roots}
use Rattle.schema_map.specs.declared.schema.SchemaRow.{SchemaRow}
use Rattle.schema_map.proofs.PartLemmas.{record_found, part_is}

-- records and rows of the schema give no entries
pub record_entries : (rows : List Row) → entries (record_faults rows) ≡ []
record_entries [] = refl
record_entries (row ∷ rows) = entries-append (record_fault row.page (columns row.payload)) (record_faults rows) ∙ ap (λ l. l ++ entries (record_faults rows)) (one row.page (columns row.payload)) ∙ record_entries rows
  where
    one : (n : ℕ) (read : Option (List Datum)) → entries (record_fault n read) ≡ []
    one n None = refl
    one n (Some values) = refl

pub part_entries : (found : List Finding) → entries (found ++ record_faults (entries found)) ≡ entries found
part_entries found = entries-append found (record_faults (entries found)) ∙ ap (λ l. entries found ++ l) (record_entries (entries found)) ∙ append-nil (entries found)

module _ (pages : Pages) where
  pub schema-append : (xs ys : List Row) → schema_faults pages (xs ++ ys) ≡ schema_faults pages xs ++ schema_faults pages ys
  schema-append [] ys = refl
  schema-append (row ∷ xs) ys =
      ap (λ l. schema_fault pages (rowid_or_0 row.rowid) (columns row.payload) ++ l) (schema-append xs ys)
      ∙ sym (append_assoc (schema_fault pages (rowid_or_0 row.rowid) (columns row.payload)) _ _)

  -- one row more, which is sound
  pub schema_on : (given : List Row) (row : Row) → schema_faults pages given ≡ [] → schema_fault pages (rowid_or_0 row.rowid) (columns row.payload) ≡ [] → schema_faults pages (given ++ row ∷ []) ≡ []
  schema_on given row good is =
      schema-append given (row ∷ []) ∙ ap (λ l. l ++ schema_faults pages (row ∷ [])) good
      ∙ append-nil (schema_fault pages (rowid_or_0 row.rowid) (columns row.payload)) ∙ is

  -- a defect of one row
  module _ (found : List Finding) (given more : List Row) (row : Row) (order : entries found ≡ given ++ row ∷ more) where
    part : List Finding
    part = found ++ record_faults (entries found)

    abbrev own : List Finding
    own = schema_fault pages (rowid_or_0 row.rowid) (columns row.payload)

    schema_found : (d : Defect) → Contains (faults own) d → Contains (faults (schema_faults pages (entries found))) d
    schema_found d here =
        subst (λ l. Contains (faults l) d) (sym (ap (schema_faults pages) order ∙ schema-append given (row ∷ more)))
        (subst (λ l. Contains l d) (sym (faults-append (schema_faults pages given) _))
        (Contains-append_right (faults (schema_faults pages given)) _ d
        (subst (λ l. Contains l d) (sym (faults-append own (schema_faults pages more)))
        (Contains-append_left (faults own) (faults (schema_faults pages more)) d here))))

    pub row_found : (d : Defect) → Contains (faults (record_fault row.page (columns row.payload) ++ own)) d
        → Contains (faults ((found ++ record_faults (entries found)) ++ schema_faults pages (entries (found ++ record_faults (entries found))))) d
    row_found d here =
        let both : Contains (faults (record_fault row.page (columns row.payload)) ++ faults own) d =
        subst (λ l. Contains l d) (faults-append (record_fault row.page (columns row.payload)) own) here
        in
        subst (λ rows. Contains (faults ((found ++ record_faults (entries found)) ++ schema_faults pages rows)) d) (sym (part_entries found))
        (subst (λ l. Contains l d) (sym (faults-append (found ++ record_faults (entries found)) (schema_faults pages (entries found))))
        (elim (Contains-append_cases (faults (record_fault row.page (columns row.payload))) (faults own) d both) [
          | inl h ↦ Contains-append_left (faults (found ++ record_faults (entries found))) _ d (record_found found given more row order d h)
          | inr h ↦ Contains-append_right (faults (found ++ record_faults (entries found))) _ d (schema_found d h)
        ]))

  -- what the code says of a root
  in_by : (b : Bool) (n m : ℕ) → At n ≡ (if b then At m else OutOfRange) → (b ≡ true) × (m ≡ n)
  in_by true n m h = (refl, cc)
  in_by false n m h = cc

  out_by : (b : Bool) (m : ℕ) → OutOfRange ≡ (if b then At m else OutOfRange) → b ≡ false
  out_by true m h = cc
  out_by false m h = refl

  not_missing : (b : Bool) (m : ℕ) → Missing ≡ (if b then At m else OutOfRange) → ⊥
  not_missing true m h = cc
  not_missing false m h = cc

  not_none : (b : Bool) (m : ℕ) → NoTree ≡ (if b then At m else OutOfRange) → ⊥
  not_none true m h = cc
  not_none false m h = cc

  pub shown_missing : (rowid : _) (root : Root) → Missing ≡ root_shown pages root → root_fault pages rowid root ≡ fault (SchemaFault rowid) ∷ []
  shown_missing rowid no_column h = refl
  shown_missing rowid no_tree h = cc
  shown_missing rowid (at_page (pos n)) h = absurd (not_missing (is_in_range pages n) n h)
  shown_missing rowid (at_page (negsuc n)) h = cc

  pub shown_out : (rowid : _) (root : Root) → OutOfRange ≡ root_shown pages root → root_fault pages rowid root ≡ fault (RootFault rowid) ∷ []
  shown_out rowid no_column h = cc
  shown_out rowid no_tree h = cc
  shown_out rowid (at_page (pos n)) h = rw (out_by (is_in_range pages n) n h) refl
  shown_out rowid (at_page (negsuc n)) h = refl

  pub shown_none : (rowid : _) (root : Root) → NoTree ≡ root_shown pages root → (root_fault pages rowid root ≡ []) × (root_number root ≡ 0)
  shown_none rowid no_column h = cc
  shown_none rowid no_tree h = (refl, refl)
  shown_none rowid (at_page (pos n)) h = absurd (not_none (is_in_range pages n) n h)
  shown_none rowid (at_page (negsuc n)) h = cc

  pub shown_at : (rowid : _) (root : Root) (n : ℕ) → At n ≡ root_shown pages root → (root_fault pages rowid root ≡ []) × (root_number root ≡ n) × (n ≤ pages.count)
  shown_at rowid no_column n h = cc
  shown_at rowid no_tree n h = cc
  shown_at rowid (at_page (pos m)) n h =
      let is : (is_in_range pages m ≡ true) × (m ≡ n) = in_by (is_in_range pages m) n m h in
      (rw is.0 refl, is.1, subst (λ k. k ≤ pages.count) is.1 (range_high pages m is.0))
  shown_at rowid (at_page (negsuc m)) n h = cc

  -- the roots of rows without a defect
  root_by : (rowid : _) (root : Root) → root_fault pages rowid root ≡ [] → (if root_number root == 0 then [] else root_number root ∷ []) ≡ numbers_of root
  root_by rowid no_column h = cc
  root_by rowid no_tree h = refl
  root_by rowid (at_page (pos zero)) h = cc
  root_by rowid (at_page (pos (suc n))) h = let some : (suc n == 0) ≡ false = eqb-suc-zero n in rw some refl
  root_by rowid (at_page (negsuc n)) h = cc

  row_root : (n : ℕ) (rowid : _) (read : Option (List Datum)) → record_fault n read ≡ [] → schema_fault pages rowid read ≡ []
      → (if number_of read == 0 then [] else number_of read ∷ []) ≡ roots_of_row read
  row_root n rowid None good rooted = cc
  row_root n rowid (Some values) good rooted = root_by rowid (root_of values) rooted

  nil_left : (xs ys : List Finding) → xs ++ ys ≡ [] → xs ≡ []
  nil_left [] ys h = refl
  nil_left (x ∷ xs) ys h = cc

  nil_right : (xs ys : List Finding) → xs ++ ys ≡ [] → ys ≡ []
  nil_right [] ys h = h
  nil_right (x ∷ xs) ys h = cc

  pub roots_kept : (given : List Row) → record_faults given ≡ [] → schema_faults pages given ≡ [] → tree_roots (map schema_row given) ≡ roots given
  roots_kept [] good rooted = refl
  roots_kept (row ∷ given) good rooted =
      ap (λ l. l ++ tree_roots (map schema_row given))
      (row_root row.page (rowid_or_0 row.rowid) (columns row.payload)
      (nil_left (record_fault row.page (columns row.payload)) (record_faults given) good)
      (nil_left (schema_fault pages (rowid_or_0 row.rowid) (columns row.payload)) (schema_faults pages given) rooted))
      ∙ ap (λ l. roots_of_row (columns row.payload) ++ l)
      (roots_kept given (nil_right (record_fault row.page (columns row.payload)) (record_faults given) good)
      (nil_right (schema_fault pages (rowid_or_0 row.rowid) (columns row.payload)) (schema_faults pages given) rooted))

-- what a row that was read is
module _ (pages : Pages) where
  pub row_fault : (n : ℕ) (rowid : ℤ) (payload : List ℕ) (values : List Datum) (d : Defect) → columns payload ≡ Some values → root_fault pages rowid (root_of values) ≡ fault d ∷ []
      → Contains (faults (record_fault n (columns payload) ++ schema_fault pages rowid (columns payload))) d
  row_fault n rowid payload values d is bad =
      subst (λ read. Contains (faults (record_fault n read ++ schema_fault pages rowid read)) d) (sym is)
      (subst (λ l. Contains (faults l) d) (sym bad) (0, omega arith, refl))

  pub row_kept : (row : Row) (root : ℕ) (values : List Datum) → columns row.payload ≡ Some values
      → (root_fault pages (rowid_or_0 row.rowid) (root_of values) ≡ []) × (root_number (root_of values) ≡ root)
      → IsKept pages row (record { rowid = rowid_or_0 row.rowid; root = root; payload = row.payload })
  row_kept row root values is good =
      record {
        recorded = ap (record_fault row.page) is;
        rooted = ap (schema_fault pages (rowid_or_0 row.rowid)) is ∙ good.0;
        is =
            ap (λ (n : ℕ). let kept : SchemaRow = record { rowid = rowid_or_0 row.rowid; root = n; payload = row.payload } in kept)
            (sym good.1 ∙ sym (ap number_of is));
      }

  pub read_by : {R : Type 0} (row : Row) (kept : SchemaRow) (result : Result SchemaRow (WalkError R)) → MatchResult result (λ got. got ≡ kept) (λ error. error ≡ OutOfMemory)
      → IsKept pages row kept → IsRowRead pages row result
  read_by row kept (Ok got) h is = subst (λ k. IsKept pages row k) (sym h) is
  read_by row kept (Err (Found d)) h is = cc
  read_by row kept (Err (Source r)) h is = cc
  read_by row kept (Err OutOfMemory) h is = tt

pub root_by_result : {R : Type 0} (kept : SchemaRow) (count : ℕ) (result : Result SchemaRow (WalkError R)) → MatchResult result (λ got. got ≡ kept) (λ error. error ≡ OutOfMemory)
    → kept.root ≤ count → IfOk result (λ row. row.root ≤ count)
root_by_result kept count (Ok got) h most = subst (λ (k : SchemaRow). k.root ≤ count) (sym h) most
root_by_result kept count (Err error) h most = tt

-- what stops the reading of a row is the row's own
module _ {R : Type 0} (pages : Pages) (row : Row) where
  pub row_given : {T : Type 0} (read : T → T → Type 0) (plain : T → Pages) (refuses : Pages → ℕ → R → Type 0) (before : T) (error : WalkError R)
      → IsRowRead pages row (Err error) → IsGivenBy read plain refuses before error
  row_given read plain refuses before (Found d) h = tt
  row_given read plain refuses before (Source r) h = absurd h
  row_given read plain refuses before OutOfMemory h = tt

  pub row_failure : (is_fault : R → Bool) (error : WalkError R) → IsRowRead pages row (Err error) → is_failure is_fault error ≡ true → ⊥
  row_failure is_fault (Found d) h failed = cc
  row_failure is_fault (Source r) h failed = h
  row_failure is_fault OutOfMemory h failed = cc

module _ (pages : Pages) (found : List Finding) (given more : List Row) (row : Row) (order : entries found ≡ given ++ row ∷ more) where
  pub row_stop : {R : Type 0} (refuses : Pages → ℕ → R → Type 0) (error : WalkError R) → IsRowRead pages row (Err error)
      → IsAmong refuses pages ((found ++ record_faults (entries found)) ++ schema_faults pages (entries (found ++ record_faults (entries found)))) error
  row_stop refuses (Found d) h = row_found pages found given more row order d h
  row_stop refuses (Source r) h = absurd h
  row_stop refuses OutOfMemory h = tt

-- the walk of the schema is at its end
pub schema_done : (pages : Pages) (found : List Finding) (given : List Row) (old new : List Bool) (rows : List SchemaRow) → is_sound found ≡ true → entries found ≡ given
    → record_faults given ≡ [] → schema_faults pages given ≡ [] → marked new ≡ also (places found) (marked old) → rows ≡ map schema_row given
    → length rows + 2 ^ 21 * open_count new ≤ 2 ^ 21 * open_count old
    → IsSchema ((found ++ record_faults (entries found)) ++ schema_faults pages (entries (found ++ record_faults (entries found)))) old new rows
schema_done pages found given old new rows sound whole good rooted marks kept few =
    let one : found ++ record_faults (entries found) ≡ found = part_is found given whole good in
    let all : (found ++ record_faults (entries found)) ++ schema_faults pages (entries (found ++ record_faults (entries found))) ≡ found =
    ap (λ l. l ++ schema_faults pages (entries l)) one ∙ ap (λ rows. found ++ schema_faults pages rows) whole ∙ ap (λ l. found ++ l) rooted ∙ append-nil found
    in
    subst (λ l. IsSchema l old new rows) (sym all)
    (record {
      part = record {
        sound = sound;
        marks = marks;
        count = ap length kept ∙ length-map given schema_row ∙ ap length (sym whole);
        few = few;
      };
      rows_are = kept ∙ ap (map schema_row) (sym whole);
      roots_are = ap tree_roots kept ∙ roots_kept pages given good rooted ∙ ap roots (sym whole);
    })
