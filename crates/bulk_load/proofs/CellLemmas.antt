-- Entries and keys as cells.
use Rattle.std.proofs.Common.{◌≡◌, ◌≤◌, ◌<◌, ◌+◌, ◌-◌, ◌^◌, ◌==◌, ℕ, ℤ, inl, inr, Bool, true, false, List, [], ◌++◌, length, take, drop, None, if◌then◌else◌, refl, ap, sym, subst, ◌∙◌, arith, length-append, length-drop}
use Rattle.std.specs.Prelude.{nat_le, FitsSigned}
use Rattle.std.specs.Int.{w64, cast_unsigned}
use Rattle.std.proofs.lemmas.Bool.{cases_lt}
use Rattle.std.proofs.lemmas.List.{length-take-le}
use Rattle.db_format.specs.Varint.{varint_bytes, varint_size}
use Rattle.db_format.proofs.VarintLemmas.{length-varint_bytes, varint_size-shortest, varint_size-most}
use Rattle.btree_page.specs.declared.kind.Family.{Family}
use Rattle.btree_page.specs.declared.kind.Family.TheVariants.{Table, Index}
use Rattle.btree_page.specs.declared.kind.Kind.TheVariants.{IndexInterior, IndexLeaf, TableInterior, TableLeaf}
use Rattle.btree_page.specs.Cell.{StoredCell, table_leaf, table_interior, index_leaf, index_interior}
use Rattle.btree_page.specs.Payload.{local_len, max_payload, most_local}
use Rattle.btree_page.specs.Step.{divider, entry as cell}
use Rattle.page_build.specs.CellBytes.{IsStoredOn, cell_bytes, stored_bytes}
use Rattle.page_build.specs.Written.{IsCellWritten, four_bytes}
use Rattle.page_build.proofs.CellBack.{IsWritten-cell_bytes}
use Rattle.bulk_load.specs.declared.pair.Pair.{Pair}
use Rattle.bulk_load.specs.Bound.{cell_len}
use Rattle.bulk_load.specs.Cells.{row_len}
use Rattle.bulk_load.specs.Loader.{stored_as}
use Rattle.bulk_load.specs.Settle.{IsNamed, IsPair}

le_is : (a b : ℕ) → nat_le a b ≡ true → a ≤ b
le_is a b h = grind arith

not_le : (a b : ℕ) → nat_le a b ≡ false → b < a
not_le a b h = grind arith

not_zero : (n : ℕ) → 2 ≤ n → (n == 0) ≡ false
not_zero n h = grind arith

-- a payload whose chain begins at n, 0 where it has none
module _ (family : Family) (usable : ℕ) (payload : List ℕ) (k n : ℕ) (local : k ≡ local_len family usable (length payload)) where
  pub stored_is : (length payload ≤ k → n ≡ 0) → record { size = length payload; local = take k payload; first = n } ≡ stored_as family usable payload n
  stored_is none = by_case (nat_le (length payload) k) refl
    where
      by_case : (b : Bool) → nat_le (length payload) k ≡ b → record { size = length payload; local = take k payload; first = n } ≡ stored_as family usable payload n
      by_case true whole =
          ap (λ f. record { size = length payload; local = take k payload; first = f })
          (none (le_is (length payload) k whole) ∙ sym (ap (λ b. if b then 0 else n) whole))
          ∙ ap (λ j. record { size = length payload; local = take j payload; first = if nat_le (length payload) j then 0 else n }) local
      by_case false part =
          ap (λ f. record { size = length payload; local = take k payload; first = f }) (sym (ap (λ b. if b then 0 else n) part))
          ∙ ap (λ j. record { size = length payload; local = take j payload; first = if nat_le (length payload) j then 0 else n }) local

  pub stored_on : k ≤ length payload → length payload ≤ max_payload → (k < length payload → 2 ≤ n) → IsStoredOn family usable (stored_as family usable payload n)
  stored_on most few some =
      let long : length (take k payload) ≡ k = length-take-le k payload most in
      subst (λ j. IsStoredOn family usable (record { size = length payload; local = take j payload; first = if nat_le (length payload) j then 0 else n })) local
      (record { size = few; local = long ∙ local; whole = by_case (nat_le (length payload) k) refl ∙ ap (nat_le (length payload)) (sym long) })
    where
      by_case : (b : Bool) → nat_le (length payload) k ≡ b → ((if nat_le (length payload) k then 0 else n) == 0) ≡ nat_le (length payload) k
      by_case true whole = ap (λ b. (if b then 0 else n) == 0) whole ∙ sym whole
      by_case false part = ap (λ b. (if b then 0 else n) == 0) part ∙ not_zero n (some (not_le (length payload) k part)) ∙ sym part

-- an entry on its way to a leaf
pub entry_is : (usable : ℕ) (stored : StoredCell) (pair : Pair) → IsStoredOn Index usable stored → pair.child ≡ 0
    → pair.cell.items ≡ cell_bytes (index_interior 0 stored) → IsPair pair IndexLeaf usable (cell None stored)
entry_is usable stored pair on none is =
    let rest : drop 4 pair.cell.items ≡ varint_bytes stored.size ++ stored_bytes stored = ap (drop 4) is in
    record {
      may = refl;
      names = is ∙ ap (λ l. four_bytes 0 ++ l) (sym rest) ∙ ap (λ m. four_bytes m ++ drop 4 pair.cell.items) (sym none);
      here = λ n. subst (λ l. IsCellWritten IndexLeaf usable l (index_leaf stored)) (sym rest) (IsWritten-cell_bytes usable (index_leaf stored) on tt);
      up = λ n.
          subst (λ l. IsCellWritten IndexInterior usable (four_bytes n ++ l) (index_interior n stored)) (sym rest)
          (IsWritten-cell_bytes usable (index_interior n stored) on tt);
    }

-- a key behind a leaf that was put
pub key_is : (usable child : ℕ) (key : ℤ) (pair : Pair) → FitsSigned w64 key → pair.child ≡ child
    → pair.cell.items ≡ cell_bytes (table_interior child key) → IsPair pair TableInterior usable (divider key)
key_is usable child key pair fits named is =
    let rest : drop 4 pair.cell.items ≡ varint_bytes (cast_unsigned w64 key) = ap (drop 4) is in
    let written : (n : ℕ) → IsCellWritten TableInterior usable (four_bytes n ++ drop 4 pair.cell.items) (table_interior n key) =
    λ n. subst (λ l. IsCellWritten TableInterior usable (four_bytes n ++ l) (table_interior n key)) (sym rest)
    (IsWritten-cell_bytes usable (table_interior n key) tt fits) in
    record {
      may = refl;
      names = is ∙ ap (λ l. four_bytes child ++ l) (sym rest) ∙ ap (λ m. four_bytes m ++ drop 4 pair.cell.items) (sym named);
      here = written;
      up = written;
    }

-- ---- how long the cells between children are

-- the length of a payload takes five bytes at most
size_len : (n : ℕ) → n ≤ max_payload → varint_size n ≤ 5
size_len n few =
    elim (cases_lt 5 (varint_size n)) [
      | inl more ↦ let least : 128 ^ 5 ≤ n = varint_size-shortest n 5 (omega arith) more in absurd (omega arith)
      | inr most ↦ most
    ]

length-stored : (stored : StoredCell) → length (stored_bytes stored) ≤ length stored.local + 4
length-stored stored = by_case (stored.first == 0)
  where
    by_case : (b : Bool) → length (stored.local ++ (if b then [] else four_bytes stored.first)) ≤ length stored.local + 4
    by_case true = let e : length (stored.local ++ []) ≡ length stored.local + 0 = length-append stored.local [] in omega arith
    by_case false = let e : length (stored.local ++ four_bytes stored.first) ≡ length stored.local + 4 = length-append stored.local (four_bytes stored.first) in omega arith

-- an entry of an index
pub entry_named : (usable : ℕ) (pair : Pair) (stored : StoredCell) → 480 ≤ usable → stored.size ≤ max_payload → length stored.local ≤ most_local Index usable
    → pair.cell.items ≡ cell_bytes (index_interior 0 stored) → IsNamed usable pair
entry_named usable pair stored large few most is =
    let whole : length pair.cell.items ≡ 4 + length (varint_bytes stored.size ++ stored_bytes stored) = ap length is ∙ length-append (four_bytes 0) (varint_bytes stored.size ++ stored_bytes stored) in
    let rest : length (varint_bytes stored.size ++ stored_bytes stored) ≡ length (varint_bytes stored.size) + length (stored_bytes stored) = length-append (varint_bytes stored.size) (stored_bytes stored) in
    let size : length (varint_bytes stored.size) ≡ varint_size stored.size = length-varint_bytes stored.size in
    let five : varint_size stored.size ≤ 5 = size_len stored.size few in
    let bytes : length (stored_bytes stored) ≤ length stored.local + 4 = length-stored stored in
    record { least = omega arith; short = omega arith }

-- a key of a table
pub key_named : (usable child : ℕ) (key : ℤ) (pair : Pair) → 480 ≤ usable → pair.cell.items ≡ cell_bytes (table_interior child key) → IsNamed usable pair
key_named usable child key pair large is =
    let whole : length pair.cell.items ≡ 4 + length (varint_bytes (cast_unsigned w64 key)) = ap length is ∙ length-append (four_bytes child) (varint_bytes (cast_unsigned w64 key)) in
    let size : length (varint_bytes (cast_unsigned w64 key)) ≡ varint_size (cast_unsigned w64 key) = length-varint_bytes (cast_unsigned w64 key) in
    let nine : varint_size (cast_unsigned w64 key) ≤ 9 = varint_size-most (cast_unsigned w64 key) in
    record { least = omega arith; short = omega arith }

-- ---- how long the cell of a row is

pub length-row : (usable : ℕ) (rowid : ℤ) (stored : StoredCell) → IsStoredOn Table usable stored
    → length (cell_bytes (table_leaf rowid stored)) ≡ row_len stored.size rowid (length stored.local)
length-row usable rowid stored on =
    length-append (varint_bytes stored.size) (varint_bytes (cast_unsigned w64 rowid) ++ stored_bytes stored)
    ∙ ap (λ n. n + length (varint_bytes (cast_unsigned w64 rowid) ++ stored_bytes stored)) (length-varint_bytes stored.size)
    ∙ ap (λ n. varint_size stored.size + n)
    (length-append (varint_bytes (cast_unsigned w64 rowid)) (stored_bytes stored)
    ∙ ap (λ n. n + length (stored_bytes stored)) (length-varint_bytes (cast_unsigned w64 rowid))
    ∙ ap (λ n. varint_size (cast_unsigned w64 rowid) + n)
    (length-append stored.local (if stored.first == 0 then [] else four_bytes stored.first)
    ∙ ap (λ n. length stored.local + n) (by_case (stored.first == 0) ∙ ap (λ b. if b then 0 else 4) on.whole)))
  where
    by_case : (b : Bool) → length (if b then [] else four_bytes stored.first) ≡ (if b then 0 else 4)
    by_case true = refl
    by_case false = refl

-- it fits an empty leaf
pub row_len-most : (usable length local : ℕ) (rowid : ℤ) → 480 ≤ usable → length ≤ max_payload → local ≤ usable - 35 → row_len length rowid local + 17 ≤ usable
row_len-most usable length local rowid least few most =
    let a : varint_size length ≤ 5 = size_len length few in
    let b : varint_size (cast_unsigned w64 rowid) ≤ 9 = varint_size-most (cast_unsigned w64 rowid) in
    let c : (if nat_le length local then 0 else 4) ≤ 4 = by_case (nat_le length local) in
    omega arith
  where
    by_case : (b : Bool) → (if b then 0 else 4) ≤ 4
    by_case true = omega arith
    by_case false = omega arith

-- the cell of a row, whose chain begins at n
pub record IsRow (usable : ℕ) (payload raw : List ℕ) (k n : ℕ) (r : ℤ) : Type 0 where
  pub long : length raw ≡ row_len (length payload) r k
  pub written : IsCellWritten TableLeaf usable raw (table_leaf r (stored_as Table usable payload n))

pub row_is : (usable : ℕ) (payload raw rest : List ℕ) (k n : ℕ) (r q : ℤ) → k ≡ local_len Table usable (length payload) → k ≤ length payload
    → length payload ≤ max_payload → FitsSigned w64 r → q ≡ r → rest ≡ drop k payload → (length rest ≡ 0 → n ≡ 0) → (1 ≤ length rest → 2 ≤ n)
    → raw ≡ cell_bytes (table_leaf q (record { size = length payload; local = take k payload; first = n })) → IsRow usable payload raw k n r
row_is usable payload raw rest k n r q local most few fits same all none some is =
    let left : length rest ≡ length payload - k = ap length all ∙ length-drop k payload in
    let stored : StoredCell = stored_as Table usable payload n in
    let shown : record { size = length payload; local = take k payload; first = n } ≡ stored =
    stored_is Table usable payload k n local (λ whole. none (omega arith)) in
    let on : IsStoredOn Table usable stored = stored_on Table usable payload k n local most few (λ part. some (omega arith)) in
    let bytes : raw ≡ cell_bytes (table_leaf r stored) = is ∙ ap (λ t. cell_bytes (table_leaf t (record { size = length payload; local = take k payload; first = n }))) same
    ∙ ap (λ s. cell_bytes (table_leaf r s)) shown in
    record {
      long = ap length bytes ∙ length-row usable r stored on ∙ ap (row_len (length payload) r) (on.local ∙ sym local);
      written = subst (λ l. IsCellWritten TableLeaf usable l (table_leaf r stored)) (sym bytes) (IsWritten-cell_bytes usable (table_leaf r stored) on fits);
    }

-- and the pair of an entry
pub pair_is : (usable : ℕ) (payload rest : List ℕ) (k n : ℕ) (pair : Pair) → k ≡ local_len Index usable (length payload) → k ≤ length payload
    → length payload ≤ max_payload → rest ≡ drop k payload → (length rest ≡ 0 → n ≡ 0) → (1 ≤ length rest → 2 ≤ n) → pair.child ≡ 0
    → pair.cell.items ≡ cell_bytes (index_interior 0 (record { size = length payload; local = take k payload; first = n }))
    → IsPair pair IndexLeaf usable (cell None (stored_as Index usable payload n))
pair_is usable payload rest k n pair local most few all none some child is =
    let left : length rest ≡ length payload - k = ap length all ∙ length-drop k payload in
    let stored : StoredCell = stored_as Index usable payload n in
    let shown : record { size = length payload; local = take k payload; first = n } ≡ stored =
    stored_is Index usable payload k n local (λ whole. none (omega arith)) in
    let on : IsStoredOn Index usable stored = stored_on Index usable payload k n local most few (λ part. some (omega arith)) in
    entry_is usable stored pair on child (is ∙ ap (λ s. cell_bytes (index_interior 0 s)) shown)

pub key_most : (child : ℕ) (key : ℤ) (pair : Pair) → pair.cell.items ≡ cell_bytes (table_interior child key) → length pair.cell.items ≤ 13
key_most child key pair is =
    let whole : length pair.cell.items ≡ 4 + length (varint_bytes (cast_unsigned w64 key)) = ap length is ∙ length-append (four_bytes child) (varint_bytes (cast_unsigned w64 key)) in
    let size : length (varint_bytes (cast_unsigned w64 key)) ≡ varint_size (cast_unsigned w64 key) = length-varint_bytes (cast_unsigned w64 key) in
    let nine : varint_size (cast_unsigned w64 key) ≤ 9 = varint_size-most (cast_unsigned w64 key) in
    omega arith

-- how long the pair of an entry is
length-entry : (usable : ℕ) (stored : StoredCell) → IsStoredOn Index usable stored
    → length (cell_bytes (index_interior 0 stored)) ≡ 4 + (varint_size stored.size + (length stored.local + (if nat_le stored.size (length stored.local) then 0 else 4)))
length-entry usable stored on =
    length-append (four_bytes 0) (varint_bytes stored.size ++ stored_bytes stored)
    ∙ ap (λ n. 4 + n)
    (length-append (varint_bytes stored.size) (stored_bytes stored)
    ∙ ap (λ n. n + length (stored_bytes stored)) (length-varint_bytes stored.size)
    ∙ ap (λ n. varint_size stored.size + n)
    (length-append stored.local (if stored.first == 0 then [] else four_bytes stored.first)
    ∙ ap (λ n. length stored.local + n) (by_case (stored.first == 0) ∙ ap (λ b. if b then 0 else 4) on.whole)))
  where
    by_case : (b : Bool) → length (if b then [] else four_bytes stored.first) ≡ (if b then 0 else 4)
    by_case true = refl
    by_case false = refl

pub pair_len : (usable : ℕ) (payload rest : List ℕ) (k n : ℕ) (pair : Pair) → k ≡ local_len Index usable (length payload) → k ≤ length payload
    → length payload ≤ max_payload → rest ≡ drop k payload → (length rest ≡ 0 → n ≡ 0) → (1 ≤ length rest → 2 ≤ n)
    → pair.cell.items ≡ cell_bytes (index_interior 0 (record { size = length payload; local = take k payload; first = n }))
    → length pair.cell.items ≡ 4 + cell_len Index usable (record { rowid = None; payload = payload })
pair_len usable payload rest k n pair local most few all none some is =
    let left : length rest ≡ length payload - k = ap length all ∙ length-drop k payload in
    let stored : StoredCell = stored_as Index usable payload n in
    let shown : record { size = length payload; local = take k payload; first = n } ≡ stored =
    stored_is Index usable payload k n local (λ whole. none (omega arith)) in
    let on : IsStoredOn Index usable stored = stored_on Index usable payload k n local most few (λ part. some (omega arith)) in
    ap length is ∙ ap (λ s. length (cell_bytes (index_interior 0 s))) shown ∙ length-entry usable stored on
    ∙ ap (λ j. 4 + (varint_size (length payload) + (j + (if nat_le (length payload) j then 0 else 4)))) on.local
    ∙ ap (λ m. 4 + (varint_size (length payload) + m)) (zero (local_len Index usable (length payload) + (if nat_le (length payload) (local_len Index usable (length payload)) then 0 else 4)))
  where
    zero : (m : ℕ) → m ≡ 0 + m
    zero m = omega arith
