-- A cell that was written is read back.
use Rattle.std.proofs.Common.{◌≡◌, ◌≤◌, ◌<◌, ◌^◌, ◌==◌, ◌∙◌, ℕ, ℤ, ◌+◌, Bool, true, false, List, [], ◌++◌, length, take, drop, Option, Some, None, if◌then◌else◌, arith, refl, sym, ap, length-append}
use Rattle.std.specs.Prelude.{nat_le, FitsSigned}
use Rattle.std.specs.Option.{option_and_then, option_map}
use Rattle.std.specs.Int.{w64, cast_signed, cast_unsigned}
use Rattle.std.proofs.lemmas.Bool.{eqb-true}
use Rattle.std.proofs.lemmas.Int.{to_z-of_z}
use Rattle.std.proofs.lemmas.List.{append_assoc, append-nil}
use Rattle.std.proofs.Math.Seq.{drop-append_seam}
use mir.ValLaws.{of_z_fits}
use Rattle.db_format.specs.Bytes.{u32_at}
use Rattle.db_format.specs.Varint.{varint_bytes, varint_size}
use Rattle.db_format.proofs.VarintLemmas.{length-varint_bytes, varint-varint_bytes}
use Rattle.btree_page.specs.declared.kind.Family.{Family}
use Rattle.btree_page.specs.declared.kind.Family.TheVariants.{Table, Index}
use Rattle.btree_page.specs.Cell.{Cell, StoredCell, cell_of, childed, keyed, sized, stored_of, table_leaf, table_interior, index_leaf, index_interior}
use Rattle.btree_page.specs.Payload.{max_payload}
use Rattle.page_build.specs.CellBytes.{IsFor, IsRanged, IsStoredOn, cell_bytes, kind_of_cell, stored_bytes}
use Rattle.page_build.specs.Written.{IsCellWritten, four_bytes}
use Rattle.page_build.proofs.Append.{four_back, take_front, u32_after}

if_then : {A : Type 0} (b : Bool) (x y : A) → b ≡ true → (if b then x else y) ≡ x
if_then true x y h = refl
if_then false x y h = cc

if_else : {A : Type 0} (b : Bool) (x y : A) → b ≡ false → (if b then x else y) ≡ y
if_else true x y h = cc
if_else false x y h = refl

le_true : (a b : ℕ) → a ≤ b → nat_le a b ≡ true
le_true a b h = grind arith

-- what follows a varint
past_varint : (number : ℕ) (rest : List ℕ) → drop (varint_size number) (varint_bytes number ++ rest) ≡ rest
past_varint number rest =
    ap (λ n. drop n (varint_bytes number ++ rest)) (sym (length-varint_bytes number)) ∙ drop-append_seam (varint_bytes number) rest

sized_back : (size : ℕ) (rest : List ℕ) → size ≤ max_payload → sized (varint_bytes size ++ rest) ≡ Some (size, rest)
sized_back size rest most =
    ap (option_and_then (λ v. if nat_le v.0 max_payload then Some (v.0, drop v.1 (varint_bytes size ++ rest)) else None))
    (varint-varint_bytes size rest (omega arith))
    ∙ if_then (nat_le size max_payload) (Some (size, drop (varint_size size) (varint_bytes size ++ rest))) None (le_true size max_payload most)
    ∙ ap (λ l. Some (size, l)) (past_varint size rest)

keyed_back : (key : ℤ) (rest : List ℕ) → FitsSigned w64 key → keyed (varint_bytes (cast_unsigned w64 key) ++ rest) ≡ Some (key, rest)
keyed_back key rest fits =
    let small : cast_unsigned w64 key < 2 ^ 64 = (of_z_fits w64 key fits).fits in
    ap (option_map (λ v. (cast_signed w64 v.0, drop v.1 (varint_bytes (cast_unsigned w64 key) ++ rest))))
    (varint-varint_bytes (cast_unsigned w64 key) rest small)
    ∙ ap (λ l. Some (cast_signed w64 (cast_unsigned w64 key), l)) (past_varint (cast_unsigned w64 key) rest)
    ∙ ap (λ k. Some (k, rest)) (to_z-of_z w64 key fits)

childed_back : (n : ℕ) (rest : List ℕ) → childed (four_bytes n ++ rest) ≡ Some (n, rest)
childed_back n rest =
    let bytes : List ℕ = four_bytes n ++ rest in
    if_then (nat_le 4 (length bytes)) (Some (u32_at bytes 0, drop 4 bytes)) None (le_true 4 (length bytes) (omega arith))
    ∙ ap (λ k. Some (k, rest)) (four_back n rest)

module _ (family : Family) (usable : ℕ) (stored : StoredCell) (is : IsStoredOn family usable stored) (rest : List ℕ) where
  abbrev many : ℕ
  many = length stored.local

  abbrev got : ℕ → List ℕ → Option StoredCell
  got local bytes =
      if nat_le stored.size local
      then (if nat_le local (length bytes) then Some (record { size = stored.size; local = take local bytes; first = 0 }) else None)
      else (if nat_le (local + 4) (length bytes) then Some (record { size = stored.size; local = take local bytes; first = u32_at bytes local }) else None)

  -- it is whole
  whole_back : nat_le stored.size many ≡ true → got many ((stored.local ++ []) ++ rest) ≡ Some stored
  whole_back all =
      let none : stored.first ≡ 0 = eqb-true stored.first 0 (is.whole ∙ all) in
      let bytes : List ℕ = (stored.local ++ []) ++ rest in
      let same : bytes ≡ stored.local ++ rest = ap (λ l. l ++ rest) (append-nil stored.local) in
      let long : length bytes ≡ many + length rest = ap length same ∙ length-append stored.local rest in
      if_then (nat_le stored.size many) (if nat_le many (length bytes) then Some (record { size = stored.size; local = take many bytes; first = 0 }) else None)
      (if nat_le (many + 4) (length bytes) then Some (record { size = stored.size; local = take many bytes; first = u32_at bytes many }) else None) all
      ∙ if_then (nat_le many (length bytes)) (Some (record { size = stored.size; local = take many bytes; first = 0 })) None (le_true many (length bytes) (omega arith))
      ∙ ap (λ l. Some (record { size = stored.size; local = take many l; first = 0 })) same
      ∙ ap (λ l. Some (record { size = stored.size; local = l; first = 0 })) (take_front stored.local rest)
      ∙ ap (λ f. Some (record { size = stored.size; local = stored.local; first = f })) (sym none)

  -- it goes on
  part_back : nat_le stored.size many ≡ false → got many ((stored.local ++ four_bytes stored.first) ++ rest) ≡ Some stored
  part_back part =
      let bytes : List ℕ = (stored.local ++ four_bytes stored.first) ++ rest in
      let same : bytes ≡ stored.local ++ (four_bytes stored.first ++ rest) = append_assoc stored.local (four_bytes stored.first) rest in
      let long : length bytes ≡ many + length (four_bytes stored.first ++ rest) = ap length same ∙ length-append stored.local (four_bytes stored.first ++ rest) in
      if_else (nat_le stored.size many) (if nat_le many (length bytes) then Some (record { size = stored.size; local = take many bytes; first = 0 }) else None)
      (if nat_le (many + 4) (length bytes) then Some (record { size = stored.size; local = take many bytes; first = u32_at bytes many }) else None) part
      ∙ if_then (nat_le (many + 4) (length bytes)) (Some (record { size = stored.size; local = take many bytes; first = u32_at bytes many })) None
      (le_true (many + 4) (length bytes) (omega arith))
      ∙ ap (λ l. Some (record { size = stored.size; local = take many l; first = u32_at l many })) same
      ∙ ap (λ l. Some (record { size = stored.size; local = l; first = u32_at (stored.local ++ (four_bytes stored.first ++ rest)) many }))
      (take_front stored.local (four_bytes stored.first ++ rest))
      ∙ ap (λ f. Some (record { size = stored.size; local = stored.local; first = f }))
      (u32_after stored.local (four_bytes stored.first ++ rest) many 0 (omega arith) ∙ four_back stored.first rest)

  stored_back : stored_of family usable stored.size (stored_bytes stored ++ rest) ≡ Some stored
  stored_back =
      ap (λ n. got n (stored_bytes stored ++ rest)) (sym is.local) ∙ by_cases (nat_le stored.size many) refl
    where
      by_cases : (b : Bool) → nat_le stored.size many ≡ b → got many (stored_bytes stored ++ rest) ≡ Some stored
      by_cases true all =
          ap (λ l. got many ((stored.local ++ l) ++ rest)) (if_then (stored.first == 0) [] (four_bytes stored.first) (is.whole ∙ all)) ∙ whole_back all
      by_cases false part =
          ap (λ l. got many ((stored.local ++ l) ++ rest)) (if_else (stored.first == 0) [] (four_bytes stored.first) (is.whole ∙ part)) ∙ part_back part

-- as the kind of its pages has it
cell_back : (usable : ℕ) (cell : Cell) → IsFor usable cell → IsRanged cell → (rest : List ℕ)
    → cell_of (kind_of_cell cell) usable (cell_bytes cell ++ rest) ≡ Some cell
cell_back usable (table_leaf rowid stored) is ranged rest =
    let tail : List ℕ = stored_bytes stored ++ rest in
    let parts : (varint_bytes stored.size ++ (varint_bytes (cast_unsigned w64 rowid) ++ stored_bytes stored)) ++ rest
    ≡ varint_bytes stored.size ++ (varint_bytes (cast_unsigned w64 rowid) ++ tail) = simp append_assoc refl in
    ap (λ l. option_and_then (λ size. option_and_then (λ key. option_map (λ s. table_leaf key.0 s) (stored_of Table usable size.0 key.1)) (keyed size.1)) (sized l)) parts
    ∙ ap (λ o. option_and_then (λ size. option_and_then (λ key. option_map (λ s. table_leaf key.0 s) (stored_of Table usable size.0 key.1)) (keyed size.1)) o)
    (sized_back stored.size (varint_bytes (cast_unsigned w64 rowid) ++ tail) is.size)
    ∙ ap (λ o. option_and_then (λ key. option_map (λ s. table_leaf key.0 s) (stored_of Table usable stored.size key.1)) o) (keyed_back rowid tail ranged)
    ∙ ap (option_map (λ s. table_leaf rowid s)) (stored_back Table usable stored is rest)
cell_back usable (table_interior left key) is ranged rest =
    let tail : List ℕ = varint_bytes (cast_unsigned w64 key) ++ rest in
    ap (λ l. option_and_then (λ left. option_map (λ key. table_interior left.0 key.0) (keyed left.1)) (childed l)) (append_assoc (four_bytes left) (varint_bytes (cast_unsigned w64 key)) rest)
    ∙ ap (λ o. option_and_then (λ left. option_map (λ key. table_interior left.0 key.0) (keyed left.1)) o) (childed_back left tail)
    ∙ ap (option_map (λ k. table_interior left k.0)) (keyed_back key rest ranged)
cell_back usable (index_leaf stored) is ranged rest =
    ap (λ l. option_and_then (λ size. option_map (λ s. index_leaf s) (stored_of Index usable size.0 size.1)) (sized l)) (append_assoc (varint_bytes stored.size) (stored_bytes stored) rest)
    ∙ ap (λ o. option_and_then (λ size. option_map (λ s. index_leaf s) (stored_of Index usable size.0 size.1)) o) (sized_back stored.size (stored_bytes stored ++ rest) is.size)
    ∙ ap (option_map (λ s. index_leaf s)) (stored_back Index usable stored is rest)
cell_back usable (index_interior left stored) is ranged rest =
    let tail : List ℕ = stored_bytes stored ++ rest in
    let parts : (four_bytes left ++ (varint_bytes stored.size ++ stored_bytes stored)) ++ rest ≡ four_bytes left ++ (varint_bytes stored.size ++ tail) = simp append_assoc refl in
    ap (λ l. option_and_then (λ left. option_and_then (λ size. option_map (λ s. index_interior left.0 s) (stored_of Index usable size.0 size.1)) (sized left.1)) (childed l)) parts
    ∙ ap (λ o. option_and_then (λ left. option_and_then (λ size. option_map (λ s. index_interior left.0 s) (stored_of Index usable size.0 size.1)) (sized left.1)) o)
    (childed_back left (varint_bytes stored.size ++ tail))
    ∙ ap (λ o. option_and_then (λ size. option_map (λ s. index_interior left s) (stored_of Index usable size.0 size.1)) o) (sized_back stored.size tail is.size)
    ∙ ap (option_map (λ s. index_interior left s)) (stored_back Index usable stored is rest)

pub IsWritten-cell_bytes : (usable : ℕ) (cell : Cell) → IsFor usable cell → IsRanged cell → IsCellWritten (kind_of_cell cell) usable (cell_bytes cell) cell
IsWritten-cell_bytes usable cell is ranged = record { reads = cell_back usable cell is ranged }
