-- Page 1 as a page of a tree: nothing of its first 100 bytes, where the header stands, counts.
use Rattle.std.proofs.Common.{◌≡◌, ℕ, ◌+◌, ◌-◌, ◌*◌, ◌/◌, ◌≤◌, Bool, true, false, ◌&&◌, nat_le, nat_lt, if◌then◌else◌, List, length, drop, get_or, map, Option, Some, None, Ok, Err, refl, sym, ◌∙◌, ap, arith, length-drop}
use Rattle.std.specs.Prelude.{is_none}
use Rattle.std.specs.List.{filter_map, position_or_len, range_with_len}
use Rattle.std.proofs.lemmas.List.{ext_get_or, get_or-drop}
use Rattle.std.proofs.lemmas.Bool.Decides.{nat_tests}
use Rattle.db_format.specs.Bytes.{u16_at, u32_at}
use Rattle.btree_page.specs.Cell.{cell_of}
use Rattle.btree_page.specs.Kind.{kind_at, kind_of, is_interior}
use Rattle.btree_page.specs.Page.{array_end, array_start, cell_at, cell_count, cells_at, read_any, read_kind, read_node, right_at, is_of}
use Rattle.btree_page.specs.declared.kind.Family.{Family}
use Rattle.btree_page.specs.declared.kind.Kind.{Kind}
use Rattle.btree_page.specs.declared.page.PageFault.TheVariants.{BadCell}

le_is : (a b : ℕ) → nat_le a b ≡ true → a ≤ b
le_is a b is = grind (arith, nat_tests)

and_first : (a b : Bool) → (a && b) ≡ true → a ≡ true
and_first true b is = refl
and_first false b is = cc

module _ (a b : List ℕ) (long : length a ≡ length b) (same : (i : ℕ) → 100 ≤ i → get_or a i 0 ≡ get_or b i 0) where
  u16_same : (p : ℕ) → 100 ≤ p → u16_at a p ≡ u16_at b p
  u16_same p le = let next : 100 ≤ p + 1 = omega arith in λ i. same p le i * 256 + same (p + 1) next i

  u32_same : (p : ℕ) → 100 ≤ p → u32_at a p ≡ u32_at b p
  u32_same p le = let next : 100 ≤ p + 2 = omega arith in λ i. u16_same p le i * 65536 + u16_same (p + 2) next i

  drop_same : (o : ℕ) → 100 ≤ o → drop o a ≡ drop o b
  drop_same o le = ext_get_or 0 (drop o a) (drop o b) (omega (arith, length-drop o a, length-drop o b, long))
      (λ i lt. get_or-drop o a i 0 ∙ same (o + i) (omega (arith, le)) ∙ sym (get_or-drop o b i 0))

  count_same : cell_count a 100 ≡ cell_count b 100
  count_same = u16_same 103 (omega arith)

  end_same : (kind : Kind) → array_end kind a 100 ≡ array_end kind b 100
  end_same kind = ap (λ (n : ℕ). array_start kind 100 + 2 * n) count_same

  offset_same : (kind : Kind) (index : ℕ) → u16_at a (array_start kind 100 + 2 * index) ≡ u16_at b (array_start kind 100 + 2 * index)
  offset_same kind index = u16_same (array_start kind 100 + 2 * index) (omega arith)

  -- a cell behind the array
  at_same : (kind : Kind) (offset : ℕ) (c : Bool) → (c ≡ true → 100 ≤ offset)
      → (if c then cell_of kind (length a) (drop offset a) else None) ≡ (if c then cell_of kind (length b) (drop offset b) else None)
  at_same kind offset true low = λ i. cell_of kind (long i) (drop_same offset (low refl) i)
  at_same kind offset false low = refl

  cell_same : (kind : Kind) (index : ℕ) → cell_at kind a 100 index ≡ cell_at kind b 100 index
  cell_same kind index =
      (λ i. if nat_le (end_same kind i) (offset_same kind index i) && nat_lt (offset_same kind index i) (length a)
      then cell_of kind (length a) (drop (offset_same kind index i) a) else None)
      ∙ at_same kind (u16_at b (array_start kind 100 + 2 * index))
      (nat_le (array_end kind b 100) (u16_at b (array_start kind 100 + 2 * index)) && nat_lt (u16_at b (array_start kind 100 + 2 * index)) (length a))
      (λ both. let le = le_is (array_end kind b 100) (u16_at b (array_start kind 100 + 2 * index)) (and_first _ _ both) in omega (arith, le))
      ∙ ap (λ (n : ℕ). if nat_le (array_end kind b 100) (u16_at b (array_start kind 100 + 2 * index)) && nat_lt (u16_at b (array_start kind 100 + 2 * index)) n
      then cell_of kind (length b) (drop (u16_at b (array_start kind 100 + 2 * index)) b) else None) long

  cells_same : (kind : Kind) → cells_at kind a 100 ≡ cells_at kind b 100
  cells_same kind = λ i. map (λ (index : ℕ). cell_same kind index i) (range_with_len 0 (count_same i))

  right_same : (kind : Kind) → right_at kind a 100 ≡ right_at kind b 100
  right_same kind = ap (λ (n : ℕ). if is_interior kind then Some n else None) (u32_same 108 (omega arith))

  kind_same : (kind : Kind) → read_kind a 100 kind ≡ read_kind b 100 kind
  kind_same kind = λ i.
      if nat_lt (long i) (end_same kind i) then Err (BadCell ((long i - array_start kind 100) / 2))
      else if nat_lt (position_or_len is_none (cells_same kind i)) (count_same i) then Err (BadCell (position_or_len is_none (cells_same kind i)))
      else Ok (record { kind = kind; cells = filter_map (λ cell. cell) (cells_same kind i); right = right_same kind i })

  any_same : (found : Option Kind) → read_any a 100 found ≡ read_any b 100 found
  any_same None = refl
  any_same (Some kind) = kind_same kind

  -- it is of the same kind
  pub first_kind_same : kind_at 1 a ≡ kind_at 1 b
  first_kind_same = ap (λ (n : ℕ). kind_of n) (same 100 (omega arith))

  -- pages that differ in their first 100 bytes alone are the same page 1 of a tree
  pub first_page_same : (family : Family) → read_node family 1 a ≡ read_node family 1 b
  first_page_same family =
      ap (λ (k : Option Kind). if is_of family k then read_any a 100 k else read_any a 100 None) found
      ∙ (λ i. if is_of family (kind_at 1 b) then any_same (kind_at 1 b) i else any_same None i)
    where
      found : kind_at 1 a ≡ kind_at 1 b
      found = first_kind_same
