-- The header of page 1 is its first 100 bytes.
use Rattle.std.proofs.Common.{◌≡◌, ℕ, Bool, ◌+◌, ◌<◌, ◌≤◌, List, take, refl, sym, ap, ◌∙◌, arith}
use Rattle.std.specs.Prelude.{slice_index}
use Rattle.std.proofs.lemmas.List.{get_or-take}
use Rattle.db_format.specs.Bytes.{u32_at}
use Rattle.db_format.specs.Header.{header_read_as}

module _ (a b : List ℕ) (same : take 100 a ≡ take 100 b) where
  byte_same : (k : ℕ) → k < 100 → slice_index a k ≡ slice_index b k
  byte_same k less = sym (get_or-take 100 a k 0 less) ∙ ap (λ (l : List ℕ). slice_index l k) same ∙ get_or-take 100 b k 0 less

  field_same : (k : ℕ) → k + 4 ≤ 100 → u32_at a k ≡ u32_at b k
  field_same k within = omega (
    arith,
    byte_same k (omega (arith, within)),
    byte_same (k + 1) (omega (arith, within)),
    byte_same (k + 2) (omega (arith, within)),
    byte_same (k + 2 + 1) (omega (arith, within)),
  )

  -- pages that begin alike have one header
  pub header_same : (passes : Bool) (size reserve : ℕ) → header_read_as passes a size reserve ≡ header_read_as passes b size reserve
  header_same passes size reserve = rw (
    byte_same 16 (omega arith),
    byte_same 17 (omega arith),
    byte_same 18 (omega arith),
    byte_same 19 (omega arith),
    byte_same 20 (omega arith),
    byte_same 21 (omega arith),
    byte_same 22 (omega arith),
    byte_same 23 (omega arith),
    field_same 24 (omega arith),
    field_same 28 (omega arith),
    field_same 32 (omega arith),
    field_same 36 (omega arith),
    field_same 40 (omega arith),
    field_same 44 (omega arith),
    field_same 48 (omega arith),
    field_same 52 (omega arith),
    field_same 56 (omega arith),
    field_same 60 (omega arith),
    field_same 68 (omega arith),
    field_same 92 (omega arith),
    field_same 96 (omega arith),
  ) refl
