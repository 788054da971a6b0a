-- Marks of pages, by page number, and the bits that hold them.
use Rattle.std.specs.Prelude.{ℕ, zero, suc, ◌+◌, ◌/◌, ◌%◌, Bool, false, List, [], ◌∷◌, ◌==◌, slice_index, slice_index_or, sum_by, if◌then◌else◌}
use Rattle.std.specs.Int.{bit_at}
use Rattle.db_format.specs.Pages.{Test}

-- the pages that have a mark
abbrev pub marked : List Bool → Test
marked marks n = slice_index_or marks n false

-- how many numbers have none
abbrev pub open_count : List Bool → ℕ
open_count marks = sum_by (λ mark. if mark then 0 else 1) marks

-- bit n of these bytes, eight in a byte, the lowest first
abbrev pub bit_of : List ℕ → ℕ → Bool
bit_of bytes n = bit_at (slice_index bytes (n / 8)) (n % 8) == 1

-- so many bits from `at` on
abbrev pub bits_from : List ℕ → ℕ → ℕ → List Bool
bits_from bytes at zero = []
bits_from bytes at (suc more) = bit_of bytes at ∷ bits_from bytes (at + 1) more
