-- Numbers in a journal: four bytes, the most significant first.
use Rattle.std.specs.Prelude.{ℕ, ◌/◌, ◌%◌, List, [], ◌∷◌}
-- the number in the four bytes from a place on
pub use Rattle.number_fields.specs.Fields.{u32_at}

-- a number as four bytes
abbrev pub u32_bytes : ℕ → List ℕ
u32_bytes n = n / 16777216 % 256 ∷ n / 65536 % 256 ∷ n / 256 % 256 ∷ n % 256 ∷ []
