-- A value of a column, as contracts see it: its bytes are a list.
use Rattle.std.specs.Prelude.{ℕ, ℤ, List}
use Rattle.db_format.specs.declared.value.Value.{Value}
use Rattle.db_format.specs.declared.value.Value.TheVariants.{Null, Int, Float, Text, Blob}

pub data Datum : Type 0 where
  null : Datum
  int : ℤ → Datum
  float : List ℕ → Datum
  text : List ℕ → Datum
  blob : List ℕ → Datum

-- the value that a borrowed one has
abbrev pub datum_of : Value → Datum
datum_of Null = null
datum_of (Int number) = int number
datum_of (Float bytes) = float bytes
datum_of (Text bytes) = text bytes.now
datum_of (Blob bytes) = blob bytes.now
