-- The first column of those that are still to be read.
use Rattle.std.specs.Prelude.{◌≡◌, ℕ, ◌<◌, List, ◌∷◌, length}
use Rattle.std.specs.Option.{option_map}
use Rattle.db_format.specs.declared.column.FirstColumn.{FirstColumn}
use Rattle.db_format.specs.Serial.{size_of, value_of}
use Rattle.db_format.specs.Record.{values_in}

-- its bytes are those that its type says, and its value stands before the later ones
pub record IsFirst (column : FirstColumn) (types body : List ℕ) : Type 0 where
  pub sized : size_of column.serial ≡ length column.bytes.now
  pub fewer : length column.later_types.now < length types
  pub values : values_in types body
      ≡ option_map (λ values. value_of column.serial column.bytes.now ∷ values) (values_in column.later_types.now column.later_body.now)
