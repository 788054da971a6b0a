-- The values of a record that an iterator has still to give.
use Rattle.std.specs.Prelude.{◌≡◌, List, [], ◌∷◌, Option, None, Some, unwrap_or}
use Rattle.db_format.specs.declared.value.Value.{Value}
use Rattle.db_format.specs.declared.values.Values.{Values}
use Rattle.db_format.specs.Value.{Datum, datum_of}
use Rattle.db_format.specs.Record.{values_in}

abbrev pub values_left : Values → List Datum
values_left values = unwrap_or (values_in values.types.now values.body.now) []

-- the first value is given, or none is left
abbrev pub GivesValue : Values → Option Value → Values → Type 0
GivesValue old None new = (values_left old ≡ []) × (values_left new ≡ [])
GivesValue old (Some value) new = values_left old ≡ datum_of value ∷ values_left new
