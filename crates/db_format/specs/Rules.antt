-- Rules that are tried in order.
use Rattle.std.specs.Prelude.{Bool, List, [], ◌∷◌, Result, Ok, Err, if◌then◌else◌}

-- a rule: whether it is broken, and the refusal that it then gives
abbrev pub Rule : Type 0 → Type 0
Rule E = Bool × E

-- the refusal of the first rule that is broken, and the value where none is
abbrev pub unless_broken : {V E : Type 0} → List (Rule E) → V → Result V E
unless_broken [] value = Ok value
unless_broken ((broken, refusal) ∷ later) value = if broken then Err refusal else unless_broken later value
