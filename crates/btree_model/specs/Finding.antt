-- What a walk over a part of the database meets, in order.
use Rattle.std.specs.Prelude.{ℕ, ℤ, Bool, true, false, List, [], ◌∷◌, ◌++◌, Option}
use Rattle.std.specs.Option.{option_to_list}
use Rattle.db_format.specs.declared.defect.Defect.{Defect}

-- an entry of a tree: its rowid in a table, its payload, and the page on which its cell stands
pub record Row : Type 0 where
  pub rowid : Option ℤ
  pub payload : List ℕ
  pub page : ℕ

pub data Finding : Type 0 where
  -- a sound place of this page
  place : ℕ → Finding
  -- a sound place of this page as a leaf of the freelist
  leaf : ℕ → Finding
  -- an entry, read whole
  entry : Row → Finding
  -- a key between two children of a table's page
  key : ℤ → Finding
  -- a defect at the last place, or at one before it
  fault : Defect → Finding
  -- the page of the last place is not accepted: no source lends it
  refused : ℕ → Finding

abbrev pub places : List Finding → List ℕ
places [] = []
places (key k ∷ rest) = places rest
places (place n ∷ rest) = n ∷ places rest
places (leaf n ∷ rest) = n ∷ places rest
places (entry row ∷ rest) = places rest
places (fault d ∷ rest) = places rest
places (refused n ∷ rest) = places rest

abbrev pub leaves : List Finding → List ℕ
leaves [] = []
leaves (key k ∷ rest) = leaves rest
leaves (leaf n ∷ rest) = n ∷ leaves rest
leaves (place n ∷ rest) = leaves rest
leaves (entry row ∷ rest) = leaves rest
leaves (fault d ∷ rest) = leaves rest
leaves (refused n ∷ rest) = leaves rest

abbrev pub entries : List Finding → List Row
entries [] = []
entries (key k ∷ rest) = entries rest
entries (entry row ∷ rest) = row ∷ entries rest
entries (place n ∷ rest) = entries rest
entries (leaf n ∷ rest) = entries rest
entries (fault d ∷ rest) = entries rest
entries (refused n ∷ rest) = entries rest

abbrev pub faults : List Finding → List Defect
faults [] = []
faults (key k ∷ rest) = faults rest
faults (fault d ∷ rest) = d ∷ faults rest
faults (refused n ∷ rest) = faults rest
faults (place n ∷ rest) = faults rest
faults (leaf n ∷ rest) = faults rest
faults (entry row ∷ rest) = faults rest

abbrev pub refusals : List Finding → List ℕ
refusals [] = []
refusals (key k ∷ rest) = refusals rest
refusals (place n ∷ rest) = refusals rest
refusals (leaf n ∷ rest) = refusals rest
refusals (entry row ∷ rest) = refusals rest
refusals (fault d ∷ rest) = refusals rest
refusals (refused n ∷ rest) = n ∷ refusals rest

-- none of them is a defect, and no page was refused
abbrev pub is_sound : List Finding → Bool
is_sound [] = true
is_sound (key k ∷ rest) = is_sound rest
is_sound (fault d ∷ rest) = false
is_sound (refused n ∷ rest) = false
is_sound (place n ∷ rest) = is_sound rest
is_sound (leaf n ∷ rest) = is_sound rest
is_sound (entry row ∷ rest) = is_sound rest

-- the rowids and the keys that were met
abbrev pub keys : List Finding → List ℤ
keys [] = []
keys (entry row ∷ rest) = option_to_list row.rowid ++ keys rest
keys (key k ∷ rest) = k ∷ keys rest
keys (place n ∷ rest) = keys rest
keys (leaf n ∷ rest) = keys rest
keys (fault d ∷ rest) = keys rest
keys (refused n ∷ rest) = keys rest
