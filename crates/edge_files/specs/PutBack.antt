-- What goes back of the last writes to Main where other programs were met.
use Rattle.std.specs.Prelude.{◌≡◌, ◌⊎◌, ◌≤◌, ◌<◌, ◌+◌, ◌-◌, ◌*◌, ◌/◌, ◌%◌, ◌^◌, ◌==◌, ℕ, zero, suc, min, max, Option, Some, None, List, length, slice_index_or, slice_index, if◌then◌else◌}
use Rattle.edge_files.specs.Parts.{part_of}
use Rattle.edge_files.specs.declared.undo.Undo.{Undo}
use Rattle.edge_files.specs.declared.undo.Write.{Write}
use Rattle.edge_model.specs.Files.{Torn, read_from, written}

-- one write: its offset, what stood there before, and what was written
pub record Kept : Type 0 where
  pub at : ℕ
  pub before : List ℕ
  pub after : List ℕ

-- Exactly what was written stands there still.
abbrev pub Stands : Kept → List ℕ → Type 0
Stands kept file = read_from kept.at (length kept.after) file ≡ kept.after

-- Where what was written stands, what stood before is written there again. Elsewhere nothing is.
abbrev pub IsTakenBack : Kept → List ℕ → List ℕ → Type 0
IsTakenBack kept old new = (Stands kept old × (new ≡ written kept.at kept.before old)) ⊎ ((Stands kept old → ⊥) × (new ≡ old))

-- The same where a call failed: a write that failed may be torn, and its range ends within the file.
abbrev pub MayBeTakenBack : Kept → List ℕ → List ℕ → Type 0
MayBeTakenBack kept old new = (new ≡ old) ⊎ (Stands kept old × (kept.at + length kept.before ≤ length old) × Torn kept.at (length kept.before) old new)

-- a write of which the bytes are kept from this offset on
abbrev pub kept_of : Undo → ℕ → Write → Kept
kept_of undo from write =
    let after = part_of undo.after.items from undo.size in
    record { at = write.at; before = part_of (part_of undo.before.items from (length after)) 0 write.stood; after = after }

-- A write that is kept from this offset on is taken back; where none is kept, nothing is.
abbrev pub WhereKept : (Kept → List ℕ → List ℕ → Type 0) → Undo → ℕ → Option Write → List ℕ → List ℕ → Type 0
WhereKept Taken undo from None old new = new ≡ old
WhereKept Taken undo from (Some write) old new = Taken (kept_of undo from write) old new

-- from which offset on the bytes of this place of the ring are kept
abbrev pub from_of : Undo → ℕ → ℕ
from_of undo place = min (place * undo.size) (2 ^ 64 - 1)

-- The write in this place of the ring is taken back.
abbrev pub PlaceTakenBack : (Kept → List ℕ → List ℕ → Type 0) → Undo → ℕ → List ℕ → List ℕ → Type 0
PlaceTakenBack Taken undo place = WhereKept Taken undo (from_of undo place) (slice_index_or undo.writes.items place None)

-- how many writes of this length there is room for
abbrev pub places_for : ℕ → ℕ
places_for len = if len == 0 then 1 else max 1 (min (262144 / len) 256)

-- The place of the write that is taken back in this turn: of the last one in turn 0.
abbrev pub place_in : Undo → ℕ → ℕ
place_in undo turn = (undo.count - 1 - turn) % places_for undo.size

-- the place of the next write, and from which offset on its bytes are kept
abbrev pub next_place : Undo → ℕ
next_place undo = undo.count % places_for undo.size

abbrev pub next_from : Undo → ℕ
next_from undo = from_of undo (next_place undo)

-- There is room for the next write and for its bytes.
pub record HasRoom (undo : Undo) : Type 0 where
  pub place : next_place undo < length undo.writes.items
  pub before : next_from undo + undo.size ≤ length undo.before.items
  pub after : next_from undo + undo.size ≤ length undo.after.items

-- So many turns were taken, one after the other.
abbrev pub AllTakenBack : (Kept → List ℕ → List ℕ → Type 0) → Undo → ℕ → List ℕ → List ℕ → Type 0
AllTakenBack Taken undo zero old new = new ≡ old
AllTakenBack Taken undo (suc turns) old new =
    (mid : List ℕ) × AllTakenBack Taken undo turns old mid × PlaceTakenBack Taken undo (place_in undo turns) mid new

-- the byte is in the range of no write that is kept
abbrev pub IsOutside : List (Option Write) → ℕ → Type 0
IsOutside writes i = (place : ℕ) → (write : Write) → slice_index_or writes place None ≡ Some write → (i < write.at) ⊎ (write.at + write.stood ≤ i)

-- the length is the same, and each byte that is in the range of no write that is kept
pub record OnlyWithin (writes : List (Option Write)) (old new : List ℕ) : Type 0 where
  pub long : length new ≡ length old
  pub outside : (i : ℕ) → i < length old → IsOutside writes i → slice_index new i ≡ slice_index old i
