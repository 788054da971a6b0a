-- What goes back of a write that is kept stays within its range, and the range within the file.
use Rattle.std.proofs.Common.{◌≡◌, ◌==◌, ◌⊎◌, inl, inr, nat_lt, ⊎_elim, ℕ, ◌+◌, ◌*◌, ◌/◌, max, zero, suc, ◌<◌, ◌≤◌, List, [], length, take, drop, nat_le, min, Bool, true, false, if◌then◌else◌, slice_index_or, slice_index, Option, Some, None, ap, arith, length-drop, refl, ◌∙◌}
use native.Mathlib.Nat.{div-mul-le_self, le_trans, mul-le-mul_right, suc-mul, zero-mul}
use Rattle.std.proofs.lemmas.List.{length-take}
use Rattle.std.proofs.lemmas.Nat.{mod_below}
use Rattle.edge_model.proofs.Ranges.{torn_elsewhere}
use Rattle.edge_model.specs.Files.{Torn, contents}
use Rattle.edge_files.specs.Parts.{part_of}
use Rattle.edge_files.specs.PutBack.{HasRoom, MayBeTakenBack, OnlyWithin, from_of, kept_of, next_from, next_place, places_for}
use Rattle.edge_files.specs.declared.undo.Undo.{Undo}
use Rattle.edge_files.specs.declared.undo.Write.{Write}
use Rattle.system_calls.specs.System.{file_of}

chosen_short : (room : List ℕ) (from count : ℕ) (fits : Bool) → length (if fits then take count (drop from room) else []) ≤ min count (length room)
chosen_short room from count true = omega (arith, length-take count (drop from room), length-drop from room)
chosen_short room from count false = omega arith

pub part_short : (room : List ℕ) (from count : ℕ) → length (part_of room from count) ≤ min count (length room)
part_short room from count = chosen_short room from count (nat_le (from + count) (length room))

pub part_is : (room : List ℕ) (count : ℕ) (fits : Bool) → nat_le (0 + count) (length room) ≡ fits → count ≤ length room → (if fits then take count (drop 0 room) else []) ≡ take count room
part_is room count true is le = refl
part_is room count false is le = absurd (grind arith)

pub part_all : (room : List ℕ) (count : ℕ) → count ≤ length room → part_of room 0 count ≡ take count room
part_all room count le = part_is room count (nat_le (0 + count) (length room)) refl le

-- the step of the file that is open as Main, on its bytes
step_on : (step : List ℕ → List ℕ → Type 0) (place : Option ℕ) (old new : ℕ → List ℕ) → ((m : ℕ) → place ≡ Some m → step (old m) (new m)) → (place ≡ None → step [] [])
    → step (contents (file_of old place)) (contents (file_of new place))
step_on step None old new it none = none refl
step_on step (Some m) old new it none = it m refl

pub within_back : (undo : Undo) (from place : ℕ) (write : Write) (old new : List ℕ) → slice_index_or undo.writes.items place None ≡ Some write
    → MayBeTakenBack (kept_of undo from write) old new → OnlyWithin undo.writes.items old new
within_back undo from place write old new there back =
    ⊎_elim
    (λ same. record { long = ap (λ (l : List ℕ). length l) same; outside = λ i lt out. ap (λ (l : List ℕ). slice_index l i) same })
    (λ torn.
    let stood = part_short (part_of undo.before.items from (length (part_of undo.after.items from undo.size))) 0 write.stood in
    record {
      long = omega (arith, torn.1, torn.2.no_shorter, torn.2.no_longer);
      outside = λ i lt out. ⊎_elim (λ below. torn.2.below i lt below) (λ above. torn.2.above i lt (omega (arith, above, stood))) (out place write there);
    }) back

-- ---- the room of the next write

row_fits : (size place count : ℕ) → count * size ≤ 262144 → size ≤ 65536 → place < max 1 (min count 256) → place * size + size ≤ 262144
row_fits size zero count all le lt = omega (arith, le)
row_fits size (suc place) count all le lt =
    let more : suc (suc place) ≤ count = omega (arith, lt) in
    le_trans (omega (arith, suc-mul (suc place) size)) (le_trans (mul-le-mul_right size more) all)

room_for : (size place : ℕ) (none : Bool) → size ≤ 65536 → place < (if none then 1 else max 1 (min (262144 / size) 256)) → (place * size + size ≤ 262144) × (place < 256)
room_for size place true le lt = (row_fits size place 0 (omega (arith, zero-mul size)) le (omega (arith, lt)), omega (arith, lt))
room_for size place false le lt = (row_fits size place (262144 / size) (div-mul-le_self 262144 size) le lt, omega (arith, lt))

some_place : (size : ℕ) (none : Bool) → 0 < (if none then 1 else max 1 (min (262144 / size) 256))
some_place size true = omega arith
some_place size false = omega arith

pub next_room : (undo : Undo) → HasRoom undo
next_room undo =
    let none = undo.size == 0 in
    let room = room_for undo.size (next_place undo) none undo.short (mod_below undo.count (places_for undo.size) (some_place undo.size none)) in
    record {
      place = omega (arith, room.1, undo.rooms.2);
      before = omega (arith, room.0, undo.rooms.0);
      after = omega (arith, room.0, undo.rooms.1);
    }

-- ---- the other places

rows_apart : (size p q : ℕ) (less : Bool) → nat_lt p q ≡ less → (p ≡ q → ⊥) → (p * size + size ≤ q * size) ⊎ (q * size + size ≤ p * size)
rows_apart size p q true is other =
    let more : suc p ≤ q = grind arith in
    inl (le_trans (omega (arith, suc-mul p size)) (mul-le-mul_right size more))
rows_apart size p q false is other =
    let least : q ≤ p = grind arith in
    let more : suc q ≤ p = omega (arith, least, other) in
    inr (le_trans (omega (arith, suc-mul q size)) (mul-le-mul_right size more))

pub places_apart : (undo : Undo) (place : ℕ) → (place ≡ next_place undo → ⊥) → from_of undo place + undo.size ≤ 262144
    → (from_of undo place + undo.size ≤ next_from undo) ⊎ (next_from undo + undo.size ≤ from_of undo place)
places_apart undo place other within =
    let room = (next_room undo).before in
    ⊎_elim (λ below. inl (omega (arith, below, within, room, undo.rooms.0))) (λ above. inr (omega (arith, above, within, room, undo.rooms.0)))
    (rows_apart undo.size place (next_place undo) (nat_lt place (next_place undo)) refl other)

chosen_stays : (at n off len : ℕ) (old new : List ℕ) (fits : Bool) → nat_le (off + len) (length old) ≡ fits → Torn at n old new
    → (off + len ≤ length old → (off + len ≤ at) ⊎ (at + n ≤ off)) → (if fits then take len (drop off new) else []) ≡ (if fits then take len (drop off old) else [])
chosen_stays at n off len old new true is torn apart =
    let within : off + len ≤ length old = grind arith in
    torn_elsewhere at n off len old new torn within (apart within)
chosen_stays at n off len old new false is torn apart = refl

-- a part that is no part of what was written to
pub part_stays : (at n off len : ℕ) (old new : List ℕ) → length new ≡ length old → Torn at n old new → (off + len ≤ length old → (off + len ≤ at) ⊎ (at + n ≤ off))
    → part_of new off len ≡ part_of old off len
part_stays at n off len old new long torn apart =
    ap (λ (room : ℕ). if nat_le (off + len) room then take len (drop off new) else []) long ∙ chosen_stays at n off len old new (nat_le (off + len) (length old)) refl torn apart
