-- Rooms while the disk is only read.
use Rattle.std.proofs.Common.{◌≡◌, ◌≤◌, ℕ, Bool, true, false, if◌then◌else◌, length, take, inl, inr, ap, ◌∙◌, arith}
use Rattle.std.specs.Prelude.{◌⊎◌}
use Rattle.db_format.specs.Pages.{Pages}
use Rattle.salvage_scan.specs.declared.room.PageRoom.{PageRoom}
use Rattle.salvage_scan.specs.Room.{IsRoomOpened}

-- the page of a room with this number is the page of that number
held : (pages : Pages) (room : PageRoom) (n : ℕ) → 1 ≤ n → room.number ≡ n → (room.number ≡ 0) ⊎ IsRoomOpened pages room → IsRoomOpened pages room
held pages room n low is (inl none) = absurd (omega (arith, low, is, none))
held pages room n low is (inr opened) = opened

pub held_bytes : (pages : Pages) (room : PageRoom) (n : ℕ) → 1 ≤ n → room.number ≡ n → (room.number ≡ 0) ⊎ IsRoomOpened pages room
    → take pages.usable room.bytes.items ≡ pages.page n
held_bytes pages room n low is holds = (held pages room n low is holds).bytes ∙ ap pages.page is

-- each room has so many bytes
long_by : (b : Bool) (even odd : PageRoom) (size : ℕ) → length even.bytes.items ≡ size → length odd.bytes.items ≡ size
    → length (if b then even.bytes.items else odd.bytes.items) ≡ size
long_by true even odd size one other = one
long_by false even odd size one other = other
