-- Rooms for opened pages, which keep the page that was opened last.
use Rattle.std.specs.Prelude.{◌≡◌, ◌⊎◌, ◌%◌, ◌==◌, ℕ, Bool, true, List, length, take, IsTrue, if◌then◌else◌}
use Rattle.edge_model.specs.Files.{Files, main_of}
use Rattle.page_codec.specs.Page.{FileKeys}
use Rattle.db_format.specs.Pages.{Pages}
use Rattle.salvage_scan.specs.Ahead.{AreAhead}
use Rattle.salvage_scan.specs.Salvage.{file_pages}
use Rattle.salvage_scan.specs.declared.room.PageRoom.{PageRoom}
use Rattle.salvage_scan.specs.declared.room.Rooms.{Rooms}

-- the room has the page of its number
pub record IsRoomOpened (pages : Pages) (room : PageRoom) : Type 0 where
  pub accepted : pages.accepts room.number ≡ true
  pub bytes : take pages.usable room.bytes.items ≡ pages.page room.number

-- a room of so many bytes, with a page or without one. The bytes are known where the disk tells them.
pub record IsRoom (tells : Bool) (pages : Pages) (size : ℕ) (room : PageRoom) : Type 0 where
  pub long : length room.bytes.items ≡ size
  pub holds : IsTrue tells → (room.number ≡ 0) ⊎ IsRoomOpened pages room

-- both rooms, and the pages that were read before they are asked for
pub record AreRooms (tells : Bool) (keys : FileKeys) (files : Files) (rooms : Rooms) : Type 0 where
  pub even : IsRoom tells (file_pages keys files) keys.profile.page_size rooms.even
  pub odd : IsRoom tells (file_pages keys files) keys.profile.page_size rooms.odd
  pub ahead : IsTrue tells → AreAhead keys (main_of files) rooms.ahead

-- the bytes of the room for page n
abbrev pub room_bytes : Rooms → ℕ → List ℕ
room_bytes rooms n = if n % 2 == 0 then rooms.even.bytes.items else rooms.odd.bytes.items
