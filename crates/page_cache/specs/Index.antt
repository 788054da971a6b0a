-- What the index says of the frames.
use Rattle.std.specs.Prelude.{ℕ, ◌≡◌, ◌+◌, List, Option, None, nat_eq}
use Rattle.std.specs.HashMap.{HashMap, get, hash_map_len, spare}
use Rattle.std.specs.Option.{option_map_or}
use Rattle.page_cache.specs.Frames.{FrameEntry, frame_at}

module _ {S : Type 0} (index : HashMap ℕ (Option ℕ) S) where
  -- the frame of page n, by the index
  abbrev pub named : ℕ → Option ℕ
  named n = option_map_or (λ frame. frame) (get nat_eq index n) None

  -- how many keys the index can have without more memory
  abbrev pub room : ℕ
  room = hash_map_len index + spare index

  -- the index names the frame of each held page, and no other
  abbrev pub Names : List FrameEntry → Type 0
  Names es = (n : ℕ) → named n ≡ frame_at n es
