-- Messages of one length in a text.
use Rattle.std.specs.Prelude.{ℕ, ◌+◌, ◌*◌, ◌/◌, List, ◌++◌, take, drop}

-- piece i, from 0, of the pieces of `len` bytes that begin `stride` bytes apart
abbrev pub piece : List ℕ → ℕ → ℕ → ℕ → List ℕ
piece text stride len i = take len (drop (i * stride) text)

-- message i: piece i of the text, and then piece i of the ends, which stand one after another
abbrev pub message : List ℕ → ℕ → ℕ → List ℕ → ℕ → ℕ → List ℕ
message text stride len ends end_len i = piece text stride len i ++ piece ends end_len end_len i

-- how many blocks so many last bytes of a message fill with their padding, of which 17 bytes at least are needed
abbrev pub tail_blocks : ℕ → ℕ
tail_blocks used = (used + 16) / 128 + 1
