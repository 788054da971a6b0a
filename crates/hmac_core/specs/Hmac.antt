-- HMAC (RFC 2104, section 2) over any hash, as a function on lists of bytes. A block is the hash's own
-- block, in bytes.
use Rattle.std.specs.Prelude.{ℕ, ◌-◌, nat_lt, if◌then◌else◌, List, ◌++◌, length, map, replicate, bit_xor}

-- each byte of a list, exclusive or this byte
abbrev pub xor_each : ℕ → List ℕ → List ℕ
xor_each byte bytes = map (λ x. bit_xor x byte) bytes

-- the key, hashed where it is longer than a block, and filled up with zeros to a block
unfoldable pub key_block : (List ℕ → List ℕ) → ℕ → List ℕ → List ℕ
key_block hash block key =
    let short = if nat_lt block (length key) then hash key else key in
    short ++ replicate (block - length short) 0

-- the HMAC of a message under a key that is a block already: `xor_each 0x36` makes its inner key
-- (ipad), `xor_each 0x5c` its outer key (opad)
unfoldable pub hmac_of_block : (List ℕ → List ℕ) → List ℕ → List ℕ → List ℕ
hmac_of_block hash k0 message = hash (xor_each 0x5c k0 ++ hash (xor_each 0x36 k0 ++ message))

-- the HMAC of a message under any key
abbrev pub hmac : (List ℕ → List ℕ) → ℕ → List ℕ → List ℕ → List ℕ
hmac hash block key message = hmac_of_block hash (key_block hash block key) message
