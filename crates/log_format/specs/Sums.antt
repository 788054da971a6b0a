-- The checksum of a log: Database File Format, section 4.2. It runs over pairs of words x, y:
--
--     first  = first  + x + second
--     second = second + y + first
use Rattle.std.specs.Prelude.{ℕ, zero, suc, ◌+◌, ◌*◌, ◌/◌, ◌%◌, Bool, List, length}
use Rattle.log_format.specs.declared.sum.LogSum.{LogSum}
use Rattle.log_format.specs.Bytes.{word_at}

-- a log's checksum begins with this
abbrev pub no_sum : LogSum
no_sum = record { first = 0; second = 0 }

-- two words more
abbrev pub with_words : ℕ → ℕ → LogSum → LogSum
with_words x y sum =
    let first = ((sum.first + x) % 4294967296 + sum.second) % 4294967296 in
    record { first = first; second = ((sum.second + y) % 4294967296 + first) % 4294967296 }

-- the first k pairs of words more
abbrev pub summed : Bool → LogSum → List ℕ → ℕ → LogSum
summed is_big before bytes zero = before
summed is_big before bytes (suc k) =
    with_words (word_at is_big bytes (8 * k)) (word_at is_big bytes (8 * k + 4)) (summed is_big before bytes k)

-- all of them
abbrev pub log_sum : Bool → LogSum → List ℕ → LogSum
log_sum is_big before bytes = summed is_big before bytes (length bytes / 8)
