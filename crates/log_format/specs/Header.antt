-- The header of a log, by its bytes: Database File Format, section 4.1. Offsets are in bytes.
--
-- | offset | length | field                                                                                     |
-- | 0      | 4      | magic: 377f0682, or 377f0683 where the words of its checksums have the highest byte first |
-- | 4      | 4      | version of the format: 3007000                                                            |
-- | 8      | 4      | page size, in bytes                                                                       |
-- | 12     | 4      | how often the log was begun anew                                                          |
-- | 16     | 8      | two salts, which each frame repeats                                                       |
-- | 24     | 8      | checksum of the 24 bytes before                                                           |
use Rattle.std.specs.Prelude.{ℕ, ◌+◌, ◌≡◌, Bool, ◌&&◌, ◌||◌, ◌==◌, nat_le, List, length, take}
use Rattle.log_format.specs.declared.header.LogHeader.{LogHeader}
use Rattle.log_format.specs.declared.sum.LogSum.{LogSum}
use Rattle.log_format.specs.Bytes.{u32_at}
use Rattle.log_format.specs.Sums.{no_sum, log_sum}

-- the words of the checksums have the highest byte first
abbrev pub is_big : List ℕ → Bool
is_big log = u32_at log 0 == 931071619

-- the page sizes: the powers of two from 512 to 65,536
abbrev pub is_page_size : ℕ → Bool
is_page_size n = n == 512 || n == 1024 || n == 2048 || n == 4096 || n == 8192 || n == 16384 || n == 32768 || n == 65536

abbrev pub log_page_size : List ℕ → ℕ
log_page_size log = u32_at log 8

abbrev pub log_version : List ℕ → ℕ
log_version log = u32_at log 4

-- the checksum of the first 24 bytes
abbrev pub head_sum : List ℕ → LogSum
head_sum log = log_sum (is_big log) no_sum (take 24 log)

-- these eight bytes are the checksum
abbrev pub stores_sum : List ℕ → ℕ → LogSum → Bool
stores_sum bytes at sum = u32_at bytes at == sum.first && u32_at bytes (at + 4) == sum.second

-- a log begins with a whole header, and its checksum holds; every other log holds nothing
abbrev pub is_log_head : List ℕ → Bool
is_log_head log =
    nat_le 32 (length log) && (u32_at log 0 == 931071618 || is_big log) && is_page_size (log_page_size log) && stores_sum log 24 (head_sum log)

-- the bytes have these fields
abbrev pub HasLogFields : List ℕ → LogHeader → Type 0
HasLogFields log header =
    (header.is_big ≡ is_big log) × (header.version ≡ log_version log) × (header.page_size ≡ log_page_size log)
    × (header.salt ≡ u32_at log 16) × (header.other_salt ≡ u32_at log 20) × (header.sum ≡ head_sum log)
