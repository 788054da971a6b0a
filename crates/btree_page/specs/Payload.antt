-- How many bytes of a payload stay in its cell (Database File Format, section 1.6).
--
-- U is the usable size, P the payload's length, X the longest payload that stays whole in its cell, M the least that stays
-- of one that does not. Where P is above X, K = M + (P - M) mod (U - 4) bytes stay if K is at most X, else M do.
--
-- | U     | X in tables | X in indexes | M   |
-- | 976   | 941         | 218          | 97  |
-- | 1,008 | 973         | 226          | 101 |
-- | 4,016 | 3,981       | 981          | 479 |
use Rattle.std.specs.Prelude.{ℕ, ◌+◌, ◌-◌, ◌*◌, ◌/◌, ◌%◌, ◌^◌, nat_le, Bool, if◌then◌else◌}
use Rattle.btree_page.specs.declared.kind.Family.{Family}
use Rattle.btree_page.specs.declared.kind.Family.TheVariants.{Table, Index}

-- X
abbrev pub most_local : Family → ℕ → ℕ
most_local Table usable = usable - 35
most_local Index usable = (usable - 12) * 64 / 255 - 23

-- M
abbrev pub least_local : ℕ → ℕ
least_local usable = (usable - 12) * 32 / 255 - 23

-- K
abbrev pub fitted_local : ℕ → ℕ → ℕ
fitted_local usable len = least_local usable + (len - least_local usable) % (usable - 4)

-- how many bytes of a payload of this length stay
abbrev pub local_len : Family → ℕ → ℕ → ℕ
local_len family usable len =
    if nat_le len (most_local family usable) then len
    else if nat_le (fitted_local usable len) (most_local family usable) then fitted_local usable len
    else least_local usable

-- the longest payload that is read, in bytes
abbrev pub max_payload : ℕ
max_payload = 2 ^ 30

abbrev pub family_if : Bool → Family
family_if table = if table then Table else Index
