-- Numbers in words.
use Rattle.std.specs.Prelude.{ℕ, ◌&&◌, nat_le, nat_lt, Bool, List, length, Option, Some, None, if◌then◌else◌}
use Rattle.std.specs.Char.{digit_value}
use Rattle.std.specs.List.{list_all}
use Rattle.std.specs.Str.Parse.{digits_value}

-- one to ten digits, and no more than four bytes hold
abbrev pub is_number : List ℕ → Bool
is_number word =
    nat_le 1 (length word) && nat_le (length word) 10 && list_all (λ digit. nat_lt (digit_value digit) 10) word
    && nat_le (digits_value 10 word) 4294967295

abbrev pub number_named : List ℕ → Option ℕ
number_named word = if is_number word then Some (digits_value 10 word) else None
