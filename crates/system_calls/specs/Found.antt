-- What a look answers.
use Rattle.std.specs.Prelude.{ℕ, pos, false, Option, Some, None}
use Rattle.system_calls.specs.declared.found.Found.{Found}

-- the length of what was found
abbrev pub found_length : Option Found → Option ℕ
found_length None = None
found_length (Some found) = Some found.mark.length

-- what the calls of a real system tell of a file
abbrev pub no_found : Found
no_found =
    record {
      is_regular = false;
      identity = record { device = 0; inode = 0 };
      mark = record { seconds = pos 0; nanoseconds = pos 0; length = 0 };
      mode = 0;
      owner = 0;
      group = 0;
      names = 0;
    }
