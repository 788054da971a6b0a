-- The bytes of Main, and parts of a room in memory.
use Rattle.std.specs.Prelude.{ℕ, ◌+◌, List, [], length, take, drop, nat_le, if◌then◌else◌}
use Rattle.edge_model.specs.Files.{contents}
use Rattle.edge_model.specs.declared.role.Role.TheVariants.{Main}
use Rattle.system_calls.specs.System.{System, opened}

-- the bytes of the file that is open as Main
abbrev pub main_bytes : System → List ℕ
main_bytes system = contents (opened system Main)

-- so many bytes from an offset on; none where there are fewer
abbrev pub part_of : List ℕ → ℕ → ℕ → List ℕ
part_of room from count = if nat_le (from + count) (length room) then take count (drop from room) else []
