-- What contracts see of a passphrase.
use Rattle.std.specs.Prelude.{ℕ, ◌≤◌, List, length}

-- 1 to 1,024 bytes
pub record IsPassphrase (bytes : List ℕ) : Type 0 where
  pub some : 1 ≤ length bytes
  pub most : length bytes ≤ 1024
