-- What a transaction on a file starts from.
use Rattle.std.specs.Prelude.{ℕ, ◌==◌, Bool, false, List, Option, Some, None}
use Rattle.page_codec.specs.Page.{FileKeys}
use Rattle.pager.specs.Database.{count_by}
use Rattle.pager.specs.File.{page_stored}
use Rattle.atomic_commit.specs.Database.{Base}

-- it is this number
abbrev pub is_some_of : ℕ → Option ℕ → Bool
is_some_of n None = false
is_some_of n (Some m) = m == n

-- a file with so many pages under these keys
abbrev pub base_of : FileKeys → List ℕ → ℕ → Base
base_of keys file n = record {
  size = keys.profile.page_size;
  pages = n;
  start = file;
  counts = λ len. is_some_of n (count_by keys (page_stored keys file 1) len);
}
