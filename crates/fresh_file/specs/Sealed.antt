-- The sealed pages of a file.
use Rattle.std.specs.Prelude.{IsTrue, ◌≡◌, ℕ, ◌*◌, ◌<◌, ◌≤◌, List, length}
use Rattle.page_codec.specs.Page.{FileKeys, accepts, opened, sealed, stored_page}

-- page n of the file as it opens
abbrev pub plain_page : FileKeys → ℕ → List ℕ → List ℕ
plain_page keys n file = opened keys n (stored_page keys.profile.page_size n file)

-- page n is whole, and is what it opens to, sealed with these drawn bytes; so it is accepted
pub record IsSealedWith (keys : FileKeys) (file : List ℕ) (n : ℕ) (draw : List ℕ) : Type 0 where
  pub numbered : 1 ≤ n
  pub whole : n * keys.profile.page_size ≤ length file
  pub size : length draw ≡ keys.profile.reserve
  pub page : stored_page keys.profile.page_size n file ≡ sealed keys n (plain_page keys n file) draw
  pub accepted : IsTrue (accepts keys n (stored_page keys.profile.page_size n file))

-- with some bytes
abbrev pub IsSealed : FileKeys → List ℕ → ℕ → Type 0
IsSealed keys file n = (draw : List ℕ) × IsSealedWith keys file n draw

-- what a plain page n and the bytes that are drawn for it are sealed to
pub record IsSealing (keys : FileKeys) (n : ℕ) (plain draw : List ℕ) : Type 0 where
  pub numbered : 1 ≤ n
  pub some : 0 < keys.profile.page_size
  pub drawn : length draw ≡ keys.profile.reserve
  pub size : length (sealed keys n plain draw) ≡ keys.profile.page_size
  pub opens : opened keys n (sealed keys n plain draw) ≡ plain
  pub accepted : IsTrue (accepts keys n (sealed keys n plain draw))
