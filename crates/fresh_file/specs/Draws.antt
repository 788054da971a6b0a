-- The bytes that the pages of a whole new file were sealed with.
use Rattle.std.specs.Prelude.{◌≡◌, Bool, true, false, ◌≤◌, ◌/◌, ◌&&◌, ℕ, nat_le, List, length, take}
use Rattle.cipher_profile.specs.Profile.{is_clear, is_plain}
use Rattle.db_format.specs.Pages.{Test}
use Rattle.page_codec.specs.Page.{FileKeys, salt_of}
use Rattle.atomic_commit.specs.Draws.{OwnDraws}
use Rattle.fresh_file.specs.Sealed.{IsSealedWith}

-- the number of a page of the file
abbrev pub is_page_of : FileKeys → List ℕ → Test
is_page_of keys file n = nat_le 1 n && nat_le n (length file / keys.profile.page_size)

-- each page of the file was sealed with bytes of its own of those that were drawn, but for the first so many
abbrev pub AreOwnDraws : FileKeys → List ℕ → ℕ → List ℕ → Type 0
AreOwnDraws keys file from drawn = OwnDraws keys.profile.reserve from drawn (is_page_of keys file) (IsSealedWith keys file)

-- The salt is the first 16 bytes that were drawn, and each page was sealed with bytes of its own of those after them.
pub record HasSaltAndDraws (keys : FileKeys) (file drawn : List ℕ) : Type 0 where
  pub enough : 16 ≤ length drawn
  pub salt : salt_of file ≡ take 16 drawn
  pub pages : AreOwnDraws keys file 16 drawn

-- where page 1 begins as it is stored, no salt was drawn
abbrev pub HasDraws : Bool → FileKeys → List ℕ → List ℕ → Type 0
HasDraws true keys file drawn = AreOwnDraws keys file 0 drawn
HasDraws false keys file drawn = HasSaltAndDraws keys file drawn

-- so it is of an encrypted file; a plain one takes no drawn bytes
abbrev pub HasOwnDraws : FileKeys → List ℕ → List ℕ → Type 0
HasOwnDraws keys file drawn = is_plain keys.profile ≡ false → HasDraws (is_clear keys.profile) keys file drawn
