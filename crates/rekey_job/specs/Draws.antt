-- The bytes that the pages of a file were sealed with.
use Rattle.std.specs.Prelude.{◌≡◌, ℕ, false, List}
use Rattle.cipher_profile.specs.Profile.{is_plain}
use Rattle.db_format.specs.Pages.{Test}
use Rattle.page_codec.specs.Page.{FileKeys, opened, sealed}
use Rattle.pager.specs.File.{page_stored}
use Rattle.atomic_commit.specs.Draws.{OwnDraws}

-- Each page of a test is stored as what it opens to, sealed with bytes of its own of those that were drawn, from an offset on.
abbrev pub AreDrawn : FileKeys → List ℕ → Test → ℕ → List ℕ → Type 0
AreDrawn keys file pages from drawn =
    OwnDraws keys.profile.reserve from drawn pages (λ n draw. page_stored keys file n ≡ sealed keys n (opened keys n (page_stored keys file n)) draw)

-- so it is of an encrypted file; a plain one takes no drawn bytes
abbrev pub FileDraws : FileKeys → List ℕ → Test → ℕ → List ℕ → Type 0
FileDraws keys file pages from drawn = is_plain keys.profile ≡ false → AreDrawn keys file pages from drawn
