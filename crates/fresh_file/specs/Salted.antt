-- A new file that begins with the salt of its keys. What makes it the wanted one is a parameter.
use Rattle.std.specs.Prelude.{◌≡◌, ℕ, List}
use Rattle.page_codec.specs.Page.{FileKeys, salt_of}

-- the file is such a one, and begins with the salt of these keys
pub record IsSalted (keys : FileKeys) (wanted : List ℕ → Type 0) (file : List ℕ) : Type 0 where
  pub salt : salt_of file ≡ keys.salt
  pub is_new : wanted file
