-- A new file while its pages are put, and at its end.
use Rattle.std.specs.Prelude.{IsTrue, ◌≡◌, ℕ, ◌*◌, ◌≤◌, ◌==◌, Bool, true, List, [], ◌++◌, length, drop, Option, Some, None, if◌then◌else◌}
use Rattle.db_format.specs.declared.header.Header.{Header}
use Rattle.db_format.specs.Header.{header_bytes}
use Rattle.db_format.specs.Pages.{Pages, Test, is_page}
use Rattle.cipher_profile.specs.Profile.{is_clear}
use Rattle.page_codec.specs.Page.{FileKeys, magic, salt_of}
use Rattle.atomic_commit.specs.Draws.{OwnDraws}
use Rattle.fresh_file.specs.Sealed.{IsSealed, IsSealedWith, plain_page}

-- the pages that were put stand in the file, sealed, and it is no longer than `count` pages
pub record IsPaged (keys : FileKeys) (put : Test) (count : ℕ) (fresh : Option (List ℕ)) : Type 0 where
  pub file : List ℕ
  pub is : fresh ≡ Some file
  pub sealed : (n : ℕ) → put n ≡ true → IsSealed keys file n
  pub short : length file ≤ count * keys.profile.page_size

-- each was sealed with bytes of its own, of those that were drawn after the first `start`
pub record IsOwned (keys : FileKeys) (put : Test) (start : ℕ) (fresh : Option (List ℕ)) (drawn : List ℕ) : Type 0 where
  pub begun : start ≤ length drawn
  pub own : (file : List ℕ) → fresh ≡ Some file → OwnDraws keys.profile.reserve start drawn put (IsSealedWith keys file)

-- the bytes are told, and both hold, the second where draws are told too
pub record IsWell (keys : FileKeys) (put : Test) (count start : ℕ) (tells draws_tell : Bool) (fresh : Option (List ℕ)) (drawn : List ℕ) : Type 0 where
  pub told : IsTrue tells
  pub paged : IsPaged keys put count fresh
  pub owned : IsTrue draws_tell → IsOwned keys put start fresh drawn

abbrev pub fresh_contents : Option (List ℕ) → List ℕ
fresh_contents None = []
fresh_contents (Some file) = file

-- A page by its number: page 1 is held back till the end, and one that was not put has no byte. What is held back of the others goes
-- before the file.
abbrev pub fresh_page : FileKeys → List ℕ → Test → (ℕ → List ℕ → List ℕ) → Option (List ℕ) → ℕ → List ℕ
fresh_page keys first put held fresh n =
    if n == 1 then first else (if put n then held n (plain_page keys n (fresh_contents fresh)) else [])

-- a page 1 with these bytes at its start
abbrev pub with_head : List ℕ → List ℕ → List ℕ
with_head head page = head ++ drop (length head) page

-- the header of a file of so many pages
abbrev pub sized_page : Header → ℕ → Header
sized_page header count = record header { size_field = count }

-- The file begins with the salt, or with the magic where it holds none. It is these pages and no byte more, each sealed with bytes of its own, of those that were drawn
-- after the first `start`. Page 1 begins with the header.
pub record IsFinished (keys : FileKeys) (header : Header) (pages : Pages) (start : ℕ) (draws_tell : Bool) (fresh : Option (List ℕ)) (drawn : List ℕ) : Type 0 where
  pub file : List ℕ
  pub is : fresh ≡ Some file
  pub salt : salt_of file ≡ keys.salt
  pub clear : is_clear keys.profile ≡ true → salt_of file ≡ magic
  pub size : length file ≡ pages.count * keys.profile.page_size
  pub sealed : (n : ℕ) → is_page pages n ≡ true → IsSealed keys file n
  pub first : plain_page keys 1 file ≡ with_head (header_bytes (sized_page header pages.count)) (pages.page 1)
  pub others : (n : ℕ) → 2 ≤ n → n ≤ pages.count → plain_page keys n file ≡ pages.page n
  pub own : IsTrue draws_tell → OwnDraws keys.profile.reserve start drawn (is_page pages) (IsSealedWith keys file)
