-- A made file: it opens, and holds so many rows.
use Rattle.std.specs.Prelude.{◌≡◌, ℕ, ◌*◌, true, List, [], ◌∷◌, length, Ok}
use Rattle.btree_model.specs.Content.{Content, HoldsContent}
use Rattle.bulk_load.specs.Found.{IsTight}
use Rattle.cipher_profile.specs.declared.keys.Secret.{Secret}
use Rattle.cipher_profile.specs.declared.profile.Profile.{Profile}
use Rattle.db_format.specs.declared.header.Header.{Header}
use Rattle.db_maker.specs.Made.{made_items}
use Rattle.fresh_file.specs.Head.{BeginsWith}
use Rattle.page_codec.specs.Page.{FileKeys, accepts, keys_of}
use Rattle.pager.specs.File.{page_stored}
use Rattle.pager.specs.Opening.{file_opened}
use Rattle.pager.specs.Pages.{is_page_number, opened_pages}

-- the header of a made file of so many pages
abbrev pub made_header : Profile → ℕ → Header
made_header profile count = record {
  page_size = profile.page_size;
  reserve = profile.reserve;
  change = 1;
  size_field = count;
  first_trunk = 0;
  free_count = 0;
  cookie = 1;
  format = 4;
  cache = 0;
  encoding = 1;
  user_version = 0;
  application_id = 0;
  valid_for = 1;
  sqlite_number = 3045000;
}

-- what it holds: of the fields that a content keeps, the cookie, the format, the encoding and SQLite's version number are not 0
abbrev pub made_content : ℕ → Content
made_content rows = record { kept = 1 ∷ 4 ∷ 0 ∷ 1 ∷ 0 ∷ 0 ∷ 3045000 ∷ []; rows = made_items rows }

-- Under these keys the file opens with that header, and begins with its bytes. It is so many pages and no byte more, each of them is
-- accepted, no part of the database has a defect, and it holds so many rows. No page of it is free, and none unused.
pub record IsMadeUnder (keys : FileKeys) (rows : ℕ) (file : List ℕ) : Type 0 where
  pub count : ℕ
  pub opens : file_opened keys file ≡ Ok (record { header = made_header keys.profile count; count = count })
  pub begins : BeginsWith keys (made_header keys.profile count) file
  pub size : length file ≡ count * keys.profile.page_size
  pub accepted : (n : ℕ) → is_page_number count n ≡ true → accepts keys n (page_stored keys file n) ≡ true
  pub holds : HoldsContent (opened_pages keys file count) (made_content rows)
  pub tight : IsTight (opened_pages keys file count)

-- the same under the keys that the secret gives for the file
abbrev pub IsMade : Profile → Secret → ℕ → List ℕ → Type 0
IsMade profile secret rows file = IsMadeUnder (keys_of profile secret file) rows file
