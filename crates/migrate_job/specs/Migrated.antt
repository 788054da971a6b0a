-- A migrated file: under its keys it opens to what the old file holds.
use Rattle.std.specs.Prelude.{◌≡◌, ℕ, ◌*◌, true, List, length, Ok}
use Rattle.btree_model.specs.Content.{HoldsContent, content}
use Rattle.btree_model.specs.Parts.{is_database}
use Rattle.bulk_load.specs.Found.{IsTight}
use Rattle.cipher_profile.specs.declared.keys.Secret.{Secret}
use Rattle.cipher_profile.specs.declared.profile.Profile.{Profile}
use Rattle.db_format.specs.Pages.{Pages}
use Rattle.db_format.specs.declared.header.Header.{Header}
use Rattle.fresh_file.specs.Head.{BeginsWith}
use Rattle.page_codec.specs.Page.{FileKeys, accepts, keys_of}
use Rattle.pager.specs.File.{page_stored}
use Rattle.pager.specs.Opening.{file_opened}
use Rattle.pager.specs.Pages.{is_page_number, opened_pages}

-- The header of a migrated file of so many pages: seven fields are those of the old one, and it begins anew with its changes and without
-- a freelist.
abbrev pub migrated_header : Profile → Header → ℕ → Header
migrated_header profile old count = record {
  page_size = profile.page_size;
  reserve = profile.reserve;
  change = 1;
  size_field = count;
  first_trunk = 0;
  free_count = 0;
  cookie = old.cookie;
  format = old.format;
  cache = old.cache;
  encoding = old.encoding;
  user_version = old.user_version;
  application_id = old.application_id;
  valid_for = 1;
  sqlite_number = old.sqlite_number;
}

-- No part of the old pages has a defect. Under these keys the file opens with that header, and begins with its bytes. It is so many pages
-- and no byte more, each of them is accepted, no part of the database has a defect, and it has the content of the old pages: the kept
-- fields, every schema row but for the number of its root page, and every entry in its order. No page of it is free, and none unused.
pub record IsMigratedUnder (keys : FileKeys) (old : Header) (before : Pages) (file : List ℕ) : Type 0 where
  pub sound : is_database before ≡ true
  pub count : ℕ
  pub opens : file_opened keys file ≡ Ok (record { header = migrated_header keys.profile old count; count = count })
  pub begins : BeginsWith keys (migrated_header keys.profile old count) file
  pub size : length file ≡ count * keys.profile.page_size
  pub accepted : (n : ℕ) → is_page_number count n ≡ true → accepts keys n (page_stored keys file n) ≡ true
  pub holds : HoldsContent (opened_pages keys file count) (content before)
  pub tight : IsTight (opened_pages keys file count)

-- the same under the keys that the secret gives for the file
abbrev pub IsMigrated : Profile → Secret → Header → Pages → List ℕ → Type 0
IsMigrated profile secret old before file = IsMigratedUnder (keys_of profile secret file) old before file
