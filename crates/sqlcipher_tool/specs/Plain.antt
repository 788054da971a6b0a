-- The plain pages of a file, and what it holds.
use Rattle.std.specs.Prelude.{◌≡◌, ℕ, ◌&&◌, not, true, false, List, [], map, Some}
use Rattle.std.specs.List.{range_with_len}
use Rattle.btree_model.specs.Content.{Content, content}
use Rattle.btree_model.specs.Parts.{is_database}
use Rattle.btree_model.specs.Plain.{is_leaf, with_zeros}
use Rattle.db_format.specs.Pages.{Pages, Test}
use Rattle.cipher_profile.specs.Profile.{usable}
use Rattle.page_codec.specs.Page.{FileKeys, fits}
use Rattle.pager.specs.Pages.{opened_pages}
use Rattle.pager.specs.Database.{count_of}
use Rattle.pager.specs.File.{page_stored}
use Rattle.sqlcipher_tool.specs.Tags.{numbers_where}

-- the plain pages of a file with so many
abbrev pub plain_pages : FileKeys → List ℕ → ℕ → List (List ℕ)
plain_pages keys file count = map (with_zeros (opened_pages keys file count)).page (range_with_len 1 count)

-- the page is not accepted, and none of those of a test
abbrev pub is_left : Pages → Test → Test
is_left pages passed n = not (passed n) && not (pages.accepts n)

-- the pages that are not accepted, ascending, but those of a test
abbrev pub refused_but : Pages → Test → List ℕ
refused_but pages passed = numbers_where (is_left pages passed) pages.count

-- those in use
abbrev pub refused_in_use : Pages → List ℕ
refused_in_use pages = refused_but pages (is_leaf pages)

abbrev pub content_of : FileKeys → List ℕ → ℕ → Content
content_of keys file count = content (with_zeros (opened_pages keys file count))

-- the key fits, the file has its pages, no part has a defect, and this is the content
pub record Opens (keys : FileKeys) (file : List ℕ) (held : Content) : Type 0 where
  pub fit : fits keys (page_stored keys file 1) ≡ true
  pub count : ℕ
  pub is_count : count_of keys file ≡ Some count
  pub sound : is_database (opened_pages keys file count) ≡ true
  pub is : content_of keys file count ≡ held

-- besides, each page in use is accepted
pub record IsClean (keys : FileKeys) (file : List ℕ) : Type 0 where
  pub held : Content
  pub opens : Opens keys file held
  pub accepted : refused_in_use (opened_pages keys file opens.count) ≡ []

-- The same pages in use. Leaves of the freelist of the old ones may have any bytes, and be accepted or not.
pub record IsSameInUse (old new : Pages) : Type 0 where
  pub count : new.count ≡ old.count
  pub usable : new.usable ≡ old.usable
  pub page : (n : ℕ) → is_leaf old n ≡ false → new.page n ≡ old.page n
  pub accepted : (n : ℕ) → is_leaf old n ≡ false → new.accepts n ≡ old.accepts n

-- So many pages in both files, of one length, which are the same as plain pages; and of those in use the same are accepted.
pub record HaveSamePages (count : ℕ) (old_keys : FileKeys) (old : List ℕ) (new_keys : FileKeys) (new : List ℕ) : Type 0 where
  pub old_count : count_of old_keys old ≡ Some count
  pub new_count : count_of new_keys new ≡ Some count
  pub usable : usable new_keys.profile ≡ usable old_keys.profile
  pub plain : plain_pages new_keys new count ≡ plain_pages old_keys old count
  pub accepted : (n : ℕ) → is_leaf (opened_pages old_keys old count) n ≡ false
      → (opened_pages new_keys new count).accepts n ≡ (opened_pages old_keys old count).accepts n
