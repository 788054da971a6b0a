-- The plain pages of a file.
use Rattle.std.specs.Prelude.{ℕ, ◌&&◌, nat_le, Bool, List, [], if◌then◌else◌}
use Rattle.cipher_profile.specs.Profile.{usable}
use Rattle.db_format.specs.Pages.{Pages}
use Rattle.page_codec.specs.Page.{FileKeys, accepts, opened}
use Rattle.pager.specs.File.{page_stored}

-- the number of one of so many pages
abbrev pub is_page_number : ℕ → ℕ → Bool
is_page_number count n = nat_le 1 n && nat_le n count

-- so many pages of a file, each opened with these keys
abbrev pub opened_pages : FileKeys → List ℕ → ℕ → Pages
opened_pages keys file count = record {
  count = count;
  usable = usable keys.profile;
  page = λ n. if is_page_number count n then opened keys n (page_stored keys file n) else [];
  accepts = λ n. is_page_number count n && accepts keys n (page_stored keys file n);
}
