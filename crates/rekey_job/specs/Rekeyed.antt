-- What a rekeyed file is to the file of before, which was clean: the same count and plain pages, under other keys, with the salt of these. A leaf of the
-- freelist, whose bytes hold no content, stands as zeros.
use Rattle.std.specs.Prelude.{◌≡◌, ℕ, true, List, Some}
use Rattle.btree_model.specs.Plain.{with_zeros}
use Rattle.page_codec.specs.Page.{FileKeys, accepts, opened, salt_of}
use Rattle.pager.specs.Database.{count_of}
use Rattle.pager.specs.File.{page_stored}
use Rattle.pager.specs.Pages.{is_page_number, opened_pages}
use Rattle.rekey_job.specs.Stops.{AreClean}

-- the file `after` under the new keys is the clean file `before`, of so many pages, under the old ones
pub record IsRekeyed (old_keys new_keys : FileKeys) (count : ℕ) (before after : List ℕ) : Type 0 where
  pub salt : salt_of after ≡ new_keys.salt
  pub was : count_of old_keys before ≡ Some count
  pub clean : AreClean (opened_pages old_keys before count)
  pub is : count_of new_keys after ≡ Some count
  pub accepted : (n : ℕ) → is_page_number count n ≡ true → accepts new_keys n (page_stored new_keys after n) ≡ true
  -- page 1, with the header, is no leaf
  pub first : opened new_keys 1 (page_stored new_keys after 1) ≡ opened old_keys 1 (page_stored old_keys before 1)
  pub plain : (n : ℕ) → is_page_number count n ≡ true
      → opened new_keys n (page_stored new_keys after n) ≡ (with_zeros (opened_pages old_keys before count)).page n
