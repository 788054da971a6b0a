-- A finished file holds the pages that were put, with the header in front of page 1.
use Rattle.std.proofs.Common.{IsTrue, ◌≡◌, ◌≤◌, ℕ, Bool, true, List, Option, ◌&&◌, ◌∙◌, arith}
use Rattle.std.specs.Prelude.{nat_le}
use Rattle.std.proofs.lemmas.Bool.Decides.{nat_tests}
use Rattle.db_format.specs.declared.header.Header.{Header}
use Rattle.db_format.specs.Header.{header_bytes}
use Rattle.db_format.specs.Pages.{Pages, is_page}
use Rattle.page_codec.specs.Page.{FileKeys, accepts, stored_page}
use Rattle.bulk_load.specs.Headed.{IsHeaded}
use Rattle.fresh_file.specs.Fresh.{IsFinished, sized_page}
use Rattle.fresh_file.specs.Sealed.{plain_page}

low : (n count : ℕ) → (nat_le 2 n && nat_le n count) ≡ true → 2 ≤ n
low n count is = grind (arith, nat_tests, is)

high : (n count : ℕ) → (nat_le 2 n && nat_le n count) ≡ true → n ≤ count
high n count is = grind (arith, nat_tests, is)

page_in : (n count : ℕ) → (nat_le 2 n && nat_le n count) ≡ true → (nat_le 1 n && nat_le n count) ≡ true
page_in n count is = grind (arith, nat_tests, is)

first_in : (count : ℕ) → 1 ≤ count → (nat_le 1 1 && nat_le 1 count) ≡ true
first_in count some = grind (arith, nat_tests, some)

-- pages that read as the file opens, and of which each is accepted that the file's keys accept
pub finished_headed : (keys : FileKeys) (header : Header) (pages : Pages) (start : ℕ) (draws_tell : Bool) (fresh : Option (List ℕ)) (drawn : List ℕ)
    (f : IsFinished keys header pages start draws_tell fresh drawn) (whole : Pages) → 1 ≤ pages.count → whole.count ≡ pages.count → whole.usable ≡ pages.usable
    → ((n : ℕ) → is_page pages n ≡ true → whole.page n ≡ plain_page keys n f.file)
    → ((n : ℕ) → is_page pages n ≡ true → IsTrue (accepts keys n (stored_page keys.profile.page_size n f.file)) → whole.accepts n ≡ true)
    → IsHeaded (header_bytes (sized_page header pages.count)) pages whole
finished_headed keys header pages start draws_tell fresh drawn f whole some count usable opens lent = record {
  count = count;
  usable = usable;
  first = opens 1 (first_in pages.count some) ∙ f.first;
  others = λ n is. opens n (page_in n pages.count is) ∙ f.others n (low n pages.count is) (high n pages.count is);
  accepted = λ n is. lent n is (f.sealed n is).1.accepted;
}
