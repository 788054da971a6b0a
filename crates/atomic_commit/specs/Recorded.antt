-- Which pages have a record, by their marks.
use Rattle.std.specs.Prelude.{ℕ, ◌≡◌, ◌≤◌, Bool, true, false, List, length}
use Rattle.journal_format.specs.Records.{Record}
use Rattle.atomic_commit.specs.Facts.{HasNone, HasRecord}
use Rattle.atomic_commit.specs.Marks.{is_marked}

-- the marked pages are those that have a record
pub record AreRecorded (marks : List Bool) (records : List Record) : Type 0 where
  pub have_one : (n : ℕ) → 1 ≤ n → n ≤ length marks → is_marked n marks ≡ true → HasRecord n records
  pub have_none : (n : ℕ) → 1 ≤ n → n ≤ length marks → is_marked n marks ≡ false → HasNone n records
