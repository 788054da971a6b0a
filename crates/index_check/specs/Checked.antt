-- What the walks of a table and of an index come to.
use Rattle.std.specs.Prelude.{◌≡◌, ◌<◌, ◌⊎◌, ◌-◌, ◌==◌, ◌&&◌, ℕ, ℤ, Bool, true, List, length, slice_index_or, Option, Result, Ok, Err, int_lt}
use Rattle.db_format.specs.Pages.{Pages}
use Rattle.btree_model.specs.Finding.{Finding, entries, is_sound}
use Rattle.btree_walk.specs.Causes.{IsAmong}
use Rattle.btree_walk.specs.declared.error.WalkError.{WalkError}
use Rattle.index_check.specs.Agree.{rowids, owners, missing, strangers, nameless, least}
use Rattle.index_check.specs.declared.agreement.Agreement.{Agreement}
use Rattle.index_check.specs.declared.rowids.Rowids.{Rowids}

-- each of these is above those before it
abbrev pub IsRising : List ℤ → Type 0
IsRising rowids = (i j : ℕ) (d : ℤ) → i < j → j < length rowids → int_lt (slice_index_or rowids i d) (slice_index_or rowids j d) ≡ true

-- so many rowids, of which this is the least
pub record AreCounted (rowids : List ℤ) (found : Rowids) : Type 0 where
  pub count_is : found.count ≡ length rowids
  pub least_is : found.least ≡ least rowids

-- how many entries there are of all rows beyond one a row, by the counts
abbrev pub surplus : Agreement → ℕ
surplus found = found.entries - found.strangers.count - found.nameless - (found.rows - found.missing.count)

-- each row has one entry and each entry a row, by the counts
abbrev pub is_whole : Agreement → Bool
is_whole found = found.missing.count == 0 && found.strangers.count == 0 && found.nameless == 0 && found.entries == found.rows

abbrev pub counted : List ℤ → Rowids
counted rowids = record { count = length rowids; least = least rowids }

-- the counts of these rows and of the entries with these owners
abbrev pub agreement_of : List ℤ → List (Option ℤ) → Agreement
agreement_of rows owners =
    record {
      rows = length rows;
      entries = length owners;
      missing = counted (missing rows owners);
      strangers = counted (strangers rows owners);
      nameless = length (nameless owners);
    }

-- these counts are those of the rows and of the entries with these owners
pub record IsAgreement (rows : List ℤ) (owners : List (Option ℤ)) (found : Agreement) : Type 0 where
  pub rows_are : found.rows ≡ length rows
  pub entries_are : found.entries ≡ length owners
  pub missing_are : AreCounted (missing rows owners) found.missing
  pub strangers_are : AreCounted (strangers rows owners) found.strangers
  pub nameless_are : found.nameless ≡ length (nameless owners)

-- neither tree has a defect; their rows and entries agree so, and the rowids of the rows rise
pub record IsIndexAgreement (table index : List Finding) (found : Agreement) : Type 0 where
  pub table_sound : is_sound table ≡ true
  pub index_sound : is_sound index ≡ true
  pub rising : IsRising (rowids (entries table))
  pub is : IsAgreement (rowids (entries table)) (owners (entries index)) found

-- what a check of the tree of an index beside that of its table came to: the counts, or why one of the walks stopped
abbrev pub IsIndexChecked : {R : Type 0} → (Pages → ℕ → R → Type 0) → Pages → List Finding → List Finding → Result Agreement (WalkError R) → Type 0
IsIndexChecked refuses pages table index (Ok found) = IsIndexAgreement table index found
IsIndexChecked refuses pages table index (Err error) = IsAmong refuses pages table error ⊎ IsAmong refuses pages index error
