-- Windows: the rowids of a table in pieces of 2^20, from the least on. The windows part all rowids, so that each row and each entry
-- counts in one of them.
use Rattle.std.specs.Prelude.{◌≡◌, ◌<◌, ◌-◌, ℕ, ℤ, pos, Bool, true, false, not, ◌&&◌, nat_lt, List, take, filter, length, slice_index_or, Option, Some, None, Result, Ok, Err, int_lt}
use Rattle.db_format.specs.Pages.{Pages}
use Rattle.db_format.specs.Seen.{marked}
use Rattle.btree_model.specs.Finding.{Finding, entries, is_sound}
use Rattle.btree_walk.specs.Causes.{IsAmong}
use Rattle.btree_walk.specs.declared.error.WalkError.{WalkError}
use Rattle.index_check.specs.Agree.{rowids, owners, missing, strangers, nameless, has_entry}
use Rattle.index_check.specs.Checked.{AreCounted, IsRising}
use Rattle.index_check.specs.declared.part.Part.{Part}
use Rattle.index_check.specs.declared.tally.Tally.{Tally}
use Rattle.index_check.specs.declared.window.Window.{Window}

-- how many rowids a window has at most
abbrev pub room : ℕ
room = 1048576

-- the rowid is above this one; where there is none, each is
abbrev pub is_above : Option ℤ → ℤ → Bool
is_above None rowid = true
is_above (Some low) rowid = int_lt low rowid

-- it is no greater than this one
abbrev pub is_upto : Option ℤ → ℤ → Bool
is_upto None rowid = true
is_upto (Some high) rowid = not (int_lt high rowid)

abbrev pub is_within : Option ℤ → Option ℤ → ℤ → Bool
is_within low high rowid = is_above low rowid && is_upto high rowid

-- the last of these rowids, where there are more behind them
abbrev pub high_of : Bool → List ℤ → Option ℤ
high_of false rowids = None
high_of true rowids = Some (slice_index_or rowids (length rowids - 1) (pos 0))

-- the last rowid of a window that is not the last one
abbrev pub high : Window → Option ℤ
high window = high_of window.more window.rowids.items

-- the rowid is one that this window decides
abbrev pub covers : Window → ℤ → Bool
covers window = is_within window.above (high window)

-- the window has the first rowids of these rows that are above its lower end, as many as it has room for
pub record IsWindow (rows : List ℤ) (window : Window) : Type 0 where
  pub rows_are : window.rows ≡ length rows
  pub rowids_are : window.rowids.items ≡ take room (filter (is_above window.above) rows)
  pub more_is : window.more ≡ nat_lt room (length (filter (is_above window.above) rows))

-- the tree has no defect, and the window is one of its rows
pub record IsWindowOf (all : List Finding) (window : Window) : Type 0 where
  pub sound : is_sound all ≡ true
  pub rising : IsRising (rowids (entries all))
  pub is : IsWindow (rowids (entries all)) window

-- the entries with these owners, counted beside a window
pub record IsTally (window : Window) (owners : List (Option ℤ)) (tally : Tally) : Type 0 where
  pub entries_are : tally.entries ≡ length owners
  pub nameless_are : tally.nameless ≡ length (nameless owners)
  pub strangers_are : AreCounted (filter (covers window) (strangers window.rowids.items owners)) tally.strangers
  pub met_are : (k : ℕ) (d : ℤ) → k < length window.rowids.items → marked tally.met k ≡ has_entry owners (slice_index_or window.rowids.items k d)

-- of the rows of a window, and of the entries with these owners
pub record IsPart (window : Window) (owners : List (Option ℤ)) (part : Part) : Type 0 where
  pub entries_are : part.entries ≡ length owners
  pub nameless_are : part.nameless ≡ length (nameless owners)
  pub missing_are : AreCounted (missing window.rowids.items owners) part.missing
  pub strangers_are : AreCounted (filter (covers window) (strangers window.rowids.items owners)) part.strangers

-- the index has no defect, and has this part beside the window
pub record IsPartOf (all : List Finding) (window : Window) (part : Part) : Type 0 where
  pub sound : is_sound all ≡ true
  pub is : IsPart window (owners (entries all)) part

abbrev pub IsPartChecked : {R : Type 0} → (Pages → ℕ → R → Type 0) → Pages → List Finding → Window → Result Part (WalkError R) → Type 0
IsPartChecked refuses pages all window (Ok part) = IsPartOf all window part
IsPartChecked refuses pages all window (Err error) = IsAmong refuses pages all error
