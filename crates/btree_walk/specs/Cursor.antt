-- A cursor: where its walk is.
use Rattle.std.specs.Prelude.{◌≡◌, ◌≤◌, ℕ, ◌+◌, Bool, true, false, List, [], ◌∷◌, ◌++◌, length, Option, Some, None, Result, Ok, Err, ⊤}
use Rattle.std.specs.List.{Contains}
use Rattle.db_format.specs.Pages.{Pages, Test, also}
use Rattle.btree_page.specs.declared.kind.Family.{Family}
use Rattle.btree_page.specs.Payload.{max_payload}
use Rattle.btree_model.specs.Finding.{Row, Finding, places, entries, faults, is_sound}
use Rattle.btree_model.specs.Tree.{root_family, tree, tree_walk}
use Rattle.btree_walk.specs.declared.cursor.Cursor.{Cursor}
use Rattle.btree_walk.specs.declared.cursor.Entry.{Entry}
use Rattle.btree_walk.specs.declared.cursor.Stage.{Stage}
use Rattle.btree_walk.specs.declared.cursor.Stage.TheVariants.{New, Inside, Stopped}
use Rattle.btree_walk.specs.declared.error.WalkError.{WalkError}
use Rattle.btree_walk.specs.declared.error.WalkError.TheVariants.{Defect as Found, Source, OutOfMemory}
use Rattle.btree_walk.specs.declared.turn.Moved.{Moved}
use Rattle.btree_walk.specs.declared.turn.Moved.TheVariants.{Up, Down, Passed, Gave}
use Rattle.btree_walk.specs.Causes.{IsAmong, IsMarked}
use Rattle.btree_walk.specs.Order.{IsAfter, IsCovered}
use Rattle.btree_walk.specs.Pins.{path_pins}
use Rattle.btree_walk.specs.Turn.{AreInside, IsInside}
use Rattle.btree_model.specs.Content.{last_after}

-- ---- what is walked

-- the family that was asked for, or else that of the root
abbrev pub family_or : Option Family → Family → Family
family_or None family = family
family_or (Some asked) family = asked

abbrev pub walked_family : Pages → Cursor → Family
walked_family pages cursor = family_or cursor.asked (root_family cursor.root (pages.page cursor.root))

-- the findings of the cursor's tree, where `taken` holds for the pages with a place in an earlier part
abbrev pub walked : Pages → Test → Cursor → List Finding
walked pages taken cursor = tree_walk pages (walked_family pages cursor) taken cursor.root

-- two states of one cursor
pub record IsSameTree (old new : Cursor) : Type 0 where
  pub root : new.root ≡ old.root
  pub asked : new.asked ≡ old.asked

-- before and after a turn
pub record IsSameWalk (old new : Cursor) : Type 0 where
  pub root : new.root ≡ old.root
  pub asked : new.asked ≡ old.asked
  pub family : new.family ≡ old.family
  pub stage : new.stage ≡ old.stage
  pub given : new.given ≡ old.given

-- ---- where the walk is

-- the entry that was given last
abbrev pub row_of : Cursor → Row
row_of cursor = record { rowid = cursor.rowid; payload = cursor.payload.items; page = cursor.page }

-- the same of an entry that is lent
abbrev pub row_shown : Entry → Row
row_shown entry = record { rowid = entry.rowid; payload = entry.payload.now; page = entry.page }

-- nothing of the tree was met
pub record IsUnmoved (taken : Test) (given : List Row) (cursor : Cursor) (seen : Test) : Type 0 where
  pub path : cursor.path ≡ []
  pub floor : cursor.floor ≡ None
  pub last : cursor.last ≡ None
  pub gave : given ≡ []
  pub marks : seen ≡ taken

-- it walks a tree of its family
abbrev pub IsWalking : Pages → Test → List Row → Cursor → Test → Type 0
IsWalking pages taken given cursor seen =
    IsInside pages cursor.family cursor.root taken given cursor.path cursor.floor cursor.last cursor.last_page seen

-- and that is the family that is to be walked
pub record IsCursorBegun (pages : Pages) (taken : Test) (given : List Row) (cursor : Cursor) (seen : Test) : Type 0 where
  pub family : cursor.family ≡ walked_family pages cursor
  pub walking : IsWalking pages taken given cursor seen

abbrev pub IsAtStage : Stage → Pages → Test → List Row → Cursor → Test → Type 0
IsAtStage New pages taken given cursor seen = IsUnmoved taken given cursor seen
IsAtStage Inside pages taken given cursor seen = IsCursorBegun pages taken given cursor seen
IsAtStage (Stopped defect) pages taken given cursor seen =
    Contains (faults (walked pages taken cursor)) defect × IsMarked (walked pages taken cursor) taken seen

-- The cursor gave these entries of its tree, where `taken` holds for the pages with a place in an earlier part, and these
-- pages are marked: those, and the tree's places that were met.
abbrev pub IsCursorAt : Pages → Test → List Row → Cursor → Test → Type 0
IsCursorAt pages taken given cursor seen = IsAtStage cursor.stage pages taken given cursor seen

-- a cursor as it is made
pub record IsCursorMade (root : ℕ) (asked : Option Family) (cursor : Cursor) : Type 0 where
  pub root_is : cursor.root ≡ root
  pub asked_is : cursor.asked ≡ asked
  pub stage : cursor.stage ≡ New
  pub path : cursor.path ≡ []
  pub floor : cursor.floor ≡ None
  pub last : cursor.last ≡ None
  pub given : cursor.given ≡ 0

-- ---- what a caller sees to

-- the cursor fits a source with so many pages and these pins, and these marks
pub record IsCursorReady (count : ℕ) (pins : ℕ → ℕ) (seen : List Bool) (cursor : Cursor) : Type 0 where
  -- its root is a page
  pub low : 1 ≤ cursor.root
  pub high : cursor.root ≤ count
  -- there is a mark for each page
  pub marks : length seen ≡ count + 1
  -- its path has at most 20 pages; each of them has one pin, and no other page has any
  pub short : length cursor.path ≤ 20
  pub pinned : pins ≡ path_pins cursor.path
  pub inside : AreInside count cursor.path
  pub begun : cursor.stage ≡ New → cursor.path ≡ []
  pub covered : IsCovered cursor.last cursor.floor

-- ---- after a call

-- the next entry of the walk was given
pub record IsNext (pages : Pages) (taken : Test) (given : List Row) (cursor : Cursor) (seen : Test) (row : Row) : Type 0 where
  pub at : IsCursorAt pages taken (given ++ row ∷ []) cursor seen
  pub more : List Row
  pub order : entries (walked pages taken cursor) ≡ given ++ row ∷ more

-- the walk is at its end: what was given is the tree, and the places of its walk are marked
pub record IsEnd (pages : Pages) (taken : Test) (given : List Row) (cursor : Cursor) (seen : Test) : Type 0 where
  pub at : IsCursorAt pages taken given cursor seen
  pub sound : is_sound (walked pages taken cursor) ≡ true
  pub whole : entries (walked pages taken cursor) ≡ given
  pub list : tree pages (walked_family pages cursor) cursor.root ≡ Some given
  pub marks : seen ≡ also (places (walked pages taken cursor)) taken

-- what a call of `advance` came to
abbrev pub IsAdvanced : {R : Type 0} → (Pages → ℕ → R → Type 0) → Pages → Test → List Row → Cursor → Test → Result Bool (WalkError R) → Type 0
IsAdvanced refuses pages taken given cursor seen (Ok true) = IsNext pages taken given cursor seen (row_of cursor)
IsAdvanced refuses pages taken given cursor seen (Ok false) = IsEnd pages taken given cursor seen
IsAdvanced refuses pages taken given cursor seen (Err error) = IsAmong refuses pages (walked pages taken cursor) error

-- an entry was given
abbrev pub gives : {R : Type 0} → Result Bool (WalkError R) → Bool
gives (Ok more) = more
gives (Err error) = false

-- what a call of `next` came to: the next entry of this walk, or its end, or why it stopped
abbrev pub GivesNext : {R : Type 0} → (Pages → ℕ → R → Type 0) → Pages → List Finding → List Row → Result (Option Entry) (WalkError R) → Type 0
GivesNext refuses pages all given (Ok None) = (is_sound all ≡ true) × (entries all ≡ given)
GivesNext refuses pages all given (Ok (Some entry)) = (more : List Row) × (entries all ≡ given ++ row_shown entry ∷ more)
GivesNext refuses pages all given (Err error) = IsAmong refuses pages all error

-- ---- inside a call

-- the last rowid stays until an entry is given, and then is that entry's, where it has one
abbrev pub IsRising : Cursor → Cursor → Moved → Type 0
IsRising old new Up = new.last ≡ old.last
IsRising old new Down = new.last ≡ old.last
IsRising old new Passed = new.last ≡ old.last
IsRising old new Gave = IsAfter old.last new.rowid × (length new.payload.items ≤ max_payload) × (new.last ≡ last_after old.last new.rowid)

-- the entry that was given is read, and its rowid is above the last one and is now the last
abbrev pub IsGivenAfter : Cursor → Cursor → Bool → Type 0
IsGivenAfter old new true = IsAfter old.last new.rowid × (length new.payload.items ≤ max_payload) × (new.last ≡ last_after old.last new.rowid)
IsGivenAfter old new false = new.last ≡ old.last

-- after an error that is a defect, the cursor has it
abbrev pub KeepsDefect : {R : Type 0} → Cursor → WalkError R → Type 0
KeepsDefect cursor (Found defect) = cursor.stage ≡ Stopped defect
KeepsDefect cursor (Source refusal) = ⊤
KeepsDefect cursor OutOfMemory = ⊤

-- with the row of an answer that there is one
abbrev pub given_then : List Row → Row → Bool → List Row
given_then given row true = given ++ row ∷ []
given_then given row false = given
