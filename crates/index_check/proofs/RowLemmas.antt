-- One row or one entry more.
use Rattle.std.proofs.Common.{◌≡◌, ◌+◌, ℤ, Bool, true, false, not, ◌||◌, cond, IsTrue, List, [], ◌∷◌, ◌++◌, Option, Some, None, refl, ap, ◌∙◌}
use Rattle.std.specs.Prelude.{filter, flat_map, is_some, option_to_list}
use Rattle.std.proofs.lemmas.List.{append-nil, map-append}
use Rattle.std.proofs.lemmas.List.Concat.{flat_map-append}
use Rattle.std.proofs.lemmas.List.Folds.{list_any-append}
use Rattle.std.proofs.lemmas.List.Elements.{filter-append}
use Rattle.btree_model.specs.Finding.{Row}
use Rattle.db_format.specs.Record.{columns}
use Rattle.db_format.specs.Pages.{Pages, Test, nothing}
use Rattle.btree_walk.specs.declared.cursor.Cursor.{Cursor}
use Rattle.btree_walk.specs.Cursor.{IsCursorAt}
use Rattle.index_check.specs.Agree.{rowids, owners, owner_of, strangers, nameless, has_row, has_entry, is_of}
use Rattle.index_check.specs.Checked.{IsRising}
use Rattle.index_check.specs.Window.{IsTally, IsWindow}
use Rattle.index_check.specs.declared.tally.Tally.{Tally}
use Rattle.index_check.specs.declared.window.Window.{Window}
use Rattle.index_check.proofs.RiseLemmas.{EndsIn}

-- the cursor gave rows with these rowids, which the window took
pub record AreGiven (tells : Bool) (pages : Pages) (cursor : Cursor) (seen : Test) (rows : List ℤ) (window : Window) : Type 0 where
  pub rising : IsRising rows
  pub last : EndsIn rows cursor.last
  pub window_is : IsWindow rows window
  pub on : IsTrue tells → (given : List Row) × IsCursorAt pages nothing given cursor seen × (rows ≡ rowids given)

-- the cursor gave entries with these owners, which were counted
pub record AreTallied (tells : Bool) (pages : Pages) (cursor : Cursor) (seen : Test) (window : Window) (found : List (Option ℤ)) (tally : Tally) : Type 0 where
  pub tallied : IsTally window found tally
  pub on : IsTrue tells → (given : List Row) × IsCursorAt pages nothing given cursor seen × (found ≡ owners given)

pub rowids_on : (given : List Row) (row : Row) (rowid : Option ℤ) → row.rowid ≡ rowid → rowids (given ++ row ∷ []) ≡ rowids given ++ option_to_list rowid
rowids_on given row rowid is =
    flat_map-append (λ (r : Row). option_to_list r.rowid) given (row ∷ []) ∙ ap (λ l. rowids given ++ l) (append-nil (option_to_list row.rowid)) ∙ ap (λ o. rowids given ++ option_to_list o) is

pub rowids_stay : (given : List Row) (row : Row) → row.rowid ≡ None → rowids (given ++ row ∷ []) ≡ rowids given
rowids_stay given row is = rowids_on given row None is ∙ append-nil (rowids given)

pub owners_on : (given : List Row) (row : Row) → owners (given ++ row ∷ []) ≡ owners given ++ owner_of (columns row.payload) ∷ []
owners_on given row = map-append (λ (entry : Row). owner_of (columns entry.payload)) given (row ∷ [])

swapped : (a b : Bool) → (a || (b || false)) ≡ (b || a)
swapped true true = refl
swapped true false = refl
swapped false true = refl
swapped false false = refl

pub entry_on : (before : List (Option ℤ)) (o : Option ℤ) (rowid : ℤ) → has_entry (before ++ o ∷ []) rowid ≡ (is_of rowid o || has_entry before rowid)
entry_on before o rowid = list_any-append (is_of rowid) before (o ∷ []) ∙ swapped (has_entry before rowid) (is_of rowid o)

-- ---- one entry more

pub named_on : (before : List (Option ℤ)) (rowid : ℤ) → nameless (before ++ Some rowid ∷ []) ≡ nameless before
named_on before rowid = filter-append (λ owner. not (is_some owner)) before (Some rowid ∷ []) ∙ append-nil (nameless before)

owned_on : (before : List (Option ℤ)) (o : Option ℤ) → flat_map option_to_list (before ++ o ∷ []) ≡ flat_map option_to_list before ++ option_to_list o
owned_on before o = flat_map-append option_to_list before (o ∷ []) ∙ ap (λ l. flat_map option_to_list before ++ l) (append-nil (option_to_list o))

strangers_some : (rows : List ℤ) (before : List (Option ℤ)) (rowid : ℤ) → strangers rows (before ++ Some rowid ∷ []) ≡ strangers rows before ++ strangers rows (Some rowid ∷ [])
strangers_some rows before rowid =
    ap (filter (λ r. not (has_row rows (Some r)))) (owned_on before (Some rowid)) ∙ filter-append (λ r. not (has_row rows (Some r))) (flat_map option_to_list before) (rowid ∷ [])

pub strangers_more : (rows : List ℤ) (before : List (Option ℤ)) (rowid : ℤ) → has_row rows (Some rowid) ≡ false → strangers rows (before ++ Some rowid ∷ []) ≡ strangers rows before ++ rowid ∷ []
strangers_more rows before rowid e = strangers_some rows before rowid ∙ ap (λ b. strangers rows before ++ cond (not b) (rowid ∷ []) []) e

-- of those that pass a test
pub passed_more : (p : ℤ → Bool) (rows : List ℤ) (before : List (Option ℤ)) (rowid : ℤ) → has_row rows (Some rowid) ≡ false → p rowid ≡ true
    → filter p (strangers rows (before ++ Some rowid ∷ [])) ≡ filter p (strangers rows before) ++ rowid ∷ []
passed_more p rows before rowid e over =
    ap (filter p) (strangers_more rows before rowid e) ∙ filter-append p (strangers rows before) (rowid ∷ []) ∙ ap (λ b. filter p (strangers rows before) ++ cond b (rowid ∷ []) []) over
