-- How far a search is, and where it stops.
use Rattle.std.specs.Prelude.{◌≡◌, ◌≤◌, ◌+◌, ℕ, Bool, true, false, List, [], ◌∷◌, ◌++◌, ◌⊎◌, length, Result, Ok, Err, IsTrue, ⊤}
use Rattle.std.specs.List.{Contains}
use Rattle.db_format.specs.declared.defect.Defect.{Defect as FormatDefect}
use Rattle.db_format.specs.declared.defect.Defect.TheVariants.{PageTwice}
use Rattle.db_format.specs.Pages.{Pages, Test, also, is_page}
use Rattle.btree_model.specs.Finding.{Row, Finding, place, fault, refused, places, entries, is_sound}
use Rattle.btree_model.specs.Walk.{chain_bytes}
use Rattle.btree_walk.specs.declared.error.WalkError.{WalkError}
use Rattle.btree_walk.specs.declared.error.WalkError.TheVariants.{Defect, Source, OutOfMemory}
use Rattle.row_text.specs.Out.{Moves, MovesPart}
use Rattle.rowid_find.specs.declared.error.FindError.{FindError}
use Rattle.rowid_find.specs.declared.error.FindError.TheVariants.{Walk, OutputFault}
use Rattle.rowid_find.specs.Lines.{count_line, found_report, found_rows_text}
use Rattle.rowid_find.specs.Once.{are_new}
use Rattle.rowid_find.specs.Reach.{chain_findings}

-- the pages that were read, and which were met
pub record Met : Type 0 where
  pub reads : ℕ
  pub marks : Test

-- ---- why it stops

-- the source refused the page of one of these places; where the page is not accepted, that comes next
pub record IsRefusedNext {R : Type 0} (refuses : Pages → ℕ → R → Type 0) (pages : Pages) (found more : List Finding) (refusal : R) : Type 0 where
  pub page : ℕ
  pub range : is_page pages page ≡ true
  pub placed : Contains (places found) page
  pub refuses_it : refuses pages page refusal
  pub later : List Finding
  pub next : pages.accepts page ≡ false → more ≡ refused page ∷ later

-- the defect comes next, or a refused page
abbrev pub IsNextStop : {R : Type 0} → (Pages → ℕ → R → Type 0) → Pages → List Finding → List Finding → WalkError R → Type 0
IsNextStop refuses pages found more (Defect defect) = (later : List Finding) × (more ≡ fault defect ∷ later)
IsNextStop refuses pages found more (Source refusal) = IsRefusedNext refuses pages found more refusal
IsNextStop refuses pages found more OutOfMemory = ⊤

-- page n was met before, and is not asked for again; or it was new, and the source refused it or there was no memory
abbrev pub IsNotLoaded : {R : Type 0} → (Pages → ℕ → R → Type 0) → Pages → ℕ → Met → ℕ → WalkError R → Type 0
IsNotLoaded refuses pages n s later (Defect defect) = (defect ≡ PageTwice n) × (s.marks n ≡ true) × (later ≡ s.reads)
IsNotLoaded refuses pages n s later (Source refusal) = refuses pages n refusal × (s.marks n ≡ false)
IsNotLoaded refuses pages n s later OutOfMemory = s.marks n ≡ false

-- a page comes next that was met before
pub record IsTwiceNext (met : Test) (more : List Finding) (defect : FormatDefect) : Type 0 where
  pub page : ℕ
  pub is : defect ≡ PageTwice page
  pub before : met page ≡ true
  pub later : List Finding
  pub next : more ≡ place page ∷ later

-- the cause where earlier places are not looked at, of a search that has met these pages
abbrev pub IsSearchCause : {R : Type 0} → (Pages → ℕ → R → Type 0) → Pages → Test → List Finding → List Finding → WalkError R → Type 0
IsSearchCause refuses pages met found more (Defect defect) = ((later : List Finding) × (more ≡ fault defect ∷ later)) ⊎ IsTwiceNext met more defect
IsSearchCause refuses pages met found more (Source refusal) = IsRefusedNext refuses pages found more refusal
IsSearchCause refuses pages met found more OutOfMemory = ⊤

-- ---- the overflow pages of one payload: what was met before and after

pub record IsChainPart (all more : List Finding) (s t : Met) : Type 0 where
  pub found : List Finding
  pub whole : all ≡ found ++ more
  pub sound : is_sound found ≡ true
  pub rowless : entries found ≡ []
  pub few : t.reads ≤ s.reads + length (places found)
  pub fresh : are_new s.marks (places found) ≡ true
  pub marks : t.marks ≡ also (places found) s.marks

-- a chain that was read in part: it began with `needed` pages from `first` on, and `more` from n on are left
pub record IsOnChain (pages : Pages) (needed start first more holder n : ℕ) (local got : List ℕ) (s t : Met) : Type 0 where
  pub part : IsChainPart (chain_findings pages needed start first) (chain_findings pages more holder n) s t
  pub bytes : local ++ chain_bytes pages needed first ≡ got ++ chain_bytes pages more n

pub record IsChainStopped {R : Type 0} (refuses : Pages → ℕ → R → Type 0) (pages : Pages) (all : List Finding) (s t : Met) (error : WalkError R) : Type 0 where
  pub more : List Finding
  pub met : Test
  pub part : IsChainPart all more s (record { reads = t.reads; marks = met })
  pub cause : IsSearchCause refuses pages met part.found more error

pub record IsChainRead (all : List Finding) (whole got : List ℕ) (s t : Met) : Type 0 where
  pub part : IsChainPart all [] s t
  pub bytes : got ≡ whole

abbrev pub IsChainLinked : {R : Type 0} → (Pages → ℕ → R → Type 0) → Pages → List Finding → List ℕ → List ℕ → Met → Met → Result Unit (WalkError R) → Type 0
IsChainLinked refuses pages all whole got s t (Ok done) = IsChainRead all whole got s t
IsChainLinked refuses pages all whole got s t (Err error) = IsChainStopped refuses pages all s t error

-- ---- the search

-- what a search has done: what the sink took and what waits for it, the rows put, the pages read, and which pages it met
pub record State : Type 0 where
  pub taken : List ℕ
  pub waits : List ℕ
  pub rows : ℕ
  pub reads : ℕ
  pub marks : Test

-- of all findings the first ones are behind, no defect among them: each row among them was put and counted, no page was met
-- twice, and no more pages were read than were met. `more` are left. The bytes are known where the sink tells them.
pub record IsSoFar (tells : Bool) (all more : List Finding) (s t : State) : Type 0 where
  pub found : List Finding
  pub whole : all ≡ found ++ more
  pub sound : is_sound found ≡ true
  pub moves : IsTrue tells → Moves (found_rows_text (entries found)) s.taken s.waits t.taken t.waits
  pub count : t.rows ≡ s.rows + length (entries found)
  pub few : t.reads ≤ s.reads + length (places found)
  pub fresh : are_new s.marks (places found) ≡ true
  pub marks : t.marks ≡ also (places found) s.marks

-- these pages were met
abbrev pub with_marks : Test → State → State
with_marks met t = record { taken = t.taken; waits = t.waits; rows = t.rows; reads = t.reads; marks = met }

-- it stopped there, for this cause
pub record IsSearchStopped {R : Type 0} (refuses : Pages → ℕ → R → Type 0) (pages : Pages) (tells : Bool) (all : List Finding) (s t : State) (error : WalkError R) : Type 0 where
  pub more : List Finding
  pub met : Test
  pub part : IsSoFar tells all more s (with_marks met t)
  pub cause : IsSearchCause refuses pages met part.found more error

-- the sink failed while the rows of the first findings were put
pub record IsLost (tells : Bool) (all : List Finding) (s t : State) : Type 0 where
  pub found : List Finding
  pub more : List Finding
  pub whole : all ≡ found ++ more
  pub sound : is_sound found ≡ true
  pub moves : IsTrue tells → MovesPart (found_rows_text (entries found)) s.taken s.waits t.taken
  pub few : t.reads ≤ s.reads + length (places found)
  pub fresh : are_new s.marks (places found) ≡ true

abbrev pub IsSearched : {R : Type 0} → (Pages → ℕ → R → Type 0) → Pages → Bool → List Finding → State → State → Result Unit (FindError R) → Type 0
IsSearched refuses pages tells all s t (Ok done) = IsSoFar tells all [] s t
IsSearched refuses pages tells all s t (Err (Walk error)) = IsSearchStopped refuses pages tells all s t error
IsSearched refuses pages tells all s t (Err OutputFault) = IsLost tells all s t

-- ---- the whole search

-- all rows were put, and their number
pub record IsAllFound (tells : Bool) (all : List Finding) (before after : List ℕ) (reads later rows : ℕ) : Type 0 where
  pub sound : is_sound all ≡ true
  pub count : rows ≡ length (entries all)
  pub text : IsTrue tells → after ≡ before ++ found_report (entries all)
  pub few : later ≤ reads + length (places all)

-- the rows before this cause were put
pub record IsSearchCut {R : Type 0} (refuses : Pages → ℕ → R → Type 0) (pages : Pages) (tells : Bool) (all : List Finding) (before after : List ℕ) (reads later : ℕ) (error : WalkError R) : Type 0 where
  pub found : List Finding
  pub more : List Finding
  pub whole : all ≡ found ++ more
  pub sound : is_sound found ≡ true
  pub cause : IsNextStop refuses pages found more error
  pub text : IsTrue tells → after ≡ before ++ found_rows_text (entries found)
  pub few : later ≤ reads + length (places found)

-- a part was put of the lines of the rows that were found by then; where those are all, the last line may be among it
pub record IsCutOff (tells : Bool) (all : List Finding) (before after : List ℕ) (reads later : ℕ) : Type 0 where
  pub found : List Finding
  pub more : List Finding
  pub whole : all ≡ found ++ more
  pub sound : is_sound found ≡ true
  pub last : List ℕ
  pub ends : (last ≡ []) ⊎ ((more ≡ []) × (last ≡ count_line (length (entries found))))
  pub text : IsTrue tells → MovesPart (found_rows_text (entries found) ++ last) before [] after
  pub few : later ≤ reads + length (places found)

abbrev pub AreRowsFound : {R : Type 0} → (Pages → ℕ → R → Type 0) → Pages → Bool → List Finding → List ℕ → List ℕ → ℕ → ℕ → Result ℕ (FindError R) → Type 0
AreRowsFound refuses pages tells all before after reads later (Ok rows) = IsAllFound tells all before after reads later rows
AreRowsFound refuses pages tells all before after reads later (Err (Walk error)) = IsSearchCut refuses pages tells all before after reads later error
AreRowsFound refuses pages tells all before after reads later (Err OutputFault) = IsCutOff tells all before after reads later

-- ---- the search of a tree without a defect

-- these rows were put, and their number; where it stopped, a part of that; and no defect was found
abbrev pub IsSoundFound : {R : Type 0} → Bool → List Row → List ℕ → List ℕ → Result ℕ (FindError R) → Type 0
IsSoundFound tells rows before after (Ok count) = (count ≡ length rows) × (IsTrue tells → after ≡ before ++ found_report rows)
IsSoundFound tells rows before after (Err (Walk (Defect defect))) = ⊥
IsSoundFound tells rows before after (Err (Walk (Source refusal))) = IsTrue tells → MovesPart (found_report rows) before [] after
IsSoundFound tells rows before after (Err (Walk OutOfMemory)) = IsTrue tells → MovesPart (found_report rows) before [] after
IsSoundFound tells rows before after (Err OutputFault) = IsTrue tells → MovesPart (found_report rows) before [] after
