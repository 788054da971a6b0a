-- One turn of a walk through a tree.
use Rattle.std.specs.Prelude.{◌+◌, ◌≡◌, ◌≤◌, ◌<◌, ℕ, ℤ, zero, suc, ◌-◌, ◌*◌, ◌^◌, Bool, true, false, List, [], ◌∷◌, ◌++◌, drop, Option, Some, None, Result, Ok, Err, sum_by, if◌then◌else◌, ⊤}
use Rattle.std.specs.List.{Contains, All}
use Rattle.db_format.specs.declared.defect.Defect.{Defect}
use Rattle.db_format.specs.declared.defect.Defect.TheVariants.{PageTwice, TooDeep, ChildOutOfRange}
use Rattle.db_format.specs.Pages.{Pages, Test, also}
use Rattle.db_format.specs.Seen.{open_count}
use Rattle.btree_page.specs.declared.kind.Family.{Family}
use Rattle.btree_page.specs.declared.page.PageFault.{PageFault}
use Rattle.btree_page.specs.Page.{Node, read_node}
use Rattle.btree_page.specs.Payload.{max_payload}
use Rattle.btree_page.specs.Step.{Step, child, divider, entry as cell, steps}
use Rattle.btree_model.specs.Range.{is_in_range}
use Rattle.btree_model.specs.Finding.{Row, Finding, places, entries}
use Rattle.btree_model.specs.Walk.{page_defect}
use Rattle.btree_model.specs.Rest.{Frame as Place, AreUnmarked, RestStands}
use Rattle.btree_walk.specs.Order.{IsOrdered}
use Rattle.btree_walk.specs.declared.error.WalkError.{WalkError}
use Rattle.btree_walk.specs.declared.error.WalkError.TheVariants.{Defect as Found, Source, OutOfMemory}
use Rattle.btree_walk.specs.declared.page.Turn.{Turn}
use Rattle.btree_walk.specs.declared.page.Turn.TheVariants.{Child, Key, Cell, End}
use Rattle.btree_walk.specs.declared.path.Frame.{Frame}
use Rattle.btree_walk.specs.declared.turn.Moved.{Moved}
use Rattle.btree_walk.specs.declared.turn.Moved.TheVariants.{Up, Down, Passed, Gave}

abbrev pub steps_of_reading : Result Node PageFault → List Step
steps_of_reading (Err fault) = []
steps_of_reading (Ok page) = steps page.cells page.right

-- the steps of page n of a tree
abbrev pub todo_of : Pages → Family → ℕ → List Step
todo_of pages family n = steps_of_reading (read_node family n (pages.page n))

-- the step as it was read, and the local bytes of its payload
abbrev pub IsTurn : Option Step → Turn → List ℕ → Type 0
IsTurn step End local = step ≡ None
IsTurn step (Child c) local = step ≡ Some (child c)
IsTurn step (Key k) local = step ≡ Some (divider k)
IsTurn step (Cell rowid length first) local = step ≡ Some (cell rowid (record { size = length; local = local; first = first }))

-- no payload is longer than can be read
abbrev pub IsReadable : Turn → Type 0
IsReadable End = ⊤
IsReadable (Child c) = ⊤
IsReadable (Key k) = ⊤
IsReadable (Cell rowid length first) = length ≤ max_payload

-- the page was read before, so that the source alone may stop a step, or want of memory
abbrev pub IsUnread : {R : Type 0} → (R → Type 0) → WalkError R → Type 0
IsUnread refuses (Found defect) = ⊥
IsUnread refuses (Source refusal) = refuses refusal
IsUnread refuses OutOfMemory = ⊤

-- the path as the definitions have it, from the deepest page on; `left` pages may follow before its first
abbrev pub path_of : Pages → Family → ℕ → List Place → List Frame → List Place
path_of pages family left above [] = above
path_of pages family left above (frame ∷ frames) =
    path_of pages family (left - 1) (record { page = frame.page; left = left - 1; todo = drop frame.done (todo_of pages family frame.page) } ∷ above) frames

-- page n is accepted, and is a page of a tree of this family
pub record IsNode (pages : Pages) (family : Family) (n : ℕ) : Type 0 where
  pub accepted : pages.accepts n ≡ true
  pub body : Node
  pub reads : read_node family n (pages.page n) ≡ Ok body

-- page n is a page of the path: it was met and read
pub record IsOpen (pages : Pages) (family : Family) (met : List Finding) (n : ℕ) : Type 0 where
  pub placed : Contains (places met) n
  pub node : IsNode pages family n

-- A walk from this root with these frames and marks, where `taken` is the test of earlier parts. It gave these entries,
-- and keeps these two numbers of the rule of rowids.
pub record IsInside (pages : Pages) (family : Family) (root : ℕ) (taken : Test) (given : List Row) (frames : List Frame) (floor last : Option ℤ) (page : ℕ) (seen : Test) : Type 0 where
  pub met : List Finding
  pub stands : RestStands pages family root met (path_of pages family 20 [] frames)
  pub unmarked : AreUnmarked taken (places met)
  pub marks : seen ≡ also (places met) taken
  pub gave : entries met ≡ given
  pub ordered : IsOrdered floor last page met
  pub opened : All (λ (frame : Frame). IsOpen pages family met frame.page) frames

-- each page of the path is one
abbrev pub AreInside : ℕ → List Frame → Type 0
AreInside count frames = All (λ (frame : Frame). (1 ≤ frame.page) × (frame.page ≤ count)) frames

abbrev pub reading_defect : ℕ → Result Node PageFault → Option Defect
reading_defect c (Err fault) = Some (page_defect c fault)
reading_defect c (Ok page) = None

-- why it is none, or why it was not read
abbrev pub IsNodeOpened : {R : Type 0} → (Pages → ℕ → R → Type 0) → Pages → Family → ℕ → Result Unit (WalkError R) → Type 0
IsNodeOpened refuses pages family n (Ok done) = IsNode pages family n
IsNodeOpened refuses pages family n (Err (Found defect)) =
    (pages.accepts n ≡ true) × (reading_defect n (read_node family n (pages.page n)) ≡ Some defect)
IsNodeOpened refuses pages family n (Err (Source refusal)) = refuses pages n refusal
IsNodeOpened refuses pages family n (Err OutOfMemory) = ⊤

abbrev pub visit_defect : Pages → Family → ℕ → Bool → ℕ → Option Defect
visit_defect pages family c true left = Some (PageTwice c)
visit_defect pages family c false zero = Some (TooDeep c)
visit_defect pages family c false (suc left) = if pages.accepts c then reading_defect c (read_node family c (pages.page c)) else None

-- the defect of the step from the page `holder`, the last of `depth` pages, to page c itself
abbrev pub defect_of : Pages → Family → Test → ℕ → ℕ → ℕ → Option Defect
defect_of pages family seen depth holder c =
    if is_in_range pages c then visit_defect pages family c (seen c) (20 - depth) else Some (ChildOutOfRange holder)

-- page c was to be gone down to, and the source refused it
pub record IsShut {R : Type 0} (refuses : Pages → ℕ → R → Type 0) (pages : Pages) (seen : Test) (depth c : ℕ) (refusal : R) : Type 0 where
  pub range : is_in_range pages c ≡ true
  pub fresh : seen c ≡ false
  pub shallow : depth < 20
  pub refused : refuses pages c refusal

abbrev pub IsEnterStop : {R : Type 0} → (Pages → ℕ → R → Type 0) → Pages → Family → Test → ℕ → ℕ → ℕ → WalkError R → Type 0
IsEnterStop refuses pages family seen depth holder c (Found defect) = defect_of pages family seen depth holder c ≡ Some defect
IsEnterStop refuses pages family seen depth holder c (Source refusal) = IsShut refuses pages seen depth c refusal
IsEnterStop refuses pages family seen depth holder c OutOfMemory = ⊤

-- page c may be gone down to
pub record IsEntered (pages : Pages) (family : Family) (seen : Test) (c : ℕ) : Type 0 where
  pub range : is_in_range pages c ≡ true
  pub fresh : seen c ≡ false
  pub node : IsNode pages family c

-- where the walk is after a turn that gave nothing, or gave this row
abbrev pub given_by : List Row → Row → Moved → List Row
given_by given row Up = given
given_by given row Down = given
given_by given row Passed = given
given_by given row Gave = given ++ row ∷ []

-- what is left of a walk at most: each turn takes some of it
abbrev pub work : List Bool → List Frame → ℕ
work marks frames = 2 ^ 21 * open_count marks + sum_by (λ (frame : Frame). 1 + (2 ^ 20 - frame.done)) frames
