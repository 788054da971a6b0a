-- What the frames hold, as entries of a frame's number and its page.
use Rattle.std.specs.Prelude.{ℕ, zero, suc, ◌≡◌, ◌<◌, ◌==◌, cond, List, [], ◌∷◌, ◌++◌, Option, None, Some, IfSome, IfNone, nat_eq, slice_index_or, length}
use Rattle.std.specs.Map.{keys_of, lookup, remove_entry}
use Rattle.std.specs.Option.{option_map_or, option_or}
use Rattle.std.specs.List.{AllByRecursion}
use Rattle.page_cache.specs.Pages.{Page}
use Rattle.page_cache.specs.declared.table.Held.{Held}

abbrev pub FrameEntry : Type 0
FrameEntry = ℕ × Option Held

-- this many frames without a page
abbrev pub blank_frame : ℕ → List FrameEntry
blank_frame zero = []
blank_frame (suc n) = (n, None) ∷ blank_frame n

-- the frame of page n, and what is known of the page
abbrev pub frame_entry : ℕ → List FrameEntry → Option (ℕ × Held)
frame_entry n [] = None
frame_entry n (e ∷ es) = option_map_or (λ held. cond (held.page == n) (Some (e.0, held)) (frame_entry n es)) e.1 (frame_entry n es)

-- the frame of page n
abbrev pub frame_at : ℕ → List FrameEntry → Option ℕ
frame_at n [] = None
frame_at n (e ∷ es) = option_map_or (λ held. cond (held.page == n) (Some e.0) (frame_at n es)) e.1 (frame_at n es)

-- what is known of the page in frame k
abbrev pub held_in : ℕ → List FrameEntry → Option Held
held_in k es = option_map_or (λ held. held) (lookup (nat_eq k) es) None

-- the last entry
abbrev pub last_of : List FrameEntry → Option FrameEntry
last_of [] = None
last_of (e ∷ es) = option_or (last_of es) (Some e)

-- the last frame, where it has no page
abbrev pub free_frame : List FrameEntry → Option ℕ
free_frame es = option_map_or (λ e. option_map_or (λ _. None) e.1 (Some e.0)) (last_of es) None

-- the first page without a pin
abbrev pub unpinned : List FrameEntry → Option ℕ
unpinned [] = None
unpinned (e ∷ es) = option_map_or (λ held. cond (held.pins == 0) (Some held.page) (unpinned es)) e.1 (unpinned es)

-- frame k has no page from now on, and is last
abbrev pub freed : ℕ → List FrameEntry → List FrameEntry
freed k es = remove_entry (nat_eq k) es ++ (k, None) ∷ []

-- the page in a frame
abbrev pub page_in : List (List ℕ) → ℕ → Held → Page
page_in frames frame held = record { number = held.page; bytes = slice_index_or frames frame []; pins = held.pins; dirty = held.dirty }

-- the pages in the frames
abbrev pub shown_pages : List (List ℕ) → List FrameEntry → List Page
shown_pages frames [] = []
shown_pages frames (e ∷ es) = option_map_or (λ held. page_in frames e.0 held ∷ shown_pages frames es) e.1 (shown_pages frames es)

-- no entry holds a page that one after it holds
abbrev pub HaveDistinctPages : List FrameEntry → Type 0
HaveDistinctPages [] = Unit {0}
HaveDistinctPages (e ∷ es) = IfSome e.1 (λ held. frame_entry held.page es ≡ None) × HaveDistinctPages es

-- the frames without a page are the last ones
abbrev pub AreFreeLast : List FrameEntry → Type 0
AreFreeLast [] = Unit {0}
AreFreeLast (e ∷ es) = IfNone e.1 (AllByRecursion (λ f. f.1 ≡ None) es) × AreFreeLast es

-- each entry is of a frame that there is
abbrev pub AreFrames : ℕ → List FrameEntry → Type 0
AreFrames count es = AllByRecursion (λ k. k < count) (keys_of es)

-- each frame has this many bytes
abbrev pub AllOfLength : ℕ → List (List ℕ) → Type 0
AllOfLength usable frames = AllByRecursion (λ frame. length frame ≡ usable) frames
