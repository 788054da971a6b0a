-- Paths, their pins, and cursors that stay ready.
use Rattle.std.proofs.Common.{◌≡◌, ℕ, ◌+◌, ◌-◌, ◌<◌, ◌≤◌, Bool, true, false, List, [], ◌∷◌, ◌++◌, ◌==◌, length, take, slice_set, slice_index_or, min, if◌then◌else◌, arith, refl, ap, sym, ◌∙◌}
use Rattle.std.specs.Prelude.{nat_lt, cond}
use Rattle.std.proofs.Math.Path.{fun_ext}
use Rattle.std.proofs.lemmas.Bool.{eq-eqb}
use Rattle.std.proofs.lemmas.List.{length-append, length-take}
use Rattle.std.proofs.Math.Seq.{set-append_seam}
use Rattle.std.proofs.lemmas.List.Sums.{sum_by-append}
use Rattle.std.proofs.lemmas.List.Elements.{All-append, All-cons, All-nil, All-take, All-set}
use Rattle.db_format.specs.Pages.{Pages, is_page}
use Rattle.db_format.specs.Source.{one_more, one_less}
use Rattle.btree_walk.specs.declared.path.Frame.{Frame}
use Rattle.btree_walk.specs.Pins.{path_pins}
use Rattle.btree_walk.specs.Turn.{AreInside}
use Rattle.btree_walk.proofs.TurnLemmas.{split_last}

-- ---- the deepest page

module _ (frames : List Frame) (top : Frame) (begun : 0 < length frames) (is_top : top ≡ slice_index_or frames (length frames - 1) top) where
  abbrev first_frames : List Frame
  first_frames = take (length frames - 1) frames

  pub path_parted : frames ≡ first_frames ++ top ∷ []
  path_parted = split_last frames top begun ∙ ap (λ x. first_frames ++ x ∷ []) (sym is_top)

  how_many : length first_frames ≡ length frames - 1
  how_many = let n : length first_frames ≡ min (length frames - 1) (length frames) = length-take (length frames - 1) frames in omega (arith, n)

  pub path_set : (next : Frame) → slice_set frames (length frames - 1) next ≡ first_frames ++ next ∷ []
  path_set next =
      ap (λ k. slice_set frames k next) (sym how_many) ∙ ap (λ l. slice_set l (length first_frames) next) path_parted
      ∙ set-append_seam first_frames top [] next

-- ---- pins

one_of : (b : Bool) (k : ℕ) → k + (0 + cond b 1 0) ≡ (if b then k + 1 else k)
one_of true k = omega arith
one_of false k = omega arith

pub pins_push : (frames : List Frame) (frame : Frame) → path_pins (frames ++ frame ∷ []) ≡ one_more frame.page (path_pins frames)
pins_push frames frame =
    fun_ext (λ n. sum_by-append (λ (f : Frame). cond (n == f.page) 1 0) frames (frame ∷ []) ∙ one_of (n == frame.page) (path_pins frames n))

less_more : (b : Bool) (k : ℕ) → (if b then (if b then k + 1 else k) - 1 else (if b then k + 1 else k)) ≡ k
less_more true k = omega arith
less_more false k = refl

pins_back : (n : ℕ) (pins : ℕ → ℕ) → one_less n (one_more n pins) ≡ pins
pins_back n pins = fun_ext (λ m. less_more (m == n) (pins m))

has_pin : (n : ℕ) (pins : ℕ → ℕ) → nat_lt 0 (one_more n pins n) ≡ true
has_pin n pins = let same : (n == n) ≡ true = eq-eqb n n refl in rw same (grind arith)

-- the step count of the deepest page is no matter of pins
pub pins_set : (frames : List Frame) (top next : Frame) → 0 < length frames → top ≡ slice_index_or frames (length frames - 1) top → next.page ≡ top.page
    → path_pins (slice_set frames (length frames - 1) next) ≡ path_pins frames
pins_set frames top next begun is_top same =
    let first : List Frame = take (length frames - 1) frames in
    ap path_pins (path_set frames top begun is_top next) ∙ pins_push first next ∙ ap (λ n. one_more n (path_pins first)) same
    ∙ sym (ap path_pins (path_parted frames top begun is_top) ∙ pins_push first top)

-- the deepest page loses its pin
pub pins_pop : (frames : List Frame) (top : Frame) → 0 < length frames → top ≡ slice_index_or frames (length frames - 1) top
    → (before after : ℕ → ℕ) → before ≡ path_pins frames → (had : Bool) → had ≡ nat_lt 0 (before top.page)
    → after ≡ (if had then one_less top.page before else before) → after ≡ path_pins (take (length frames - 1) frames)
pins_pop frames top begun is_top before after pinned had some now =
    let first : List Frame = take (length frames - 1) frames in
    let more : before ≡ one_more top.page (path_pins first) = pinned ∙ ap path_pins (path_parted frames top begun is_top) ∙ pins_push first top in
    let yes : had ≡ true = some ∙ ap (λ p. nat_lt 0 (p top.page)) more ∙ has_pin top.page (path_pins first) in
    now ∙ ap (λ b. if b then one_less top.page before else before) yes ∙ ap (one_less top.page) more ∙ pins_back top.page (path_pins first)

-- ---- the pages of a path are pages

pub inside_push : (count : ℕ) (frames : List Frame) (frame : Frame) → AreInside count frames → 1 ≤ frame.page → frame.page ≤ count
    → AreInside count (frames ++ frame ∷ [])
inside_push count frames frame inside low high =
    All-append (λ (f : Frame). (1 ≤ f.page) × (f.page ≤ count)) frames (frame ∷ []) inside
    (All-cons (λ (f : Frame). (1 ≤ f.page) × (f.page ≤ count)) frame [] (low, high) (All-nil _))

pub inside_pop : (count : ℕ) (frames : List Frame) → AreInside count frames → AreInside count (take (length frames - 1) frames)
inside_pop count frames inside = All-take (λ (f : Frame). (1 ≤ f.page) × (f.page ≤ count)) (length frames - 1) frames inside

pub inside_top : (count : ℕ) (frames : List Frame) (top : Frame) → 0 < length frames → top ≡ slice_index_or frames (length frames - 1) top → AreInside count frames
    → (1 ≤ top.page) × (top.page ≤ count)
inside_top count frames top begun is_top inside = rw is_top (inside (length frames - 1) top (omega arith))

pub inside_set : (count : ℕ) (frames : List Frame) (top next : Frame) → 0 < length frames → top ≡ slice_index_or frames (length frames - 1) top → next.page ≡ top.page
    → AreInside count frames → AreInside count (slice_set frames (length frames - 1) next)
inside_set count frames top next begun is_top same inside =
    All-set (λ (f : Frame). (1 ≤ f.page) × (f.page ≤ count)) frames (length frames - 1) next (rw same (inside_top count frames top begun is_top inside)) inside

pub number_is_page : (pages : Pages) (n : ℕ) → 1 ≤ n → n ≤ pages.count → is_page pages n ≡ true
number_is_page pages n low high = grind (arith, low, high)

-- ---- lengths

pub length_set : (frames : List Frame) (top next : Frame) → 0 < length frames → top ≡ slice_index_or frames (length frames - 1) top
    → length (slice_set frames (length frames - 1) next) ≡ length frames
length_set frames top next begun is_top =
    let long : length (take (length frames - 1) frames ++ next ∷ []) ≡ length (take (length frames - 1) frames) + 1 = length-append (take (length frames - 1) frames) (next ∷ []) in
    let cut : length (take (length frames - 1) frames) ≡ min (length frames - 1) (length frames) = length-take (length frames - 1) frames in
    ap length (path_set frames top begun is_top next) ∙ long ∙ (omega (arith, cut, begun))

pub not_empty : (frames : List Frame) → 0 < length frames → frames ≡ [] → ⊥
not_empty frames begun none = let zero : length frames ≡ 0 = ap length none in omega arith
