-- A turn of the walk, over plain values.
use Rattle.std.proofs.Common.{◌≡◌, ℕ, ℤ, zero, suc, ◌+◌, ◌-◌, ◌<◌, Bool, true, false, List, [], ◌∷◌, ◌++◌, ◌||◌, ◌==◌, length, drop, take, slice_get, slice_set, slice_index_or, min, Option, Some, None, Result, Ok, Err, if◌then◌else◌, arith, refl, ap, sym, subst, ◌∙◌}
use Rattle.std.specs.List.{Contains, list_any, All}
use Rattle.std.specs.Option.{option_to_list}
use Rattle.btree_page.specs.declared.kind.Family.{Family}
use Rattle.db_format.specs.declared.defect.Defect.{Defect}
use Rattle.db_format.specs.declared.defect.Defect.TheVariants.{ChildOutOfRange, RowidOrder}
use Rattle.std.proofs.lemmas.List.{take-append-drop, append_assoc, append-nil, length-append, length-take}
use Rattle.std.proofs.Math.Seq.{drop-cons, drop-length, set-append_seam, take-append_seam, get_or-append_seam}
use Rattle.std.proofs.lemmas.List.Folds.{list_any-append}
use Rattle.std.proofs.lemmas.List.Elements.{Contains-append_left, Contains-append_right, All-append, All-cons, All-nil, All-take}
use Rattle.btree_page.specs.Cell.{StoredCell}
use Rattle.btree_page.specs.declared.page.PageFault.{PageFault}
use Rattle.btree_page.specs.Page.{Node, read_node}
use Rattle.db_format.specs.Pages.{Pages, Test, is_page, also}
use Rattle.btree_model.specs.Range.{is_in_range}
use Rattle.btree_model.specs.Finding.{Row, Finding, place, entry, key, places, entries, keys, faults, refusals, is_sound}
use Rattle.btree_page.specs.Step.{Step, child, divider, entry as cell, steps}
use Rattle.btree_model.specs.Walk.{step, walk, payload_of, is_met, visit, chain_of}
use Rattle.btree_model.specs.Tree.{tree_walk}
use Rattle.btree_model.specs.Rest.{Frame as Place, rest, AreUnmarked, RestStands}
use Rattle.btree_model.proofs.FindingLemmas.{entries-append, places-append, also-append, faults-append, refusals-append, sound_both}
use Rattle.btree_model.proofs.ProperLemmas.{keys-append}
use Rattle.btree_model.proofs.RestLemmas.{rest-step, rest-down, Stands-on, Stands-fault, Stands-place, Stands-refused, Stands-start}
use Rattle.btree_model.proofs.UnmarkedLemmas.{or_left, or_right}
use Rattle.btree_model.specs.Content.{last_after}
use Rattle.btree_walk.specs.Causes.{IsAmong, IsMarked}
use Rattle.btree_walk.specs.declared.error.WalkError.{WalkError}
use Rattle.btree_walk.specs.declared.error.WalkError.TheVariants.{Defect as Found, Source, OutOfMemory}
use Rattle.btree_walk.specs.Chain.{IsCut, IsPaid}
use Rattle.btree_walk.specs.Order.{IsOrdered, late_of, low_of, raised_of, page_after}
use Rattle.btree_walk.specs.declared.path.Frame.{Frame}
use Rattle.btree_walk.specs.Turn.{IsOpen, steps_of_reading, todo_of, path_of, IsInside, IsNode, IsEntered, IsEnterStop, IsUnread, IsNodeOpened, defect_of, visit_defect, reading_defect}
use Rattle.btree_walk.proofs.CauseLemmas.{named_is_page}
use Rattle.btree_walk.proofs.OrderSteps.{ordered_none, ordered_plain, ordered_key, ordered_entry, order_none, order_some}

abbrev place_of : Pages → Family → ℕ → Frame → Place
place_of pages family left frame = record { page = frame.page; left = left; todo = drop frame.done (todo_of pages family frame.page) }

-- a frame at the end is the deepest
path-push : (pages : Pages) (family : Family) (left : ℕ) (above : List Place) (fs : List Frame) (f : Frame)
    → path_of pages family left above (fs ++ f ∷ []) ≡ place_of pages family (left - length fs - 1) f ∷ path_of pages family left above fs
path-push pages family left above [] f = let e : left - 0 - 1 ≡ left - 1 = omega arith in rw e refl
path-push pages family left above (g ∷ fs) f =
    let e : left - suc (length fs) - 1 ≡ left - 1 - length fs - 1 = omega arith in
    rw e (path-push pages family (left - 1) (place_of pages family (left - 1) g ∷ above) fs f)

drop-none : {X : Type 0} (xs : List X) (i : ℕ) → slice_get xs i ≡ None → drop i xs ≡ []
drop-none [] zero h = refl
drop-none [] (suc i) h = refl
drop-none (x ∷ xs) zero h = cc
drop-none (x ∷ xs) (suc i) h = drop-none xs i h

drop-some : {X : Type 0} (xs : List X) (i : ℕ) (x : X) → slice_get xs i ≡ Some x → drop i xs ≡ x ∷ drop (i + 1) xs
drop-some [] zero x h = cc
drop-some [] (suc i) x h = cc
drop-some (y ∷ xs) zero x h = cc
drop-some (y ∷ xs) (suc i) x h = let e : suc i + 1 ≡ suc (i + 1) = omega arith in rw e (drop-some xs i x h)

pub split_last : {X : Type 0} (xs : List X) (d : X) → 0 < length xs → xs ≡ take (length xs - 1) xs ++ slice_index_or xs (length xs - 1) d ∷ []
split_last xs d h =
    let e : suc (length xs - 1) ≡ length xs = omega arith in
    sym (take-append-drop (length xs - 1) xs)
    ∙ ap (λ l. take (length xs - 1) xs ++ l)
    (drop-cons xs (length xs - 1) d (omega arith) ∙ ap (λ l. slice_index_or xs (length xs - 1) d ∷ l) (ap (λ k. drop k xs) e ∙ drop-length xs))

split_at_last : {X : Type 0} (xs : List X) (d : X) (size : ℕ) → size ≡ length xs → 0 < size → xs ≡ take (size - 1) xs ++ slice_index_or xs (size - 1) d ∷ []
split_at_last xs d size counted some = rw counted (split_last xs d (rw counted at some))

reading_faults : (pages : Pages) (family : Family) (taken : Test) (met : List Finding) (below : List Finding → ℕ → List Finding) (c : ℕ) (d : Defect) (accepted : Bool) (reading : Result Node PageFault)
    → read_node family c (pages.page c) ≡ reading → (if accepted then reading_defect c reading else None) ≡ Some d
    → faults (visit pages family taken below met c false accepted) ≡ d ∷ []
reading_faults pages family taken met below c d false reading r h = cc
reading_faults pages family taken met below c d true (Err fault) r h = rw r (ap option_to_list h)
reading_faults pages family taken met below c d true (Ok page) r h = cc

visit_faults : (pages : Pages) (family : Family) (taken : Test) (met : List Finding) (left c : ℕ) (d : Defect) (m : Bool) → is_met taken met c ≡ m
    → visit_defect pages family c m left ≡ Some d → faults (walk pages family taken left met c) ≡ d ∷ []
unfolding walk
visit_faults pages family taken met zero c d true m h = rw m (ap option_to_list h)
visit_faults pages family taken met (suc left) c d true m h = rw m (ap option_to_list h)
visit_faults pages family taken met zero c d false m h = rw m (ap option_to_list h)
visit_faults pages family taken met (suc left) c d false m h =
    rw m (reading_faults pages family taken met (walk pages family taken left) c d (pages.accepts c) _ refl h)

range_faults : (pages : Pages) (family : Family) (taken : Test) (met : List Finding) (left holder c : ℕ) (d : Defect) (range : Bool)
    → is_in_range pages c ≡ range
    → (if range then visit_defect pages family c (is_met taken met c) left else Some (ChildOutOfRange holder)) ≡ Some d
    → faults (step pages taken (walk pages family taken left) met holder (child c)) ≡ d ∷ []
range_faults pages family taken met left holder c d true r h = rw r (visit_faults pages family taken met left c d _ refl h)
range_faults pages family taken met left holder c d false r h = rw r (ap option_to_list h)

-- the defect of a step is the one fault of its walk
step_faults : (pages : Pages) (family : Family) (taken : Test) (met : List Finding) (seen : Test) (depth holder c : ℕ) (d : Defect) → seen ≡ also (places met) taken
    → defect_of pages family seen depth holder c ≡ Some d
    → faults (step pages taken (walk pages family taken (20 - depth)) met holder (child c)) ≡ d ∷ []
step_faults pages family taken met seen depth holder c d marks h =
    range_faults pages family taken met (20 - depth) holder c d _ refl
    (ap (λ t. if is_in_range pages c then visit_defect pages family c (t c) (20 - depth) else Some (ChildOutOfRange holder)) (sym marks) ∙ h)

walk_place : (pages : Pages) (family : Family) (taken : Test) (left c : ℕ) (met : List Finding) → Contains (places (walk pages family taken left met c)) c
unfolding walk
walk_place pages family taken zero c met = (0, omega arith, refl)
walk_place pages family taken (suc left) c met = (0, omega arith, refl)

step_place : (pages : Pages) (family : Family) (taken : Test) (left holder c : ℕ) (met : List Finding) → is_in_range pages c ≡ true
    → Contains (places (step pages taken (walk pages family taken left) met holder (child c))) c
step_place pages family taken left holder c met range = rw range (walk_place pages family taken left c met)

walk_first : (pages : Pages) (family : Family) (taken : Test) (left c : ℕ) (met : List Finding) → (x : List Finding) × (walk pages family taken left met c ≡ place c ∷ x)
unfolding walk
walk_first pages family taken zero c met = (_, refl)
walk_first pages family taken (suc left) c met = (_, refl)

-- a page that is not accepted is refused where it is new
walk_refused : (pages : Pages) (family : Family) (taken : Test) (left c : ℕ) (met : List Finding) → is_met taken met c ≡ false → pages.accepts c ≡ false
    → Contains (refusals (walk pages family taken (suc left) met c)) c
unfolding walk
walk_refused pages family taken left c met fresh refused = rw (fresh, refused) (0, omega arith, refl)

step_refused : (pages : Pages) (family : Family) (taken : Test) (left holder c : ℕ) (met : List Finding) → is_in_range pages c ≡ true → is_met taken met c ≡ false → pages.accepts c ≡ false
    → Contains (refusals (step pages taken (walk pages family taken (suc left)) met holder (child c))) c
step_refused pages family taken left holder c met range fresh refused = rw range (walk_refused pages family taken left c met fresh refused)

-- the walk with the last page done
popped : (pages : Pages) (family : Family) (root : ℕ) (met : List Finding) (n left : ℕ) (path : List Place)
    → RestStands pages family root met (record { page = n; left = left; todo = [] } ∷ path) → RestStands pages family root met path
popped pages family root met n left path s =
    record { sound = s.sound; whole = λ b free. s.whole b free ∙ ap (λ m. met ++ rest pages family b m path) (append-nil met) }

-- what holds of the pages of a path
all_placed_more : (pages : Pages) (family : Family) (met found : List Finding) (fs : List Frame) → All (λ (f : Frame). IsOpen pages family met f.page) fs → All (λ (f : Frame). IsOpen pages family (met ++ found) f.page) fs
all_placed_more pages family met found fs h = λ k d less.
    record {
      placed = subst (λ ns. Contains ns (slice_index_or fs k d).page) (sym (places-append met found)) (Contains-append_left (places met) (places found) _ (h k d less).placed);
      node = (h k d less).node;
    }

module _ (pages : Pages) (family : Family) (root : ℕ) (taken : Test) (given : List Row) (fs : List Frame) (top : Frame) (floor last : Option ℤ) (last_page : ℕ) (seen : Test)
    (at : IsInside pages family root taken given (fs ++ top ∷ []) floor last last_page seen) where
  abbrev left_of : ℕ
  left_of = 20 - length fs - 1

  -- the walk with the steps of its last page
  last_todo : (todo : List Step) → drop top.done (todo_of pages family top.page) ≡ todo
      → RestStands pages family root at.met (record { page = top.page; left = left_of; todo = todo } ∷ path_of pages family 20 [] fs)
  last_todo todo is =
      subst (λ p. RestStands pages family root at.met p)
      (path-push pages family 20 [] fs top ∙ ap (λ t. record { page = top.page; left = left_of; todo = t } ∷ path_of pages family 20 [] fs) is)
      at.stands

  pub up : All (λ (f : Frame). IsOpen pages family at.met f.page) fs → slice_get (todo_of pages family top.page) top.done ≡ None → IsInside pages family root taken given fs floor last last_page seen
  up placed none =
      record {
        met = at.met;
        stands = popped pages family root at.met top.page left_of (path_of pages family 20 [] fs) (last_todo [] (drop-none (todo_of pages family top.page) top.done none));
        unmarked = at.unmarked;
        marks = at.marks;
        gave = at.gave;
        ordered = at.ordered;
        opened = placed;
      }

  unmarked_both : (found : List Finding) → AreUnmarked taken (places found) → AreUnmarked taken (places (at.met ++ found))
  unmarked_both found free =
      ap (list_any taken) (places-append at.met found) ∙ list_any-append taken (places at.met) (places found)
      ∙ ap (λ b. b || list_any taken (places found)) at.unmarked ∙ free

  -- the walk comes on by these findings
  come_on : (found : List Finding) (todo : List Step) (after : List Frame) (floor' last' : Option ℤ) (page' : ℕ) (later : Test)
      → drop top.done (todo_of pages family top.page) ≡ todo → is_sound found ≡ true → AreUnmarked taken (places found)
      → ((b : Test) → AreUnmarked b (places at.met) → AreUnmarked b (places found)
      → rest pages family b at.met (record { page = top.page; left = left_of; todo = todo } ∷ path_of pages family 20 [] fs)
      ≡ found ++ rest pages family b (at.met ++ found) (path_of pages family 20 [] after))
      → later ≡ also (places found) seen
      → IsOrdered floor' last' page' (at.met ++ found)
      → All (λ (f : Frame). IsOpen pages family (at.met ++ found) f.page) after
      → IsInside pages family root taken (given ++ entries found) after floor' last' page' later
  come_on found todo after floor' last' page' later is good free comes marks ordered placed =
      record {
        met = at.met ++ found;
        stands = Stands-on pages family root at.met found _ (path_of pages family 20 [] after) (last_todo todo is) good comes;
        unmarked = unmarked_both found free;
        marks =
            marks ∙ ap (also (places found)) at.marks ∙ sym (also-append (places at.met) (places found) taken)
            ∙ ap (λ ns. also ns taken) (sym (places-append at.met found));
        gave = entries-append at.met found ∙ ap (λ l. l ++ entries found) at.gave;
        ordered = ordered;
        opened = placed;
      }

  -- the last page with one step more done
  abbrev next_top : Frame
  next_top = record { page = top.page; done = top.done + 1 }

  -- a step that stays on the page
  step_on : (s : Step) (found : List Finding) (floor' last' : Option ℤ) (page' : ℕ) (later : Test)
      → slice_get (todo_of pages family top.page) top.done ≡ Some s → is_sound found ≡ true → AreUnmarked taken (places found)
      → ((b : Test) → AreUnmarked b (places found) → step pages b (walk pages family b left_of) at.met top.page s ≡ found)
      → later ≡ also (places found) seen → IsOrdered floor' last' page' (at.met ++ found)
      → All (λ (f : Frame). IsOpen pages family at.met f.page) (fs ++ next_top ∷ [])
      → IsInside pages family root taken (given ++ entries found) (fs ++ next_top ∷ []) floor' last' page' later
  step_on s found floor' last' page' later is good free gives marks ordered placed =
      let todo : List Step = drop (top.done + 1) (todo_of pages family top.page) in
      let path : List Place = path_of pages family 20 [] fs in
      come_on found (s ∷ todo) (fs ++ next_top ∷ []) floor' last' page' later (drop-some (todo_of pages family top.page) top.done s is) good free
      (λ b one other.
      rest-step pages family b at.met top.page left_of s todo path
      ∙ ap (λ l. l ++ rest pages family b (at.met ++ l) (record { page = top.page; left = left_of; todo = todo } ∷ path)) (gives b other)
      ∙ ap (λ q. found ++ rest pages family b (at.met ++ found) q) (sym (path-push pages family 20 [] fs next_top)))
      marks ordered (all_placed_more pages family at.met found (fs ++ next_top ∷ []) placed)

  pub key_on : (k : ℤ) → slice_get (todo_of pages family top.page) top.done ≡ Some (divider k) → late_of last k ≡ false
      → All (λ (f : Frame). IsOpen pages family at.met f.page) (fs ++ next_top ∷ [])
      → IsInside pages family root taken given (fs ++ next_top ∷ []) (raised_of floor k) last last_page seen
  key_on k is timely placed =
      subst (λ l. IsInside pages family root taken l (fs ++ next_top ∷ []) (raised_of floor k) last last_page seen) (append-nil given)
      (step_on (divider k) (key k ∷ []) (raised_of floor k) last last_page seen is refl refl
      (λ b free. ap (λ l. key k ∷ l) (at.ordered.timely k timely)) refl (ordered_key floor last last_page at.met k at.ordered) placed)

  pub cell_on : (rowid : Option ℤ) (stored : StoredCell) (got : List ℕ) (later : Test) → slice_get (todo_of pages family top.page) top.done ≡ Some (cell rowid stored)
      → low_of floor rowid ≡ false → IsPaid pages taken at.met top.page stored got seen later
      → All (λ (f : Frame). IsOpen pages family at.met f.page) (fs ++ next_top ∷ [])
      → IsInside pages family root taken (given ++ record { rowid = rowid; payload = got; page = top.page } ∷ []) (fs ++ next_top ∷ []) (last_after floor rowid) (last_after last rowid) (page_after last_page rowid top.page) later
  cell_on rowid stored got later is above paid placed =
      let row : Row = record { rowid = rowid; payload = got; page = top.page } in
      let links : List Finding = paid.passed.found in
      let found : List Finding = links ++ entry row ∷ [] in
      let ps : places found ≡ places links = places-append links (entry row ∷ []) ∙ append-nil (places links) in
      let es : entries found ≡ row ∷ [] = entries-append links (entry row ∷ []) ∙ ap (λ l. l ++ row ∷ []) paid.passed.entryless in
      let ks : keys found ≡ option_to_list rowid = keys-append links (entry row ∷ []) ∙ ap (λ l. l ++ (option_to_list rowid ++ [])) paid.passed.keyless ∙ append-nil (option_to_list rowid) in
      subst (λ l. IsInside pages family root taken (given ++ l) (fs ++ next_top ∷ []) (last_after floor rowid) (last_after last rowid) (page_after last_page rowid top.page) later) es
      (step_on (cell rowid stored) found (last_after floor rowid) (last_after last rowid) (page_after last_page rowid top.page) later is
      (sound_both links (entry row ∷ []) paid.passed.sound refl)
      (ap (list_any taken) ps ∙ paid.passed.unmarked)
      (λ b free.
      let whole : chain_of pages b at.met top.page stored ≡ links = paid.whole b (sym (ap (list_any b) ps) ∙ free) in
      let pays : payload_of pages stored ≡ got = sym paid.payload in
      rw (order_none floor last last_page top.page at.met rowid at.ordered above, whole, paid.passed.sound, pays) refl)
      (paid.passed.marks ∙ ap (λ ns. also ns seen) (sym ps))
      (ordered_entry floor last last_page at.met found rowid row at.ordered above refl ks es)
      placed)

  -- page c is none of the pages that were met
  not_met : (c : ℕ) → seen c ≡ false → list_any (λ m. m == c) (places at.met) ≡ false
  not_met c fresh = or_left _ _ (sym (ap (λ t. t c) at.marks) ∙ fresh)

  not_before : (c : ℕ) → seen c ≡ false → taken c ≡ false
  not_before c fresh = or_right _ _ (sym (ap (λ t. t c) at.marks) ∙ fresh)

  pub down_on : (c : ℕ) → slice_get (todo_of pages family top.page) top.done ≡ Some (child c) → IsEntered pages family seen c → length fs + 1 < 20
      → All (λ (f : Frame). IsOpen pages family (at.met ++ place c ∷ []) f.page) ((fs ++ next_top ∷ []) ++ record { page = c; done = 0 } ∷ [])
      → IsInside pages family root taken given ((fs ++ next_top ∷ []) ++ record { page = c; done = 0 } ∷ []) floor last last_page (also (c ∷ []) seen)
  down_on c is entered shallow placed =
      let below : ℕ = 20 - (length fs + 1) - 1 in
      let todo : List Step = drop (top.done + 1) (todo_of pages family top.page) in
      let level : left_of ≡ suc below = omega (arith, shallow) in
      let path : List Place = path_of pages family 20 [] fs in
      let longer : length (fs ++ next_top ∷ []) ≡ length fs + 1 = length-append fs (next_top ∷ []) in
      let deep : path_of pages family 20 [] ((fs ++ next_top ∷ []) ++ record { page = c; done = 0 } ∷ [])
      ≡ record { page = c; left = below; todo = steps entered.node.body.cells entered.node.body.right } ∷ (record { page = top.page; left = suc below; todo = todo } ∷ path) =
      path-push pages family 20 [] (fs ++ next_top ∷ []) (record { page = c; done = 0 })
      ∙ ap (λ k. place_of pages family (20 - k - 1) (record { page = c; done = 0 }) ∷ path_of pages family 20 [] (fs ++ next_top ∷ [])) longer
      ∙ ap (λ r. record { page = c; left = below; todo = steps_of_reading r } ∷ path_of pages family 20 [] (fs ++ next_top ∷ [])) entered.node.reads
      ∙ ap (λ q. record { page = c; left = below; todo = steps entered.node.body.cells entered.node.body.right } ∷ q)
      (path-push pages family 20 [] fs next_top ∙ ap (λ k. place_of pages family k next_top ∷ path) level)
      in
      subst (λ l. IsInside pages family root taken l ((fs ++ next_top ∷ []) ++ record { page = c; done = 0 } ∷ []) floor last last_page (also (c ∷ []) seen)) (append-nil given)
      (come_on (place c ∷ []) (child c ∷ todo) ((fs ++ next_top ∷ []) ++ record { page = c; done = 0 } ∷ []) floor last last_page (also (c ∷ []) seen)
      (drop-some (todo_of pages family top.page) top.done _ is) refl
      (ap (λ b. b || false) (not_before c entered.fresh))
      (λ b one other.
      let fresh : is_met b at.met c ≡ false = ap (λ v. v || b c) (not_met c entered.fresh) ∙ or_left (b c) false other in
      ap (λ k. rest pages family b at.met (record { page = top.page; left = k; todo = child c ∷ todo } ∷ path)) level
      ∙ rest-down pages family b at.met top.page below c entered.node.body todo path entered.range fresh entered.node.accepted entered.node.reads
      ∙ ap (λ q. place c ∷ rest pages family b (at.met ++ place c ∷ []) q) (sym deep))
      refl (ordered_plain floor last last_page at.met (place c ∷ []) at.ordered refl refl) placed)

  -- a defect, or a page, of the next step
  pub stop_on : (s : Step) (d : Defect) → slice_get (todo_of pages family top.page) top.done ≡ Some s
      → Contains (faults (step pages taken (walk pages family taken left_of) at.met top.page s)) d
      → Contains (faults (tree_walk pages family taken root)) d
  stop_on s d is found =
      let todo : List Step = drop (top.done + 1) (todo_of pages family top.page) in
      let first : List Finding = step pages taken (walk pages family taken left_of) at.met top.page s in
      Stands-fault pages family root at.met _ taken d (last_todo (s ∷ todo) (drop-some (todo_of pages family top.page) top.done s is)) at.unmarked
      (subst (λ l. Contains l d)
      (sym (ap faults (rest-step pages family taken at.met top.page left_of s todo (path_of pages family 20 [] fs)) ∙ faults-append first _))
      (Contains-append_left (faults first) _ d found))

  pub place_on : (s : Step) (n : ℕ) → slice_get (todo_of pages family top.page) top.done ≡ Some s
      → Contains (places (step pages taken (walk pages family taken left_of) at.met top.page s)) n
      → Contains (places (tree_walk pages family taken root)) n
  place_on s n is found =
      let todo : List Step = drop (top.done + 1) (todo_of pages family top.page) in
      let first : List Finding = step pages taken (walk pages family taken left_of) at.met top.page s in
      Stands-place pages family root at.met _ taken n (last_todo (s ∷ todo) (drop-some (todo_of pages family top.page) top.done s is)) at.unmarked
      (subst (λ l. Contains l n)
      (sym (ap places (rest-step pages family taken at.met top.page left_of s todo (path_of pages family 20 [] fs)) ∙ places-append first _))
      (Contains-append_left (places first) _ n found))

  pub refused_on : (s : Step) (n : ℕ) → slice_get (todo_of pages family top.page) top.done ≡ Some s
      → Contains (refusals (step pages taken (walk pages family taken left_of) at.met top.page s)) n
      → Contains (refusals (tree_walk pages family taken root)) n
  refused_on s n is found =
      let todo : List Step = drop (top.done + 1) (todo_of pages family top.page) in
      let first : List Finding = step pages taken (walk pages family taken left_of) at.met top.page s in
      Stands-refused pages family root at.met _ taken n (last_todo (s ∷ todo) (drop-some (todo_of pages family top.page) top.done s is)) at.unmarked
      (subst (λ l. Contains l n)
      (sym (ap refusals (rest-step pages family taken at.met top.page left_of s todo (path_of pages family 20 [] fs)) ∙ refusals-append first _))
      (Contains-append_left (refusals first) _ n found))

  -- the marks of what was met
  pub stay_marked : IsMarked (tree_walk pages family taken root) taken seen
  stay_marked =
      record {
        found = at.met;
        more = rest pages family taken at.met (path_of pages family 20 [] (fs ++ top ∷ []));
        whole = at.stands.whole taken at.unmarked;
        marks = at.marks;
      }

  -- and of the first findings of the next step
  pub step_marked : (s : Step) (found more : List Finding) (later : Test) → slice_get (todo_of pages family top.page) top.done ≡ Some s
      → step pages taken (walk pages family taken left_of) at.met top.page s ≡ found ++ more → later ≡ also (places found) seen
      → IsMarked (tree_walk pages family taken root) taken later
  step_marked s found more later is parts marks =
      let todo : List Step = drop (top.done + 1) (todo_of pages family top.page) in
      let path : List Place = path_of pages family 20 [] fs in
      let first : List Finding = step pages taken (walk pages family taken left_of) at.met top.page s in
      let behind : List Finding = rest pages family taken (at.met ++ first) (record { page = top.page; left = left_of; todo = todo } ∷ path) in
      let now : RestStands pages family root at.met (record { page = top.page; left = left_of; todo = s ∷ todo } ∷ path) = last_todo (s ∷ todo) (drop-some (todo_of pages family top.page) top.done s is) in
      record {
        found = at.met ++ found;
        more = more ++ behind;
        whole =
            now.whole taken at.unmarked ∙ ap (λ l. at.met ++ l) (rest-step pages family taken at.met top.page left_of s todo path ∙ ap (λ l. l ++ behind) parts ∙ append_assoc found more behind)
            ∙ sym (append_assoc at.met found (more ++ behind));
        marks =
            marks ∙ ap (also (places found)) at.marks ∙ sym (also-append (places at.met) (places found) taken)
            ∙ ap (λ ns. also ns taken) (sym (places-append at.met found));
      }

  -- a page that was met is one of the walk
  pub met_placed : (n : ℕ) → Contains (places at.met) n → Contains (places (tree_walk pages family taken root)) n
  met_placed n among =
      subst (λ ns. Contains ns n) (sym (ap places (at.stands.whole taken at.unmarked) ∙ places-append at.met _)) (Contains-append_left (places at.met) _ n among)

  pub key_late : (k : ℤ) → slice_get (todo_of pages family top.page) top.done ≡ Some (divider k) → late_of last k ≡ true
      → Contains (faults (tree_walk pages family taken root)) (RowidOrder last_page)
  key_late k is late = stop_on (divider k) (RowidOrder last_page) is (at.ordered.late k late)

  pub cell_low : (rowid : Option ℤ) (stored : StoredCell) → slice_get (todo_of pages family top.page) top.done ≡ Some (cell rowid stored) → low_of floor rowid ≡ true
      → Contains (faults (tree_walk pages family taken root)) (RowidOrder top.page)
  cell_low rowid stored is low =
      stop_on (cell rowid stored) (RowidOrder top.page) is
      (rw (order_some floor last last_page top.page at.met rowid at.ordered low) (0, omega arith, refl))

  pub cell_cut : {R : Type 0} (refuses : Pages → ℕ → R → Type 0) (rowid : Option ℤ) (stored : StoredCell) (stop : WalkError R) → slice_get (todo_of pages family top.page) top.done ≡ Some (cell rowid stored)
      → low_of floor rowid ≡ false → IsCut refuses pages (chain_of pages taken at.met top.page stored) stop → IsAmong refuses pages (tree_walk pages family taken root) stop
  cell_cut refuses rowid stored (Found d) is above cut =
      let only : Contains (faults (chain_of pages taken at.met top.page stored)) d = subst (λ l. Contains l d) (sym cut) (0, omega arith, refl) in
      stop_on (cell rowid stored) d is
      (rw (order_none floor last last_page top.page at.met rowid at.ordered above)
      (subst (λ l. Contains l d) (sym (faults-append (chain_of pages taken at.met top.page stored) _)) (Contains-append_left _ _ d only)))
  cell_cut refuses rowid stored (Source r) is above cut =
      record {
        page = cut.page;
        range = cut.range;
        placed = place_on (cell rowid stored) cut.page is
            (rw (order_none floor last last_page top.page at.met rowid at.ordered above)
            (subst (λ l. Contains l cut.page) (sym (places-append (chain_of pages taken at.met top.page stored) _)) (Contains-append_left _ _ cut.page cut.placed)));
        refused = cut.refused;
        listed = λ no. refused_on (cell rowid stored) cut.page is
            (rw (order_none floor last last_page top.page at.met rowid at.ordered above)
            (subst (λ l. Contains l cut.page) (sym (refusals-append (chain_of pages taken at.met top.page stored) _)) (Contains-append_left _ _ cut.page (cut.listed no))));
      }
  cell_cut refuses rowid stored OutOfMemory is above cut = tt

all_front : (P : Frame → Type 0) (fs : List Frame) (f : Frame) → All P (fs ++ f ∷ []) → All P fs
all_front P fs f h = subst (All P) (take-append_seam fs (f ∷ [])) (All-take P (length fs) (fs ++ f ∷ []) h)

all_last : (P : Frame → Type 0) (fs : List Frame) (f : Frame) → All P (fs ++ f ∷ []) → P f
all_last P fs f h =
    let n : length (fs ++ f ∷ []) ≡ length fs + 1 = length-append fs (f ∷ []) in
    subst P (get_or-append_seam fs f [] f) (h (length fs) f (omega arith))

all_both : (P : Frame → Type 0) (fs : List Frame) (f : Frame) → All P fs → P f → All P (fs ++ f ∷ [])
all_both P fs f front here = All-append P fs (f ∷ []) front (All-cons P f [] here (All-nil P))

-- the same, for a path that is not split
module _ (pages : Pages) (family : Family) (root : ℕ) (taken : Test) (given : List Row) (frames : List Frame) (top : Frame) (floor last : Option ℤ) (last_page : ℕ) (seen : Test)
    (size : ℕ) (counted : size ≡ length frames) (begun : 0 < size) (is_top : top ≡ slice_index_or frames (size - 1) top)
    (at : IsInside pages family root taken given frames floor last last_page seen) where
  abbrev first_frames : List Frame
  first_frames = take (size - 1) frames

  parted : frames ≡ first_frames ++ top ∷ []
  parted = split_at_last frames top size counted begun ∙ ap (λ x. first_frames ++ x ∷ []) (sym is_top)

  abbrev at_last : IsInside pages family root taken given (first_frames ++ top ∷ []) floor last last_page seen
  at_last = subst (λ l. IsInside pages family root taken given l floor last last_page seen) parted at

  how_many : length first_frames ≡ size - 1
  how_many = let n : length first_frames ≡ min (size - 1) (length frames) = length-take (size - 1) frames in omega (arith, n, counted)

  abbrev after_top : Frame
  after_top = record { page = top.page; done = top.done + 1 }

  set_top : slice_set frames (size - 1) after_top ≡ first_frames ++ after_top ∷ []
  set_top =
      ap (λ k. slice_set frames k after_top) (sym how_many) ∙ ap (λ l. slice_set l (length first_frames) after_top) parted
      ∙ set-append_seam first_frames top [] after_top

  abbrev Placed : List Finding → Frame → Type 0
  Placed met f = IsOpen pages family met f.page

  front : All (Placed at_last.met) first_frames
  front = all_front (Placed at_last.met) first_frames top at_last.opened

  here : IsOpen pages family at_last.met top.page
  here = all_last (Placed at_last.met) first_frames top at_last.opened

  kept : All (Placed at_last.met) (first_frames ++ after_top ∷ [])
  kept = all_both (Placed at_last.met) first_frames after_top front here

  abbrev next_step : Option Step
  next_step = slice_get (todo_of pages family top.page) top.done

  pub turn_up : next_step ≡ None → IsInside pages family root taken given first_frames floor last last_page seen
  turn_up none = up pages family root taken given first_frames top floor last last_page seen at_last front none

  pub turn_key : (k : ℤ) → next_step ≡ Some (divider k) → late_of last k ≡ false
      → IsInside pages family root taken given (slice_set frames (size - 1) after_top) (raised_of floor k) last last_page seen
  turn_key k is timely = rw set_top (key_on pages family root taken given first_frames top floor last last_page seen at_last k is timely kept)

  pub turn_late : (k : ℤ) → next_step ≡ Some (divider k) → late_of last k ≡ true → Contains (faults (tree_walk pages family taken root)) (RowidOrder last_page)
  turn_late k is late = key_late pages family root taken given first_frames top floor last last_page seen at_last k is late

  pub turn_low : (rowid : Option ℤ) (stored : StoredCell) → next_step ≡ Some (cell rowid stored) → low_of floor rowid ≡ true → Contains (faults (tree_walk pages family taken root)) (RowidOrder top.page)
  turn_low rowid stored is low = cell_low pages family root taken given first_frames top floor last last_page seen at_last rowid stored is low

  pub turn_cell : (rowid : Option ℤ) (stored : StoredCell) (got : List ℕ) (later : Test) → next_step ≡ Some (cell rowid stored) → low_of floor rowid ≡ false
      → ((met : List Finding) → seen ≡ also (places met) taken → IsPaid pages taken met top.page stored got seen later)
      → IsInside pages family root taken (given ++ record { rowid = rowid; payload = got; page = top.page } ∷ []) (slice_set frames (size - 1) after_top) (last_after floor rowid) (last_after last rowid) (page_after last_page rowid top.page) later
  turn_cell rowid stored got later is above pays =
      rw set_top (cell_on pages family root taken given first_frames top floor last last_page seen at_last rowid stored got later is above (pays at_last.met at_last.marks) kept)

  pub turn_cut : {R : Type 0} (refuses : Pages → ℕ → R → Type 0) (rowid : Option ℤ) (stored : StoredCell) (stop : WalkError R) → next_step ≡ Some (cell rowid stored) → low_of floor rowid ≡ false
      → ((met : List Finding) → seen ≡ also (places met) taken → IsCut refuses pages (chain_of pages taken met top.page stored) stop)
      → IsAmong refuses pages (tree_walk pages family taken root) stop
  turn_cut refuses rowid stored stop is above cuts =
      cell_cut pages family root taken given first_frames top floor last last_page seen at_last refuses rowid stored stop is above (cuts at_last.met at_last.marks)

  pub turn_down : (c : ℕ) → next_step ≡ Some (child c) → IsEntered pages family seen c → size - 1 + 1 < 20
      → IsInside pages family root taken given (slice_set frames (size - 1) after_top ++ record { page = c; done = 0 } ∷ []) floor last last_page (also (c ∷ []) seen)
  turn_down c is entered shallow =
      let new : Contains (places (at_last.met ++ place c ∷ [])) c = subst (λ ns. Contains ns c) (sym (places-append at_last.met (place c ∷ []))) (Contains-append_right (places at_last.met) (c ∷ []) c (0, omega arith, refl)) in
      rw set_top
      (down_on pages family root taken given first_frames top floor last last_page seen at_last c is entered (omega (arith, how_many, shallow))
      (all_both (Placed (at_last.met ++ place c ∷ [])) (first_frames ++ after_top ∷ []) (record { page = c; done = 0 }) (all_placed_more pages family at_last.met (place c ∷ []) (first_frames ++ after_top ∷ []) kept) (record { placed = new; node = entered.node })))

  pub turn_enter : {R : Type 0} (refuses : Pages → ℕ → R → Type 0) (c : ℕ) (stop : WalkError R) → next_step ≡ Some (child c) → IsEnterStop refuses pages family seen (size - 1 + 1) top.page c stop
      → IsAmong refuses pages (tree_walk pages family taken root) stop
  turn_enter refuses c (Found d) is defect =
      let level : 20 - (size - 1 + 1) ≡ 20 - length first_frames - 1 = omega (arith, how_many) in
      let only : faults (step pages taken (walk pages family taken (20 - length first_frames - 1)) at_last.met top.page (child c)) ≡ d ∷ [] =
      ap (λ k. faults (step pages taken (walk pages family taken k) at_last.met top.page (child c))) (sym level) ∙ step_faults pages family taken at_last.met seen (size - 1 + 1) top.page c d at_last.marks defect
      in
      stop_on pages family root taken given first_frames top floor last last_page seen at_last (child c) d is (subst (λ l. Contains l d) (sym only) (0, omega arith, refl))
  turn_enter refuses c (Source r) is shut =
      let level : 20 - length first_frames - 1 ≡ suc (19 - length first_frames - 1) = let shallow : size - 1 + 1 < 20 = shut.shallow in omega (arith, how_many, shallow) in
      let new : is_met taken at_last.met c ≡ false = sym (ap (λ t. t c) at_last.marks) ∙ shut.fresh in
      record {
        page = c;
        range = named_is_page pages c shut.range;
        placed = place_on pages family root taken given first_frames top floor last last_page seen at_last (child c) c is
            (step_place pages family taken (20 - length first_frames - 1) top.page c at_last.met shut.range);
        refused = shut.refused;
        listed = λ no. refused_on pages family root taken given first_frames top floor last last_page seen at_last (child c) c is
            (subst (λ k. Contains (refusals (step pages taken (walk pages family taken k) at_last.met top.page (child c))) c) (sym level)
            (step_refused pages family taken (19 - length first_frames - 1) top.page c at_last.met shut.range new no));
      }
  turn_enter refuses c OutOfMemory is nothing = tt

  pub turn_unread : {R : Type 0} (refuses : Pages → ℕ → R → Type 0) (error : WalkError R) → is_page pages top.page ≡ true → IsUnread (refuses pages top.page) error → IsAmong refuses pages (tree_walk pages family taken root) error
  turn_unread refuses (Found d) range h = absurd h
  turn_unread refuses (Source r) range h =
      record {
        page = top.page;
        range = range;
        placed = met_placed pages family root taken given first_frames top floor last last_page seen at_last top.page here.placed;
        refused = h;
        listed = λ no. let never : true ≡ false = sym here.node.accepted ∙ no in cc;
      }
  turn_unread refuses OutOfMemory range h = tt

  pub turn_stays : IsMarked (tree_walk pages family taken root) taken seen
  turn_stays = stay_marked pages family root taken given first_frames top floor last last_page seen at_last

  pub turn_named : (c : ℕ) (later : Test) → next_step ≡ Some (child c) → (named : Bool) → is_in_range pages c ≡ named → later ≡ (if named then also (c ∷ []) seen else seen)
      → IsMarked (tree_walk pages family taken root) taken later
  turn_named c later is false range marks = subst (IsMarked (tree_walk pages family taken root) taken) (sym marks) turn_stays
  turn_named c later is true range marks =
      let left : ℕ = 20 - length first_frames - 1 in
      let first_is : (x : List Finding) × (walk pages family taken left at_last.met c ≡ place c ∷ x) = walk_first pages family taken left c at_last.met in
      step_marked pages family root taken given first_frames top floor last last_page seen at_last (child c) (place c ∷ []) first_is.0 later is
      (let here : step pages taken (walk pages family taken left) at_last.met top.page (child c) ≡ walk pages family taken left at_last.met c = rw range refl in here ∙ first_is.1) marks

  pub turn_cut_marked : (rowid : Option ℤ) (stored : StoredCell) (later : Test) → next_step ≡ Some (cell rowid stored) → low_of floor rowid ≡ false
      → ((met : List Finding) → seen ≡ also (places met) taken → IsMarked (chain_of pages taken met top.page stored) seen later)
      → IsMarked (tree_walk pages family taken root) taken later
  turn_cut_marked rowid stored later is above cuts =
      let cut : IsMarked (chain_of pages taken at_last.met top.page stored) seen later = cuts at_last.met at_last.marks in
      let all : List Finding = chain_of pages taken at_last.met top.page stored in
      let last_is : List Finding = if is_sound all then entry (record { rowid = rowid; payload = payload_of pages stored; page = top.page }) ∷ [] else [] in
      step_marked pages family root taken given first_frames top floor last last_page seen at_last (cell rowid stored) cut.found (cut.more ++ last_is) later is
      (ap (λ l. l ++ (all ++ last_is)) (order_none floor last last_page top.page at_last.met rowid at_last.ordered above)
      ∙ ap (λ l. l ++ last_is) cut.whole ∙ append_assoc cut.found cut.more last_is)
      cut.marks

  pub top_node : IsNode pages family top.page
  top_node = here.node

-- the first page
module _ (pages : Pages) (family : Family) (root : ℕ) (seen : Test) where
  pub start_on : (page : ℕ) → seen root ≡ false → IsNode pages family root
      → IsInside pages family root seen [] (record { page = root; done = 0 } ∷ []) None None page (also (root ∷ []) seen)
  start_on page fresh node =
      record {
        met = place root ∷ [];
        stands =
            record {
              sound = refl;
              whole = λ b free.
                  let new : is_met b [] root ≡ false = or_left (b root) false free in
                  Stands-start pages family root 19 node.body b new node.accepted node.reads
                  ∙ ap (λ r. place root ∷ rest pages family b (place root ∷ []) (record { page = root; left = 19; todo = steps_of_reading r } ∷ [])) (sym node.reads);
            };
        unmarked = ap (λ b. b || false) fresh;
        marks = refl;
        gave = refl;
        ordered = ordered_plain None None page [] (place root ∷ []) (ordered_none page) refl refl;
        opened = All-cons (λ (f : Frame). IsOpen pages family (place root ∷ []) f.page) (record { page = root; done = 0 }) [] (record { placed = (0, omega arith, refl); node = node }) (All-nil _);
      }

  pub start_stop : (d : Defect) (m : Bool) → seen root ≡ m → visit_defect pages family root m 20 ≡ Some d → Contains (faults (tree_walk pages family seen root)) d
  start_stop d m is defect =
      subst (λ l. Contains l d) (sym (visit_faults pages family seen [] 20 root d m is defect)) (0, omega arith, refl)

  -- the root was not read
  pub start_shut : {R : Type 0} (refuses : Pages → ℕ → R → Type 0) (error : WalkError R) → seen root ≡ false → is_page pages root ≡ true
      → IsNodeOpened refuses pages family root (Err error) → IsAmong refuses pages (tree_walk pages family seen root) error
  start_shut refuses (Found d) fresh range shut =
      start_stop d false fresh (rw shut.0 shut.1)
  start_shut refuses (Source r) fresh range shut =
      record {
        page = root;
        range = range;
        placed = walk_place pages family seen 20 root [];
        refused = shut;
        listed = λ no. walk_refused pages family seen 19 root [] fresh no;
      }
  start_shut refuses OutOfMemory fresh range shut = tt

  -- the root was marked
  pub start_marked : IsMarked (tree_walk pages family seen root) seen (also (root ∷ []) seen)
  start_marked =
      let first_is : (x : List Finding) × (walk pages family seen 20 [] root ≡ place root ∷ x) = walk_first pages family seen 20 root [] in
      record { found = place root ∷ []; more = first_is.0; whole = first_is.1; marks = refl }
