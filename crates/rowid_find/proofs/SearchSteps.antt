-- A search that goes on from one part to the next.
use Rattle.std.proofs.Common.{inl, inr, ◌≡◌, ◌≤◌, ◌+◌, ℕ, Bool, true, List, [], ◌∷◌, ◌++◌, length, Contains, IsTrue, arith, refl, ap, sym, subst, ◌∙◌, append_assoc}
use Rattle.std.proofs.lemmas.List.{append-nil, length-append}
use Rattle.std.proofs.lemmas.List.Concat.{flat_map-append}
use Rattle.std.proofs.lemmas.List.Elements.{Contains-append_right}
use Rattle.db_format.specs.declared.defect.Defect.{Defect}
use Rattle.db_format.specs.Pages.{Pages, Test, also}
use Rattle.btree_model.specs.Finding.{Finding, fault, places, entries, is_sound}
use Rattle.btree_model.proofs.FindingLemmas.{places-append, entries-append, sound_both}
use Rattle.btree_walk.specs.declared.error.WalkError.{WalkError}
use Rattle.btree_walk.specs.declared.error.WalkError.TheVariants.{Defect as Found, Source, OutOfMemory}
use Rattle.row_text.specs.Lines.{row_text}
use Rattle.row_text.proofs.Moving.{restated, restated_part, then as moves_then, then_part as moves_part, waits}
use Rattle.std.proofs.Common.{Err}
use Rattle.db_format.specs.Source.{Rose}
use Rattle.btree_walk.specs.Causes.{IsGivenBy, is_failure}
use Rattle.btree_walk.proofs.CauseLemmas.{given_later}
use Rattle.rowid_find.specs.declared.error.FindError.{FindError}
use Rattle.rowid_find.specs.declared.error.FindError.TheVariants.{Walk, OutputFault}
use Rattle.rowid_find.specs.Causes.{IfWalk}
use Rattle.rowid_find.specs.Lines.{found_rows_text}
use Rattle.rowid_find.specs.Once.{are_new}
use Rattle.rowid_find.specs.Search.{State, IsSearchCause, IsLost, IsSearched, IsSoFar, IsSearchStopped}
use Rattle.rowid_find.proofs.OnceLemmas.{also_none, marks_both, new_both}

-- the lines of the rows among these findings, then those among those
pub text_both : (xs ys : List Finding) → found_rows_text (entries xs) ++ found_rows_text (entries ys) ≡ found_rows_text (entries (xs ++ ys))
text_both xs ys = sym (flat_map-append row_text (entries xs) (entries ys)) ∙ ap found_rows_text (sym (entries-append xs ys))

pub rows_both : (xs ys : List Finding) → length (entries (xs ++ ys)) ≡ length (entries xs) + length (entries ys)
rows_both xs ys = ap length (entries-append xs ys) ∙ length-append (entries xs) (entries ys)

pub places_both : (xs ys : List Finding) → length (places (xs ++ ys)) ≡ length (places xs) + length (places ys)
places_both xs ys = ap length (places-append xs ys) ∙ length-append (places xs) (places ys)

-- nothing is behind
pub at_start : (tells : Bool) (all : List Finding) (s : State) → IsSoFar tells all all s s
at_start tells all s =
    record {
      found = [];
      whole = refl;
      sound = refl;
      moves = λ told. waits s.taken (sym (append-nil s.waits));
      count = omega arith;
      few = omega arith;
      fresh = refl;
      marks = also_none s.marks;
    }

-- the parts of what two searches met, one after the other
parts_join : (all piece a b later more : List Finding) → all ≡ a ++ (piece ++ more) → piece ≡ b ++ later → all ≡ (a ++ b) ++ (later ++ more)
parts_join all piece a b later more first then =
    first ∙ ap (λ l. a ++ (l ++ more)) then ∙ ap (λ l. a ++ l) (append_assoc b later more) ∙ sym (append_assoc a b (later ++ more))

-- a piece of what was left was gone through in part
pub goes_on : {tells : Bool} {all : List Finding} {s t u : State} (piece later more : List Finding)
    → IsSoFar tells all (piece ++ more) s t → IsSoFar tells piece later t u → IsSoFar tells all (later ++ more) s u
goes_on {tells} {all} {s} {t} {u} piece later more a b =
    let rows = rows_both a.found b.found in
    let met = places_both a.found b.found in
    let first = a.count in
    let next = b.count in
    let few = a.few in
    let fewer = b.few in
    record {
      found = a.found ++ b.found;
      whole = parts_join all piece a.found b.found later more a.whole b.whole;
      sound = sound_both a.found b.found a.sound b.sound;
      moves = λ told. restated (text_both a.found b.found) (moves_then (a.moves told) (b.moves told));
      count = omega (arith, rows, first, next);
      few = omega (arith, met, few, fewer);
      fresh = new_both s.marks t.marks a.found b.found a.fresh a.marks b.fresh;
      marks = marks_both s.marks t.marks u.marks a.found b.found a.marks b.marks;
    }

-- the cause is the same where more was met before it, and more is left after it
pub cause_later : {R : Type 0} (refuses : Pages → ℕ → R → Type 0) (pages : Pages) (met : Test) (before found later more : List Finding) (error : WalkError R)
    → IsSearchCause refuses pages met found later error → IsSearchCause refuses pages met (before ++ found) (later ++ more) error
cause_later refuses pages met before found later more (Found defect) (inl cause) = inl (cause.0 ++ more, ap (λ l. l ++ more) cause.1)
cause_later refuses pages met before found later more (Found defect) (inr cause) =
    inr (record {
      page = cause.page;
      is = cause.is;
      before = cause.before;
      later = cause.later ++ more;
      next = ap (λ l. l ++ more) cause.next;
    })
cause_later refuses pages met before found later more (Source refusal) cause =
    record {
      page = cause.page;
      range = cause.range;
      placed = subst (λ ns. Contains ns cause.page) (sym (places-append before found)) (Contains-append_right (places before) (places found) cause.page cause.placed);
      refuses_it = cause.refuses_it;
      later = cause.later ++ more;
      next = λ none. ap (λ l. l ++ more) (cause.next none);
    }
cause_later refuses pages met before found later more OutOfMemory cause = tt

-- it stopped in that piece
pub then_stopped : {R : Type 0} {refuses : Pages → ℕ → R → Type 0} {pages : Pages} {tells : Bool} {all : List Finding} {s t u : State} {error : WalkError R} (piece more : List Finding)
    → IsSoFar tells all (piece ++ more) s t → IsSearchStopped refuses pages tells piece t u error → IsSearchStopped refuses pages tells all s u error
unfolding goes_on
then_stopped {R} {refuses} {pages} {tells} {all} {s} {t} {u} {error} piece more a b =
    record {
      more = b.more ++ more;
      met = b.met;
      part = goes_on piece b.more more a b.part;
      cause = cause_later refuses pages b.met a.found b.part.found b.more more error b.cause;
    }

-- the sink failed in that piece
pub then_lost : {tells : Bool} {all : List Finding} {s t u : State} (piece more : List Finding)
    → IsSoFar tells all (piece ++ more) s t → IsLost tells piece t u → IsLost tells all s u
then_lost {tells} {all} {s} {t} {u} piece more a b =
    let met = places_both a.found b.found in
    let few = a.few in
    let fewer = b.few in
    record {
      found = a.found ++ b.found;
      more = b.more ++ more;
      whole = parts_join all piece a.found b.found b.more more a.whole b.whole;
      sound = sound_both a.found b.found a.sound b.sound;
      moves = λ told. restated_part (text_both a.found b.found) (moves_part (a.moves told) (b.moves told));
      few = omega (arith, met, few, fewer);
      fresh = new_both s.marks t.marks a.found b.found a.fresh a.marks b.fresh;
    }

-- a defect comes next
pub stopped_at : {R : Type 0} (refuses : Pages → ℕ → R → Type 0) (pages : Pages) {tells : Bool} {all : List Finding} {s t : State} (defect : Defect) (later : List Finding)
    → IsSoFar tells all (fault defect ∷ later) s t → IsSearchStopped refuses pages tells all s t (Found defect)
stopped_at refuses pages {tells} {all} {s} {t} defect later a = record { more = fault defect ∷ later; met = t.marks; part = a; cause = inl (later, refl) }

-- there was no memory
pub stopped_short : {R : Type 0} (refuses : Pages → ℕ → R → Type 0) (pages : Pages) {tells : Bool} {all more : List Finding} {s t : State}
    → IsSoFar tells all more s t → IsSearchStopped refuses pages tells all s t OutOfMemory
stopped_short refuses pages {tells} {all} {more} {s} {t} a = record { more = more; met = t.marks; part = a; cause = tt }

-- pages alone were met, so many were read, and the text is as it was
unfoldable pub passed : {tells : Bool} {all more : List Finding} {s : State} (found : List Finding) (reads : ℕ) → all ≡ found ++ more → is_sound found ≡ true → entries found ≡ []
    → reads ≤ s.reads + length (places found) → (marks : Test) → are_new s.marks (places found) ≡ true → marks ≡ also (places found) s.marks
    → IsSoFar tells all more s (record { taken = s.taken; waits = s.waits; rows = s.rows; reads = reads; marks = marks })
passed {tells} {all} {more} {s} found reads whole sound rowless few marks fresh is =
    let none : length (entries found) ≡ 0 = ap length rowless in
    record {
      found = found;
      whole = whole;
      sound = sound;
      moves = λ told. restated (sym (ap found_rows_text rowless)) (waits s.taken (sym (append-nil s.waits)));
      count = omega (arith, none);
      few = few;
      fresh = fresh;
      marks = is;
    }

-- it ended in that piece
pub then_failed : {R : Type 0} (refuses : Pages → ℕ → R → Type 0) (pages : Pages) {tells : Bool} {all : List Finding} {s t : State} (u : State) (piece more : List Finding) (error : FindError R)
    → IsSoFar tells all (piece ++ more) s t → IsSearched refuses pages tells piece t u (Err error) → IsSearched refuses pages tells all s u (Err error)
then_failed refuses pages u piece more (Walk error) a b = then_stopped piece more a b
then_failed refuses pages u piece more OutputFault a b = then_lost piece more a b

-- ---- causes that are handed on

pub walk_given : {T R : Type 0} (read : T → T → Type 0) (plain : T → Pages) (refuses : Pages → ℕ → R → Type 0) (before middle : T) (error : FindError R)
    → ((s t u : T) → read s t → read t u → read s u) → (plain middle).count ≡ (plain before).count → read before middle
    → IfWalk (IsGivenBy read plain refuses middle) error → IfWalk (IsGivenBy read plain refuses before) error
walk_given read plain refuses before middle (Walk error) on same first given = given_later read plain refuses before middle error on same first given
walk_given read plain refuses before middle OutputFault on same first given = given

rose_from : (a b c : ℕ) → a ≤ b → Rose b c → Rose a c
rose_from a b c more rose = omega (arith, more, rose)

pub walk_fault : {R : Type 0} (is_fault : R → Bool) (a b c : ℕ) (error : FindError R) → a ≤ b
    → IfWalk (λ e. IsTrue (is_failure is_fault e) → Rose b c) error → IfWalk (λ e. IsTrue (is_failure is_fault e) → Rose a c) error
walk_fault is_fault a b c (Walk error) more fault_of = λ failed. rose_from a b c more (fault_of failed)
walk_fault is_fault a b c OutputFault more fault_of = fault_of
