-- The end of a search: what was put when it stopped, and that it was all.
use Rattle.std.proofs.Common.{inl, inr, ◌≡◌, ◌≤◌, ◌+◌, ℕ, Bool, true, List, [], ◌∷◌, ◌++◌, length, Result, Ok, Err, OnOk, OnErr, if◌then◌else◌, IsTrue, arith, refl, ap, sym, subst, ◌∙◌, append_assoc}
use Rattle.std.proofs.lemmas.List.{append-nil}
use Rattle.edge_model.specs.declared.role.Failed.{Failed}
use Rattle.db_format.specs.declared.defect.Defect.TheVariants.{PageTwice}
use Rattle.db_format.specs.Pages.{Pages, Test, also}
use Rattle.btree_model.specs.Finding.{Finding, place, fault, entries, places, is_sound}
use Rattle.btree_model.proofs.FindingLemmas.{entries-append, sound_both}
use Rattle.btree_walk.specs.declared.error.WalkError.{WalkError}
use Rattle.btree_walk.specs.declared.error.WalkError.TheVariants.{Defect, Source, OutOfMemory}
use Rattle.row_text.specs.Out.{Moves, MovesPart}
use Rattle.row_text.proofs.Moving.{cut, restated, restated_part, then as moves_on, then_part as moves_part}
use Rattle.rowid_find.specs.Causes.{after_flush}
use Rattle.rowid_find.specs.Lines.{count_line, found_report, found_rows_text}
use Rattle.rowid_find.specs.Once.{are_new, once}
use Rattle.rowid_find.specs.Search.{State, IsAllFound, IsSearchCause, IsCutOff, AreRowsFound, IsLost, IsNextStop, IsSoFar, IsSearchStopped, with_marks}
use Rattle.rowid_find.proofs.OnceLemmas.{once_split}
use Rattle.rowid_find.proofs.SearchSteps.{places_both}

-- all of a text was put, and nothing waits
all_put : (text before after : List ℕ) → Moves text before [] after [] → after ≡ before ++ text
all_put text before after moved =
    moved.given ∙ ap (λ l. before ++ l) (sym (append-nil moved.put)) ∙ ap (λ l. before ++ l) (sym moved.whole)

module _ (tells : Bool) (all : List Finding) (s : State) (empty : s.waits ≡ []) where
  -- what was met is the first part of what comes up to a page that was met before
  behind : (found more : List Finding) → all ≡ found ++ more → are_new s.marks (places found) ≡ true
      → once s.marks all ≡ found ++ once (also (places found) s.marks) more
  behind found more whole fresh = ap (once s.marks) whole ∙ once_split s.marks found more fresh

  -- the sink failed in the rows
  pub cut_off : (t : State) → IsLost tells all s t → IsCutOff tells (once s.marks all) s.taken t.taken s.reads t.reads
  cut_off t at =
      record {
        found = at.found;
        more = once (also (places at.found) s.marks) at.more;
        whole = behind at.found at.more at.whole at.fresh;
        sound = at.sound;
        last = [];
        ends = inl refl;
        text = λ told.
            subst (λ w. MovesPart (found_rows_text (entries at.found) ++ []) s.taken w t.taken) empty (cut [] (at.moves told));
        few = at.few;
      }

  -- it stopped, and the cause is what comes next
  record IsCutBy {R : Type 0} (refuses : Pages → ℕ → R → Type 0) (pages : Pages) (t : State) (error : WalkError R) : Type 0 where
    found : List Finding
    more : List Finding
    whole : once s.marks all ≡ found ++ more
    sound : is_sound found ≡ true
    cause : IsNextStop refuses pages found more error
    moves : IsTrue tells → Moves (found_rows_text (entries found)) s.taken s.waits t.taken t.waits
    few : t.reads ≤ s.reads + length (places found)

  cut_from : {R : Type 0} (refuses : Pages → ℕ → R → Type 0) (pages : Pages) (t : State) (error : WalkError R) (more : List Finding) (met : Test)
      (part : IsSoFar tells all more s (with_marks met t)) → IsSearchCause refuses pages met part.found more error → IsCutBy refuses pages t error
  cut_from refuses pages t (Defect d) more met part (inl cause) =
      let after : Test = also (places part.found) s.marks in
      record {
        found = part.found;
        more = once after more;
        whole = behind part.found more part.whole part.fresh;
        sound = part.sound;
        cause = (once after cause.0, ap (once after) cause.1);
        moves = part.moves;
        few = part.few;
      }
  cut_from refuses pages t (Defect d) more met part (inr cause) =
      let after : Test = also (places part.found) s.marks in
      let n : ℕ = cause.page in
      let again : after n ≡ true = ap (λ m. m n) (sym part.marks) ∙ cause.before in
      let ends : once after more ≡ place n ∷ (fault d ∷ []) =
      ap (once after) cause.next ∙ ap (λ (b : Bool). place n ∷ (if b then fault (PageTwice n) ∷ [] else once (also (n ∷ []) after) cause.later)) again
      ∙ ap (λ e. place n ∷ (fault e ∷ [])) (sym cause.is) in
      let rows : entries (part.found ++ place n ∷ []) ≡ entries part.found = entries-append part.found (place n ∷ []) ∙ append-nil (entries part.found) in
      let met_all = places_both part.found (place n ∷ []) in
      let few = part.few in
      record {
        found = part.found ++ place n ∷ [];
        more = fault d ∷ [];
        whole = behind part.found more part.whole part.fresh ∙ ap (λ l. part.found ++ l) ends ∙ sym (append_assoc part.found (place n ∷ []) (fault d ∷ []));
        sound = sound_both part.found (place n ∷ []) part.sound refl;
        cause = ([], refl);
        moves = λ told. restated (ap found_rows_text (sym rows)) (part.moves told);
        few = omega (arith, few, met_all);
      }
  cut_from refuses pages t (Source refusal) more met part cause =
      let after : Test = also (places part.found) s.marks in
      record {
        found = part.found;
        more = once after more;
        whole = behind part.found more part.whole part.fresh;
        sound = part.sound;
        cause = record {
          page = cause.page;
          range = cause.range;
          placed = cause.placed;
          refuses_it = cause.refuses_it;
          later = once after cause.later;
          next = λ none. ap (once after) (cause.next none);
        };
        moves = part.moves;
        few = part.few;
      }
  cut_from refuses pages t OutOfMemory more met part cause =
      record {
        found = part.found;
        more = once (also (places part.found) s.marks) more;
        whole = behind part.found more part.whole part.fresh;
        sound = part.sound;
        cause = tt;
        moves = part.moves;
        few = part.few;
      }

  cut_by : {R : Type 0} (refuses : Pages → ℕ → R → Type 0) (pages : Pages) (t : State) (error : WalkError R) → IsSearchStopped refuses pages tells all s t error
      → IsCutBy refuses pages t error
  cut_by refuses pages t error at = cut_from refuses pages t error at.more at.met at.part at.cause

  -- and what waited was put, or not
  pub stop_flushed : {R : Type 0} (refuses : Pages → ℕ → R → Type 0) (pages : Pages) (t : State) (error : WalkError R) (flushed : Result Unit Failed) (after left : List ℕ)
      → IsSearchStopped refuses pages tells all s t error → OnOk flushed (left ≡ []) → OnOk flushed (IsTrue tells → Moves [] t.taken t.waits after left)
      → OnErr flushed (IsTrue tells → MovesPart [] t.taken t.waits after)
      → AreRowsFound refuses pages tells (once s.marks all) s.taken after s.reads t.reads (Err (after_flush flushed error))
  stop_flushed refuses pages t error (Ok done) after left stopped none moved part =
      let at = cut_by refuses pages t error stopped in
      record {
        found = at.found;
        more = at.more;
        whole = at.whole;
        sound = at.sound;
        cause = at.cause;
        text = λ told.
            all_put (found_rows_text (entries at.found)) s.taken after
            (subst (λ w. Moves (found_rows_text (entries at.found)) s.taken w after []) empty
            (subst (λ l. Moves (found_rows_text (entries at.found)) s.taken s.waits after l) none
            (restated (append-nil (found_rows_text (entries at.found))) (moves_on (at.moves told) (moved told)))));
        few = at.few;
      }
  stop_flushed refuses pages t error (Err failed) after left stopped none moved part =
      let at = cut_by refuses pages t error stopped in
      record {
        found = at.found;
        more = at.more;
        whole = at.whole;
        sound = at.sound;
        last = [];
        ends = inl refl;
        text = λ told.
            subst (λ w. MovesPart (found_rows_text (entries at.found) ++ []) s.taken w after) empty (moves_part (at.moves told) (part told));
        few = at.few;
      }

  module _ (none : s.rows ≡ 0) (t : State) (at : IsSoFar tells all [] s t) where
    all_met : once s.marks all ≡ at.found ++ []
    all_met = behind at.found [] at.whole at.fresh

    count_is : t.rows ≡ length (entries at.found)
    count_is = let counted = at.count in omega (arith, none, counted)

    -- the last line was put
    counted_text : (told : IsTrue tells) (after left : List ℕ) → Moves (count_line t.rows) t.taken t.waits after left
        → Moves (found_report (entries at.found)) s.taken [] after left
    counted_text told after left moved =
        subst (λ w. Moves (found_report (entries at.found)) s.taken w after left) empty
        (restated (ap (λ k. found_rows_text (entries at.found) ++ count_line k) count_is) (moves_on (at.moves told) moved))

    -- or a part of it
    pub count_lost : (after : List ℕ) → (IsTrue tells → MovesPart (count_line t.rows) t.taken t.waits after) → IsCutOff tells (once s.marks all) s.taken after s.reads t.reads
    count_lost after part =
        record {
          found = at.found;
          more = [];
          whole = all_met;
          sound = at.sound;
          last = count_line (length (entries at.found));
          ends = inr (refl, refl);
          text = λ told.
              subst (λ w. MovesPart (found_report (entries at.found)) s.taken w after) empty
              (restated_part (ap (λ k. found_rows_text (entries at.found) ++ count_line k) count_is) (moves_part (at.moves told) (part told)));
          few = at.few;
        }

    module _ (middle waits : List ℕ) (counted : IsTrue tells → Moves (count_line t.rows) t.taken t.waits middle waits) where
      -- what waited at the end was not put
      pub end_lost : (after : List ℕ) → (IsTrue tells → MovesPart [] middle waits after) → IsCutOff tells (once s.marks all) s.taken after s.reads t.reads
      end_lost after part =
          record {
            found = at.found;
            more = [];
            whole = all_met;
            sound = at.sound;
            last = count_line (length (entries at.found));
            ends = inr (refl, refl);
            text = λ told.
                restated_part (append-nil (found_report (entries at.found))) (moves_part (counted_text told middle waits (counted told)) (part told));
            few = at.few;
          }

      -- it was
      pub end_put : (after left : List ℕ) → left ≡ [] → (IsTrue tells → Moves [] middle waits after left)
          → IsAllFound tells (once s.marks all) s.taken after s.reads t.reads t.rows
      end_put after left gone moved =
          let whole : once s.marks all ≡ at.found = all_met ∙ append-nil at.found in
          let few = at.few in
          record {
            sound = ap is_sound whole ∙ at.sound;
            count = count_is ∙ ap (λ l. length (entries l)) (sym whole);
            text = λ told.
                all_put (found_report (entries at.found)) s.taken after
                (subst (λ l. Moves (found_report (entries at.found)) s.taken [] after l) gone
                (restated (append-nil (found_report (entries at.found))) (moves_on (counted_text told middle waits (counted told)) (moved told))))
                ∙ ap (λ l. s.taken ++ found_report (entries l)) (sym whole);
            few = subst (λ l. t.reads ≤ s.reads + length (places l)) (sym whole) few;
          }
