-- One row: its overflow pages, its record and its line.
use Rattle.std.proofs.Common.{◌≡◌, ◌+◌, ℕ, ℤ, Bool, true, List, [], ◌∷◌, ◌++◌, Option, Some, None, if◌then◌else◌, IsTrue, arith, refl, ap, sym, subst, ◌∙◌, append_assoc}
use Rattle.std.specs.Prelude.{unwrap_or}
use Rattle.std.proofs.lemmas.List.{append-nil}
use Rattle.db_format.specs.declared.defect.Defect.TheVariants.{RecordFault}
use Rattle.db_format.specs.Pages.{Pages}
use Rattle.db_format.specs.Record.{columns}
use Rattle.db_format.specs.Value.{Datum}
use Rattle.btree_page.specs.Cell.{StoredCell}
use Rattle.btree_model.specs.Finding.{Row, Finding, entry, is_sound}
use Rattle.btree_model.specs.Walk.{payload_of}
use Rattle.btree_walk.specs.declared.error.WalkError.{WalkError}
use Rattle.btree_walk.specs.declared.error.WalkError.TheVariants.{Defect as Found}
use Rattle.row_text.specs.Lines.{entry_line}
use Rattle.row_text.specs.Out.{Moves, MovesPart}
use Rattle.row_text.proofs.Moving.{restated, restated_part}
use Rattle.rowid_find.specs.Lines.{found_rows_text}
use Rattle.rowid_find.specs.Reach.{links_of, row_at, row_found, row_of_cell}
use Rattle.rowid_find.specs.Search.{Met, State, IsChainRead, IsChainStopped, IsLost, IsSoFar, IsSearchStopped}
use Rattle.rowid_find.proofs.OnceLemmas.{also_none}
use Rattle.rowid_find.proofs.SearchSteps.{cause_later, passed, stopped_at, goes_on, then_lost}

-- these pages were read and met, and nothing was put
abbrev pub with_met : State → Met → State
with_met s now = record { taken = s.taken; waits = s.waits; rows = s.rows; reads = now.reads; marks = now.marks }

abbrev pub met_of : State → Met
met_of s = record { reads = s.reads; marks = s.marks }

module _ (pages : Pages) (n : ℕ) (rowid : Option ℤ) (stored : StoredCell) (tells : Bool) (s : State) (now : Met) where
  abbrev row : Row
  row = row_at pages n rowid stored

  abbrev after_links : Bool → List Finding
  after_links b = if b then row_found row (columns (payload_of pages stored)) else []

  -- it stopped in the overflow pages
  pub links_stopped : {R : Type 0} (refuses : Pages → ℕ → R → Type 0) (error : WalkError R) → IsChainStopped refuses pages (links_of pages n stored) (met_of s) now error
      → IsSearchStopped refuses pages tells (row_of_cell pages n rowid stored) s (with_met s now) error
  unfolding passed
  links_stopped refuses error at =
      let later : List Finding = after_links (is_sound (links_of pages n stored)) in
      record {
        more = at.more ++ later;
        met = at.met;
        part = passed at.part.found now.reads (ap (λ l. l ++ later) at.part.whole ∙ append_assoc at.part.found at.more later) at.part.sound at.part.rowless at.part.few
            at.met at.part.fresh at.part.marks;
        cause = cause_later refuses pages at.met [] at.part.found at.more later error at.cause;
      }

  module _ (got : List ℕ) (at : IsChainRead (links_of pages n stored) (payload_of pages stored) got (met_of s) now) where
    -- they were read
    pub links_read : IsSoFar tells (row_of_cell pages n rowid stored) (row_found row (columns got)) s (with_met s now)
    links_read =
        let all : links_of pages n stored ≡ at.part.found = at.part.whole ∙ append-nil at.part.found in
        let sound : is_sound (links_of pages n stored) ≡ true = ap is_sound all ∙ at.part.sound in
        passed at.part.found now.reads
        (ap (λ b. links_of pages n stored ++ after_links b) sound
        ∙ ap (λ l. l ++ row_found row (columns (payload_of pages stored))) all
        ∙ ap (λ p. at.part.found ++ row_found row (columns p)) (sym at.bytes))
        at.part.sound at.part.rowless at.part.few now.marks at.part.fresh at.part.marks

    pub no_record : {R : Type 0} (refuses : Pages → ℕ → R → Type 0) → columns got ≡ None
        → IsSearchStopped refuses pages tells (row_of_cell pages n rowid stored) s (with_met s now) (Found (RecordFault n))
    no_record refuses none =
        stopped_at refuses pages (RecordFault n) []
        (subst (λ (o : Option (List Datum)). IsSoFar tells (row_of_cell pages n rowid stored) (row_found row o) s (with_met s now)) none links_read)

    module _ (values : List Datum) (is : columns got ≡ Some values) where
      -- the line of the row
      line_is : entry_line rowid values ≡ found_rows_text (row ∷ [])
      line_is =
          let read : columns (payload_of pages stored) ≡ Some values = ap columns (sym at.bytes) ∙ is in
          sym (append-nil (entry_line rowid (unwrap_or (columns (payload_of pages stored)) []))
          ∙ ap (λ (o : Option (List Datum)). entry_line rowid (unwrap_or o [])) read)

      one_left : IsSoFar tells (row_of_cell pages n rowid stored) (entry row ∷ []) s (with_met s now)
      one_left = subst (λ (o : Option (List Datum)). IsSoFar tells (row_of_cell pages n rowid stored) (row_found row o) s (with_met s now)) is links_read

      -- its line was put
      pub row_put : (after left : List ℕ) → (IsTrue tells → Moves (entry_line rowid values) s.taken s.waits after left)
          → IsSoFar tells (row_of_cell pages n rowid stored) [] s (record { taken = after; waits = left; rows = s.rows + 1; reads = now.reads; marks = now.marks })
      row_put after left moved =
          goes_on (entry row ∷ []) [] [] one_left
          (record {
            found = entry row ∷ [];
            whole = refl;
            sound = refl;
            moves = λ told. restated line_is (moved told);
            count = refl;
            few = omega arith;
            fresh = refl;
            marks = also_none now.marks;
          })

      -- a part of it was
      pub row_lost : (after left : List ℕ) → (IsTrue tells → MovesPart (entry_line rowid values) s.taken s.waits after)
          → IsLost tells (row_of_cell pages n rowid stored) s (record { taken = after; waits = left; rows = s.rows; reads = now.reads; marks = now.marks })
      row_lost after left moved =
          then_lost (entry row ∷ []) [] one_left
          (record {
            found = entry row ∷ [];
            more = [];
            whole = refl;
            sound = refl;
            moves = λ told. restated_part line_is (moved told);
            few = omega arith;
            fresh = refl;
          })
