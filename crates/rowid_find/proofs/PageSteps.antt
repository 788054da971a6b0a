-- One page of a path: it is refused or faulty, or its steps are gone through.
use Rattle.std.specs.Prelude.{unwrap_or}
use Rattle.std.proofs.Common.{inr, Option, Some, ◌≡◌, ◌≤◌, ◌+◌, ◌-◌, ℕ, zero, suc, ℤ, Bool, true, false, List, [], ◌∷◌, ◌++◌, Result, Ok, Err, if◌then◌else◌, arith, refl, ap, sym, subst, ◌∙◌}
use Rattle.db_format.specs.declared.defect.Defect.TheVariants.{ChildOutOfRange, TooDeep}
use Rattle.db_format.specs.Pages.{Pages, also, is_page}
use Rattle.btree_page.specs.declared.kind.Family.TheVariants.{Table}
use Rattle.btree_page.specs.declared.page.PageFault.{PageFault}
use Rattle.btree_page.specs.Cell.{StoredCell}
use Rattle.btree_page.specs.Page.{Node, read_node}
use Rattle.btree_page.specs.Step.{Step, child, entry as cell}
use Rattle.btree_model.specs.Finding.{Finding, place, fault, refused}
use Rattle.btree_model.specs.Range.{is_in_range}
use Rattle.btree_model.specs.Walk.{page_defect}
use Rattle.btree_walk.specs.declared.error.WalkError.{WalkError}
use Rattle.btree_walk.specs.declared.error.WalkError.TheVariants.{Defect as Found, Source, OutOfMemory}
use Rattle.rowid_find.specs.Reach.{all_steps, page_steps, reach, row_of_cell}
use Rattle.rowid_find.specs.Search.{Met, State, IsNotLoaded, IsSoFar, IsSearchStopped}
use Rattle.rowid_find.specs.Wanted.{wanted}
use Rattle.rowid_find.proofs.OnceLemmas.{also_none, one_new}
use Rattle.rowid_find.proofs.RowSteps.{met_of, with_met}
use Rattle.rowid_find.proofs.SearchSteps.{at_start, passed, stopped_at}

-- a page with pages below it
begun : (pages : Pages) (low high : ℤ) (n left : ℕ) → (left ≡ 0 → ⊥)
    → reach pages low high left n
    ≡ place n ∷ (if pages.accepts n then page_steps pages low high (reach pages low high (left - 1)) n (read_node Table n (pages.page n)) else refused n ∷ [])
unfolding reach
begun pages low high n zero some = absurd (some refl)
begun pages low high n (suc left) some = let less : suc left - 1 ≡ left = omega arith in rw less refl

module _ (pages : Pages) (low high : ℤ) (tells : Bool) (s : State) (n : ℕ) where
  -- a path that is too long
  pub too_deep : {R : Type 0} (refuses : Pages → ℕ → R → Type 0) (left : ℕ) → left ≡ 0
      → IsSearchStopped refuses pages tells (reach pages low high left n) s s (Found (TooDeep n))
  unfolding reach
  too_deep refuses zero none = stopped_at refuses pages (TooDeep n) [] (at_start tells (fault (TooDeep n) ∷ []) s)
  too_deep refuses (suc left) none = absurd (omega (arith, none))

  module _ (left : ℕ) (some : left ≡ 0 → ⊥) (now : Met) (one : now.reads ≤ s.reads + 1) where
    -- what follows the page's place
    abbrev after_page : Bool → List Finding
    after_page b = if b then page_steps pages low high (reach pages low high (left - 1)) n (read_node Table n (pages.page n)) else refused n ∷ []

    page_is : reach pages low high left n ≡ place n ∷ after_page (pages.accepts n)
    page_is = begun pages low high n left some

    unaccepted : (b : Bool) → pages.accepts n ≡ b → pages.accepts n ≡ false → after_page b ≡ refused n ∷ []
    unaccepted true is none = cc
    unaccepted false is none = refl

    -- the source did not give it, or it was met before
    pub page_refused : {R : Type 0} (refuses : Pages → ℕ → R → Type 0) (error : WalkError R) → IsNotLoaded refuses pages n (met_of s) now.reads error → is_page pages n ≡ true
        → IsSearchStopped refuses pages tells (reach pages low high left n) s (with_met s now) error
    unfolding passed
    page_refused refuses (Found defect) why page =
        let same = why.2 in
        record {
          more = reach pages low high left n;
          met = s.marks;
          part = passed [] now.reads refl refl refl (omega (arith, same)) s.marks refl (also_none s.marks);
          cause = inr (record {
            page = n;
            is = why.0;
            before = why.1;
            later = after_page (pages.accepts n);
            next = page_is;
          });
        }
    page_refused refuses OutOfMemory why page =
        record {
          more = after_page (pages.accepts n);
          met = also (n ∷ []) s.marks;
          part = passed (place n ∷ []) now.reads page_is refl refl one (also (n ∷ []) s.marks) (one_new s.marks n why) refl;
          cause = tt;
        }
    page_refused refuses (Source refusal) why page =
        record {
          more = after_page (pages.accepts n);
          met = also (n ∷ []) s.marks;
          part = passed (place n ∷ []) now.reads page_is refl refl one (also (n ∷ []) s.marks) (one_new s.marks n why.1) refl;
          cause = record {
            page = n;
            range = page;
            placed = (0, omega arith, refl);
            refuses_it = why.0;
            later = [];
            next = unaccepted (pages.accepts n) refl;
          };
        }

    module _ (fresh : s.marks n ≡ false) (marks : now.marks ≡ also (n ∷ []) s.marks) (accepted : pages.accepts n ≡ true) where
      asked : (after : List Finding) → reach pages low high left n ≡ place n ∷ after → IsSoFar tells (reach pages low high left n) after s (with_met s now)
      asked after is = passed (place n ∷ []) now.reads is refl refl one now.marks (one_new s.marks n fresh) marks

      opened : (read : Result Node PageFault) → read_node Table n (pages.page n) ≡ read
          → IsSoFar tells (reach pages low high left n) (page_steps pages low high (reach pages low high (left - 1)) n read) s (with_met s now)
      opened read is =
          asked (page_steps pages low high (reach pages low high (left - 1)) n read)
          (page_is ∙ ap (λ b. place n ∷ after_page b) accepted ∙ ap (λ r. place n ∷ page_steps pages low high (reach pages low high (left - 1)) n r) is)

      -- it is no page of a table
      pub page_faulty : {R : Type 0} (refuses : Pages → ℕ → R → Type 0) (why : PageFault) → read_node Table n (pages.page n) ≡ Err why
          → IsSearchStopped refuses pages tells (reach pages low high left n) s (with_met s now) (Found (page_defect n why))
      page_faulty refuses why is = stopped_at refuses pages (page_defect n why) [] (opened (Err why) is)

      -- it is one
      pub page_opened : (page : Node) → read_node Table n (pages.page n) ≡ Ok page
          → IsSoFar tells (reach pages low high left n) (all_steps pages (reach pages low high (left - 1)) n (wanted low high page.cells page.right)) s (with_met s now)
      page_opened page is = opened (Ok page) is

-- ---- its steps, one by one

pub next_is : (old new : List Step) (x shown : Step) → Some x ≡ Some shown → old ≡ shown ∷ new → old ≡ x ∷ new
next_is old new x shown same is = is ∙ ap (λ (o : Option Step). unwrap_or o x ∷ new) (sym same)

module _ (pages : Pages) (below : ℕ → List Finding) (n : ℕ) (tells : Bool) (all : List Finding) (s t : State) (old rest : List Step) where
  -- a child out of range
  pub at_no_child : {R : Type 0} (refuses : Pages → ℕ → R → Type 0) (c : ℕ) → IsSoFar tells all (all_steps pages below n old) s t → old ≡ child c ∷ rest
      → is_in_range pages c ≡ false → IsSearchStopped refuses pages tells all s t (Found (ChildOutOfRange n))
  at_no_child refuses c at is range =
      stopped_at refuses pages (ChildOutOfRange n) (all_steps pages below n rest)
      (subst (λ l. IsSoFar tells all l s t)
      (ap (all_steps pages below n) is ∙ ap (λ (b : Bool). (if b then below c else fault (ChildOutOfRange n) ∷ []) ++ all_steps pages below n rest) range) at)

  -- a child
  pub at_child : (c : ℕ) → IsSoFar tells all (all_steps pages below n old) s t → old ≡ child c ∷ rest → is_in_range pages c ≡ true
      → IsSoFar tells all (below c ++ all_steps pages below n rest) s t
  at_child c at is range =
      subst (λ l. IsSoFar tells all l s t)
      (ap (all_steps pages below n) is ∙ ap (λ (b : Bool). (if b then below c else fault (ChildOutOfRange n) ∷ []) ++ all_steps pages below n rest) range) at

  -- a row
  pub at_row : (rowid : Option ℤ) (stored : StoredCell) → IsSoFar tells all (all_steps pages below n old) s t → old ≡ cell rowid stored ∷ rest
      → IsSoFar tells all (row_of_cell pages n rowid stored ++ all_steps pages below n rest) s t
  at_row rowid stored at is = subst (λ l. IsSoFar tells all l s t) (ap (all_steps pages below n) is) at
