use Rattle.std.proofs.Common.{rules, length, ◌≡◌, ◌∙◌, ◌∷◌, ◌+◌, ◌-◌, ℕ, ℤ, Bool, List, [], Result, Ok, Err, arith, sym, ap, subst}
use mir.Val.{SFits, of_z, to_z}
use mir.Syntax.{w64}
use Rattle.db_format.specs.Pages.{Pages}
use Rattle.db_format.specs.Seen.{marked}
use Rattle.btree_page.specs.declared.kind.Family.TheVariants.{Table}
use Rattle.btree_page.specs.Page.{read_node}
use Rattle.btree_page.specs.Shown.{step_shown}
use Rattle.btree_page.specs.Step.{Step, child, entry}
use Rattle.btree_model.specs.Finding.{Finding}
use Rattle.rowid_find.specs.declared.error.FindError.{FindError}
use Rattle.rowid_find.specs.Reach.{all_steps, reach, row_of_cell}
use Rattle.rowid_find.specs.Search.{State, IsSearched, IsSoFar}
use Rattle.rowid_find.specs.Wanted.{wanted}
use Rattle.rowid_find.proofs.PageSteps.{at_child, at_no_child, at_row, next_is, page_faulty, page_opened, page_refused, too_deep}
use Rattle.rowid_find.proofs.SearchSteps.{goes_on, then_failed, walk_fault, walk_given}
use Rattle.std.proofs.lemmas.Int.{to_z-of_z}
use Rattle.rowid_find.proofs.WantedSteps.{passed2}
use Rattle.rowid_find.proofs.visit.+visit.Goals as goal

-- what a search below came to, of pages that are the same, and with its numbers as they were passed
below_as : {R : Type 0} (refuses : Pages → ℕ → R → Type 0) (pages again : Pages) (tells : Bool) (low high : ℤ) (left c : ℕ) (s t : State) (result : Result Unit (FindError R))
    → again ≡ pages → SFits w64 low → SFits w64 high
    → IsSearched refuses again tells (reach again (to_z w64 (of_z w64 low)) (to_z w64 (of_z w64 high)) left c) s t result
    → IsSearched refuses pages tells (reach pages low high left c) s t result
below_as refuses pages again tells low high left c s t result same p q at =
    subst (λ l. IsSearched refuses pages tells l s t result) (passed2 (λ a b. reach pages a b left c) low high p q)
    (subst (λ (k : Pages). IsSearched refuses k tells (reach k (to_z w64 (of_z w64 low)) (to_z w64 (of_z w64 high)) left c) s t result) same at)

row_as : {R : Type 0} (refuses : Pages → ℕ → R → Type 0) (pages again : Pages) (tells : Bool) (all : Pages → List Finding) (s t : State) (result : Result Unit (FindError R))
    → again ≡ pages → IsSearched refuses again tells (all again) s t result → IsSearched refuses pages tells (all pages) s t result
row_as refuses pages again tells all s t result same at = subst (λ (k : Pages). IsSearched refuses k tells (all k) s t result) same at

-- a search so far, with its numbers as they were passed
so_far_as : (tells : Bool) (pages : Pages) (low high : ℤ) (left n : ℕ) (old : List Step) (s t : State) → SFits w64 low → SFits w64 high
    → IsSoFar tells (reach pages (to_z w64 (of_z w64 low)) (to_z w64 (of_z w64 high)) left n)
    (all_steps pages (reach pages (to_z w64 (of_z w64 low)) (to_z w64 (of_z w64 high)) (left - 1)) n old) s t
    → IsSoFar tells (reach pages low high left n) (all_steps pages (reach pages low high (left - 1)) n old) s t
so_far_as tells pages low high left n old s t p q at =
    subst (λ (z : ℤ). IsSoFar tells (reach pages z high left n) (all_steps pages (reach pages z high (left - 1)) n old) s t) (to_z-of_z w64 low p)
    (subst (λ (z : ℤ). IsSoFar tells (reach pages (to_z w64 (of_z w64 low)) z left n) (all_steps pages (reach pages (to_z w64 (of_z w64 low)) z (left - 1)) n old) s t) (to_z-of_z w64 high q) at)

so_far_back : (tells : Bool) (pages : Pages) (low high : ℤ) (left n : ℕ) (old : List Step) (s t : State) → SFits w64 low → SFits w64 high
    → IsSoFar tells (reach pages low high left n) (all_steps pages (reach pages low high (left - 1)) n old) s t
    → IsSoFar tells (reach pages (to_z w64 (of_z w64 low)) (to_z w64 (of_z w64 high)) left n)
    (all_steps pages (reach pages (to_z w64 (of_z w64 low)) (to_z w64 (of_z w64 high)) (left - 1)) n old) s t
so_far_back tells pages low high left n old s t p q at =
    subst (λ (z : ℤ). IsSoFar tells (reach pages (to_z w64 (of_z w64 low)) z left n) (all_steps pages (reach pages (to_z w64 (of_z w64 low)) z (left - 1)) n old) s t) (sym (to_z-of_z w64 high q))
    (subst (λ (z : ℤ). IsSoFar tells (reach pages z high left n) (all_steps pages (reach pages z high (left - 1)) n old) s t) (sym (to_z-of_z w64 low p)) at)

pub returns-then-left-eq0-clause-on : goal.returns-then-left-eq0-clause-on
returns-then-left-eq0-clause-on g t c told = too_deep (g.S.PageSource.plain c.args.source.now.source.now) c.args.low c.args.high g.K.Sink.tells (record { taken = g.K.Sink.taken c.args.out.now; waits = c.args.found.now.line; rows = c.args.found.now.rows; reads = c.args.source.now.reads; marks = marked c.args.found.now.seen }) c.args.n g.S.PageSource.refuses c.args.left c.if-left-eq0.true

pub returns-in-Err-clause-on : goal.returns-in-Err-clause-on
returns-in-Err-clause-on g t c told =
    page_refused (g.S.PageSource.plain c.args.source.now.source.now) c.args.low c.args.high g.K.Sink.tells (record { taken = g.K.Sink.taken c.args.out.now; waits = c.args.found.now.line; rows = c.args.found.now.rows; reads = c.args.source.now.reads; marks = marked c.args.found.now.seen }) c.args.n c.args.left c.if-left-eq0.false (record { reads = c.copy_page.new.source.reads; marks = marked c.copy_page.new.seen }) c.in-Err.ensures.counted
    g.S.PageSource.refuses c.in-Err.error c.in-Err.ensures.refused (let low = c.requires.low in let high = c.requires.high in grind (arith, low, high))

pub returns-in-Err-open-clause-on : goal.returns-in-Err-open-clause-on
returns-in-Err-open-clause-on g t c told =
    rw c.page_defect.ensures
    (page_faulty (g.S.PageSource.plain c.args.source.now.source.now) c.args.low c.args.high g.K.Sink.tells (record { taken = g.K.Sink.taken c.args.out.now; waits = c.args.found.now.line; rows = c.args.found.now.rows; reads = c.args.source.now.reads; marks = marked c.args.found.now.seen }) c.args.n c.args.left c.if-left-eq0.false (record { reads = c.copy_page.new.source.reads; marks = marked c.copy_page.new.seen }) c.in-Ok.ensures.counted c.in-Ok.ensures.fresh c.in-Ok.ensures.marks (c.in-Ok.ensures.accepted told)
    g.S.PageSource.refuses c.in-Err-open.fault
    (ap (read_node Table c.args.n) (sym (c.as_slice.ensures.value ∙ c.in-Ok.ensures.told told)) ∙ sym c.open.ensures ∙ c.in-Err-open.is))

pub steps-init : goal.steps-init
steps-init g t c =
    let pages = g.S.PageSource.plain c.args.source.now.source.now in
    let before : State = record { taken = g.K.Sink.taken c.args.out.now; waits = c.args.found.now.line; rows = c.args.found.now.rows; reads = c.args.source.now.reads; marks = marked c.args.found.now.seen } in
    let before_2 : State = record { taken = g.K.Sink.taken c.args.out.now; waits = c.args.found.now.line; rows = c.args.found.now.rows; reads = c.copy_page.new.source.reads; marks = marked c.copy_page.new.seen } in
    record {
      reads = c.in-Ok.ensures.reads.0;
      same = c.in-Ok.ensures.reads.1;
      pins = c.in-Ok.ensures.pins;
      later = omega arith;
      count = c.pages-count.ensures;
      seen = c.in-Ok.ensures.length;
      once = c.in-Ok.ensures.once;
      on = λ told.
          so_far_back g.K.Sink.tells pages c.args.low c.args.high c.args.left c.args.n c.new-wanted.result before before_2 c.ranges.low c.ranges.high
          (subst (λ l. IsSoFar g.K.Sink.tells (reach pages c.args.low c.args.high c.args.left c.args.n) (all_steps pages (reach pages c.args.low c.args.high (c.args.left - 1)) c.args.n l) before
          before_2)
          (sym (c.new-wanted.ensures ∙ passed2 (λ a b. wanted a b c.in-Ok-open.page.cells c.in-Ok-open.page.right) c.args.low c.args.high c.ranges.low c.ranges.high))
          (page_opened pages c.args.low c.args.high g.K.Sink.tells before c.args.n c.args.left c.if-left-eq0.false (record { reads = c.copy_page.new.source.reads; marks = marked c.copy_page.new.seen }) c.in-Ok.ensures.counted c.in-Ok.ensures.fresh c.in-Ok.ensures.marks (c.in-Ok.ensures.accepted told) c.in-Ok-open.page
          (ap (read_node Table c.args.n) (sym (c.as_slice.ensures.value ∙ c.in-Ok.ensures.told told)) ∙ sym c.open.ensures ∙ c.in-Ok-open.is)));
    }

pub returns-then-not-is_in_range-clause-on : goal.returns-then-not-is_in_range-clause-on
returns-then-not-is_in_range-clause-on g t c told =
    let pages = g.S.PageSource.plain c.args.source.now.source.now in
    let before : State = record { taken = g.K.Sink.taken c.args.out.now; waits = c.args.found.now.line; rows = c.args.found.now.rows; reads = c.args.source.now.reads; marks = marked c.args.found.now.seen } in
    let so_far : State = record { taken = g.K.Sink.taken c.steps.out; waits = c.steps.found.line; rows = c.steps.found.rows; reads = c.steps.source.reads; marks = marked c.steps.found.seen } in
    let count : (g.S.PageSource.plain c.steps.source.source.now).count ≡ pages.count =
    g.met.S.PageSource.same_count c.args.source.now.source.now c.steps.source.source.now c.steps.invariant.reads in
    let gives = c.in-Some-Child.ensures.gives in
    let is : c.steps.wanted ≡ child c.in-Some-Child.child ∷ c.next.new.self =
    next_is c.steps.wanted c.next.new.self (child c.in-Some-Child.child) gives.0 (sym (ap step_shown c.in-Some-Child.field-0-is) ∙ gives.1) gives.2 in
    at_no_child pages (reach pages c.args.low c.args.high (c.args.left - 1)) c.args.n g.K.Sink.tells (reach pages c.args.low c.args.high c.args.left c.args.n) before so_far c.steps.wanted c.next.new.self g.S.PageSource.refuses c.in-Some-Child.child (so_far_as g.K.Sink.tells pages c.args.low c.args.high c.args.left c.args.n c.steps.wanted before so_far c.ranges.low c.ranges.high (c.steps.invariant.on told)) is (sym (c.if-not-is_in_range.ensures.value pages (sym (c.steps.invariant.count ∙ count))))

pub returns-in-Err-visit-clause-on : goal.returns-in-Err-visit-clause-on
returns-in-Err-visit-clause-on g t c told =
    let pages = g.S.PageSource.plain c.args.source.now.source.now in
    let so_far : State = record { taken = g.K.Sink.taken c.steps.out; waits = c.steps.found.line; rows = c.steps.found.rows; reads = c.steps.source.reads; marks = marked c.steps.found.seen } in
    let after : State = record { taken = g.K.Sink.taken c.visit.new.out; waits = c.visit.new.found.line; rows = c.visit.new.found.rows; reads = c.visit.new.source.reads; marks = marked c.visit.new.found.seen } in
    let before : State = record { taken = g.K.Sink.taken c.args.out.now; waits = c.args.found.now.line; rows = c.args.found.now.rows; reads = c.args.source.now.reads; marks = marked c.args.found.now.seen } in
    let same : g.S.PageSource.plain c.steps.source.source.now ≡ pages =
    g.met.S.PageSource.same_pages c.args.source.now.source.now c.steps.source.source.now c.steps.invariant.reads told in
    let count : (g.S.PageSource.plain c.steps.source.source.now).count ≡ pages.count =
    g.met.S.PageSource.same_count c.args.source.now.source.now c.steps.source.source.now c.steps.invariant.reads in
    let gives = c.in-Some-Child.ensures.gives in
    let is : c.steps.wanted ≡ child c.in-Some-Child.child ∷ c.next.new.self =
    next_is c.steps.wanted c.next.new.self (child c.in-Some-Child.child) gives.0 (sym (ap step_shown c.in-Some-Child.field-0-is) ∙ gives.1) gives.2 in
    let came : IsSearched g.S.PageSource.refuses pages g.K.Sink.tells (reach pages c.args.low c.args.high (c.args.left - 1) c.in-Some-Child.child) so_far after (Err c.in-Err-visit.error) =
    below_as g.S.PageSource.refuses pages (g.S.PageSource.plain c.steps.source.source.now) g.K.Sink.tells c.args.low c.args.high (c.args.left - 1) c.in-Some-Child.child so_far after (Err c.in-Err-visit.error)
    same c.ranges.low c.ranges.high (c.in-Err-visit.ensures.on told) in
    then_failed g.S.PageSource.refuses pages after (reach pages c.args.low c.args.high (c.args.left - 1) c.in-Some-Child.child) (all_steps pages (reach pages c.args.low c.args.high (c.args.left - 1)) c.args.n c.next.new.self) c.in-Err-visit.error
    (at_child pages (reach pages c.args.low c.args.high (c.args.left - 1)) c.args.n g.K.Sink.tells (reach pages c.args.low c.args.high c.args.left c.args.n) before so_far c.steps.wanted c.next.new.self c.in-Some-Child.child (so_far_as g.K.Sink.tells pages c.args.low c.args.high c.args.left c.args.n c.steps.wanted before so_far c.ranges.low c.ranges.high (c.steps.invariant.on told)) is (sym (c.if-not-is_in_range.ensures.value pages (sym (c.steps.invariant.count ∙ count))))) came

pub returns-in-Err-visit-clause-given : goal.returns-in-Err-visit-clause-given
returns-in-Err-visit-clause-given g t c =
    walk_given g.S.PageSource.only_read g.S.PageSource.plain g.S.PageSource.refuses c.args.source.now.source.now c.steps.source.source.now c.in-Err-visit.error g.met.S.PageSource.transitive
    (g.met.S.PageSource.same_count c.args.source.now.source.now c.steps.source.source.now c.steps.invariant.reads) c.steps.invariant.reads c.in-Err-visit.ensures.given

pub returns-in-Err-visit-clause-fault : goal.returns-in-Err-visit-clause-fault
returns-in-Err-visit-clause-fault g t c =
    walk_fault g.S.PageSource.is_fault (g.S.PageSource.faults c.args.source.now.source.now) (g.S.PageSource.faults c.steps.source.source.now) (g.S.PageSource.faults c.visit.new.source.source.now)
    c.in-Err-visit.error (g.met.S.PageSource.later c.args.source.now.source.now c.steps.source.source.now c.steps.invariant.reads) c.in-Err-visit.ensures.fault

pub returns-in-Err-visit-clause-reads : goal.returns-in-Err-visit-clause-reads
returns-in-Err-visit-clause-reads g t c = (
  g.met.S.PageSource.transitive c.args.source.now.source.now c.steps.source.source.now c.visit.new.source.source.now c.steps.invariant.reads c.in-Err-visit.ensures.reads.0,
  c.in-Err-visit.ensures.reads.1 ∙ c.steps.invariant.same,
)

pub steps-preserved-in-Ok-visit : goal.steps-preserved-in-Ok-visit
steps-preserved-in-Ok-visit g t c =
    let pages = g.S.PageSource.plain c.args.source.now.source.now in
    let so_far : State = record { taken = g.K.Sink.taken c.steps.out; waits = c.steps.found.line; rows = c.steps.found.rows; reads = c.steps.source.reads; marks = marked c.steps.found.seen } in
    let after : State = record { taken = g.K.Sink.taken c.visit.new.out; waits = c.visit.new.found.line; rows = c.visit.new.found.rows; reads = c.visit.new.source.reads; marks = marked c.visit.new.found.seen } in
    let before : State = record { taken = g.K.Sink.taken c.args.out.now; waits = c.args.found.now.line; rows = c.args.found.now.rows; reads = c.args.source.now.reads; marks = marked c.args.found.now.seen } in
    record {
      reads = g.met.S.PageSource.transitive c.args.source.now.source.now c.steps.source.source.now c.visit.new.source.source.now c.steps.invariant.reads c.in-Ok-visit.ensures.reads.0;
      same = c.in-Ok-visit.ensures.reads.1 ∙ c.steps.invariant.same;
      pins = c.in-Ok-visit.ensures.pins ∙ c.steps.invariant.pins;
      seen = c.in-Ok-visit.ensures.seen_length ∙ c.steps.invariant.seen;
      once = let before = c.steps.invariant.once in let more = c.in-Ok-visit.ensures.once in omega (arith, before, more);
      later = let before = c.steps.invariant.later in let more = c.in-Ok-visit.ensures.later in omega (arith, before, more);
      count = c.steps.invariant.count ∙ sym (g.met.S.PageSource.same_count c.steps.source.source.now c.visit.new.source.source.now c.in-Ok-visit.ensures.reads.0);
      on = λ told.
          let same : g.S.PageSource.plain c.steps.source.source.now ≡ pages =
          g.met.S.PageSource.same_pages c.args.source.now.source.now c.steps.source.source.now c.steps.invariant.reads told in
          let count : (g.S.PageSource.plain c.steps.source.source.now).count ≡ pages.count =
          g.met.S.PageSource.same_count c.args.source.now.source.now c.steps.source.source.now c.steps.invariant.reads in
          let gives = c.in-Some-Child.ensures.gives in
          let is : c.steps.wanted ≡ child c.in-Some-Child.child ∷ c.next.new.self =
          next_is c.steps.wanted c.next.new.self (child c.in-Some-Child.child) gives.0 (sym (ap step_shown c.in-Some-Child.field-0-is) ∙ gives.1) gives.2 in
          let came : IsSearched g.S.PageSource.refuses pages g.K.Sink.tells (reach pages c.args.low c.args.high (c.args.left - 1) c.in-Some-Child.child) so_far after (Ok c.in-Ok-visit.field-0) =
          below_as g.S.PageSource.refuses pages (g.S.PageSource.plain c.steps.source.source.now) g.K.Sink.tells c.args.low c.args.high (c.args.left - 1) c.in-Some-Child.child so_far after (Ok c.in-Ok-visit.field-0)
          same c.ranges.low c.ranges.high (c.in-Ok-visit.ensures.on told) in
          so_far_back g.K.Sink.tells pages c.args.low c.args.high c.args.left c.args.n c.next.new.self before after c.ranges.low c.ranges.high
          (goes_on (reach pages c.args.low c.args.high (c.args.left - 1) c.in-Some-Child.child) [] (all_steps pages (reach pages c.args.low c.args.high (c.args.left - 1)) c.args.n c.next.new.self)
          (at_child pages (reach pages c.args.low c.args.high (c.args.left - 1)) c.args.n g.K.Sink.tells (reach pages c.args.low c.args.high c.args.left c.args.n) before so_far c.steps.wanted c.next.new.self c.in-Some-Child.child (so_far_as g.K.Sink.tells pages c.args.low c.args.high c.args.left c.args.n c.steps.wanted before so_far c.ranges.low c.ranges.high (c.steps.invariant.on told)) is (sym (c.if-not-is_in_range.ensures.value pages (sym (c.steps.invariant.count ∙ count))))) came);
    }

pub returns-in-Err-put_row-clause-on : goal.returns-in-Err-put_row-clause-on
returns-in-Err-put_row-clause-on g t c told =
    let pages = g.S.PageSource.plain c.args.source.now.source.now in
    let so_far : State = record { taken = g.K.Sink.taken c.steps.out; waits = c.steps.found.line; rows = c.steps.found.rows; reads = c.steps.source.reads; marks = marked c.steps.found.seen } in
    let after : State = record { taken = g.K.Sink.taken c.put_row.new.out; waits = c.put_row.new.found.line; rows = c.put_row.new.found.rows; reads = c.put_row.new.source.reads; marks = marked c.put_row.new.found.seen } in
    let before : State = record { taken = g.K.Sink.taken c.args.out.now; waits = c.args.found.now.line; rows = c.args.found.now.rows; reads = c.args.source.now.reads; marks = marked c.args.found.now.seen } in
    let same : g.S.PageSource.plain c.steps.source.source.now ≡ pages =
    g.met.S.PageSource.same_pages c.args.source.now.source.now c.steps.source.source.now c.steps.invariant.reads told in
    let gives = c.in-Some-Entry.ensures.gives in
    let is : c.steps.wanted ≡ entry c.in-Some-Entry.rowid (record { size = c.in-Some-Entry.length; local = c.in-Some-Entry.local.now; first = c.in-Some-Entry.first }) ∷ c.next.new.self =
    next_is c.steps.wanted c.next.new.self (entry c.in-Some-Entry.rowid (record { size = c.in-Some-Entry.length; local = c.in-Some-Entry.local.now; first = c.in-Some-Entry.first })) gives.0 (sym (ap step_shown c.in-Some-Entry.field-0-is) ∙ gives.1) gives.2 in
    let came : IsSearched g.S.PageSource.refuses pages g.K.Sink.tells (row_of_cell pages c.args.n c.in-Some-Entry.rowid (record { size = c.in-Some-Entry.length; local = c.in-Some-Entry.local.now; first = c.in-Some-Entry.first })) so_far after (Err c.in-Err-put_row.error) =
    row_as g.S.PageSource.refuses pages (g.S.PageSource.plain c.steps.source.source.now) g.K.Sink.tells (λ p. row_of_cell p c.args.n c.in-Some-Entry.rowid (record { size = c.in-Some-Entry.length; local = c.in-Some-Entry.local.now; first = c.in-Some-Entry.first })) so_far after (Err c.in-Err-put_row.error)
    same (c.in-Err-put_row.ensures.on told) in
    then_failed g.S.PageSource.refuses pages after (row_of_cell pages c.args.n c.in-Some-Entry.rowid (record { size = c.in-Some-Entry.length; local = c.in-Some-Entry.local.now; first = c.in-Some-Entry.first })) (all_steps pages (reach pages c.args.low c.args.high (c.args.left - 1)) c.args.n c.next.new.self) c.in-Err-put_row.error
    (at_row pages (reach pages c.args.low c.args.high (c.args.left - 1)) c.args.n g.K.Sink.tells (reach pages c.args.low c.args.high c.args.left c.args.n) before so_far c.steps.wanted c.next.new.self c.in-Some-Entry.rowid (record { size = c.in-Some-Entry.length; local = c.in-Some-Entry.local.now; first = c.in-Some-Entry.first }) (so_far_as g.K.Sink.tells pages c.args.low c.args.high c.args.left c.args.n c.steps.wanted before so_far c.ranges.low c.ranges.high (c.steps.invariant.on told)) is) came

pub returns-in-Err-put_row-clause-given : goal.returns-in-Err-put_row-clause-given
returns-in-Err-put_row-clause-given g t c =
    walk_given g.S.PageSource.only_read g.S.PageSource.plain g.S.PageSource.refuses c.args.source.now.source.now c.steps.source.source.now c.in-Err-put_row.error g.met.S.PageSource.transitive
    (g.met.S.PageSource.same_count c.args.source.now.source.now c.steps.source.source.now c.steps.invariant.reads) c.steps.invariant.reads c.in-Err-put_row.ensures.given

pub returns-in-Err-put_row-clause-fault : goal.returns-in-Err-put_row-clause-fault
returns-in-Err-put_row-clause-fault g t c =
    walk_fault g.S.PageSource.is_fault (g.S.PageSource.faults c.args.source.now.source.now) (g.S.PageSource.faults c.steps.source.source.now) (g.S.PageSource.faults c.put_row.new.source.source.now)
    c.in-Err-put_row.error (g.met.S.PageSource.later c.args.source.now.source.now c.steps.source.source.now c.steps.invariant.reads) c.in-Err-put_row.ensures.fault

pub returns-in-Err-put_row-clause-reads : goal.returns-in-Err-put_row-clause-reads
returns-in-Err-put_row-clause-reads g t c = (
  g.met.S.PageSource.transitive c.args.source.now.source.now c.steps.source.source.now c.put_row.new.source.source.now c.steps.invariant.reads c.in-Err-put_row.ensures.reads.0,
  c.in-Err-put_row.ensures.reads.1 ∙ c.steps.invariant.same,
)

pub steps-preserved-in-Ok-put_row : goal.steps-preserved-in-Ok-put_row
steps-preserved-in-Ok-put_row g t c =
    let pages = g.S.PageSource.plain c.args.source.now.source.now in
    let so_far : State = record { taken = g.K.Sink.taken c.steps.out; waits = c.steps.found.line; rows = c.steps.found.rows; reads = c.steps.source.reads; marks = marked c.steps.found.seen } in
    let after : State = record { taken = g.K.Sink.taken c.put_row.new.out; waits = c.put_row.new.found.line; rows = c.put_row.new.found.rows; reads = c.put_row.new.source.reads; marks = marked c.put_row.new.found.seen } in
    let before : State = record { taken = g.K.Sink.taken c.args.out.now; waits = c.args.found.now.line; rows = c.args.found.now.rows; reads = c.args.source.now.reads; marks = marked c.args.found.now.seen } in
    record {
      reads = g.met.S.PageSource.transitive c.args.source.now.source.now c.steps.source.source.now c.put_row.new.source.source.now c.steps.invariant.reads c.in-Ok-put_row.ensures.reads.0;
      same = c.in-Ok-put_row.ensures.reads.1 ∙ c.steps.invariant.same;
      pins = c.in-Ok-put_row.ensures.pins ∙ c.steps.invariant.pins;
      seen = c.in-Ok-put_row.ensures.seen_length ∙ c.steps.invariant.seen;
      once = let before = c.steps.invariant.once in let more = c.in-Ok-put_row.ensures.once in omega (arith, before, more);
      later = let before = c.steps.invariant.later in let more = c.in-Ok-put_row.ensures.later in omega (arith, before, more);
      count = c.steps.invariant.count ∙ sym (g.met.S.PageSource.same_count c.steps.source.source.now c.put_row.new.source.source.now c.in-Ok-put_row.ensures.reads.0);
      on = λ told.
          let same : g.S.PageSource.plain c.steps.source.source.now ≡ pages =
          g.met.S.PageSource.same_pages c.args.source.now.source.now c.steps.source.source.now c.steps.invariant.reads told in
          let gives = c.in-Some-Entry.ensures.gives in
          let is : c.steps.wanted ≡ entry c.in-Some-Entry.rowid (record { size = c.in-Some-Entry.length; local = c.in-Some-Entry.local.now; first = c.in-Some-Entry.first }) ∷ c.next.new.self =
          next_is c.steps.wanted c.next.new.self (entry c.in-Some-Entry.rowid (record { size = c.in-Some-Entry.length; local = c.in-Some-Entry.local.now; first = c.in-Some-Entry.first })) gives.0 (sym (ap step_shown c.in-Some-Entry.field-0-is) ∙ gives.1) gives.2 in
          let came : IsSearched g.S.PageSource.refuses pages g.K.Sink.tells (row_of_cell pages c.args.n c.in-Some-Entry.rowid (record { size = c.in-Some-Entry.length; local = c.in-Some-Entry.local.now; first = c.in-Some-Entry.first })) so_far after (Ok c.in-Ok-put_row.field-0) =
          row_as g.S.PageSource.refuses pages (g.S.PageSource.plain c.steps.source.source.now) g.K.Sink.tells (λ p. row_of_cell p c.args.n c.in-Some-Entry.rowid (record { size = c.in-Some-Entry.length; local = c.in-Some-Entry.local.now; first = c.in-Some-Entry.first })) so_far after (Ok c.in-Ok-put_row.field-0)
          same (c.in-Ok-put_row.ensures.on told) in
          so_far_back g.K.Sink.tells pages c.args.low c.args.high c.args.left c.args.n c.next.new.self before after c.ranges.low c.ranges.high
          (goes_on (row_of_cell pages c.args.n c.in-Some-Entry.rowid (record { size = c.in-Some-Entry.length; local = c.in-Some-Entry.local.now; first = c.in-Some-Entry.first })) [] (all_steps pages (reach pages c.args.low c.args.high (c.args.left - 1)) c.args.n c.next.new.self)
          (at_row pages (reach pages c.args.low c.args.high (c.args.left - 1)) c.args.n g.K.Sink.tells (reach pages c.args.low c.args.high c.args.left c.args.n) before so_far c.steps.wanted c.next.new.self c.in-Some-Entry.rowid (record { size = c.in-Some-Entry.length; local = c.in-Some-Entry.local.now; first = c.in-Some-Entry.first }) (so_far_as g.K.Sink.tells pages c.args.low c.args.high c.args.left c.args.n c.steps.wanted before so_far c.ranges.low c.ranges.high (c.steps.invariant.on told)) is) came);
    }

pub put_row-requires-clause-seen : goal.put_row-requires-clause-seen
put_row-requires-clause-seen g t c =
    c.steps.invariant.seen ∙ c.requires.seen
    ∙ ap (λ k. k + 1) (sym (g.met.S.PageSource.same_count c.args.source.now.source.now c.steps.source.source.now c.steps.invariant.reads))

pub visit-requires : goal.visit-requires
visit-requires g t c =
    let seen : length c.steps.found.seen ≡ (g.S.PageSource.plain c.steps.source.source.now).count + 1 =
    c.steps.invariant.seen ∙ c.requires.seen
    ∙ ap (λ k. k + 1) (sym (g.met.S.PageSource.same_count c.args.source.now.source.now c.steps.source.source.now c.steps.invariant.reads)) in
    search (rules, arith, seen)
