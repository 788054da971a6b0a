-- One link of a chain.
use Rattle.std.proofs.Common.{◌≡◌, ℕ, zero, suc, ◌+◌, ◌-◌, ◌/◌, ◌≤◌, Bool, true, false, List, [], ◌∷◌, ◌++◌, ◌||◌, ◌==◌, length, drop, take, arith, refl, ap, sym, subst, ◌∙◌}
use Rattle.std.specs.List.{Contains, list_any}
use Rattle.std.proofs.lemmas.Bool.{eqb-true, eq-eqb}
use Rattle.std.proofs.lemmas.List.{append_assoc, append-nil, length-drop}
use Rattle.std.proofs.Math.Nat.{div-eq_of_lt}
use Rattle.std.proofs.lemmas.Nat.{le-div}
use Rattle.std.proofs.Math.Seq.{take-length}
use Rattle.std.proofs.lemmas.List.Folds.{list_any-append}
use Rattle.std.proofs.lemmas.List.Elements.{Contains-append_right}
use Rattle.db_format.specs.Bytes.{u32_at}
use Rattle.db_format.specs.declared.defect.Defect.TheVariants.{PageTwice, ChildOutOfRange, ChainShort, ChainLong}
use Rattle.btree_model.specs.Finding.{Finding, place, leaf, entry, key, fault, refused, places, entries, keys, faults, refusals, is_sound}
use Rattle.db_format.specs.Pages.{Pages, Test, also}
use Rattle.btree_model.specs.Range.{is_in_range}
use Rattle.btree_model.specs.Walk.{is_met, chain, chain_of, links_needed, link, chain_bytes}
use Rattle.btree_model.proofs.FindingLemmas.{faults-append, refusals-append, places-append, entries-append, sound_both, also-append}
use Rattle.btree_model.proofs.ProperLemmas.{keys-append}
use Rattle.btree_model.proofs.UnmarkedLemmas.{or_left, or_right, unmarked_left, unmarked_right}
use Rattle.btree_page.specs.Cell.{StoredCell}
use Rattle.btree_walk.specs.declared.error.WalkError.{WalkError}
use Rattle.btree_walk.specs.Causes.{IsMarked}
use Rattle.btree_walk.specs.Chain.{IsLinked, IsRead, IsCut, IsPaid}

differ_by : (m n : ℕ) (b : Bool) → (m == n) ≡ b → (m ≡ n → ⊥) → b ≡ false
differ_by m n true e h = absurd (h (eqb-true m n e))
differ_by m n false e h = refl

pub differ : (m n : ℕ) → (m ≡ n → ⊥) → (m == n) ≡ false
differ m n h = differ_by m n _ refl h

pub sound_faults : (xs : List Finding) → is_sound xs ≡ true → faults xs ≡ []
sound_faults [] h = refl
sound_faults (key k ∷ xs) h = sound_faults xs h
sound_faults (place n ∷ xs) h = sound_faults xs h
sound_faults (leaf n ∷ xs) h = sound_faults xs h
sound_faults (entry r ∷ xs) h = sound_faults xs h
sound_faults (fault d ∷ xs) h = cc
sound_faults (refused n ∷ xs) h = cc

pub cut_all : (k : ℕ) (xs : List ℕ) → take (length xs - k) (drop k xs) ≡ drop k xs
cut_all k xs = ap (λ m. take m (drop k xs)) (sym (length-drop k xs)) ∙ take-length (drop k xs)

-- the defects of a list that begins without one
pub faults_after : (all met left : List Finding) → all ≡ met ++ left → is_sound met ≡ true → faults all ≡ faults left
faults_after all met left whole sound = ap faults whole ∙ faults-append met left ∙ ap (λ ds. ds ++ faults left) (sound_faults met sound)

pub placed_after : (all met left : List Finding) (n : ℕ) → all ≡ met ++ left → Contains (places left) n → Contains (places all) n
placed_after all met left n whole among =
    subst (λ ns. Contains ns n) (sym (ap places whole ∙ places-append met left)) (Contains-append_right (places met) (places left) n among)

pub refused_after : (all met left : List Finding) (n : ℕ) → all ≡ met ++ left → Contains (refusals left) n → Contains (refusals all) n
refused_after all met left n whole among =
    subst (λ ns. Contains ns n) (sym (ap refusals whole ∙ refusals-append met left)) (Contains-append_right (refusals met) (refusals left) n among)

module _ (pages : Pages) (taken : Test) (met : List Finding) (needed start first : ℕ) (local : List ℕ) (seen : Test) (marks : seen ≡ also (places met) taken) where
  -- before the first page
  pub chain_start : IsLinked pages taken met needed start first needed start first local local seen seen
  chain_start =
      record {
        passed = record { found = []; sound = refl; entryless = refl; keyless = refl; unmarked = refl; marks = refl };
        whole = λ b free. ap (λ m. chain pages b m needed start first) (sym (append-nil met));
        bytes = refl;
      }

  module _ (more holder n : ℕ) (got : List ℕ) (later : Test) (at : IsLinked pages taken met needed start first more holder n local got seen later) where
    abbrev so_far : List Finding
    so_far = at.passed.found

    -- the marks are the pages that were met
    all_marks : later ≡ also (places (met ++ so_far)) taken
    all_marks =
        at.passed.marks ∙ ap (also (places so_far)) marks ∙ sym (also-append (places met) (places so_far) taken)
        ∙ ap (λ ns. also ns taken) (sym (places-append met so_far))

    taken_whole : chain pages taken met needed start first ≡ so_far ++ chain pages taken (met ++ so_far) more holder n
    taken_whole = at.whole taken at.passed.unmarked

    -- the marks of the pages so far
    pub chain_marked : IsMarked (chain pages taken met needed start first) seen later
    chain_marked = record { found = so_far; more = chain pages taken (met ++ so_far) more holder n; whole = taken_whole; marks = at.passed.marks }

  module _ (holder n : ℕ) (got : List ℕ) (later : Test) (at : IsLinked pages taken met needed start first zero holder n local got seen later) where
    pub chain_done : n ≡ 0 → IsRead pages taken met needed start first local got seen later
    chain_done end =
        let named : (n == 0) ≡ true = eq-eqb n 0 end in
        record {
          passed = at.passed;
          whole = λ b free. at.whole b free ∙ rw named (append-nil at.passed.found);
          bytes = sym (at.bytes ∙ append-nil got);
        }

    pub chain_long : (n ≡ 0 → ⊥) → faults (chain pages taken met needed start first) ≡ ChainLong holder ∷ []
    chain_long on =
        let named : (n == 0) ≡ false = differ n 0 on in
        faults_after _ at.passed.found _ (taken_whole zero holder n got later at) at.passed.sound ∙ rw named refl

  module _ (left holder n : ℕ) (got : List ℕ) (later : Test) (at : IsLinked pages taken met needed start first (suc left) holder n local got seen later) where
    abbrev read_so_far : List Finding
    read_so_far = at.passed.found

    pub chain_short : n ≡ 0 → faults (chain pages taken met needed start first) ≡ ChainShort holder ∷ []
    chain_short end =
        let named : (n == 0) ≡ true = eq-eqb n 0 end in
        faults_after _ read_so_far _ (taken_whole (suc left) holder n got later at) at.passed.sound ∙ rw named refl

    pub chain_out : (n ≡ 0 → ⊥) → is_in_range pages n ≡ false → faults (chain pages taken met needed start first) ≡ ChildOutOfRange holder ∷ []
    chain_out on range =
        let named : (n == 0) ≡ false = differ n 0 on in
        faults_after _ read_so_far _ (taken_whole (suc left) holder n got later at) at.passed.sound ∙ rw (named, range) refl

    module _ (on : n ≡ 0 → ⊥) (range : is_in_range pages n ≡ true) where
      -- the chain with its next link, under each test
      linked : (b : Test) → chain pages b (met ++ read_so_far) (suc left) holder n
          ≡ link n (is_met b (met ++ read_so_far) n) (pages.accepts n) (chain pages b ((met ++ read_so_far) ++ place n ∷ []) left n (u32_at (pages.page n) 0))
      linked b = let named : (n == 0) ≡ false = differ n 0 on in rw (named, range) refl

      pub chain_twice : later n ≡ true → faults (chain pages taken met needed start first) ≡ PageTwice n ∷ []
      chain_twice twice =
          let old : is_met taken (met ++ read_so_far) n ≡ true = sym (ap (λ t. t n) (all_marks (suc left) holder n got later at)) ∙ twice in
          faults_after _ read_so_far _ ((taken_whole (suc left) holder n got later at) ∙ ap (λ l. read_so_far ++ l) (linked taken)) at.passed.sound ∙ rw old refl

      link_placed : (m accepted : Bool) (after : List Finding) → Contains (places (link n m accepted after)) n
      link_placed true accepted after = (0, omega arith, refl)
      link_placed false false after = (0, omega arith, refl)
      link_placed false true after = (0, omega arith, refl)

      pub chain_placed : Contains (places (chain pages taken met needed start first)) n
      chain_placed = placed_after _ read_so_far _ n ((taken_whole (suc left) holder n got later at) ∙ ap (λ l. read_so_far ++ l) (linked taken)) (link_placed _ _ _)

      link_first : (m accepted : Bool) (after : List Finding) → (x : List Finding) × (link n m accepted after ≡ place n ∷ x)
      link_first true accepted after = (_, refl)
      link_first false false after = (_, refl)
      link_first false true after = (_, refl)

      -- and of page n behind them
      pub chain_marked_link : IsMarked (chain pages taken met needed start first) seen (also (n ∷ []) later)
      chain_marked_link =
          let after : List Finding = chain pages taken ((met ++ read_so_far) ++ place n ∷ []) left n (u32_at (pages.page n) 0) in
          let first_is : (x : List Finding) × (link n (is_met taken (met ++ read_so_far) n) (pages.accepts n) after ≡ place n ∷ x) = link_first _ _ after in
          let ns : places (read_so_far ++ place n ∷ []) ≡ places read_so_far ++ n ∷ [] = places-append read_so_far (place n ∷ []) in
          record {
            found = read_so_far ++ place n ∷ [];
            more = first_is.0;
            whole =
                taken_whole (suc left) holder n got later at ∙ ap (λ l. read_so_far ++ l) (linked taken ∙ first_is.1)
                ∙ sym (append_assoc read_so_far (place n ∷ []) first_is.0);
            marks = ap (also (n ∷ [])) at.passed.marks ∙ sym (also-append (places read_so_far) (n ∷ []) seen) ∙ ap (λ l. also l seen) (sym ns);
          }

      unmet_by : later n ≡ false → is_met taken (met ++ read_so_far) n ≡ false
      unmet_by fresh = sym (ap (λ t. t n) (all_marks (suc left) holder n got later at)) ∙ fresh

      pub chain_refused : later n ≡ false → pages.accepts n ≡ false → Contains (refusals (chain pages taken met needed start first)) n
      chain_refused fresh not_accepted =
          let after : List Finding = chain pages taken ((met ++ read_so_far) ++ place n ∷ []) left n (u32_at (pages.page n) 0) in
          let here : link n (is_met taken (met ++ read_so_far) n) (pages.accepts n) after ≡ place n ∷ refused n ∷ [] = rw (unmet_by fresh, not_accepted) refl in
          refused_after _ read_so_far _ n (taken_whole (suc left) holder n got later at ∙ ap (λ l. read_so_far ++ l) (linked taken ∙ here))
          (0, omega arith, refl)

      pub chain_on : later n ≡ false → pages.accepts n ≡ true
          → IsLinked pages taken met needed start first left n (u32_at (pages.page n) 0) local (got ++ drop 4 (pages.page n)) seen (also (n ∷ []) later)
      chain_on fresh accepted =
          let now : List Finding = read_so_far ++ place n ∷ [] in
          let ns : places now ≡ places read_so_far ++ n ∷ [] = places-append read_so_far (place n ∷ []) in
          let new : (list_any (λ m. m == n) (places (met ++ read_so_far)) || taken n) ≡ false = sym (ap (λ t. t n) (all_marks (suc left) holder n got later at)) ∙ fresh in
          record {
            passed =
                record {
                  found = now;
                  sound = sound_both read_so_far (place n ∷ []) at.passed.sound refl;
                  entryless = entries-append read_so_far (place n ∷ []) ∙ append-nil (entries read_so_far) ∙ at.passed.entryless;
                  keyless = keys-append read_so_far (place n ∷ []) ∙ append-nil (keys read_so_far) ∙ at.passed.keyless;
                  unmarked =
                      ap (list_any taken) ns ∙ list_any-append taken (places read_so_far) (n ∷ [])
                      ∙ ap (λ b. b || (taken n || false)) at.passed.unmarked ∙ ap (λ b. b || false) (or_right _ _ new);
                  marks = ap (also (n ∷ [])) at.passed.marks ∙ sym (also-append (places read_so_far) (n ∷ []) seen) ∙ ap (λ l. also l seen) (sym ns);
                };
            whole = λ b free.
                let here : b n ≡ false = or_left (b n) false (unmarked_right b read_so_far (place n ∷ []) free) in
                let unmet : is_met b (met ++ read_so_far) n ≡ false = ap (λ v. v || b n) (or_left _ _ new) ∙ here in
                let next : chain pages b (met ++ read_so_far) (suc left) holder n ≡ place n ∷ chain pages b ((met ++ read_so_far) ++ place n ∷ []) left n (u32_at (pages.page n) 0) =
                linked b ∙ rw (unmet, accepted) refl
                in
                at.whole b (unmarked_left b read_so_far (place n ∷ []) free) ∙ ap (λ l. read_so_far ++ l) next
                ∙ sym (append_assoc read_so_far (place n ∷ []) _)
                ∙ ap (λ m. now ++ chain pages b m left n (u32_at (pages.page n) 0)) (append_assoc met read_so_far (place n ∷ []));
            bytes = at.bytes ∙ (sym (append_assoc got (drop 4 (pages.page n)) _));
          }

small_quotient : (u : ℕ) → (u - 5) / (u - 4) ≡ 0
small_quotient zero = refl
small_quotient (suc zero) = refl
small_quotient (suc (suc zero)) = refl
small_quotient (suc (suc (suc zero))) = refl
small_quotient (suc (suc (suc (suc zero)))) = refl
small_quotient (suc (suc (suc (suc (suc u))))) = div-eq_of_lt (omega arith)

-- a payload of which nothing is missing needs no page, whatever their length
pub none_needed : (u size : ℕ) (local : List ℕ) (first : ℕ) → size - length local ≡ 0
    → links_needed u (record { size = size; local = local; first = first }) ≡ 0
none_needed u size local first none = ap (λ m. (m + (u - 5)) / (u - 4)) none ∙ ap (λ k. k / (u - 4)) (omega arith) ∙ small_quotient u

-- and one of which something is missing needs some
pub some_needed : (missing usable : ℕ) → 480 ≤ usable → (missing ≡ 0 → ⊥) → (missing + (usable - 5)) / (usable - 4) ≡ 0 → ⊥
some_needed missing usable least some none =
    let one : 1 ≤ (missing + (usable - 5)) / (usable - 4) = le-div 1 (missing + (usable - 5)) (usable - 4) (omega arith) (omega arith) in
    omega arith

-- a payload, of which this many pages are missing
module _ (pages : Pages) (taken : Test) (met : List Finding) (n : ℕ) (stored : StoredCell) (needed : ℕ) (links : links_needed pages.usable stored ≡ needed) where
  pub paid_local : (seen : Test) → needed ≡ 0 → IsPaid pages taken met n stored (take stored.size stored.local) seen seen
  paid_local seen none =
      let named : (links_needed pages.usable stored == 0) ≡ true = eq-eqb _ 0 (links ∙ none) in
      record {
        passed = record { found = []; sound = refl; entryless = refl; keyless = refl; unmarked = refl; marks = refl };
        whole = λ b free. rw named refl;
        payload = ap (take stored.size) (sym (append-nil stored.local) ∙ ap (λ k. stored.local ++ chain_bytes pages k stored.first) (sym (links ∙ none)));
      }

  module _ (some : needed ≡ 0 → ⊥) (begun : stored.first ≡ 0 → ⊥) where
    chain_is : (b : Test) → chain_of pages b met n stored ≡ chain pages b met needed n stored.first
    chain_is b =
        let on : (links_needed pages.usable stored == 0) ≡ false = differ _ 0 (λ z. some (sym links ∙ z)) in
        let named : (stored.first == 0) ≡ false = differ stored.first 0 begun in
        let last : chain_of pages b met n stored ≡ chain pages b met (links_needed pages.usable stored) n stored.first = rw (on, named) refl in
        last ∙ ap (λ k. chain pages b met k n stored.first) links

    pub paid : (got : List ℕ) (seen later : Test) → IsRead pages taken met needed n stored.first stored.local got seen later
        → IsPaid pages taken met n stored (take stored.size got) seen later
    paid got seen later is =
        record {
          passed = is.passed;
          whole = λ b free. chain_is b ∙ is.whole b free;
          payload = ap (take stored.size) (is.bytes ∙ ap (λ k. stored.local ++ chain_bytes pages k stored.first) (sym links));
        }

    pub cut_marked : (seen later : Test) → IsMarked (chain pages taken met needed n stored.first) seen later → IsMarked (chain_of pages taken met n stored) seen later
    cut_marked seen later is = subst (λ l. IsMarked l seen later) (sym (chain_is taken)) is

    pub cut : {R : Type 0} (refuses : Pages → ℕ → R → Type 0) (error : WalkError R) → IsCut refuses pages (chain pages taken met needed n stored.first) error
        → IsCut refuses pages (chain_of pages taken met n stored) error
    cut refuses error is = subst (λ l. IsCut refuses pages l error) (sym (chain_is taken)) is
