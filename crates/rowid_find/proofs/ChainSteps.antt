-- The overflow pages of one payload, page by page.
use Rattle.std.proofs.Common.{inl, inr, ◌≡◌, ◌≤◌, ◌+◌, take, ℕ, zero, suc, Bool, true, false, List, [], ◌∷◌, ◌++◌, drop, Contains, ◌==◌, arith, refl, ap, sym, subst, ◌∙◌, append_assoc}
use Rattle.std.proofs.lemmas.List.{append-nil}
use Rattle.std.proofs.lemmas.List.Elements.{Contains-append_right}
use Rattle.db_format.specs.declared.defect.Defect.{Defect}
use Rattle.db_format.specs.Bytes.{u32_at}
use Rattle.db_format.specs.declared.defect.Defect.TheVariants.{ChildOutOfRange, ChainShort, ChainLong}
use Rattle.db_format.specs.Pages.{Pages, also, is_page}
use Rattle.btree_model.specs.Finding.{Finding, place, fault, refused, entries, places}
use Rattle.btree_model.specs.Range.{is_in_range}
use Rattle.btree_page.specs.Cell.{StoredCell}
use Rattle.btree_model.specs.Walk.{chain_bytes, links_needed, payload_of}
use Rattle.btree_model.proofs.FindingLemmas.{places-append, entries-append, sound_both}
use Rattle.btree_walk.proofs.ChainLemmas.{differ}
use Rattle.std.proofs.lemmas.Bool.{eq-eqb}
use Rattle.btree_walk.specs.declared.error.WalkError.TheVariants.{Defect as Found, Source, OutOfMemory}
use Rattle.btree_walk.specs.declared.error.WalkError.{WalkError}
use Rattle.rowid_find.specs.Reach.{chain_findings, links_of}
use Rattle.rowid_find.specs.Search.{Met, IsChainPart, IsChainRead, IsChainStopped, IsNotLoaded, IsOnChain}
use Rattle.rowid_find.proofs.OnceLemmas.{also_none, marks_both, new_both, one_new}
use Rattle.rowid_find.proofs.SearchSteps.{places_both}

module _ (pages : Pages) (needed start first : ℕ) (local : List ℕ) (s : Met) where
  pub chain_start : IsOnChain pages needed start first needed start first local local s s
  chain_start =
      record {
        part = record { found = []; whole = refl; sound = refl; rowless = refl; few = omega arith; fresh = refl; marks = also_none s.marks };
        bytes = refl;
      }

  module _ (more holder n : ℕ) (got : List ℕ) (t : Met) (at : IsOnChain pages needed start first more holder n local got s t) where
    stopped : {R : Type 0} (refuses : Pages → ℕ → R → Type 0) (defect : Defect) → chain_findings pages more holder n ≡ fault defect ∷ []
        → IsChainStopped refuses pages (chain_findings pages needed start first) s t (Found defect)
    stopped refuses defect is = record { more = chain_findings pages more holder n; met = t.marks; part = at.part; cause = inl ([], is) }

    pub chain_starved : {R : Type 0} (refuses : Pages → ℕ → R → Type 0) → IsChainStopped refuses pages (chain_findings pages needed start first) s t OutOfMemory
    chain_starved refuses = record { more = chain_findings pages more holder n; met = t.marks; part = at.part; cause = tt }

  module _ (holder n : ℕ) (got : List ℕ) (t : Met) (at : IsOnChain pages needed start first zero holder n local got s t) where
    pub chain_done : n ≡ 0 → IsChainRead (chain_findings pages needed start first) (local ++ chain_bytes pages needed first) got s t
    chain_done end =
        let named : (n == 0) ≡ true = eq-eqb n 0 end in
        let none : chain_findings pages zero holder n ≡ [] = rw named refl in
        record {
          part = subst (λ l. IsChainPart (chain_findings pages needed start first) l s t) none at.part;
          bytes = sym (at.bytes ∙ append-nil got);
        }

    pub chain_long : {R : Type 0} (refuses : Pages → ℕ → R → Type 0) → (n ≡ 0 → ⊥)
        → IsChainStopped refuses pages (chain_findings pages needed start first) s t (Found (ChainLong holder))
    chain_long refuses on =
        let named : (n == 0) ≡ false = differ n 0 on in
        stopped zero holder n got t at refuses (ChainLong holder) (rw named refl)

  module _ (left holder n : ℕ) (got : List ℕ) (t : Met) (at : IsOnChain pages needed start first (suc left) holder n local got s t) where
    pub chain_short : {R : Type 0} (refuses : Pages → ℕ → R → Type 0) → n ≡ 0
        → IsChainStopped refuses pages (chain_findings pages needed start first) s t (Found (ChainShort holder))
    chain_short refuses end =
        let named : (n == 0) ≡ true = eq-eqb n 0 end in
        stopped (suc left) holder n got t at refuses (ChainShort holder) (rw named refl)

    pub chain_out : {R : Type 0} (refuses : Pages → ℕ → R → Type 0) → (n ≡ 0 → ⊥) → is_in_range pages n ≡ false
        → IsChainStopped refuses pages (chain_findings pages needed start first) s t (Found (ChildOutOfRange holder))
    chain_out refuses on range =
        let named : (n == 0) ≡ false = differ n 0 on in
        stopped (suc left) holder n got t at refuses (ChildOutOfRange holder) (rw (named, range) refl)

    module _ (on : n ≡ 0 → ⊥) (range : is_in_range pages n ≡ true) where
      -- what follows where the page is accepted, or not
      abbrev after_link : Bool → List Finding
      after_link true = chain_findings pages left n (u32_at (pages.page n) 0)
      after_link false = refused n ∷ []

      link_is : (b : Bool) → pages.accepts n ≡ b → chain_findings pages (suc left) holder n ≡ place n ∷ after_link b
      link_is true is = let named : (n == 0) ≡ false = differ n 0 on in rw (named, range, is) refl
      link_is false is = let named : (n == 0) ≡ false = differ n 0 on in rw (named, range, is) refl

      unaccepted : (b : Bool) → pages.accepts n ≡ b → pages.accepts n ≡ false → after_link b ≡ refused n ∷ []
      unaccepted true is none = cc
      unaccepted false is none = refl

      -- the next page is asked for, whatever comes of it
      asked : (after : List Finding) (later : ℕ) → later ≤ t.reads + 1 → t.marks n ≡ false → chain_findings pages (suc left) holder n ≡ place n ∷ after
          → IsChainPart (chain_findings pages needed start first) after s (record { reads = later; marks = also (n ∷ []) t.marks })
      asked after later one fresh is =
          let few = at.part.few in
          let met = places_both at.part.found (place n ∷ []) in
          record {
            found = at.part.found ++ place n ∷ [];
            whole = at.part.whole ∙ ap (λ l. at.part.found ++ l) is ∙ sym (append_assoc at.part.found (place n ∷ []) after);
            sound = sound_both at.part.found (place n ∷ []) at.part.sound refl;
            rowless = entries-append at.part.found (place n ∷ []) ∙ append-nil (entries at.part.found) ∙ at.part.rowless;
            few = omega (arith, few, one, met);
            fresh = new_both s.marks t.marks at.part.found (place n ∷ []) at.part.fresh at.part.marks (one_new t.marks n fresh);
            marks = marks_both s.marks t.marks (also (n ∷ []) t.marks) at.part.found (place n ∷ []) at.part.marks refl;
          }

      pub chain_next : (u : Met) → u.reads ≤ t.reads + 1 → t.marks n ≡ false → u.marks ≡ also (n ∷ []) t.marks → pages.accepts n ≡ true
          → IsOnChain pages needed start first left n (u32_at (pages.page n) 0) local (got ++ drop 4 (pages.page n)) s u
      chain_next u one fresh marks accepted =
          let named : (n == 0) ≡ false = differ n 0 on in
          record {
            part = subst (λ m. IsChainPart (chain_findings pages needed start first) (chain_findings pages left n (u32_at (pages.page n) 0)) s (record { reads = u.reads; marks = m })) (sym marks)
                (asked (chain_findings pages left n (u32_at (pages.page n) 0)) u.reads one fresh (rw (named, range, accepted) refl));
            bytes = at.bytes ∙ sym (append_assoc got (drop 4 (pages.page n)) (chain_bytes pages left (u32_at (pages.page n) 0)));
          }

      -- it was not loaded
      pub chain_refused : {R : Type 0} (refuses : Pages → ℕ → R → Type 0) (u : Met) → u.reads ≤ t.reads + 1 → (error : WalkError R) → IsNotLoaded refuses pages n t u.reads error → is_page pages n ≡ true
          → IsChainStopped refuses pages (chain_findings pages needed start first) s u error
      unfolding asked
      chain_refused refuses u one (Found defect) why page =
          let few = at.part.few in
          let same = why.2 in
          record {
            more = chain_findings pages (suc left) holder n;
            met = t.marks;
            part = record {
              found = at.part.found;
              whole = at.part.whole;
              sound = at.part.sound;
              rowless = at.part.rowless;
              few = omega (arith, few, same);
              fresh = at.part.fresh;
              marks = at.part.marks;
            };
            cause = inr (record {
              page = n;
              is = why.0;
              before = why.1;
              later = after_link (pages.accepts n);
              next = link_is (pages.accepts n) refl;
            });
          }
      chain_refused refuses u one OutOfMemory why page =
          record {
            more = after_link (pages.accepts n);
            met = also (n ∷ []) t.marks;
            part = asked (after_link (pages.accepts n)) u.reads one why (link_is (pages.accepts n) refl);
            cause = tt;
          }
      chain_refused refuses u one (Source refusal) why page =
          record {
            more = after_link (pages.accepts n);
            met = also (n ∷ []) t.marks;
            part = asked (after_link (pages.accepts n)) u.reads one why.1 (link_is (pages.accepts n) refl);
            cause = record {
              page = n;
              range = page;
              placed = subst (λ ns. Contains ns n) (sym (places-append at.part.found (place n ∷ [])))
                  (Contains-append_right (places at.part.found) (n ∷ []) n (0, omega arith, refl));
              refuses_it = why.0;
              later = [];
              next = unaccepted (pages.accepts n) refl;
            };
          }

-- a payload, of which this many pages are missing
module _ (pages : Pages) (n : ℕ) (stored : StoredCell) (needed : ℕ) (count : links_needed pages.usable stored ≡ needed) where
  pub payload_local : (s : Met) → needed ≡ 0 → IsChainRead (links_of pages n stored) (payload_of pages stored) (take stored.size stored.local) s s
  payload_local s none =
      let named : (links_needed pages.usable stored == 0) ≡ true = eq-eqb _ 0 (count ∙ none) in
      record {
        part = record { found = []; whole = rw named refl; sound = refl; rowless = refl; few = omega arith; fresh = refl; marks = also_none s.marks };
        bytes = ap (take stored.size) (sym (append-nil stored.local) ∙ ap (λ k. stored.local ++ chain_bytes pages k stored.first) (sym (count ∙ none)));
      }

  module _ (some : needed ≡ 0 → ⊥) where
    needs_some : (links_needed pages.usable stored == 0) ≡ false
    needs_some = differ _ 0 (λ z. some (sym count ∙ z))

    -- it has no first page
    pub payload_nowhere : {R : Type 0} (refuses : Pages → ℕ → R → Type 0) (s : Met) → stored.first ≡ 0
        → IsChainStopped refuses pages (links_of pages n stored) s s (Found (ChildOutOfRange n))
    payload_nowhere refuses s none =
        let named : (stored.first == 0) ≡ true = eq-eqb stored.first 0 none in
        record {
          more = fault (ChildOutOfRange n) ∷ [];
          met = s.marks;
          part = record { found = []; whole = rw (needs_some, named) refl; sound = refl; rowless = refl; few = omega arith; fresh = refl; marks = also_none s.marks };
          cause = inl ([], refl);
        }

    module _ (begun : stored.first ≡ 0 → ⊥) where
      links_are : links_of pages n stored ≡ chain_findings pages needed n stored.first
      links_are =
          let named : (stored.first == 0) ≡ false = differ stored.first 0 begun in
          let last : links_of pages n stored ≡ chain_findings pages (links_needed pages.usable stored) n stored.first = rw (needs_some, named) refl in
          last ∙ ap (λ k. chain_findings pages k n stored.first) count

      pub payload_read : (got : List ℕ) (s t : Met) → IsChainRead (chain_findings pages needed n stored.first) (stored.local ++ chain_bytes pages needed stored.first) got s t
          → IsChainRead (links_of pages n stored) (payload_of pages stored) (take stored.size got) s t
      payload_read got s t is =
          record {
            part = subst (λ l. IsChainPart l [] s t) (sym links_are) is.part;
            bytes = ap (take stored.size) (is.bytes ∙ ap (λ k. stored.local ++ chain_bytes pages k stored.first) (sym count));
          }

      pub payload_cut : {R : Type 0} (refuses : Pages → ℕ → R → Type 0) (s t : Met) (error : WalkError R)
          → IsChainStopped refuses pages (chain_findings pages needed n stored.first) s t error → IsChainStopped refuses pages (links_of pages n stored) s t error
      payload_cut refuses s t error is = subst (λ l. IsChainStopped refuses pages l s t error) (sym links_are) is
