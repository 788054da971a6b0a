-- The frame of each page, as the index names it, after each change of the table.
use Rattle.std.proofs.Common.{◌≡◌, ℕ, zero, suc, ◌==◌, cond, inl, inr, true, false, List, [], ◌∷◌, ◌++◌, Option, Some, None, nat_eq, refl, sym, ap, subst}
use Rattle.std.specs.Map.{remove_entry, set_value}
use Rattle.std.specs.Option.{option_map, option_or}
use Rattle.page_cache.specs.Frames.{FrameEntry, blank_frame, frame_entry, frame_at}
use Rattle.page_cache.specs.declared.table.Held.{Held}
use Rattle.page_cache.proofs.Entries.{IsAt, IsFreeAt, eqb-refl, eqb-same}

pub frame_at-entry_of : (n : ℕ) (es : List FrameEntry) → frame_at n es ≡ option_map (λ x. x.0) (frame_entry n es)
frame_at-entry_of n [] = refl
frame_at-entry_of n ((i, None) ∷ es) = frame_at-entry_of n es
frame_at-entry_of n ((i, Some g) ∷ es) = (elim (g.page == n) as (λ y. (g.page == n) ≡ y → frame_at n ((i, Some g) ∷ es) ≡ option_map (λ x. x.0) (frame_entry n ((i, Some g) ∷ es))) [
  | true ↦ λ t. rw t refl
  | false ↦ λ t. rw t (frame_at-entry_of n es)
]) refl

pub frame_at-absent : (n : ℕ) (es : List FrameEntry) → frame_entry n es ≡ None → frame_at n es ≡ None
frame_at-absent n es absent = rw (frame_at-entry_of n es) (rw absent refl)

-- ---- the index is filled entry by entry

pub named_next : (m j : ℕ) (held : Held) (es : List FrameEntry) (whole old new : Option ℕ) → frame_entry held.page es ≡ None → whole ≡ option_or (frame_at m ((j, Some held) ∷ es)) old
    → new ≡ cond (nat_eq held.page m) (Some j) old → whole ≡ option_or (frame_at m es) new
named_next m j held es whole old new apart before set = (elim (held.page == m) as (λ y. (held.page == m) ≡ y → whole ≡ option_or (frame_at m es) new) [
  | true ↦ λ t. let before' = rw t at before in let set' = rw t at set in let none = frame_at-absent m es (subst (λ n. frame_entry n es ≡ None) (eqb-same held.page m t) apart) in rw none (rw set' before')
  | false ↦ λ t. let before' = rw t at before in let set' = rw t at set in rw set' before'
]) refl

-- ---- after a change of the table

module _ (n k : ℕ) (h : Held) where
  pub frame_at-there : (es : List FrameEntry) → IsAt n k h es → frame_at n es ≡ Some k
  frame_at-there [] x = elim x [ ]
  frame_at-there (e ∷ es) (inl p) = subst (λ x. frame_at n (x ∷ es) ≡ Some k) (sym p.0) (rw p.1 refl)
  frame_at-there ((i, None) ∷ es) (inr p) = frame_at-there es p.2
  frame_at-there ((i, Some q) ∷ es) (inr p) = rw p.1 (frame_at-there es p.2)

  pub frame_at-set : (m : ℕ) (g : Held) (es : List FrameEntry) → IsAt n k h es → g.page ≡ h.page → frame_at m (set_value (nat_eq k) es (Some g)) ≡ frame_at m es
  frame_at-set m g [] x same = elim x [ ]
  frame_at-set m g (e ∷ es) (inl p) same =
      subst (λ x. frame_at m (set_value (nat_eq k) (x ∷ es) (Some g)) ≡ frame_at m (x ∷ es)) (sym p.0) (rw (eqb-refl k) (rw same refl))
  frame_at-set m g ((i, None) ∷ es) (inr p) same = rw p.0 (frame_at-set m g es p.2 same)
  frame_at-set m g ((i, Some q) ∷ es) (inr p) same = rw p.0 (ap (λ o. cond (q.page == m) (Some i) o) (frame_at-set m g es p.2 same))

  pub frame_at-others : (m : ℕ) (es : List FrameEntry) → IsAt n k h es → (n == m) ≡ false → frame_at m (remove_entry (nat_eq k) es) ≡ frame_at m es
  frame_at-others m [] x apart = elim x [ ]
  frame_at-others m (e ∷ es) (inl p) apart =
      subst (λ x. frame_at m (remove_entry (nat_eq k) (x ∷ es)) ≡ frame_at m (x ∷ es)) (sym p.0)
      (rw (eqb-refl k) (subst (λ j. frame_at m es ≡ cond (j == m) (Some k) (frame_at m es)) (sym (eqb-same h.page n p.1)) (rw apart refl)))
  frame_at-others m ((i, None) ∷ es) (inr p) apart = rw p.0 (frame_at-others m es p.2 apart)
  frame_at-others m ((i, Some q) ∷ es) (inr p) apart = rw p.0 (ap (λ o. cond (q.page == m) (Some i) o) (frame_at-others m es p.2 apart))

  gone_at : (es : List FrameEntry) → IsAt n k h es → frame_at n (remove_entry (nat_eq k) es) ≡ None
  gone_at [] x = elim x [ ]
  gone_at (e ∷ es) (inl p) = subst (λ x. frame_at n (remove_entry (nat_eq k) (x ∷ es)) ≡ None) (sym p.0) (rw (eqb-refl k) (frame_at-absent n es p.2))
  gone_at ((i, None) ∷ es) (inr p) = rw p.0 (gone_at es p.2)
  gone_at ((i, Some q) ∷ es) (inr p) = rw p.0 (rw p.1 (gone_at es p.2))

  pub frame_at-removed : (m : ℕ) (es : List FrameEntry) → IsAt n k h es → frame_at m (remove_entry (nat_eq k) es) ≡ cond (n == m) None (frame_at m es)
  frame_at-removed m es at = (elim (n == m) as (λ y. (n == m) ≡ y → frame_at m (remove_entry (nat_eq k) es) ≡ cond (n == m) None (frame_at m es)) [
    | true ↦ λ t. rw t (subst (λ j. frame_at j (remove_entry (nat_eq k) es) ≡ None) (eqb-same n m t) (gone_at es at))
    | false ↦ λ t. rw t (frame_at-others m es at t)
  ]) refl

  pub frame_at-first : (m : ℕ) (es : List FrameEntry) → h.page ≡ n → IsAt n k h es → frame_at m ((k, Some h) ∷ remove_entry (nat_eq k) es) ≡ frame_at m es
  frame_at-first m es page at = rw page ((elim (n == m) as (λ y. (n == m) ≡ y → cond (n == m) (Some k) (frame_at m (remove_entry (nat_eq k) es)) ≡ frame_at m es) [
    | true ↦ λ t. rw t (subst (λ j. Some k ≡ frame_at j es) (eqb-same n m t) (sym (frame_at-there es at)))
    | false ↦ λ t. rw t (frame_at-others m es at t)
  ]) refl)

pub frame_at-free : (m k : ℕ) (es : List FrameEntry) → IsFreeAt k es → frame_at m (remove_entry (nat_eq k) es) ≡ frame_at m es
frame_at-free m k [] x = elim x [ ]
frame_at-free m k (e ∷ es) (inl p) = subst (λ x. frame_at m (remove_entry (nat_eq k) (x ∷ es)) ≡ frame_at m (x ∷ es)) (sym p.0) (rw (eqb-refl k) refl)
frame_at-free m k ((i, None) ∷ es) (inr p) = rw p.0 (frame_at-free m k es p.1)
frame_at-free m k ((i, Some q) ∷ es) (inr p) = rw p.0 (ap (λ o. cond (q.page == m) (Some i) o) (frame_at-free m k es p.1))

pub frame_at-append : (m k : ℕ) (es : List FrameEntry) → frame_at m (es ++ (k, None) ∷ []) ≡ frame_at m es
frame_at-append m k [] = refl
frame_at-append m k ((i, None) ∷ es) = frame_at-append m k es
frame_at-append m k ((i, Some q) ∷ es) = ap (λ o. cond (q.page == m) (Some i) o) (frame_at-append m k es)

pub frame_at-blank : (m n : ℕ) → frame_at m (blank_frame n) ≡ None
frame_at-blank m zero = refl
frame_at-blank m (suc n) = frame_at-blank m n
