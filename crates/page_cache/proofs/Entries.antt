-- Where a page's entry stands in the table, and what a change of it shows.
use Rattle.std.proofs.Common.{◌≡◌, ℕ, ◌==◌, ◌⊎◌, inl, inr, true, false, List, [], ◌∷◌, Option, Some, None, IfSome, ◌++◌, reverse, nat_eq, refl, sym, ap, subst, ◌∙◌, rules}
use Rattle.std.specs.List.{AllByRecursion, IsDistinct}
use Rattle.std.specs.Map.{keys_of}
use Rattle.std.proofs.lemmas.List.{reverse-append}
use Rattle.std.specs.Option.{option_map, option_map_or, option_or}
use Rattle.page_cache.specs.Pages.{Page, held_page, without, changed, last_unpinned}
use Rattle.page_cache.specs.Frames.{FrameEntry, frame_entry, free_frame, last_of, page_in, shown_pages, unpinned, HaveDistinctPages}
use Rattle.page_cache.specs.declared.table.Held.{Held}

-- none of these is k
abbrev pub NoneIs : ℕ → List ℕ → Type 0
NoneIs k ks = AllByRecursion (λ j. (k == j) ≡ false) ks

-- page n stands in frame k alone
abbrev pub IsAt : ℕ → ℕ → Held → List FrameEntry → Type 0
IsAt n k h [] = ⊥
IsAt n k h (e ∷ es) =
    ((e ≡ (k, Some h)) × ((h.page == n) ≡ true) × (frame_entry n es ≡ None) × NoneIs k (keys_of es))
    ⊎ (((k == e.0) ≡ false) × IfSome e.1 (λ g. (g.page == n) ≡ false) × IsAt n k h es)

-- frame k is there alone, without a page
abbrev pub IsFreeAt : ℕ → List FrameEntry → Type 0
IsFreeAt k [] = ⊥
IsFreeAt k (e ∷ es) =
    ((e ≡ (k, None)) × NoneIs k (keys_of es))
    ⊎ (((k == e.0) ≡ false) × IsFreeAt k es)

pub eqb-sym : (a b : ℕ) → (a == b) ≡ false → (b == a) ≡ false
eqb-sym a b e = search rules

pub eqb-refl : (a : ℕ) → (a == a) ≡ true
eqb-refl a = search rules

pub eqb-same : (a b : ℕ) → (a == b) ≡ true → a ≡ b
eqb-same a b e = search rules

-- ---- where an entry is found

some_same : (x y : ℕ × Held) → Some x ≡ Some y → x ≡ y
some_same x y e = cc

pub entry_same : (x y : FrameEntry) → Some x ≡ Some y → x ≡ y
entry_same x y e = cc

some_number : (x y : ℕ) → Some x ≡ Some y → x ≡ y
some_number x y e = cc

apart_key : (n j : ℕ) (es : List FrameEntry) (k : ℕ) (h : Held) → frame_entry n es ≡ Some (k, h) → NoneIs j (keys_of es) → (j == k) ≡ false
apart_key n j [] k h found none = cc
apart_key n j ((i, None) ∷ es) k h found none = apart_key n j es k h found none.1
apart_key n j ((i, Some g) ∷ es) k h found none = (elim (g.page == n) as (λ y. (g.page == n) ≡ y → (j == k) ≡ false) [
  | true ↦ λ t. let found' = rw t at found in let same : i ≡ k = ap (λ p. p.0) (some_same (i, g) (k, h) found') in subst (λ x. (j == x) ≡ false) same none.0
  | false ↦ λ t. apart_key n j es k h (rw t at found) none.1
]) refl

pub IsAt-entry_of : (n : ℕ) (es : List FrameEntry) (k : ℕ) (h : Held) → frame_entry n es ≡ Some (k, h) → HaveDistinctPages es → IsDistinct nat_eq (keys_of es) → IsAt n k h es
unfolding IsDistinct
IsAt-entry_of n [] k h found apart distinct = cc
IsAt-entry_of n ((i, None) ∷ es) k h found apart distinct =
    inr (eqb-sym i k (apart_key n i es k h found distinct.0), tt, IsAt-entry_of n es k h found apart.1 distinct.1)
IsAt-entry_of n ((i, Some g) ∷ es) k h found apart distinct = (elim (g.page == n) as (λ y. (g.page == n) ≡ y → IsAt n k h ((i, Some g) ∷ es)) [
  | true ↦ λ t. let found' = rw t at found in
      let key : i ≡ k = ap (λ p. p.0) (some_same (i, g) (k, h) found') in
      let held : g ≡ h = ap (λ p. p.1) (some_same (i, g) (k, h) found') in
      inl (ap (λ x. (x, Some g)) key ∙ ap (λ x. (k, Some x)) held, subst (λ x. (x.page == n) ≡ true) held t, subst (λ m. frame_entry m es ≡ None) (eqb-same g.page n t) apart.0, subst (λ x. NoneIs x (keys_of es)) key distinct.0)
  | false ↦ λ t. let found' = rw t at found in
      inr (eqb-sym i k (apart_key n i es k h found' distinct.0), t, IsAt-entry_of n es k h found' apart.1 distinct.1)
]) refl

apart_last : (j : ℕ) (es : List FrameEntry) (k : ℕ) (v : Option Held) → last_of es ≡ Some (k, v) → NoneIs j (keys_of es) → (j == k) ≡ false
apart_last j [] k v last none = cc
apart_last j ((i, w) ∷ es) k v last none = (elim (last_of es) as (λ o. last_of es ≡ o → (j == k) ≡ false) [
  | None ↦ λ t. let last' : Some (i, w) ≡ Some (k, v) = rw t at last in let same : i ≡ k = ap (λ x. x.0) (entry_same (i, w) (k, v) last') in subst (λ x. (j == x) ≡ false) same none.0
  | Some x ↦ λ t. let last' : Some x ≡ Some (k, v) = rw t at last in apart_last j es k v (t ∙ last') none.1
]) refl

pub IsFreeAt-last : (es : List FrameEntry) (k : ℕ) → last_of es ≡ Some (k, None) → IsDistinct nat_eq (keys_of es) → IsFreeAt k es
unfolding IsDistinct
IsFreeAt-last [] k last distinct = cc
IsFreeAt-last ((i, w) ∷ es) k last distinct = (elim (last_of es) as (λ o. last_of es ≡ o → IsFreeAt k ((i, w) ∷ es)) [
  | None ↦ λ t. let last' : Some (i, w) ≡ Some (k, None) = rw t at last in let same = entry_same (i, w) (k, None) last' in inl (same, subst (λ x. NoneIs x (keys_of es)) (ap (λ x. x.0) same) distinct.0)
  | Some x ↦ λ t. let last' : Some x ≡ Some (k, None) = rw t at last in inr (eqb-sym i k (apart_last i es k None (t ∙ last') distinct.0), IsFreeAt-last es k (t ∙ last') distinct.1)
]) refl

free_by : (o : Option FrameEntry) (k : ℕ) → option_map_or (λ e. option_map_or (λ _. None) e.1 (Some e.0)) o None ≡ Some k → o ≡ Some (k, None)
free_by None k free = cc
free_by (Some (i, None)) k free = let same : i ≡ k = some_number i k free in ap (λ x. Some (x, None)) same
free_by (Some (i, Some g)) k free = cc

pub IsFreeAt-free_frame : (es : List FrameEntry) (k : ℕ) → free_frame es ≡ Some k → IsDistinct nat_eq (keys_of es) → IsFreeAt k es
IsFreeAt-free_frame es k free distinct = IsFreeAt-last es k (free_by (last_of es) k free) distinct

-- ---- what an entry shows

pub page_at-shown : (frames : List (List ℕ)) (n : ℕ) (es : List FrameEntry) → held_page n (shown_pages frames es) ≡ option_map (λ x. page_in frames x.0 x.1) (frame_entry n es)
page_at-shown frames n [] = refl
page_at-shown frames n ((i, None) ∷ es) = page_at-shown frames n es
page_at-shown frames n ((i, Some g) ∷ es) = (elim (g.page == n) as (λ y. (g.page == n) ≡ y → held_page n (shown_pages frames ((i, Some g) ∷ es)) ≡ option_map (λ x. page_in frames x.0 x.1) (frame_entry n ((i, Some g) ∷ es))) [
  | true ↦ λ t. rw t refl
  | false ↦ λ t. rw t (page_at-shown frames n es)
]) refl

pub changed-absent : (frames : List (List ℕ)) (n : ℕ) (change : Page → Page) (es : List FrameEntry) → frame_entry n es ≡ None → changed n change (shown_pages frames es) ≡ shown_pages frames es
changed-absent frames n change [] absent = refl
changed-absent frames n change ((i, None) ∷ es) absent = changed-absent frames n change es absent
changed-absent frames n change ((i, Some g) ∷ es) absent = (elim (g.page == n) as (λ y. (g.page == n) ≡ y → changed n change (shown_pages frames ((i, Some g) ∷ es)) ≡ shown_pages frames ((i, Some g) ∷ es)) [
  | true ↦ λ t. let absent' = rw t at absent in cc
  | false ↦ λ t. rw t (ap (λ ps. page_in frames i g ∷ ps) (changed-absent frames n change es (rw t at absent)))
]) refl

pub without-absent : (frames : List (List ℕ)) (n : ℕ) (es : List FrameEntry) → frame_entry n es ≡ None → without n (shown_pages frames es) ≡ shown_pages frames es
without-absent frames n [] absent = refl
without-absent frames n ((i, None) ∷ es) absent = without-absent frames n es absent
without-absent frames n ((i, Some g) ∷ es) absent = (elim (g.page == n) as (λ y. (g.page == n) ≡ y → without n (shown_pages frames ((i, Some g) ∷ es)) ≡ shown_pages frames ((i, Some g) ∷ es)) [
  | true ↦ λ t. let absent' = rw t at absent in cc
  | false ↦ λ t. rw t (ap (λ ps. page_in frames i g ∷ ps) (without-absent frames n es (rw t at absent)))
]) refl

-- ---- the least recently used page without a pin

unpinned-append : (es fs : List FrameEntry) → unpinned (es ++ fs) ≡ option_or (unpinned es) (unpinned fs)
unpinned-append [] fs = refl
unpinned-append ((i, None) ∷ es) fs = unpinned-append es fs
unpinned-append ((i, Some g) ∷ es) fs = (elim (g.pins == 0) as (λ y. (g.pins == 0) ≡ y → unpinned (((i, Some g) ∷ es) ++ fs) ≡ option_or (unpinned ((i, Some g) ∷ es)) (unpinned fs)) [
  | true ↦ λ t. rw t refl
  | false ↦ λ t. rw t (unpinned-append es fs)
]) refl

option_or-none : (o : Option ℕ) → option_or o None ≡ o
option_or-none None = refl
option_or-none (Some x) = refl

pub last_unpinned-shown : (frames : List (List ℕ)) (es : List FrameEntry) → last_unpinned (shown_pages frames es) ≡ unpinned (reverse es)
last_unpinned-shown frames [] = refl
last_unpinned-shown frames ((i, None) ∷ es) = rw (reverse-append ((i, None) ∷ []) es) (rw (unpinned-append (reverse es) ((i, None) ∷ [])) (last_unpinned-shown frames es ∙ sym (option_or-none (unpinned (reverse es)))))
last_unpinned-shown frames ((i, Some g) ∷ es) = rw (reverse-append ((i, Some g) ∷ []) es) (rw (unpinned-append (reverse es) ((i, Some g) ∷ [])) (rw (last_unpinned-shown frames es) refl))
