-- The frames without a page stay the last ones.
use Rattle.std.proofs.Common.{◌≡◌, ℕ, zero, suc, ◌-◌, arith, ◌==◌, inl, inr, true, false, List, [], ◌∷◌, ◌++◌, length, Option, Some, None, IfNone, nat_eq, refl, sym, ap, subst, ◌∙◌}
use Rattle.std.specs.List.{AllByRecursion}
use Rattle.std.specs.Map.{remove_entry, set_value}
use Rattle.std.specs.Option.{option_map_or, option_or}
use Rattle.lru.specs.LruCache.{last_entry}
use Rattle.page_cache.specs.Frames.{FrameEntry, blank_frame, last_of, free_frame, shown_pages, AreFreeLast}
use Rattle.page_cache.specs.declared.table.Held.{Held}
use Rattle.page_cache.proofs.Entries.{IsAt, eqb-refl, entry_same}

abbrev AllFree : List FrameEntry → Type 0
AllFree es = AllByRecursion (λ e. e.1 ≡ None) es

free_removed : (k : ℕ) (es : List FrameEntry) → AllFree es → AllFree (remove_entry (nat_eq k) es)
free_removed k [] all = tt
free_removed k ((i, v) ∷ es) all = (elim (k == i) as (λ y. (k == i) ≡ y → AllFree (remove_entry (nat_eq k) ((i, v) ∷ es))) [
  | true ↦ λ t. rw t all.1
  | false ↦ λ t. rw t (all.0, free_removed k es all.1)
]) refl

if_none : (v : Option Held) {P Q : Type 0} → (P → Q) → IfNone v P → IfNone v Q
if_none None f p = f p
if_none (Some x) f p = tt

pub last_removed : (k : ℕ) (es : List FrameEntry) → AreFreeLast es → AreFreeLast (remove_entry (nat_eq k) es)
last_removed k [] last = tt
last_removed k ((i, v) ∷ es) last = (elim (k == i) as (λ y. (k == i) ≡ y → AreFreeLast (remove_entry (nat_eq k) ((i, v) ∷ es))) [
  | true ↦ λ t. rw t last.1
  | false ↦ λ t. rw t (if_none v (free_removed k es) last.0, last_removed k es last.1)
]) refl

free_append : (k : ℕ) (es : List FrameEntry) → AllFree es → AllFree (es ++ (k, None) ∷ [])
free_append k [] all = (refl, tt)
free_append k (e ∷ es) all = (all.0, free_append k es all.1)

pub last_append : (k : ℕ) (es : List FrameEntry) → AreFreeLast es → AreFreeLast (es ++ (k, None) ∷ [])
last_append k [] last = (tt, tt)
last_append k ((i, v) ∷ es) last = (if_none v (free_append k es) last.0, last_append k es last.1)

-- a page that is held stands in no frame without one
not_free : (n k : ℕ) (h : Held) (es : List FrameEntry) → IsAt n k h es → AllFree es → ⊥
not_free n k h [] x all = elim x [ ]
not_free n k h (e ∷ es) (inl p) all = let same = ap (λ x. x.1) p.0 in let none = all.0 in cc
not_free n k h (e ∷ es) (inr p) all = not_free n k h es p.2 all.1

pub last_set : (n k : ℕ) (h g : Held) (es : List FrameEntry) → IsAt n k h es → AreFreeLast es → AreFreeLast (set_value (nat_eq k) es (Some g))
last_set n k h g [] x last = elim x [ ]
last_set n k h g (e ∷ es) (inl p) last = subst (λ x. AreFreeLast (set_value (nat_eq k) (x ∷ es) (Some g))) (sym p.0) (rw (eqb-refl k) (tt, last.1))
last_set n k h g ((i, None) ∷ es) (inr p) last = absurd (not_free n k h es p.2 last.0)
last_set n k h g ((i, Some q) ∷ es) (inr p) last = rw p.0 (tt, last_set n k h g es p.2 last.1)

free_blank : (n : ℕ) → AllFree (blank_frame n)
free_blank zero = tt
free_blank (suc n) = (refl, free_blank n)

pub last_blank : (n : ℕ) → AreFreeLast (blank_frame n)
last_blank zero = tt
last_blank (suc n) = (free_blank n, last_blank n)

-- ---- the last entry, as the table gives it

kept_or : (o : Option FrameEntry) (f : FrameEntry) (d : Option FrameEntry) → option_or (option_or o (Some f)) d ≡ option_or o (Some f)
kept_or None f d = refl
kept_or (Some x) f d = refl

pub last_entry-is : (es : List FrameEntry) → last_entry es ≡ last_of es
last_entry-is [] = refl
last_entry-is (e ∷ []) = refl
last_entry-is (e ∷ f ∷ es) = let next : length (e ∷ f ∷ es) - 1 ≡ suc (length (f ∷ es) - 1) = omega arith in rw next (last_entry-is (f ∷ es) ∙ sym (kept_or (last_of es) f (Some e)))

-- ---- the last frame has a page exactly where all have one

last_is_free : (es : List FrameEntry) (e : FrameEntry) → AllFree es → last_of es ≡ Some e → e.1 ≡ None
last_is_free [] e all last = cc
last_is_free (f ∷ es) e all last = (elim (last_of es) as (λ o. last_of es ≡ o → e.1 ≡ None) [
  | None ↦ λ t. let last' : Some f ≡ Some e = rw t at last in let same : f ≡ e = cc in subst (λ x. x.1 ≡ None) same all.0
  | Some x ↦ λ t. let last' : Some x ≡ Some e = rw t at last in last_is_free es e all.1 (t ∙ last')
]) refl

nothing_last : (es : List FrameEntry) → last_of es ≡ None → es ≡ []
nothing_last [] last = refl
nothing_last (e ∷ es) last = (elim (last_of es) as (λ o. last_of es ≡ o → (e ∷ es) ≡ []) [
  | None ↦ λ t. let last' = rw t at last in cc
  | Some x ↦ λ t. let last' = rw t at last in cc
]) refl

full_by : (frames : List (List ℕ)) (es : List FrameEntry) (k : ℕ) (h : Held) → AreFreeLast es → last_of es ≡ Some (k, Some h) → length (shown_pages frames es) ≡ length es
full_by frames [] k h free last = refl
full_by frames ((i, None) ∷ es) k h free last = (elim (last_of es) as (λ o. last_of es ≡ o → length (shown_pages frames ((i, None) ∷ es)) ≡ length ((i, None) ∷ es)) [
  | None ↦ λ t. let last' : ◌≡◌ {A = Option FrameEntry} (Some (i, None)) (Some (k, Some h)) = rw t at last in let same : ◌≡◌ {A = Option Held} None (Some h) = ap (λ x. x.1) (entry_same (i, None) (k, Some h) last') in cc
  | Some x ↦ λ t. let last' : Some x ≡ Some (k, Some h) = rw t at last in let none : Some h ≡ None = last_is_free es (k, Some h) free.0 (t ∙ last') in cc
]) refl
full_by frames ((i, Some q) ∷ es) k h free last = (elim (last_of es) as (λ o. last_of es ≡ o → length (shown_pages frames ((i, Some q) ∷ es)) ≡ length ((i, Some q) ∷ es)) [
  | None ↦ λ t. rw (nothing_last es t) refl
  | Some x ↦ λ t. let last' : Some x ≡ Some (k, Some h) = rw t at last in ap suc (full_by frames es k h free.1 (t ∙ last'))
]) refl

by_last : (frames : List (List ℕ)) (es : List FrameEntry) (o : Option FrameEntry) → last_of es ≡ o → AreFreeLast es → option_map_or (λ e. option_map_or (λ _. None) e.1 (Some e.0)) o None ≡ None → length (shown_pages frames es) ≡ length es
by_last frames es None last free full = rw (nothing_last es last) refl
by_last frames es (Some (k, None)) last free full = cc
by_last frames es (Some (k, Some h)) last free full = full_by frames es k h free last

pub all_shown : (frames : List (List ℕ)) (es : List FrameEntry) → AreFreeLast es → free_frame es ≡ None → length (shown_pages frames es) ≡ length es
all_shown frames es free full = by_last frames es (last_of es) refl free full
