-- What a change of the table or of a frame shows, and what it keeps.
use Rattle.std.proofs.Common.{◌≡◌, ℕ, zero, suc, ◌≤◌, ◌<◌, ◌*◌, ◌==◌, cond, map, inl, inr, true, false, not, List, [], ◌∷◌, ◌++◌, length, Option, Some, None, IfSome, nat_eq, refl, sym, ap, subst, ◌∙◌, arith, slice_set, slice_index_or, IsSome, replicate, is_some, Result, Ok, Err, IsOk, OnOk}
use Rattle.std.specs.List.{AllByRecursion, IsDistinct}
use Rattle.std.specs.Map.{lookup, lookup_entry, remove_entry, set_value, keys_of}
use Rattle.std.specs.Option.{option_map}
use Rattle.std.proofs.lemmas.List.{get_or-set_same, get_or-set_other, length-set}
use Rattle.std.proofs.lemmas.Map.{length-set_value, keys-set_value}
use Rattle.std.proofs.Common.{drop, length-drop, length-append, length-take-le}
use Rattle.std.proofs.Math.Dec.{eqb-suc-zero}
use Rattle.page_cache.specs.Lending.{laid_over}
use Rattle.page_cache.specs.Cache.{written_over}
use Rattle.lru.specs.LruCache.{lru_cache, demoted, promoted, put_entries}
use Rattle.page_cache.specs.Pages.{Page, IsSoundCache, held_page, is_held, moved_first, without, changed}
use Rattle.page_cache.specs.Frames.{FrameEntry, blank_frame, frame_entry, frame_at, free_frame, freed, held_in, page_in, shown_pages, HaveDistinctPages, AreFrames, AllOfLength}
use Rattle.page_cache.specs.Index.{named, room}
use Rattle.page_cache.specs.Tied.{AreTied}
use Rattle.std.specs.HashMap.{HashMap}
use Rattle.page_cache.specs.declared.table.Held.{Held}
use Rattle.page_cache.proofs.FreeLast.{last_removed, last_append, last_set, last_blank}
use Rattle.page_cache.proofs.Naming.{frame_at-entry_of, frame_at-set, frame_at-removed, frame_at-first, frame_at-free, frame_at-append, frame_at-blank}
use Rattle.page_cache.proofs.Entries.{IsAt, IsFreeAt, NoneIs, IsAt-entry_of, IsFreeAt-free_frame, eqb-refl, eqb-same, eqb-sym, page_at-shown, changed-absent, without-absent}

-- ---- look-ups

lookup_at : (n k : ℕ) (h : Held) (es : List FrameEntry) → IsAt n k h es → lookup_entry (nat_eq k) es ≡ Some (k, Some h)
lookup_at n k h [] x = elim x [ ]
lookup_at n k h (e ∷ es) (inl p) = subst (λ x. lookup_entry (nat_eq k) (x ∷ es) ≡ Some (k, Some h)) (sym p.0) (rw (eqb-refl k) refl)
lookup_at n k h (e ∷ es) (inr p) = rw p.0 (lookup_at n k h es p.2)

pub lookup_is : (n k : ℕ) (h : Held) (es : List FrameEntry) → IsAt n k h es → lookup (nat_eq k) es ≡ Some (Some h)
lookup_is n k h [] x = elim x [ ]
lookup_is n k h (e ∷ es) (inl p) = subst (λ x. lookup (nat_eq k) (x ∷ es) ≡ Some (Some h)) (sym p.0) (rw (eqb-refl k) refl)
lookup_is n k h (e ∷ es) (inr p) = rw p.0 (lookup_is n k h es p.2)

lookup_free : (k : ℕ) (es : List FrameEntry) → IsFreeAt k es → lookup_entry (nat_eq k) es ≡ Some (k, None)
lookup_free k [] x = elim x [ ]
lookup_free k (e ∷ es) (inl p) = subst (λ x. lookup_entry (nat_eq k) (x ∷ es) ≡ Some (k, None)) (sym p.0) (rw (eqb-refl k) refl)
lookup_free k (e ∷ es) (inr p) = rw p.0 (lookup_free k es p.1)

pub is_there : (k : ℕ) (es : List FrameEntry) (x : FrameEntry) → lookup_entry (nat_eq k) es ≡ Some x → IsSome (lookup (nat_eq k) es)
is_there k [] x found = cc
is_there k ((i, v) ∷ es) x found = (elim (k == i) as (λ y. (k == i) ≡ y → IsSome (lookup (nat_eq k) ((i, v) ∷ es))) [
  | true ↦ λ t. rw t refl
  | false ↦ λ t. rw t (is_there k es x (rw t at found))
]) refl

-- ---- what is shown

shown_set : (frames : List (List ℕ)) (n k : ℕ) (h g : Held) (change : Page → Page) (es : List FrameEntry) → IsAt n k h es → change (page_in frames k h) ≡ page_in frames k g → shown_pages frames (set_value (nat_eq k) es (Some g)) ≡ changed n change (shown_pages frames es)
shown_set frames n k h g change [] x same = elim x [ ]
shown_set frames n k h g change (e ∷ es) (inl p) same =
    subst (λ x. shown_pages frames (set_value (nat_eq k) (x ∷ es) (Some g)) ≡ changed n change (shown_pages frames (x ∷ es))) (sym p.0)
    (rw (eqb-refl k) (rw p.1 (rw same (rw (changed-absent frames n change es p.2) refl))))
shown_set frames n k h g change ((i, None) ∷ es) (inr p) same = rw p.0 (shown_set frames n k h g change es p.2 same)
shown_set frames n k h g change ((i, Some q) ∷ es) (inr p) same = rw p.0 (rw p.1 (ap (λ ps. page_in frames i q ∷ ps) (shown_set frames n k h g change es p.2 same)))

shown_removed : (frames : List (List ℕ)) (n k : ℕ) (h : Held) (es : List FrameEntry) → IsAt n k h es → shown_pages frames (remove_entry (nat_eq k) es) ≡ without n (shown_pages frames es)
shown_removed frames n k h [] x = elim x [ ]
shown_removed frames n k h (e ∷ es) (inl p) =
    subst (λ x. shown_pages frames (remove_entry (nat_eq k) (x ∷ es)) ≡ without n (shown_pages frames (x ∷ es))) (sym p.0)
    (rw (eqb-refl k) (rw p.1 (sym (without-absent frames n es p.2))))
shown_removed frames n k h ((i, None) ∷ es) (inr p) = rw p.0 (shown_removed frames n k h es p.2)
shown_removed frames n k h ((i, Some q) ∷ es) (inr p) = rw p.0 (rw p.1 (ap (λ ps. page_in frames i q ∷ ps) (shown_removed frames n k h es p.2)))

shown_append : (frames : List (List ℕ)) (k : ℕ) (es : List FrameEntry) → shown_pages frames (es ++ (k, None) ∷ []) ≡ shown_pages frames es
shown_append frames k [] = refl
shown_append frames k ((i, None) ∷ es) = shown_append frames k es
shown_append frames k ((i, Some q) ∷ es) = ap (λ ps. page_in frames i q ∷ ps) (shown_append frames k es)

other : (k i : ℕ) → (k == i) ≡ false → i ≡ k → ⊥
other k i apart same = let yes = eqb-refl k in let no = subst (λ x. (k == x) ≡ false) same apart in cc

frame_kept : (frames : List (List ℕ)) (k i : ℕ) (bs : List ℕ) → (k == i) ≡ false → slice_index_or (slice_set frames k bs) i [] ≡ slice_index_or frames i []
frame_kept frames k i bs apart = get_or-set_other frames k i bs [] (other k i apart)

shown_unset : (frames : List (List ℕ)) (k : ℕ) (bs : List ℕ) (es : List FrameEntry) → NoneIs k (keys_of es) → shown_pages (slice_set frames k bs) es ≡ shown_pages frames es
shown_unset frames k bs [] none = refl
shown_unset frames k bs ((i, None) ∷ es) none = shown_unset frames k bs es none.1
shown_unset frames k bs ((i, Some q) ∷ es) none = rw (frame_kept frames k i bs none.0) (rw (shown_unset frames k bs es none.1) refl)

shown_written : (frames : List (List ℕ)) (n k : ℕ) (h : Held) (bs : List ℕ) (change : Page → Page) (es : List FrameEntry) → IsAt n k h es → change (page_in frames k h) ≡ page_in (slice_set frames k bs) k h → shown_pages (slice_set frames k bs) es ≡ changed n change (shown_pages frames es)
shown_written frames n k h bs change [] x same = elim x [ ]
shown_written frames n k h bs change (e ∷ es) (inl p) same =
    subst (λ x. shown_pages (slice_set frames k bs) (x ∷ es) ≡ changed n change (shown_pages frames (x ∷ es))) (sym p.0)
    (rw p.1 (rw same (rw (changed-absent frames n change es p.2) (rw (shown_unset frames k bs es p.3) refl))))
shown_written frames n k h bs change ((i, None) ∷ es) (inr p) same = shown_written frames n k h bs change es p.2 same
shown_written frames n k h bs change ((i, Some q) ∷ es) (inr p) same =
    rw p.1 (rw (frame_kept frames k i bs p.0) (ap (λ ps. page_in frames i q ∷ ps) (shown_written frames n k h bs change es p.2 same)))

shown_free_removed : (frames : List (List ℕ)) (k : ℕ) (bs : List ℕ) (es : List FrameEntry) → IsFreeAt k es → shown_pages (slice_set frames k bs) (remove_entry (nat_eq k) es) ≡ shown_pages frames es
shown_free_removed frames k bs [] x = elim x [ ]
shown_free_removed frames k bs (e ∷ es) (inl p) =
    subst (λ x. shown_pages (slice_set frames k bs) (remove_entry (nat_eq k) (x ∷ es)) ≡ shown_pages frames (x ∷ es)) (sym p.0)
    (rw (eqb-refl k) (shown_unset frames k bs es p.1))
shown_free_removed frames k bs ((i, None) ∷ es) (inr p) = rw p.0 (shown_free_removed frames k bs es p.1)
shown_free_removed frames k bs ((i, Some q) ∷ es) (inr p) =
    rw p.0 (rw (frame_kept frames k i bs p.0) (ap (λ ps. page_in frames i q ∷ ps) (shown_free_removed frames k bs es p.1)))

-- ---- what stays apart

none_after : (m : ℕ) (e : FrameEntry) (es : List FrameEntry) → frame_entry m (e ∷ es) ≡ None → frame_entry m es ≡ None
none_after m (i, None) es absent = absent
none_after m (i, Some q) es absent = (elim (q.page == m) as (λ y. (q.page == m) ≡ y → frame_entry m es ≡ None) [
  | true ↦ λ t. let absent' = rw t at absent in cc
  | false ↦ λ t. rw t at absent
]) refl

-- the rest may be another in which page m is not held either
none_head : (m : ℕ) (e : FrameEntry) (es fs : List FrameEntry) → frame_entry m (e ∷ es) ≡ None → frame_entry m fs ≡ None → frame_entry m (e ∷ fs) ≡ None
none_head m (i, None) es fs absent other = other
none_head m (i, Some q) es fs absent other = (elim (q.page == m) as (λ y. (q.page == m) ≡ y → frame_entry m ((i, Some q) ∷ fs) ≡ None) [
  | true ↦ λ t. let absent' = rw t at absent in cc
  | false ↦ λ t. rw t other
]) refl

none_set : (m : ℕ) (k : ℕ) (g : Held) (es : List FrameEntry) → (g.page == m) ≡ false → frame_entry m es ≡ None → frame_entry m (set_value (nat_eq k) es (Some g)) ≡ None
none_set m k g [] apart absent = refl
none_set m k g ((i, v) ∷ es) apart absent = (elim (k == i) as (λ y. (k == i) ≡ y → frame_entry m (set_value (nat_eq k) ((i, v) ∷ es) (Some g)) ≡ None) [
  | true ↦ λ t. rw t (rw apart (none_after m (i, v) es absent))
  | false ↦ λ t. rw t (none_head m (i, v) es (set_value (nat_eq k) es (Some g)) absent (none_set m k g es apart (none_after m (i, v) es absent)))
]) refl

none_append : (m k : ℕ) (es : List FrameEntry) → frame_entry m es ≡ None → frame_entry m (es ++ (k, None) ∷ []) ≡ None
none_append m k [] absent = refl
none_append m k (e ∷ es) absent = none_head m e es (es ++ (k, None) ∷ []) absent (none_append m k es (none_after m e es absent))

none_removed : (m k : ℕ) (es : List FrameEntry) → frame_entry m es ≡ None → frame_entry m (remove_entry (nat_eq k) es) ≡ None
none_removed m k [] absent = refl
none_removed m k ((i, v) ∷ es) absent = (elim (k == i) as (λ y. (k == i) ≡ y → frame_entry m (remove_entry (nat_eq k) ((i, v) ∷ es)) ≡ None) [
  | true ↦ λ t. rw t (none_after m (i, v) es absent)
  | false ↦ λ t. rw t (none_head m (i, v) es (remove_entry (nat_eq k) es) absent (none_removed m k es (none_after m (i, v) es absent)))
]) refl

gone_removed : (n k : ℕ) (h : Held) (es : List FrameEntry) → IsAt n k h es → frame_entry n (remove_entry (nat_eq k) es) ≡ None
gone_removed n k h [] x = elim x [ ]
gone_removed n k h (e ∷ es) (inl p) = subst (λ x. frame_entry n (remove_entry (nat_eq k) (x ∷ es)) ≡ None) (sym p.0) (rw (eqb-refl k) p.2)
gone_removed n k h ((i, None) ∷ es) (inr p) = rw p.0 (gone_removed n k h es p.2)
gone_removed n k h ((i, Some q) ∷ es) (inr p) = rw p.0 (rw p.1 (gone_removed n k h es p.2))

apart_set : (n k : ℕ) (h g : Held) (es : List FrameEntry) → IsAt n k h es → g.page ≡ n → HaveDistinctPages es → HaveDistinctPages (set_value (nat_eq k) es (Some g))
apart_set n k h g [] x same apart = elim x [ ]
apart_set n k h g (e ∷ es) (inl p) same apart =
    subst (λ x. HaveDistinctPages (set_value (nat_eq k) (x ∷ es) (Some g))) (sym p.0) (rw (eqb-refl k) (subst (λ m. frame_entry m es ≡ None) (sym same) p.2, apart.1))
apart_set n k h g ((i, None) ∷ es) (inr p) same apart = rw p.0 (tt, apart_set n k h g es p.2 same apart.1)
apart_set n k h g ((i, Some q) ∷ es) (inr p) same apart =
    rw p.0 (none_set q.page k g es (rw same (eqb-sym q.page n p.1)) apart.0, apart_set n k h g es p.2 same apart.1)

apart_head : (i : ℕ) (v : Option Held) (es fs : List FrameEntry) → ((m : ℕ) → frame_entry m es ≡ None → frame_entry m fs ≡ None) → IfSome v (λ q. frame_entry q.page es ≡ None) → IfSome v (λ q. frame_entry q.page fs ≡ None)
apart_head i None es fs none head = tt
apart_head i (Some q) es fs none head = none q.page head

apart_append : (k : ℕ) (es : List FrameEntry) → HaveDistinctPages es → HaveDistinctPages (es ++ (k, None) ∷ [])
apart_append k [] apart = (tt, tt)
apart_append k ((i, v) ∷ es) apart = (apart_head i v es (es ++ (k, None) ∷ []) (λ m absent. none_append m k es absent) apart.0, apart_append k es apart.1)

apart_removed : (k : ℕ) (es : List FrameEntry) → HaveDistinctPages es → HaveDistinctPages (remove_entry (nat_eq k) es)
apart_removed k [] apart = tt
apart_removed k ((i, v) ∷ es) apart = (elim (k == i) as (λ y. (k == i) ≡ y → HaveDistinctPages (remove_entry (nat_eq k) ((i, v) ∷ es))) [
  | true ↦ λ t. rw t apart.1
  | false ↦ λ t. rw t (apart_head i v es (remove_entry (nat_eq k) es) (λ m absent. none_removed m k es absent) apart.0, apart_removed k es apart.1)
]) refl

-- ---- what stays tied

keys_removed : (P : ℕ → Type 0) (k : ℕ) (es : List FrameEntry) → AllByRecursion P (keys_of es) → AllByRecursion P (keys_of (remove_entry (nat_eq k) es))
keys_removed P k [] all = tt
keys_removed P k ((i, v) ∷ es) all = (elim (k == i) as (λ y. (k == i) ≡ y → AllByRecursion P (keys_of (remove_entry (nat_eq k) ((i, v) ∷ es)))) [
  | true ↦ λ t. rw t all.1
  | false ↦ λ t. rw t (all.0, keys_removed P k es all.1)
]) refl

keys_append : (P : ℕ → Type 0) (k : ℕ) (es : List FrameEntry) → P k → AllByRecursion P (keys_of es) → AllByRecursion P (keys_of (es ++ (k, None) ∷ []))
keys_append P k [] holds all = (holds, tt)
keys_append P k (e ∷ es) holds all = (all.0, keys_append P k es holds all.1)

key_holds : (P : ℕ → Type 0) (k : ℕ) (v : Option Held) (es : List FrameEntry) → lookup_entry (nat_eq k) es ≡ Some (k, v) → AllByRecursion P (keys_of es) → P k
key_holds P k v [] found all = cc
key_holds P k v ((i, w) ∷ es) found all = (elim (k == i) as (λ y. (k == i) ≡ y → P k) [
  | true ↦ λ t. subst P (sym (eqb-same k i t)) all.0
  | false ↦ λ t. key_holds P k v es (rw t at found) all.1
]) refl

length_removed : (k : ℕ) (x : FrameEntry) (es : List FrameEntry) → lookup_entry (nat_eq k) es ≡ Some x → suc (length (remove_entry (nat_eq k) es)) ≡ length es
length_removed k x [] found = cc
length_removed k x ((i, w) ∷ es) found = (elim (k == i) as (λ y. (k == i) ≡ y → suc (length (remove_entry (nat_eq k) ((i, w) ∷ es))) ≡ length ((i, w) ∷ es)) [
  | true ↦ λ t. rw t refl
  | false ↦ λ t. rw t (ap suc (length_removed k x es (rw t at found)))
]) refl

length_append : (k : ℕ) (es : List FrameEntry) → length (es ++ (k, None) ∷ []) ≡ suc (length es)
length_append k [] = refl
length_append k (e ∷ es) = ap suc (length_append k es)

length_freed : (k : ℕ) (x : FrameEntry) (es : List FrameEntry) → lookup_entry (nat_eq k) es ≡ Some x → length (freed k es) ≡ length es
length_freed k x es found = length_append k (remove_entry (nat_eq k) es) ∙ length_removed k x es found

number_same : (j k : ℕ) → Some j ≡ Some k → j ≡ k
number_same j k e = cc

sized_set : (usable : ℕ) (frames : List (List ℕ)) (k : ℕ) (bs : List ℕ) → length bs ≡ usable → AllOfLength usable frames → AllOfLength usable (slice_set frames k bs)
sized_set usable [] k bs same all = tt
sized_set usable (f ∷ frames) zero bs same all = (same, all.1)
sized_set usable (f ∷ frames) (suc k) bs same all = (all.0, sized_set usable frames k bs same all.1)

sized_at : (usable : ℕ) (frames : List (List ℕ)) (k : ℕ) → k < length frames → AllOfLength usable frames → length (slice_index_or frames k []) ≡ usable
sized_at usable [] k inside all = absurd (omega arith)
sized_at usable (f ∷ frames) zero inside all = all.0
sized_at usable (f ∷ frames) (suc k) inside all = sized_at usable frames k (omega arith) all.1

few_shown : (frames : List (List ℕ)) (es : List FrameEntry) → length (shown_pages frames es) ≤ length es
few_shown frames [] = omega arith
few_shown frames ((i, None) ∷ es) = let few = few_shown frames es in omega arith
few_shown frames ((i, Some q) ∷ es) = let few = few_shown frames es in omega arith

some_free_at : (frames : List (List ℕ)) (es : List FrameEntry) (k : ℕ) → IsFreeAt k es → length (shown_pages frames es) < length es
some_free_at frames [] k x = elim x [ ]
some_free_at frames (e ∷ es) k (inl p) = subst (λ x. length (shown_pages frames (x ∷ es)) < length (x ∷ es)) (sym p.0) (let few = few_shown frames es in omega arith)
some_free_at frames ((i, None) ∷ es) k (inr p) = let few = few_shown frames es in omega arith
some_free_at frames ((i, Some q) ∷ es) k (inr p) = let few = some_free_at frames es k p.1 in omega arith

page_of_at : (n k : ℕ) (h : Held) (es : List FrameEntry) → IsAt n k h es → h.page ≡ n
page_of_at n k h [] x = elim x [ ]
page_of_at n k h (e ∷ es) (inl p) = eqb-same h.page n p.1
page_of_at n k h (e ∷ es) (inr p) = page_of_at n k h es p.2

by_entry : (frames : List (List ℕ)) (n : ℕ) (es : List FrameEntry) (o : Option (ℕ × Held)) → frame_entry n es ≡ o → held_page n (shown_pages frames es) ≡ None → o ≡ None
by_entry frames n es None same none = refl
by_entry frames n es (Some x) same none = let shows = page_at-shown frames n es in let some = rw same at shows in cc

is_some-map : (frames : List (List ℕ)) (o : Option (ℕ × Held)) → is_some (option_map (λ x. page_in frames x.0 x.1) o) ≡ is_some o
is_some-map frames None = refl
is_some-map frames (Some x) = refl

pub held_is : (frames : List (List ℕ)) (es : List FrameEntry) (n : ℕ) → is_held n (shown_pages frames es) ≡ is_some (frame_entry n es)
held_is frames es n = rw (page_at-shown frames n es) (is_some-map frames (frame_entry n es))

entry_there : (n : ℕ) (es : List FrameEntry) (o : Option (ℕ × Held)) → frame_entry n es ≡ o → is_some o ≡ true → (x : ℕ × Held) × (frame_entry n es ≡ Some x)
entry_there n es None same there = cc
entry_there n es (Some x) same there = (x, same)

-- the entry of a page that is held
pub found_of : (frames : List (List ℕ)) (es : List FrameEntry) (n : ℕ) → is_held n (shown_pages frames es) ≡ true → (x : ℕ × Held) × (frame_entry n es ≡ Some x)
found_of frames es n held = entry_there n es (frame_entry n es) refl (sym (held_is frames es n) ∙ held)

changed_same : (frames : List (List ℕ)) (n k : ℕ) (h : Held) (change : Page → Page) (es : List FrameEntry) → IsAt n k h es → change (page_in frames k h) ≡ page_in frames k h → shown_pages frames es ≡ changed n change (shown_pages frames es)
changed_same frames n k h change [] x same = elim x [ ]
changed_same frames n k h change (e ∷ es) (inl p) same =
    subst (λ x. shown_pages frames (x ∷ es) ≡ changed n change (shown_pages frames (x ∷ es))) (sym p.0)
    (rw p.1 (rw same (rw (changed-absent frames n change es p.2) refl)))
changed_same frames n k h change ((i, None) ∷ es) (inr p) same = changed_same frames n k h change es p.2 same
changed_same frames n k h change ((i, Some q) ∷ es) (inr p) same = rw p.1 (ap (λ ps. page_in frames i q ∷ ps) (changed_same frames n k h change es p.2 same))

pub some_pin : (pins : ℕ) → (pins ≡ 0 → ⊥) → true ≡ not (pins == 0)
some_pin zero some = absurd (some refl)
some_pin (suc pins) some = sym (ap not (eqb-suc-zero pins))

pub on_ok : {T E : Type 0} {P : Type 0} (r : Result T E) → IsOk r → OnOk r P → P
on_ok (Ok x) ok holds = holds
on_ok (Err e) ok holds = cc

pub length_laid_over : (old new : List ℕ) → length (laid_over old new) ≡ length old
length_laid_over old new =
    let cut = length-drop (length new) old in
    let whole = length-append new (drop (length new) old) in
    length-take-le (length old) (new ++ drop (length new) old) (omega arith)

pub written_same : (frames : List (List ℕ)) (k : ℕ) (h : Held) (now w : List ℕ) → now ≡ slice_index_or frames k [] → k < length frames → written_over w (page_in frames k h) ≡ page_in (slice_set frames k (laid_over now w)) k h
written_same frames k h now w same inside = rw (get_or-set_same frames k (laid_over now w) [] inside) (rw same refl)

-- ---- an empty cache

pub shown_blank : (frames : List (List ℕ)) (n : ℕ) → shown_pages frames (blank_frame n) ≡ []
shown_blank frames zero = refl
shown_blank frames (suc n) = shown_blank frames n

apart_blank : (n : ℕ) → HaveDistinctPages (blank_frame n)
apart_blank zero = tt
apart_blank (suc n) = (tt, apart_blank n)

within_blank : (count n : ℕ) → n ≤ count → AreFrames count (blank_frame n)
within_blank count zero few = tt
within_blank count (suc n) few = (omega arith, within_blank count n (omega arith))

length_blank : (n : ℕ) → length (blank_frame n) ≡ n
length_blank zero = refl
length_blank (suc n) = ap suc (length_blank n)

pub length_frames : (n : ℕ) (f : List ℕ) → length (replicate n f) ≡ n
length_frames zero f = refl
length_frames (suc n) f = ap suc (length_frames n f)

pub length_zeros : (n : ℕ) → length {A = ℕ} (replicate n 0) ≡ n
length_zeros zero = refl
length_zeros (suc n) = ap suc (length_zeros n)

sized_blank : (usable n : ℕ) → AllOfLength usable (replicate n (replicate usable 0))
sized_blank usable zero = tt
sized_blank usable (suc n) = (length_zeros usable, sized_blank usable n)

pub tied_blank : (usable n : ℕ) {S : Type 0} (index : HashMap ℕ (Option ℕ) S) → ((m : ℕ) → named index m ≡ None) → 2 * n ≤ room index → AreTied usable index (replicate n (replicate usable 0)) (blank_frame n)
tied_blank usable n index empty roomy = record {
  apart = apart_blank n;
  last = last_blank n;
  within = subst (λ m. AreFrames m (blank_frame n)) (sym (length_frames n (replicate usable 0))) (within_blank n n (omega arith));
  full = length_blank n ∙ sym (length_frames n (replicate usable 0));
  sized = sized_blank usable n;
  names = λ m. empty m ∙ sym (frame_at-blank m n);
  roomy = rw (length_frames n (replicate usable 0)) roomy;
}

module _ (frames : List (List ℕ)) (es : List FrameEntry) (n k : ℕ) (h : Held) (found : frame_entry n es ≡ Some (k, h)) where
  pub page_held : held_page n (shown_pages frames es) ≡ Some (page_in frames k h)
  page_held = rw (page_at-shown frames n es) (rw found refl)

  module _ {S : Type 0} (usable : ℕ) (index : HashMap ℕ (Option ℕ) S) (tied : AreTied usable index frames es) (distinct : IsDistinct nat_eq (keys_of es)) where
    at : IsAt n k h es
    at = IsAt-entry_of n es k h found tied.apart distinct

    pub there : IsSome (lookup (nat_eq k) es)
    there = is_there k es (k, Some h) (lookup_at n k h es at)

    pub in_store : k < length frames
    in_store = key_holds (λ j. j < length frames) k (Some h) es (lookup_at n k h es at) tied.within

    pub right_size : length (slice_index_or frames k []) ≡ usable
    right_size = sized_at usable frames k in_store tied.sized

    pub tied_set : (g : Held) → g.page ≡ h.page → AreTied usable index frames (set_value (nat_eq k) es (Some g))
    tied_set g same = record {
      apart = apart_set n k h g es at (same ∙ page_of_at n k h es at) tied.apart;
      last = last_set n k h g es at tied.last;
      within = rw (keys-set_value (nat_eq k) es (Some g)) tied.within;
      full = length-set_value (nat_eq k) es (Some g) ∙ tied.full;
      sized = tied.sized;
      names = λ m. tied.names m ∙ sym (frame_at-set n k h m g es at same);
      roomy = tied.roomy;
    }

    pub tied_freed : {T : Type 0} (other : HashMap ℕ (Option ℕ) T) → ((m : ℕ) → named other m ≡ cond (nat_eq n m) None (named index m)) → room other ≡ room index → AreTied usable other frames (freed k es)
    tied_freed other forgot same = record {
      apart = apart_append k (remove_entry (nat_eq k) es) (apart_removed k es tied.apart);
      last = last_append k (remove_entry (nat_eq k) es) (last_removed k es tied.last);
      within = keys_append (λ j. j < length frames) k (remove_entry (nat_eq k) es) in_store (keys_removed (λ j. j < length frames) k es tied.within);
      full = length_freed k (k, Some h) es (lookup_at n k h es at) ∙ tied.full;
      sized = tied.sized;
      names = λ m. forgot m ∙ (rw (tied.names m) (sym (frame_at-append m k (remove_entry (nat_eq k) es) ∙ frame_at-removed n k h m es at)));
      roomy = rw same tied.roomy;
    }

    pub tied_first : AreTied usable index frames (promoted (nat_eq k) es)
    tied_first = rw (lookup_at n k h es at) (record {
      apart = (subst (λ m. frame_entry m (remove_entry (nat_eq k) es) ≡ None) (sym (page_of_at n k h es at)) (gone_removed n k h es at), apart_removed k es tied.apart);
      last = (tt, last_removed k es tied.last);
      within = (in_store, keys_removed (λ j. j < length frames) k es tied.within);
      full = length_removed k (k, Some h) es (lookup_at n k h es at) ∙ tied.full;
      sized = tied.sized;
      names = λ m. tied.names m ∙ sym (frame_at-first n k h m es (page_of_at n k h es at) at);
      roomy = tied.roomy;
    })

    pub tied_written : (bs : List ℕ) → length bs ≡ usable → AreTied usable index (slice_set frames k bs) es
    tied_written bs same = record {
      apart = tied.apart;
      last = tied.last;
      within = rw (length-set frames k bs) tied.within;
      full = tied.full ∙ sym (length-set frames k bs);
      sized = sized_set usable frames k bs same tied.sized;
      names = tied.names;
      roomy = rw (length-set frames k bs) tied.roomy;
    }

    pub shows_set : (g : Held) (change : Page → Page) → change (page_in frames k h) ≡ page_in frames k g → shown_pages frames (set_value (nat_eq k) es (Some g)) ≡ changed n change (shown_pages frames es)
    shows_set g change same = shown_set frames n k h g change es at same

    pub shows_same : (change : Page → Page) → change (page_in frames k h) ≡ page_in frames k h → shown_pages frames es ≡ changed n change (shown_pages frames es)
    shows_same change same = changed_same frames n k h change es at same

    pub shows_freed : shown_pages frames (freed k es) ≡ without n (shown_pages frames es)
    shows_freed = shown_append frames k (remove_entry (nat_eq k) es) ∙ shown_removed frames n k h es at

    pub shows_first : shown_pages frames (promoted (nat_eq k) es) ≡ moved_first n (shown_pages frames es)
    shows_first = rw (lookup_at n k h es at) (rw page_held (ap (λ ps. page_in frames k h ∷ ps) (shown_removed frames n k h es at)))

    pub shows_written : (bs : List ℕ) (change : Page → Page) → change (page_in frames k h) ≡ page_in (slice_set frames k bs) k h → shown_pages (slice_set frames k bs) es ≡ changed n change (shown_pages frames es)
    shows_written bs change same = shown_written frames n k h bs change es at same

module _ (frames : List (List ℕ)) (es : List FrameEntry) (n : ℕ) (absent : frame_entry n es ≡ None) where
  pub page_absent : held_page n (shown_pages frames es) ≡ None
  page_absent = rw (page_at-shown frames n es) (rw absent refl)

  pub nothing_changed : (change : Page → Page) → shown_pages frames es ≡ changed n change (shown_pages frames es)
  nothing_changed change = sym (changed-absent frames n change es absent)

  pub nothing_gone : shown_pages frames es ≡ without n (shown_pages frames es)
  nothing_gone = sym (without-absent frames n es absent)

  pub nothing_first : shown_pages frames es ≡ moved_first n (shown_pages frames es)
  nothing_first = rw page_absent refl

pub absent_back : (frames : List (List ℕ)) (n : ℕ) (es : List FrameEntry) → held_page n (shown_pages frames es) ≡ None → frame_entry n es ≡ None
absent_back frames n es none = by_entry frames n es (frame_entry n es) refl none

module _ (frames : List (List ℕ)) (es : List FrameEntry) (k : ℕ) (free : free_frame es ≡ Some k) (distinct : IsDistinct nat_eq (keys_of es)) where
  free_at : IsFreeAt k es
  free_at = IsFreeAt-free_frame es k free distinct

  pub free_there : IsSome (lookup (nat_eq k) es)
  free_there = is_there k es (k, None) (lookup_free k es free_at)

  pub some_free : length (shown_pages frames es) < length es
  some_free = some_free_at frames es k free_at

  pub some_frame : 1 ≤ length es
  some_frame = let some = some_free in omega arith

  module _ {S : Type 0} (usable cap : ℕ) (index : HashMap ℕ (Option ℕ) S) (tied : AreTied usable index frames es) where
    pub free_in_store : k < length frames
    free_in_store = key_holds (λ j. j < length frames) k None es (lookup_free k es free_at) tied.within

    pub free_size : length (slice_index_or frames k []) ≡ usable
    free_size = sized_at usable frames k free_in_store tied.sized

    pub tied_placed : {T : Type 0} (other : HashMap ℕ (Option ℕ) T) (n : ℕ) (g : Held) (bs : List ℕ) → g.page ≡ n → length bs ≡ usable → frame_entry n es ≡ None
        → ((m : ℕ) → named other m ≡ cond (nat_eq n m) (Some k) (frame_at m es)) → room index ≤ room other
        → AreTied usable other (slice_set frames k bs) (put_entries nat_eq (lru_cache es cap) k (Some g))
    tied_placed other n g bs page same absent set roomy = rw (lookup_free k es free_at) (record {
      apart = (subst (λ m. frame_entry m (remove_entry (nat_eq k) es) ≡ None) (sym page) (none_removed n k es absent), apart_removed k es tied.apart);
      last = (tt, last_removed k es tied.last);
      within = subst (λ m. AreFrames m ((k, Some g) ∷ remove_entry (nat_eq k) es)) (sym (length-set frames k bs)) (free_in_store, keys_removed (λ j. j < length frames) k es tied.within);
      full = length_removed k (k, None) es (lookup_free k es free_at) ∙ (tied.full ∙ sym (length-set frames k bs));
      sized = sized_set usable frames k bs same tied.sized;
      names = λ m. set m ∙ rw page (ap (λ o. cond (n == m) (Some k) o) (sym (frame_at-free m k es free_at)));
      roomy = rw (length-set frames k bs) (let old = tied.roomy in omega arith);
    })

    pub shows_placed : (g : Held) (bs : List ℕ) → shown_pages (slice_set frames k bs) (put_entries nat_eq (lru_cache es cap) k (Some g)) ≡ page_in (slice_set frames k bs) k g ∷ shown_pages frames es
    shows_placed g bs = rw (lookup_free k es free_at) (ap (λ ps. page_in (slice_set frames k bs) k g ∷ ps) (shown_free_removed frames k bs es free_at))

-- ---- an entry by its frame alone

frame_by : (n k : ℕ) (es : List FrameEntry) (o : Option (ℕ × Held)) → frame_entry n es ≡ o → option_map (λ x. x.0) o ≡ Some k → (h : Held) × (frame_entry n es ≡ Some (k, h))
frame_by n k es None same frame = cc
frame_by n k es (Some (j, h)) same frame = (h, same ∙ ap (λ i. Some (i, h)) (number_same j k frame))

pub at_frame : (n k : ℕ) (es : List FrameEntry) → frame_at n es ≡ Some k → (h : Held) × (frame_entry n es ≡ Some (k, h))
at_frame n k es frame = frame_by n k es (frame_entry n es) refl (sym (frame_at-entry_of n es) ∙ frame)

no_frame_by : (n : ℕ) (es : List FrameEntry) (o : Option (ℕ × Held)) → frame_entry n es ≡ o → option_map (λ x. x.0) o ≡ None → frame_entry n es ≡ None
no_frame_by n es None same frame = same
no_frame_by n es (Some x) same frame = cc

held_frame : (o : Option (ℕ × Held)) → is_some o ≡ is_some (option_map (λ x. x.0) o)
held_frame None = refl
held_frame (Some x) = refl

pub held_by : (n : ℕ) (es : List FrameEntry) → is_some (frame_entry n es) ≡ is_some (frame_at n es)
held_by n es = held_frame (frame_entry n es) ∙ sym (ap is_some (frame_at-entry_of n es))

pub frame_there : (n : ℕ) (es : List FrameEntry) (x : ℕ × Held) → frame_entry n es ≡ Some x → IsSome (frame_at n es)
frame_there n es x found = rw (frame_at-entry_of n es) (rw found refl)

pub no_frame : (n : ℕ) (es : List FrameEntry) → frame_at n es ≡ None → frame_entry n es ≡ None
no_frame n es frame = no_frame_by n es (frame_entry n es) refl (sym (frame_at-entry_of n es) ∙ frame)

pub entry_by : (n k : ℕ) (es : List FrameEntry) → frame_at n es ≡ Some k → HaveDistinctPages es → IsDistinct nat_eq (keys_of es) → option_map (λ h. (k, h)) (held_in k es) ≡ frame_entry n es
entry_by n k es frame apart distinct =
    let x = at_frame n k es frame in rw (lookup_is n k x.0 es (IsAt-entry_of n es k x.0 x.1 apart distinct)) (sym x.1)

-- ---- the table is changed

set_there : (k : ℕ) (v : Option Held) (es : List FrameEntry) → IsSome (lookup (nat_eq k) es) → lookup_entry (nat_eq k) (set_value (nat_eq k) es v) ≡ Some (k, v)
set_there k v [] there = cc
set_there k v ((i, w) ∷ es) there = (elim (k == i) as (λ y. (k == i) ≡ y → lookup_entry (nat_eq k) (set_value (nat_eq k) ((i, w) ∷ es) v) ≡ Some (k, v)) [
  | true ↦ λ t. rw t (rw t (ap (λ j. Some (j, v)) (sym (eqb-same k i t))))
  | false ↦ λ t. rw t (rw t (set_there k v es (rw t at there)))
]) refl

set_removed : (k : ℕ) (v : Option Held) (es : List FrameEntry) → remove_entry (nat_eq k) (set_value (nat_eq k) es v) ≡ remove_entry (nat_eq k) es
set_removed k v [] = refl
set_removed k v ((i, w) ∷ es) = (elim (k == i) as (λ y. (k == i) ≡ y → remove_entry (nat_eq k) (set_value (nat_eq k) ((i, w) ∷ es) v) ≡ remove_entry (nat_eq k) ((i, w) ∷ es)) [
  | true ↦ λ t. rw t (rw t refl)
  | false ↦ λ t. rw t (rw t (ap (λ fs. (i, w) ∷ fs) (set_removed k v es)))
]) refl

pub demoted_free : (k : ℕ) (es : List FrameEntry) → IsSome (lookup (nat_eq k) es) → demoted (nat_eq k) (set_value (nat_eq k) es None) ≡ freed k es
demoted_free k es there = rw (set_there k None es there) (rw (set_removed k None es) refl)

-- ---- what a caller may rely on

abbrev numbers : List Page → List ℕ
numbers pages = map (λ page. page.number) pages

others : (frames : List (List ℕ)) (n : ℕ) (es : List FrameEntry) → frame_entry n es ≡ None → AllByRecursion (λ m. (n == m) ≡ false) (numbers (shown_pages frames es))
others frames n [] absent = tt
others frames n ((i, None) ∷ es) absent = others frames n es absent
others frames n ((i, Some q) ∷ es) absent = (elim (q.page == n) as (λ y. (q.page == n) ≡ y → AllByRecursion (λ m. (n == m) ≡ false) (numbers (shown_pages frames ((i, Some q) ∷ es)))) [
  | true ↦ λ t. let absent' = rw t at absent in cc
  | false ↦ λ t. (eqb-sym q.page n t, others frames n es (rw t at absent))
]) refl

distinct_shown : (frames : List (List ℕ)) (es : List FrameEntry) → HaveDistinctPages es → IsDistinct nat_eq (numbers (shown_pages frames es))
unfolding IsDistinct
distinct_shown frames [] apart = tt
distinct_shown frames ((i, None) ∷ es) apart = distinct_shown frames es apart.1
distinct_shown frames ((i, Some q) ∷ es) apart = (others frames q.page es apart.0, distinct_shown frames es apart.1)

sized_shown : (usable : ℕ) (frames : List (List ℕ)) (es : List FrameEntry) → AllOfLength usable frames → AreFrames (length frames) es → AllByRecursion (λ page. length page.bytes ≡ usable) (shown_pages frames es)
sized_shown usable frames [] sized within = tt
sized_shown usable frames ((i, None) ∷ es) sized within = sized_shown usable frames es sized within.1
sized_shown usable frames ((i, Some q) ∷ es) sized within = (sized_at usable frames i within.0 sized, sized_shown usable frames es sized within.1)

pub sound : {S : Type 0} (usable : ℕ) (index : HashMap ℕ (Option ℕ) S) (frames : List (List ℕ)) (es : List FrameEntry) → AreTied usable index frames es
    → IsSoundCache (record { held = shown_pages frames es; frames = length frames; usable = usable })
sound usable index frames es tied = record {
  distinct = distinct_shown frames es tied.apart;
  few = subst (λ m. length (shown_pages frames es) ≤ m) tied.full (few_shown frames es);
  sized = sized_shown usable frames es tied.sized tied.within;
}
