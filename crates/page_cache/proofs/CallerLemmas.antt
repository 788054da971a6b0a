-- What a caller's proof cites of the words in `specs/Pages.antt`.
use Rattle.std.proofs.Common.{◌≡◌, ℕ, ◌≤◌, ◌<◌, ◌==◌, true, false, cond, List, [], ◌∷◌, length, Option, Some, None, IsSome, is_some, replicate, refl, sym, ap, subst, ◌∙◌, arith, rules}
use Rattle.std.specs.List.{AllByRecursion}
use Rattle.std.specs.Option.{option_map, option_map_or, option_or}
use Rattle.page_cache.specs.Pages.{Page, is_held, held_page, held_bytes, without, moved_first, changed, last_unpinned, fresh_frame}

pub absent_without : (n v : ℕ) (ps : List Page) → held_page n ps ≡ None → held_page n (without v ps) ≡ None
absent_without n v [] absent = refl
absent_without n v (p ∷ ps) absent = (elim (p.number == n) as (λ y. (p.number == n) ≡ y → held_page n (without v (p ∷ ps)) ≡ None) [
  | true ↦ λ t. let absent' = rw t at absent in cc
  | false ↦ λ t. (elim (p.number == v) as (λ y. (p.number == v) ≡ y → held_page n (without v (p ∷ ps)) ≡ None) [
    | true ↦ λ u. rw u (absent_without n v ps (rw t at absent))
    | false ↦ λ u. rw u (rw t (absent_without n v ps (rw t at absent)))
  ]) refl
]) refl

few_without : (v : ℕ) (ps : List Page) → length (without v ps) ≤ length ps
few_without v [] = omega arith
few_without v (p ∷ ps) = let few = few_without v ps in (elim (p.number == v) as (λ y. (p.number == v) ≡ y → length (without v (p ∷ ps)) ≤ length (p ∷ ps)) [
  | true ↦ λ u. rw u (omega arith)
  | false ↦ λ u. rw u (omega arith)
]) refl

-- a page that leaves makes room
pub less_without : (v : ℕ) (ps : List Page) → IsSome (held_page v ps) → length (without v ps) < length ps
less_without v [] there = cc
less_without v (p ∷ ps) there = let few = few_without v ps in (elim (p.number == v) as (λ y. (p.number == v) ≡ y → length (without v (p ∷ ps)) < length (p ∷ ps)) [
  | true ↦ λ u. rw u (omega arith)
  | false ↦ λ u. let less = less_without v ps (rw u at there) in rw u (omega arith)
]) refl

eqb-refl : (a : ℕ) → (a == a) ≡ true
eqb-refl a = search rules

by_rest : (v : ℕ) (p : Page) (ps : List Page) → (last_unpinned ps ≡ Some v → IsSome (held_page v ps)) → (p.number == v) ≡ false → (o : Option ℕ) → last_unpinned ps ≡ o → option_or o (cond (p.pins == 0) (Some p.number) None) ≡ Some v → IsSome (held_page v ps)
by_rest v p ps rest other None same last = (elim (p.pins == 0) as (λ y. (p.pins == 0) ≡ y → IsSome (held_page v ps)) [
  | true ↦ λ t. let last' = rw t at last in let is : p.number ≡ v = cc in let yes = eqb-refl v in let no = rw is at other in cc
  | false ↦ λ t. let last' = rw t at last in cc
]) refl
by_rest v p ps rest other (Some w) same last = rest (same ∙ last)

-- the victim is held
pub victim_there : (v : ℕ) (ps : List Page) → last_unpinned ps ≡ Some v → IsSome (held_page v ps)
victim_there v [] last = cc
victim_there v (p ∷ ps) last = (elim (p.number == v) as (λ y. (p.number == v) ≡ y → IsSome (held_page v (p ∷ ps))) [
  | true ↦ λ t. rw t refl
  | false ↦ λ t. rw t (by_rest v p ps (victim_there v ps) t (last_unpinned ps) refl last)
]) refl

module _ (P : Page → Type 0) where
  pub all_without : (n : ℕ) (ps : List Page) → AllByRecursion P ps → AllByRecursion P (without n ps)
  all_without n [] all = tt
  all_without n (p ∷ ps) all = (elim (p.number == n) as (λ y. (p.number == n) ≡ y → AllByRecursion P (without n (p ∷ ps))) [
    | true ↦ λ t. rw t (all_without n ps all.1)
    | false ↦ λ t. rw t (all.0, all_without n ps all.1)
  ]) refl

  pub all_page_at : (n : ℕ) (ps : List Page) → AllByRecursion P ps → (p : Page) → held_page n ps ≡ Some p → P p
  all_page_at n [] all p there = cc
  all_page_at n (q ∷ ps) all p there = (elim (q.number == n) as (λ y. (q.number == n) ≡ y → P p) [
    | true ↦ λ t. let there' = rw t at there in let same : q ≡ p = cc in subst P same all.0
    | false ↦ λ t. all_page_at n ps all.1 p (rw t at there)
  ]) refl

  first_all : (n : ℕ) (ps : List Page) (o : Option Page) → held_page n ps ≡ o → AllByRecursion P ps → AllByRecursion P (option_map_or (λ p. p ∷ without n ps) o ps)
  first_all n ps None same all = all
  first_all n ps (Some p) same all = (all_page_at n ps all p same, all_without n ps all)

  pub all_moved_first : (n : ℕ) (ps : List Page) → AllByRecursion P ps → AllByRecursion P (moved_first n ps)
  all_moved_first n ps all = first_all n ps (held_page n ps) refl all

-- where page n is not held, nothing is changed or gone
pub changed_none : (n : ℕ) (change : Page → Page) (ps : List Page) → held_page n ps ≡ None → changed n change ps ≡ ps
changed_none n change [] absent = refl
changed_none n change (p ∷ ps) absent = (elim (p.number == n) as (λ y. (p.number == n) ≡ y → changed n change (p ∷ ps) ≡ p ∷ ps) [
  | true ↦ λ t. let absent' = rw t at absent in cc
  | false ↦ λ t. rw t (ap (λ qs. p ∷ qs) (changed_none n change ps (rw t at absent)))
]) refl

pub without_none : (n : ℕ) (ps : List Page) → held_page n ps ≡ None → without n ps ≡ ps
without_none n [] absent = refl
without_none n (p ∷ ps) absent = (elim (p.number == n) as (λ y. (p.number == n) ≡ y → without n (p ∷ ps) ≡ p ∷ ps) [
  | true ↦ λ t. let absent' = rw t at absent in cc
  | false ↦ λ t. rw t (ap (λ qs. p ∷ qs) (without_none n ps (rw t at absent)))
]) refl

-- a page that was placed just now, changed and taken out again
pub changed_fresh : (n usable : ℕ) (change : Page → Page) (ps : List Page) → held_page n ps ≡ None → changed n change (fresh_frame n usable ∷ ps) ≡ change (fresh_frame n usable) ∷ ps
changed_fresh n usable change ps absent = rw (eqb-refl n) (rw (changed_none n change ps absent) refl)

pub fresh_there : (n usable : ℕ) (ps : List Page) → held_page n (fresh_frame n usable ∷ ps) ≡ Some (fresh_frame n usable)
fresh_there n usable ps = rw (eqb-refl n) refl

pub fresh_held : (n usable : ℕ) (ps : List Page) → is_held n (fresh_frame n usable ∷ ps) ≡ true
fresh_held n usable ps = ap is_some (fresh_there n usable ps)

some_bytes : (x y : List ℕ) → Some x ≡ Some y → x ≡ y
some_bytes x y e = cc

pub fresh_bytes : (n usable : ℕ) (ps : List Page) (x : List ℕ) → held_bytes n (fresh_frame n usable ∷ ps) ≡ Some x → x ≡ replicate usable 0
fresh_bytes n usable ps x there = some_bytes x (replicate usable 0) (sym there ∙ ap (λ page. option_map (λ page. page.bytes) page) (fresh_there n usable ps))

pub without_fresh : (n : ℕ) (p : Page) (ps : List Page) → p.number ≡ n → held_page n ps ≡ None → without n (p ∷ ps) ≡ ps
without_fresh n p ps same absent = rw same (rw (eqb-refl n) (without_none n ps absent))

pub number_of : (n : ℕ) (ps : List Page) (p : Page) → held_page n ps ≡ Some p → (p.number == n) ≡ true
number_of n [] p there = cc
number_of n (q ∷ ps) p there = (elim (q.number == n) as (λ y. (q.number == n) ≡ y → (p.number == n) ≡ true) [
  | true ↦ λ t. let there' = rw t at there in let same : q ≡ p = cc in subst (λ x. (x.number == n) ≡ true) same t
  | false ↦ λ t. number_of n ps p (rw t at there)
]) refl

first_held : (n : ℕ) (ps : List Page) (o : Option Page) → held_page n ps ≡ o → is_some o ≡ true → is_some (held_page n (option_map_or (λ p. p ∷ without n ps) o ps)) ≡ true
first_held n ps None same there = cc
first_held n ps (Some p) same there = rw (number_of n ps p same) refl

-- a page that is moved to the front is still held
pub held_first : (n : ℕ) (ps : List Page) → is_held n ps ≡ true → is_held n (moved_first n ps) ≡ true
held_first n ps there = first_held n ps (held_page n ps) refl there

none_by : (o : Option Page) → is_some o ≡ false → o ≡ None
none_by None nothing = refl
none_by (Some p) nothing = cc

pub not_held : (n : ℕ) (ps : List Page) → is_held n ps ≡ false → held_page n ps ≡ None
not_held n ps nothing = none_by (held_page n ps) nothing

pub all_changed : (P : Page → Type 0) (n : ℕ) (change : Page → Page) → ((p : Page) → P p → P (change p)) → (ps : List Page) → AllByRecursion P ps → AllByRecursion P (changed n change ps)
all_changed P n change keeps [] all = tt
all_changed P n change keeps (p ∷ ps) all = (elim (p.number == n) as (λ y. (p.number == n) ≡ y → AllByRecursion P (changed n change (p ∷ ps))) [
  | true ↦ λ t. rw t (keeps p all.0, all_changed P n change keeps ps all.1)
  | false ↦ λ t. rw t (all.0, all_changed P n change keeps ps all.1)
]) refl
