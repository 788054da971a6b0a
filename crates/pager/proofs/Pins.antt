-- The pins of pages, and what is lent, while pages come and go.
use Rattle.std.proofs.Math.Path.{fun_ext}
use Rattle.std.proofs.Common.{◌≡◌, ◌==◌, ℕ, Bool, IsSome, ◌+◌, ◌-◌, ◌⊎◌, inl, inr, true, false, not, cond, List, [], ◌∷◌, map, Option, Some, None, nat_eq, is_some, refl, sym, ap, subst, ◌∙◌, rules}
use Rattle.std.specs.Prelude.{if◌then◌else◌, nat_lt, unwrap_or}
use Rattle.std.specs.List.{AllByRecursion, IsDistinct}
use Rattle.std.specs.Option.{option_map, option_map_or, option_or}
use Rattle.page_cache.specs.Cache.{written_over}
use Rattle.page_cache.specs.Pages.{Page, HeldPages, held_page, pins_at, is_held, has_pin, without, moved_first, changed, last_unpinned, fresh_frame, pin_more, pin_less}
use Rattle.page_cache.proofs.CallerLemmas.{changed_none, not_held, number_of, victim_there}
use Rattle.db_format.specs.Source.{one_more, one_less}
use Rattle.pager.specs.Held.{HasRoom, bytes_of_page, pins_of}
use Rattle.pager.proofs.Filling.{same_number, changed_new, gone_again}

eqb-refl : (a : ℕ) → (a == a) ≡ true
eqb-refl a = search rules

-- ---- another page than the one that is let go

pub at_without : (n m : ℕ) (ps : List Page) → (n == m) ≡ false → held_page m (without n ps) ≡ held_page m ps
at_without n m [] apart = refl
at_without n m (p ∷ ps) apart = (elim (p.number == n) as (λ y. (p.number == n) ≡ y → held_page m (without n (p ∷ ps)) ≡ held_page m (p ∷ ps)) [
  | true ↦ λ t. let other : (p.number == m) ≡ false = rw (same_number p.number n t) apart in rw t (rw other (at_without n m ps apart))
  | false ↦ λ t. rw t (elim (p.number == m) as (λ z. cond z (Some p) (held_page m (without n ps)) ≡ cond z (Some p) (held_page m ps)) [
    | true ↦ refl
    | false ↦ at_without n m ps apart
  ])
]) refl

first_at : (n m : ℕ) (ps : List Page) (o : Option Page) → held_page n ps ≡ o → held_page m (option_map_or (λ p. p ∷ without n ps) o ps) ≡ held_page m ps
first_at n m ps None same = refl
first_at n m ps (Some p) same = (elim (n == m) as (λ y. (n == m) ≡ y → held_page m (p ∷ without n ps) ≡ held_page m ps) [
  | true ↦ λ t. let is = same_number n m t in subst (λ k. held_page k (p ∷ without n ps) ≡ held_page k ps) is (rw (number_of n ps p same) (sym same))
  | false ↦ λ t. let other : (p.number == m) ≡ false = rw (same_number p.number n (number_of n ps p same)) t in rw other (at_without n m ps t)
]) refl

-- each page is there as before, where one is moved to the front
pub at_moved_first : (n m : ℕ) (ps : List Page) → held_page m (moved_first n ps) ≡ held_page m ps
at_moved_first n m ps = first_at n m ps (held_page n ps) refl

pub pins_moved_first : (n : ℕ) (ps : List Page) → pins_of (moved_first n ps) ≡ pins_of ps
pins_moved_first n ps = fun_ext (λ m. ap (λ (o : Option Page). option_map_or (λ page. page.pins) o 0) (at_moved_first n m ps))

-- ---- the page that is let go

pub gone_at : (n : ℕ) (ps : List Page) → held_page n (without n ps) ≡ None
gone_at n [] = refl
gone_at n (p ∷ ps) = (elim (p.number == n) as (λ y. (p.number == n) ≡ y → held_page n (without n (p ∷ ps)) ≡ None) [
  | true ↦ λ t. rw t (gone_at n ps)
  | false ↦ λ t. rw t (rw t (gone_at n ps))
]) refl

other_number : (a n : ℕ) (ps : List Page) → AllByRecursion (λ y. nat_eq a y ≡ false) (map (λ page. page.number) ps) → IsSome (held_page n ps) → (a == n) ≡ false
other_number a n [] apart there = cc
other_number a n (p ∷ ps) apart there = (elim (p.number == n) as (λ y. (p.number == n) ≡ y → (a == n) ≡ false) [
  | true ↦ λ t. subst (λ k. (a == k) ≡ false) (same_number p.number n t) apart.0
  | false ↦ λ t. other_number a n ps apart.1 (rw t at there)
]) refl

some_number : (m n : ℕ) → Some m ≡ Some n → m ≡ n
some_number m n is = cc

by_head : (v : ℕ) (p : Page) (ps : List Page) → (b : Bool) → (p.pins == 0) ≡ b → cond b (Some p.number) None ≡ Some v → pins_at v (p ∷ ps) ≡ 0
by_head v p ps true free last = let is : p.number ≡ v = some_number p.number v last in rw is (rw (eqb-refl v) (same_number p.pins 0 free))
by_head v p ps false free last = cc

by_tail : (v : ℕ) (p : Page) (ps : List Page) → (o : Option ℕ) → last_unpinned ps ≡ o → option_or o (cond (p.pins == 0) (Some p.number) None) ≡ Some v
    → AllByRecursion (λ y. nat_eq p.number y ≡ false) (map (λ page. page.number) ps) → (last_unpinned ps ≡ Some v → pins_at v ps ≡ 0) → pins_at v (p ∷ ps) ≡ 0
by_tail v p ps None same last apart rest = by_head v p ps (p.pins == 0) refl last
by_tail v p ps (Some w) same last apart rest =
    let other = other_number p.number v ps apart (victim_there v ps (same ∙ last)) in rw other (rest (same ∙ last))

-- the victim has no pin
pub victim_pins : (v : ℕ) (ps : List Page) → last_unpinned ps ≡ Some v → IsDistinct nat_eq (map (λ page. page.number) ps) → pins_at v ps ≡ 0
unfolding IsDistinct
victim_pins v [] last distinct = cc
victim_pins v (p ∷ ps) last distinct = by_tail v p ps (last_unpinned ps) refl last distinct.0 (λ is. victim_pins v ps is distinct.1)

pins_left : (v m : ℕ) (ps : List Page) → pins_at v ps ≡ 0 → pins_at m (without v ps) ≡ pins_at m ps
pins_left v m ps none = (elim (v == m) as (λ y. (v == m) ≡ y → pins_at m (without v ps) ≡ pins_at m ps) [
  | true ↦ λ t. subst (λ k. pins_at k (without v ps) ≡ pins_at k ps) (same_number v m t)
      (ap (λ (o : Option Page). option_map_or (λ page. page.pins) o 0) (gone_at v ps) ∙ sym none)
  | false ↦ λ t. ap (λ (o : Option Page). option_map_or (λ page. page.pins) o 0) (at_without v m ps t)
]) refl

-- ---- the pages that stay, and the one that comes

rest_pins : (held rest : List Page) (m : ℕ) → (rest ≡ held) ⊎ ((v : ℕ) × (last_unpinned held ≡ Some v) × (rest ≡ without v held))
    → IsDistinct nat_eq (map (λ page. page.number) held) → pins_at m rest ≡ pins_at m held
rest_pins held rest m (inl same) distinct = ap (λ ps. pins_at m ps) same
rest_pins held rest m (inr gone) distinct = ap (λ ps. pins_at m ps) gone.2 ∙ pins_left gone.0 m held (victim_pins gone.0 held gone.1 distinct)

none_pins : (o : Option Page) → o ≡ None → option_map_or (λ page. page.pins) o 0 ≡ 0
none_pins None is = refl
none_pins (Some p) is = cc

-- a page without pins comes first
come_pins : (n m : ℕ) (p : Page) (ps : List Page) → p.number ≡ n → p.pins ≡ 0 → held_page n ps ≡ None → pins_at m (p ∷ ps) ≡ pins_at m ps
come_pins n m p ps number pins absent = (elim (p.number == m) as (λ y. (p.number == m) ≡ y → pins_at m (p ∷ ps) ≡ pins_at m ps) [
  | true ↦ λ t. rw t (pins ∙ sym (subst (λ k. pins_at k ps ≡ 0) (sym number ∙ same_number p.number m t) (none_pins (held_page n ps) absent)))
  | false ↦ λ t. rw t refl
]) refl

pub pins_filled : (n : ℕ) (old new : HeldPages) (w : List ℕ) → HasRoom n old new → IsDistinct nat_eq (map (λ page. page.number) old.held) → pins_of (changed n (written_over w) new.held) ≡ pins_of old.held
pins_filled n old new w room distinct = fun_ext (λ m.
    ap (λ (ps : List Page). pins_at m ps) (changed_new n old new w room)
    ∙ come_pins n m (written_over w (fresh_frame n old.usable)) room.rest refl refl room.absent
    ∙ rest_pins old.held room.rest m room.others distinct)

pub pins_gone : (n : ℕ) (old new : HeldPages) (w : List ℕ) → HasRoom n old new → IsDistinct nat_eq (map (λ page. page.number) old.held) → pins_of (without n (changed n (written_over w) new.held)) ≡ pins_of old.held
pins_gone n old new w room distinct = fun_ext (λ m.
    ap (λ (ps : List Page). pins_at m ps) (gone_again n old new w room) ∙ rest_pins old.held room.rest m room.others distinct)

-- ---- one pin more or less

abbrev some_page : Page → Option Page
some_page p = Some p

module _ (change : Page → Page) (keeps : (p : Page) → (change p).number ≡ p.number) where
  -- what stands at a number whose page may be changed
  abbrev at : ℕ → Option Page → Option Page
  at n o = option_map (λ p. cond (p.number == n) (change p) p) o

  at_true : (n m : ℕ) (p : Page) (ps : List Page) (c : Bool) → (p.number == n) ≡ true → held_page m (changed n change ps) ≡ at n (held_page m ps)
      → cond c (Some (change p)) (held_page m (changed n change ps)) ≡ at n (cond c (Some p) (held_page m ps))
  at_true n m p ps true t rest = sym (ap (λ (b : Bool). some_page (cond b (change p) p)) t)
  at_true n m p ps false t rest = rest

  at_false : (n m : ℕ) (p : Page) (ps : List Page) (c : Bool) → (p.number == n) ≡ false → held_page m (changed n change ps) ≡ at n (held_page m ps)
      → cond c (Some p) (held_page m (changed n change ps)) ≡ at n (cond c (Some p) (held_page m ps))
  at_false n m p ps true t rest = sym (ap (λ (b : Bool). some_page (cond b (change p) p)) t)
  at_false n m p ps false t rest = rest

  at_head : (n m : ℕ) (p : Page) (ps : List Page) (b c : Bool) → (p.number == n) ≡ b → (p.number == m) ≡ c → held_page m (changed n change ps) ≡ at n (held_page m ps)
      → held_page m (changed n change (p ∷ ps)) ≡ at n (held_page m (p ∷ ps))
  at_head n m p ps true c t u rest =
      ap (λ (b : Bool). held_page m (cond b (change p) p ∷ changed n change ps)) t
      ∙ ap (λ (k : ℕ). cond (k == m) (Some (change p)) (held_page m (changed n change ps))) (keeps p)
      ∙ ap (λ (b : Bool). cond b (Some (change p)) (held_page m (changed n change ps))) u
      ∙ at_true n m p ps c t rest
      ∙ sym (ap (λ (b : Bool). at n (cond b (Some p) (held_page m ps))) u)
  at_head n m p ps false c t u rest =
      ap (λ (b : Bool). held_page m (cond b (change p) p ∷ changed n change ps)) t
      ∙ ap (λ (b : Bool). cond b (Some p) (held_page m (changed n change ps))) u
      ∙ at_false n m p ps c t rest
      ∙ sym (ap (λ (b : Bool). at n (cond b (Some p) (held_page m ps))) u)

  pub at_changed : (n m : ℕ) (ps : List Page) → held_page m (changed n change ps) ≡ option_map (λ p. cond (p.number == n) (change p) p) (held_page m ps)
  at_changed n m [] = refl
  at_changed n m (p ∷ ps) = at_head n m p ps (p.number == n) (p.number == m) refl refl (at_changed n m ps)

bytes_changed : (n : ℕ) (change : Page → Page) → ((p : Page) → (change p).bytes ≡ p.bytes) → (o : Option Page)
    → unwrap_or (option_map (λ p. p.bytes) (option_map (λ p. cond (p.number == n) (change p) p) o)) [] ≡ unwrap_or (option_map (λ p. p.bytes) o) []
bytes_changed n change same None = refl
bytes_changed n change same (Some p) = elim (p.number == n) as (λ z. (cond z (change p) p).bytes ≡ p.bytes) [ true ↦ same p | false ↦ refl ]

bytes_kept : (change : Page → Page) → ((p : Page) → (change p).number ≡ p.number) → ((p : Page) → (change p).bytes ≡ p.bytes)
    → (n m : ℕ) (held : List Page) → bytes_of_page m (changed n change held) ≡ bytes_of_page m held
bytes_kept change keeps same n m held =
    ap (λ (o : Option Page). unwrap_or (option_map (λ p. p.bytes) o) []) (at_changed change keeps n m held) ∙ bytes_changed n change same (held_page m held)

-- a pin is no part of what is lent
pub bytes_pinned : (n m : ℕ) (held : List Page) → bytes_of_page m (changed n pin_more held) ≡ bytes_of_page m held
bytes_pinned n m held = bytes_kept pin_more (λ p. refl) (λ p. refl) n m held

pub bytes_unpinned : (n m : ℕ) (held : List Page) → bytes_of_page m (changed n pin_less held) ≡ bytes_of_page m held
bytes_unpinned n m held = bytes_kept pin_less (λ p. refl) (λ p. refl) n m held

module _ (change : Page → Page) (count : ℕ → ℕ) (keeps : (p : Page) → (change p).number ≡ p.number) (counts : (p : Page) → (change p).pins ≡ count p.pins) where
  at_same : (n : ℕ) (held : List Page) (o : Option Page) → held_page n held ≡ o → is_some o ≡ true
      → option_map_or (λ p. p.pins) (option_map (λ p. cond (p.number == n) (change p) p) o) 0 ≡ count (option_map_or (λ p. p.pins) o 0)
  at_same n held None is there = cc
  at_same n held (Some p) is there = rw (number_of n held p is) (counts p)

  at_other : (n m : ℕ) (held : List Page) (o : Option Page) → (m == n) ≡ false → held_page m held ≡ o
      → option_map_or (λ p. p.pins) (option_map (λ p. cond (p.number == n) (change p) p) o) 0 ≡ option_map_or (λ p. p.pins) o 0
  at_other n m held None other is = refl
  at_other n m held (Some p) other is =
      let apart : (p.number == n) ≡ false = rw (same_number p.number m (number_of m held p is)) other in rw apart refl

  -- the pins of each page, where those of page n, which is held, are changed
  pub pins_changed : (n m : ℕ) (held : List Page) → is_held n held ≡ true → pins_at m (changed n change held) ≡ (if m == n then count (pins_at m held) else pins_at m held)
  pins_changed n m held there =
      ap (λ (o : Option Page). option_map_or (λ p. p.pins) o 0) (at_changed change keeps n m held)
      ∙ ((elim (m == n) as (λ y. (m == n) ≡ y → option_map_or (λ p. p.pins) (option_map (λ p. cond (p.number == n) (change p) p) (held_page m held)) 0
      ≡ (if y then count (pins_at m held) else pins_at m held)) [
        | true ↦ λ t. subst (λ k. option_map_or (λ p. p.pins) (option_map (λ p. cond (p.number == n) (change p) p) (held_page k held)) 0 ≡ count (pins_at k held))
            (sym (same_number m n t)) (at_same n held (held_page n held) refl there)
        | false ↦ λ t. at_other n m held (held_page m held) t refl
      ]) refl)

pub pins_more : (n : ℕ) (held : List Page) → pins_of (changed n pin_more held) ≡ (if is_held n held then one_more n (pins_of held) else pins_of held)
pins_more n held = (elim (is_held n held) as (λ y. is_held n held ≡ y → pins_of (changed n pin_more held) ≡ (if y then one_more n (pins_of held) else pins_of held)) [
  | true ↦ λ there. fun_ext (λ m. pins_changed pin_more (λ k. k + 1) (λ p. refl) (λ p. refl) n m held there)
  | false ↦ λ gone. ap pins_of (changed_none n pin_more held (not_held n held gone))
]) refl

positive : (k : ℕ) → nat_lt 0 k ≡ not (k == 0)
positive k = search rules

had_pin : (o : Option Page) → nat_lt 0 (option_map_or (λ p. p.pins) o 0) ≡ option_map_or (λ p. not (p.pins == 0)) o false
had_pin None = refl
had_pin (Some p) = positive p.pins

-- a page has a pin where it has more than none
pub has_pins : (n : ℕ) (held : List Page) → has_pin n held ≡ nat_lt 0 (pins_of held n)
has_pins n held = sym (had_pin (held_page n held))

no_pins : (k : ℕ) → nat_lt 0 k ≡ false → k ≡ 0
no_pins k none = search rules

none_less : (n : ℕ) (pins : ℕ → ℕ) → pins n ≡ 0 → pins ≡ one_less n pins
none_less n pins none = fun_ext (λ m. (elim (m == n) as (λ y. (m == n) ≡ y → pins m ≡ (if y then pins m - 1 else pins m)) [
  | true ↦ λ t. let zero : pins m ≡ 0 = ap pins (same_number m n t) ∙ none in rw zero refl
  | false ↦ λ t. refl
]) refl)

less_one : (n : ℕ) (held : List Page) → pins_of (changed n pin_less held) ≡ one_less n (pins_of held)
less_one n held = (elim (is_held n held) as (λ y. is_held n held ≡ y → pins_of (changed n pin_less held) ≡ one_less n (pins_of held)) [
  | true ↦ λ there. fun_ext (λ m. pins_changed pin_less (λ k. k - 1) (λ p. refl) (λ p. refl) n m held there)
  | false ↦ λ gone. ap pins_of (changed_none n pin_less held (not_held n held gone))
      ∙ none_less n (pins_of held) (none_pins (held_page n held) (not_held n held gone))
]) refl

pub pins_less : (n : ℕ) (held : List Page) → pins_of (changed n pin_less held) ≡ (if has_pin n held then one_less n (pins_of held) else pins_of held)
pins_less n held = less_one n held ∙ ((elim (has_pin n held) as (λ y. has_pin n held ≡ y → one_less n (pins_of held) ≡ (if y then one_less n (pins_of held) else pins_of held)) [
  | true ↦ λ had. refl
  | false ↦ λ none. sym (none_less n (pins_of held) (no_pins (pins_of held n) (sym (has_pins n held) ∙ none)))
]) refl)
