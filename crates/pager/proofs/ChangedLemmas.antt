-- The changed pages while one comes, or is written.
use Rattle.std.proofs.Common.{◌≡◌, ◌==◌, ◌≤◌, ◌<◌, ◌+◌, ◌-◌, ◌⊎◌, ⊎_elim, ℕ, suc, zero, Bool, true, false, cond, List, [], ◌∷◌, ◌++◌, length, take, drop, Option, Some, None, is_some, refl, sym, ap, subst, ◌∙◌, arith, rules, length-append, length-take, length-drop}
use Rattle.std.specs.Prelude.{slice_index, unwrap_or, if◌then◌else◌}
use Rattle.std.specs.Option.{option_map}
use Rattle.std.specs.Prelude.{not}
use Rattle.std.proofs.lemmas.List.{drop-drop}
use Rattle.std.proofs.Math.ListN.{get_or-append}
use Rattle.std.proofs.Math.Seq.{get_or-append_seam, take-append_seam}
use Rattle.page_cache.specs.Lending.{laid_over}
use Rattle.page_cache.specs.Cache.{written_over}
use Rattle.page_cache.specs.Pages.{Page, HeldPages, held_page, held_bytes, is_held, changed, fresh_frame, without}
use Rattle.page_cache.proofs.CallerLemmas.{number_of}
use Rattle.pager.specs.Changed.{AreListed, Changed, IsListing, is_listed, with_bytes}
use Rattle.pager.specs.Held.{bytes_of_page}
use Rattle.pager.proofs.Filling.{same_number}
use Rattle.pager.proofs.Pins.{at_changed}

eqb-refl : (a : ℕ) → (a == a) ≡ true
eqb-refl a = search rules

-- ---- numbers

-- a number at an index is in the list
pub listed_at : (k : ℕ) (ms : List ℕ) → k < length ms → is_listed (slice_index ms k) ms ≡ true
listed_at k [] less = absurd (omega (arith, less))
listed_at zero (m ∷ ms) less = rw (eqb-refl m) refl
listed_at (suc k) (m ∷ ms) less = (elim (m == slice_index ms k) as (λ b. (if b then true else is_listed (slice_index ms k) ms) ≡ true) [
  | true ↦ refl
  | false ↦ listed_at k ms (omega (arith, less))
])

listed_more : (n x : ℕ) (ms : List ℕ) → is_listed n (ms ++ x ∷ []) ≡ (if x == n then true else is_listed n ms)
listed_more n x [] = refl
listed_more n x (m ∷ ms) = (elim (m == n) as (λ b. (if b then true else is_listed n (ms ++ x ∷ [])) ≡ (if x == n then true else (if b then true else is_listed n ms))) [
  | true ↦ (elim (x == n) as (λ b. true ≡ (if b then true else true)) [ true ↦ refl | false ↦ refl ])
  | false ↦ listed_more n x ms
])

-- ---- one page more

held_more : (n m usable : ℕ) (held : List Page) → is_held m (fresh_frame n usable ∷ held) ≡ (if n == m then true else is_held m held)
held_more n m usable held = (elim (n == m) as (λ b. is_some (cond b (Some (fresh_frame n usable)) (held_page m held)) ≡ (if b then true else is_held m held)) [
  | true ↦ refl
  | false ↦ refl
])

module _ (c : Changed) (n : ℕ) (listing : IsListing c) (from : 1 ≤ n) (to : n ≤ c.pages) (fresh : is_held n c.held ≡ false) (room : length c.numbers < c.frames) where
  abbrev more : List ℕ
  more = c.numbers ++ n ∷ []

  long : length more ≡ length c.numbers + 1
  long = length-append c.numbers (n ∷ [])

  before : (k : ℕ) → k < length c.numbers → slice_index more k ≡ slice_index c.numbers k
  before k less = get_or-append c.numbers (n ∷ []) 0 k less

  last : (k : ℕ) → k ≡ length c.numbers → slice_index more k ≡ n
  last k is = ap (λ (j : ℕ). slice_index more j) is ∙ get_or-append_seam c.numbers n [] 0

  place : (k : ℕ) → k < length more → (k < length c.numbers) ⊎ (k ≡ length c.numbers)
  place k less = search (rules, less, long)

  -- a number that is in the list already is another
  other : (k : ℕ) → k < length c.numbers → slice_index c.numbers k ≡ n → ⊥
  other k less same =
      let there : is_listed n c.numbers ≡ true = subst (λ (m : ℕ). is_listed m c.numbers ≡ true) same (listed_at k c.numbers less) in
      let held : is_held n c.held ≡ true = sym (listing.named n) ∙ there in
      cc

  pub listing_added : IsListing (record c { numbers = c.numbers ++ n ∷ []; held = fresh_frame n c.usable ∷ c.held })
  listing_added = record {
    in_range = λ k less. ⊎_elim
        (λ (old : k < length c.numbers). subst (λ (m : ℕ). (1 ≤ m) × (m ≤ c.pages)) (sym (before k old)) (listing.in_range k old))
        (λ (new : k ≡ length c.numbers). subst (λ (m : ℕ). (1 ≤ m) × (m ≤ c.pages)) (sym (last k new)) (from, to)) (place k less);
    apart = λ j k less in_list same. ⊎_elim
        (λ (old : k < length c.numbers). listing.apart j k less old (sym (before j (omega (arith, less, old))) ∙ same ∙ before k old))
        (λ (new : k ≡ length c.numbers). other j (omega (arith, less, new)) (sym (before j (omega (arith, less, new))) ∙ same ∙ last k new)) (place k in_list);
    named = λ m. listed_more m n c.numbers ∙ ap (λ (b : Bool). if n == m then true else b) (listing.named m) ∙ sym (held_more n m c.usable c.held);
    filled = long ∙ ap (λ (k : ℕ). k + 1) listing.filled ∙ omega arith;
    within = omega (arith, long, room);
    few = listing.few;
  }

-- ---- a page is written

module _ (n : ℕ) (w : List ℕ) where
  length_changed : (ps : List Page) → length (changed n (written_over w) ps) ≡ length ps
  length_changed [] = refl
  length_changed (p ∷ ps) = ap (λ (k : ℕ). suc k) (length_changed ps)

  some_map : (f : Page → Page) (o : Option Page) → is_some (option_map f o) ≡ is_some o
  some_map f None = refl
  some_map f (Some p) = refl

  pub held_written : (m : ℕ) (ps : List Page) → is_held m (changed n (written_over w) ps) ≡ is_held m ps
  held_written m ps = ap is_some (at_changed (written_over w) (λ p. refl) n m ps) ∙ some_map (λ p. cond (p.number == n) (written_over w p) p) (held_page m ps)

  pub listing_written : (c : Changed) → IsListing c → IsListing (record c { held = changed n (written_over w) c.held })
  listing_written c listing = record {
    in_range = listing.in_range;
    apart = listing.apart;
    named = λ m. listing.named m ∙ sym (held_written m c.held);
    filled = listing.filled ∙ sym (length_changed c.held);
    within = listing.within;
    few = listing.few;
  }

-- ---- the bytes of the pages

pub is_there : (n : ℕ) (ps : List Page) → is_some (held_bytes n ps) ≡ is_held n ps
is_there n ps = by_page (held_page n ps)
  where
    by_page : (o : Option Page) → is_some (option_map (λ page. page.bytes) o) ≡ is_some o
    by_page None = refl
    by_page (Some p) = refl

laid_full : (old w : List ℕ) → length w ≡ length old → laid_over old w ≡ w
laid_full old w same = subst (λ k. take k (w ++ drop (length w) old) ≡ w) same (take-append_seam w (drop (length w) old))

some_bytes : (x y : List ℕ) → Some x ≡ Some y → x ≡ y
some_bytes x y e = cc

written_here : (n : ℕ) (w x : List ℕ) (ps : List Page) (o : Option Page) → held_page n ps ≡ o → option_map (λ p. p.bytes) o ≡ Some x → length w ≡ length x
    → option_map (λ p. p.bytes) (option_map (λ p. cond (p.number == n) (written_over w p) p) o) ≡ Some w
written_here n w x ps None is there same = cc
written_here n w x ps (Some p) is there same = rw (number_of n ps p is) (ap (λ (l : List ℕ). Some l) (laid_full p.bytes w (same ∙ ap length (sym (some_bytes p.bytes x there)))))

not_written : (n m : ℕ) (w : List ℕ) (ps : List Page) (o : Option Page) → (m == n) ≡ false → held_page m ps ≡ o
    → option_map (λ p. p.bytes) (option_map (λ p. cond (p.number == n) (written_over w p) p) o) ≡ option_map (λ p. p.bytes) o
not_written n m w ps None other is = refl
not_written n m w ps (Some p) other is =
    let apart : (p.number == n) ≡ false = rw (same_number p.number m (number_of m ps p is)) other in rw apart refl

-- the page that is written has the new bytes, and each other page its own
pub bytes_written : (n : ℕ) (w x : List ℕ) (ps : List Page) → held_bytes n ps ≡ Some x → length w ≡ length x → (m : ℕ)
    → held_bytes m (changed n (written_over w) ps) ≡ (if m == n then Some w else held_bytes m ps)
bytes_written n w x ps there same m =
    ap (λ (o : Option Page). option_map (λ p. p.bytes) o) (at_changed (written_over w) (λ p. refl) n m ps)
    ∙ ((elim (m == n) as (λ y. (m == n) ≡ y → option_map (λ p. p.bytes) (option_map (λ p. cond (p.number == n) (written_over w p) p) (held_page m ps)) ≡ (if y then Some w else held_bytes m ps)) [
      | true ↦ λ t. subst (λ k. option_map (λ p. p.bytes) (option_map (λ p. cond (p.number == n) (written_over w p) p) (held_page k ps)) ≡ Some w)
          (sym (same_number m n t)) (written_here n w x ps (held_page n ps) refl there same)
      | false ↦ λ t. not_written n m w ps (held_page m ps) t refl
    ]) refl)

-- bytes that are copied into a range of a page
pub put_over : (at : ℕ) (src new page : List ℕ) → new ≡ src → take at page ++ (new ++ drop (at + length src - at) (drop at page)) ≡ with_bytes at src page
put_over at src new page same =
    let count : at + length src - at ≡ length src = omega arith in
    rw (same, count, drop-drop (length src) at page) refl

pub length_over : (at : ℕ) (src page : List ℕ) → at + length src ≤ length page → length (take at page ++ (src ++ drop (at + length src) page)) ≡ length page
length_over at src page within = omega (
  arith,
  within,
  length-append (take at page) (src ++ drop (at + length src) page),
  length-append src (drop (at + length src) page),
  length-take at page,
  length-drop (at + length src) page,
)

pub page_is : (n : ℕ) (x : List ℕ) (ps : List Page) → held_bytes n ps ≡ Some x → bytes_of_page n ps ≡ x
page_is n x ps there = ap (λ (o : Option (List ℕ)). unwrap_or o []) there

pub never : (o : Option (List ℕ)) → o ≡ None → is_some o ≡ true → ⊥
never None is some = cc
never (Some x) is some = cc

-- ---- the frames are freed

flipped : (a b : ℕ) → (a == b) ≡ false → (b == a) ≡ false
flipped a b other = search rules

pub all_listed : (ms : List ℕ) (ps : List Page) → ((m : ℕ) → is_held m ps ≡ true → is_listed m ms ≡ true) → AreListed ms ps
all_listed ms [] listed = tt
all_listed ms (p ∷ ps) listed = (listed p.number (rw (eqb-refl p.number) refl), all_listed ms ps (λ m is. listed m (later m is)))
  where
    later : (m : ℕ) → is_held m ps ≡ true → is_held m (p ∷ ps) ≡ true
    later m is = (elim (p.number == m) as (λ b. is_some (cond b (Some p) (held_page m ps)) ≡ true) [ true ↦ refl | false ↦ is ])

-- the first of the numbers leaves
pub listed_without : (n : ℕ) (ms : List ℕ) (ps : List Page) → AreListed (n ∷ ms) ps → AreListed ms (without n ps)
listed_without n ms [] all = tt
listed_without n ms (p ∷ ps) all = (elim (p.number == n) as (λ b. (p.number == n) ≡ b → AreListed ms (cond (not b) (p ∷ without n ps) (without n ps))) [
  | true ↦ λ t. listed_without n ms ps all.1
  | false ↦ λ t. (subst (λ (b : Bool). (if b then true else is_listed p.number ms) ≡ true) (flipped p.number n t) all.0, listed_without n ms ps all.1)
]) refl

-- with no number left, no page is held
pub listed_none : (ps : List Page) → AreListed [] ps → ps ≡ []
listed_none [] all = refl
listed_none (p ∷ ps) all = absurd (let is : false ≡ true = all.0 in cc)

-- nothing is held, and the sizes stay
pub emptied : (p q : HeldPages) → p.held ≡ [] → p.frames ≡ q.frames → p.usable ≡ q.usable → p ≡ record q { held = [] }
emptied p q none frames usable =
    ap (λ (ps : List Page). record p { held = ps }) none
    ∙ ap (λ (n : ℕ). record p { held = []; frames = n }) frames
    ∙ ap (λ (n : ℕ). record q { held = []; usable = n }) usable
