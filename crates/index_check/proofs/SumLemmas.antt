-- The counts of all windows are those of the whole.
use Rattle.std.proofs.Common.{◌≡◌, ◌<◌, ◌≤◌, ◌+◌, ◌-◌, ◌^◌, ℕ, zero, suc, ℤ, pos, negsuc, Bool, true, false, not, ◌||◌, ◌&&◌, cond, List, [], ◌∷◌, ◌++◌, length, take, slice_index_or, Option, Some, None, arith, refl, ap, sym, subst, ◌∙◌, true≢false}
use Rattle.std.specs.Prelude.{filter, flat_map, int_lt, nat_lt, option_to_list}
use Rattle.std.specs.Int.{w64}
use Rattle.std.specs.Ordering.{int_eq}
use mir.Val.{SFits}
use Rattle.std.proofs.lemmas.Int.{ints}
use Rattle.std.proofs.lemmas.List.{length-append}
use Rattle.std.proofs.lemmas.List.Elements.{filter_passes}
use Rattle.index_check.specs.Agree.{has_entry, has_row, missing, strangers}
use Rattle.index_check.specs.Checked.{AreCounted, IsRising}
use Rattle.index_check.specs.Window.{IsPart, IsWindow, covers, high, high_of, is_above, is_upto, is_within, room}
use Rattle.index_check.specs.declared.part.Part.{Part}
use Rattle.index_check.specs.declared.rowids.Rowids.{Rowids}
use Rattle.index_check.specs.declared.window.Window.{Window}
use Rattle.index_check.proofs.LeastLemmas.{count_parts, least-append, least_parts}
use Rattle.index_check.proofs.WindowLemmas.{long_take, rising_filter, within_take, window_rows}

-- ---- filters of filters

filter_short : (p : ℤ → Bool) (xs : List ℤ) → length (filter p xs) ≤ length xs
filter_short p [] = omega arith
filter_short p (x ∷ xs) = first (p x) (filter_short p xs)
  where
    first : (b : Bool) → length (filter p xs) ≤ length xs → length (cond b (x ∷ filter p xs) (filter p xs)) ≤ length (x ∷ xs)
    first true rest = omega (arith, rest)
    first false rest = omega (arith, rest)

-- two tests in the other order
swapped : (p q : ℤ → Bool) (xs : List ℤ) → filter p (filter q xs) ≡ filter q (filter p xs)
swapped p q [] = refl
swapped p q (x ∷ xs) = first (p x) refl (q x) refl (swapped p q xs)
  where
    first : (b : Bool) → p x ≡ b → (c : Bool) → q x ≡ c → filter p (filter q xs) ≡ filter q (filter p xs) → filter p (filter q (x ∷ xs)) ≡ filter q (filter p (x ∷ xs))
    first true e true f rest = rw (e, f, e) (ap (λ l. x ∷ l) rest)
    first true e false f rest = rw (e, f) rest
    first false e true f rest = rw (e, f, e) rest
    first false e false f rest = rw (e, f) rest

-- two tests that agree where a third passes
agreeing : (q p r : ℤ → Bool) → ((x : ℤ) → q x ≡ true → p x ≡ r x) → (xs : List ℤ) → filter q (filter p xs) ≡ filter q (filter r xs)
agreeing q p r same [] = refl
agreeing q p r same (x ∷ xs) = first (q x) refl (p x) refl (r x) refl (agreeing q p r same xs)
  where
    first : (a : Bool) → q x ≡ a → (b : Bool) → p x ≡ b → (c : Bool) → r x ≡ c → filter q (filter p xs) ≡ filter q (filter r xs) → filter q (filter p (x ∷ xs)) ≡ filter q (filter r (x ∷ xs))
    first true d true e true f rest = rw (e, f, d) (ap (λ l. x ∷ l) rest)
    first true d false e false f rest = rw (e, f) rest
    first true d true e false f rest = absurd (true≢false (sym e ∙ same x d ∙ f))
    first true d false e true f rest = absurd (true≢false (sym f ∙ sym (same x d) ∙ e))
    first false d true e true f rest = rw (e, f, d) rest
    first false d true e false f rest = rw (e, f, d) rest
    first false d false e true f rest = rw (e, f, d) rest
    first false d false e false f rest = rw (e, f) rest

-- a row that passes a test is found among those that pass
kept_row : (c : ℤ → Bool) (rows : List ℤ) (x : ℤ) → c x ≡ true → has_row (filter c rows) (Some x) ≡ has_row rows (Some x)
kept_row c [] x over = refl
kept_row c (r ∷ rows) x over = first (c r) refl (int_eq x r) refl (kept_row c rows x over)
  where
    same : (x r : ℤ) → int_eq x r ≡ true → x ≡ r
    same x r e = grind (arith, ints)

    first : (b : Bool) → c r ≡ b → (e : Bool) → int_eq x r ≡ e → has_row (filter c rows) (Some x) ≡ has_row rows (Some x) → has_row (filter c (r ∷ rows)) (Some x) ≡ has_row (r ∷ rows) (Some x)
    first true is e f rest = rw is (ap (λ b. int_eq x r || b) rest)
    first false is true f rest = absurd (true≢false (sym over ∙ ap c (same x r f) ∙ is))
    first false is false f rest = rw (is, f) rest

-- ---- one window more

-- the rowid was decided by the windows before
abbrev pub is_done : Option ℤ → ℤ → Bool
is_done above rowid = not (is_above above rowid)

apart : (above : Option ℤ) (upto : Option ℤ) (x : ℤ) → is_done above x ≡ true → is_within above upto x ≡ false
apart above upto x e = first (is_above above x) e
  where
    first : (b : Bool) → not b ≡ true → (b && is_upto upto x) ≡ false
    first true e = absurd (true≢false (sym e))
    first false e = refl

last_one : (above : Option ℤ) (x : ℤ) → true ≡ (is_done above x || is_within above None x)
last_one above x = first (is_above above x)
  where
    first : (b : Bool) → true ≡ (not b || (b && true))
    first true = refl
    first false = refl

later : (a h x : ℤ) → int_lt a h ≡ true → int_lt a x ≡ false → int_lt h x ≡ false
later a h x e f = grind (arith, ints)

next_one : (above : Option ℤ) (h x : ℤ) → is_above above h ≡ true → is_done (Some h) x ≡ (is_done above x || is_within above (Some h) x)
next_one None h x over = refl
next_one (Some a) h x over = first (int_lt a x) refl
  where
    first : (b : Bool) → int_lt a x ≡ b → not (int_lt h x) ≡ (not (int_lt a x) || (int_lt a x && not (int_lt h x)))
    first true e = rw e refl
    first false e = rw (e, later a h x over e) refl

-- the counts of two parts of a list are those of both
joined : (p q r : ℤ → Bool) → ((x : ℤ) → r x ≡ (p x || q x)) → ((x : ℤ) → p x ≡ true → q x ≡ false) → (all : List ℤ) (a b both : Rowids) → length all < 2 ^ 64
    → ((first second : List ℤ) → length (first ++ second) < 2 ^ 64 → AreCounted first a → AreCounted second b → AreCounted (first ++ second) both)
    → AreCounted (filter p all) a → AreCounted (filter q all) b → AreCounted (filter r all) both
joined p q r either parted all a b both few join one two =
    let size : length (filter p all ++ filter q all) ≡ length (filter r all) = length-append (filter p all) (filter q all) ∙ sym (count_parts p q r either parted all) in
    let are : AreCounted (filter p all ++ filter q all) both = join (filter p all) (filter q all) (omega (arith, size, filter_short r all)) one two in
    record {
      count_is = are.count_is ∙ size;
      least_is = are.least_is ∙ least-append (filter p all) (filter q all) ∙ sym (least_parts p q r either parted all);
    }

-- what was counted beside the windows before
pub record AreSoFar (rows : List ℤ) (owners : List (Option ℤ)) (above : Option ℤ) (lost strange : Rowids) : Type 0 where
  pub missing_are : AreCounted (filter (is_done above) (missing rows owners)) lost
  pub strangers_are : AreCounted (filter (is_done above) (strangers rows owners)) strange

none_pass : (xs : List ℤ) → filter (λ (x : ℤ). false) xs ≡ []
none_pass [] = refl
none_pass (x ∷ xs) = none_pass xs

pub none_so_far : (rows : List ℤ) (owners : List (Option ℤ)) (lost strange : Rowids) → AreCounted [] lost → AreCounted [] strange → AreSoFar rows owners None lost strange
none_so_far rows owners lost strange a b = record {
  missing_are = subst (λ (l : List ℤ). AreCounted l lost) (sym (none_pass (missing rows owners))) a;
  strangers_are = subst (λ (l : List ℤ). AreCounted l strange) (sym (none_pass (strangers rows owners))) b;
}

owned_short : (owners : List (Option ℤ)) → length (flat_map option_to_list owners) ≤ length owners
owned_short [] = omega arith
owned_short (None ∷ os) = omega (arith, owned_short os)
owned_short (Some x ∷ os) = omega (arith, owned_short os)

-- the parts of a window, as parts of the whole
module _ (rows : List ℤ) (owners : List (Option ℤ)) (window : Window) (part : Part) (up : IsRising rows) (is : IsWindow rows window) (has : IsPart window owners part) where
  rows_within : window.rowids.items ≡ filter (covers window) rows
  rows_within =
      is.rowids_are ∙ window_rows window.above rows window.more up is.more_is
      ∙ ap (λ (l : List ℤ). filter (is_within window.above (high_of window.more l)) rows) (sym is.rowids_are)

  missing_within : AreCounted (filter (covers window) (missing rows owners)) part.missing
  missing_within =
      subst (λ (l : List ℤ). AreCounted l part.missing)
      (ap (λ (l : List ℤ). missing l owners) rows_within ∙ swapped (λ rowid. not (has_entry owners rowid)) (covers window) rows) has.missing_are

  strangers_within : AreCounted (filter (covers window) (strangers rows owners)) part.strangers
  strangers_within =
      subst (λ (l : List ℤ). AreCounted l part.strangers)
      (ap (λ (l : List ℤ). filter (covers window) (strangers l owners)) rows_within
      ∙ agreeing (covers window) (λ x. not (has_row (filter (covers window) rows) (Some x))) (λ x. not (has_row rows (Some x)))
      (λ x over. ap not (kept_row (covers window) rows x over)) (flat_map option_to_list owners)) has.strangers_are

  few_missing : window.rows < 2 ^ 64 → length (missing rows owners) < 2 ^ 64
  few_missing few = omega (arith, is.rows_are, filter_short (λ rowid. not (has_entry owners rowid)) rows)

  few_strangers : part.entries < 2 ^ 64 → length (strangers rows owners) < 2 ^ 64
  few_strangers few = omega (arith, has.entries_are, owned_short owners, filter_short (λ rowid. not (has_row rows (Some rowid))) (flat_map option_to_list owners))

  module _ (lost strange more_lost more_strange : Rowids) (so : AreSoFar rows owners window.above lost strange) (few : window.rows < 2 ^ 64) (few_entries : part.entries < 2 ^ 64)
      (join_lost : (first second : List ℤ) → length (first ++ second) < 2 ^ 64 → AreCounted first lost → AreCounted second part.missing → AreCounted (first ++ second) more_lost)
      (join_strange : (first second : List ℤ) → length (first ++ second) < 2 ^ 64 → AreCounted first strange → AreCounted second part.strangers → AreCounted (first ++ second) more_strange) where
    with_next : (r : ℤ → Bool) → ((x : ℤ) → r x ≡ (is_done window.above x || covers window x)) → AreCounted (filter r (missing rows owners)) more_lost × AreCounted (filter r (strangers rows owners)) more_strange
    with_next r either = (
      joined (is_done window.above) (covers window) r either (apart window.above (high window)) (missing rows owners) lost part.missing more_lost (few_missing few) join_lost so.missing_are missing_within,
      joined (is_done window.above) (covers window) r either (apart window.above (high window)) (strangers rows owners) strange part.strangers more_strange (few_strangers few_entries) join_strange so.strangers_are strangers_within,
    )

    -- there is a window behind it
    pub so_far_more : (h : ℤ) → high window ≡ Some h → is_above window.above h ≡ true → AreSoFar rows owners (Some h) more_lost more_strange
    so_far_more h e over =
        let both = with_next (is_done (Some h)) (λ x. next_one window.above h x over ∙ ap (λ (u : Option ℤ). is_done window.above x || is_within window.above u x) (sym e)) in
        record { missing_are = both.0; strangers_are = both.1 }

    every : (xs : List ℤ) → filter (λ (x : ℤ). true) xs ≡ xs
    every [] = refl
    every (x ∷ xs) = ap (λ l. x ∷ l) (every xs)

    -- it is the last
    pub so_far_all : high window ≡ None → AreCounted (missing rows owners) more_lost × AreCounted (strangers rows owners) more_strange
    so_far_all e =
        let both = with_next (λ x. true) (λ x. last_one window.above x ∙ ap (λ (u : Option ℤ). is_done window.above x || is_within window.above u x) (sym e)) in (
          subst (λ (l : List ℤ). AreCounted l more_lost) (every (missing rows owners)) both.0,
          subst (λ (l : List ℤ). AreCounted l more_strange) (every (strangers rows owners)) both.1,
        )

-- ---- what holds of a window, where pages are told or not

more_than : (n : ℕ) → true ≡ nat_lt room n → room < n
more_than n e = grind arith

module _ (rows : List ℤ) (window : Window) (up : IsRising rows) (is : IsWindow rows window) where
  rising_take : (n : ℕ) (xs : List ℤ) → IsRising xs → IsRising (take n xs)
  rising_take n xs rise i j d less l =
      let inside : j < n = taken_few n xs j l in
      let within : j < length xs = taken_in n xs j l in
      ap (λ y. int_lt y (slice_index_or (take n xs) j d)) (within_take n xs i d (omega arith)) ∙ ap (int_lt (slice_index_or xs i d)) (within_take n xs j d inside) ∙ rise i j d less within
    where
      taken_few : (n : ℕ) (xs : List ℤ) (j : ℕ) → j < length (take n xs) → j < n
      taken_few zero xs j l = absurd (omega arith)
      taken_few (suc n) [] j l = absurd (omega arith)
      taken_few (suc n) (x ∷ xs) zero l = omega arith
      taken_few (suc n) (x ∷ xs) (suc j) l = omega (arith, taken_few n xs j (omega arith))

      taken_in : (n : ℕ) (xs : List ℤ) (j : ℕ) → j < length (take n xs) → j < length xs
      taken_in zero xs j l = absurd (omega arith)
      taken_in (suc n) [] j l = absurd (omega arith)
      taken_in (suc n) (x ∷ xs) zero l = omega arith
      taken_in (suc n) (x ∷ xs) (suc j) l = omega (arith, taken_in n xs j (omega arith))

  pub window_rises : IsRising window.rowids.items
  window_rises = subst IsRising (sym is.rowids_are) (rising_take room (filter (is_above window.above) rows) (rising_filter (is_above window.above) rows up))

  short_take : (n : ℕ) (xs : List ℤ) → length (take n xs) ≤ n
  short_take zero xs = omega arith
  short_take (suc n) [] = omega arith
  short_take (suc n) (x ∷ xs) = omega (arith, short_take n xs)

  pub window_short : length window.rowids.items < 4294967295
  window_short = omega (arith, ap length is.rowids_are, short_take room (filter (is_above window.above) rows))

  -- the last rowid of a window is above its lower end
  pub last_above : (h : ℤ) → high window ≡ Some h → is_above window.above h ≡ true
  last_above h e = by window.more refl e
    where
      by : (more : Bool) → window.more ≡ more → high_of more window.rowids.items ≡ Some h → is_above window.above h ≡ true
      by false same e = let no_last : None ≡ Some h = e in cc
      by true same e =
          let ys : List ℤ = filter (is_above window.above) rows in
          let long : room < length ys = more_than (length ys) (sym same ∙ is.more_is) in
          let size : length (take room ys) ≡ room = long_take room ys (omega arith) in
          let last : slice_index_or window.rowids.items (length window.rowids.items - 1) (pos 0) ≡ slice_index_or ys 1048575 (pos 0) =
          ap (λ l. slice_index_or l (length l - 1) (pos 0)) is.rowids_are ∙ ap (λ n. slice_index_or (take room ys) (n - 1) (pos 0)) size ∙ within_take room ys 1048575 (pos 0) (omega arith) in
          let same_last : slice_index_or window.rowids.items (length window.rowids.items - 1) (pos 0) ≡ h = some_is e in
          subst (λ (z : ℤ). is_above window.above z ≡ true) (sym last ∙ same_last) (filter_passes (is_above window.above) rows 1048575 (pos 0) (omega arith))
        where
          some_is : {a b : ℤ} → Some a ≡ Some b → a ≡ b
          some_is {a} {b} same = cc

-- ---- the windows end

-- how many rowids there are above this one at most
abbrev pub left_above : Option ℤ → ℕ
left_above None = 2 ^ 65
left_above (Some (pos n)) = 2 ^ 63 - n
left_above (Some (negsuc n)) = 2 ^ 63 + 1 + n

pub fewer_above : (above : Option ℤ) (h : ℤ) → SFits w64 h → is_above above h ≡ true → left_above (Some h) < left_above above
fewer_above None (pos n) fits e = omega arith
fewer_above None (negsuc n) fits e = let small : n < 2 ^ 63 = grind (arith, ints, fits) in omega arith
fewer_above (Some (pos m)) (pos n) fits e = let small : n < 2 ^ 63 = grind (arith, ints, fits) in let less : m < n = grind (arith, ints, e) in omega arith
fewer_above (Some (pos m)) (negsuc n) fits e = absurd (let no_less : int_lt (pos m) (negsuc n) ≡ false = refl in true≢false (sym e ∙ no_less))
fewer_above (Some (negsuc m)) (pos n) fits e = omega arith
fewer_above (Some (negsuc m)) (negsuc n) fits e = let less : n < m = grind (arith, ints, e) in omega arith
