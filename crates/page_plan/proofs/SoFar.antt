-- A loop that goes from one new page to the next: which pages are new so far.
use Rattle.std.proofs.Common.{◌≡◌, ◌≢◌, ℕ, ◌+◌, ◌≤◌, ◌<◌, ◌==◌, Bool, true, false, if◌then◌else◌, refl, sym, ap, ◌∙◌, arith, rules}
use Rattle.std.specs.Prelude.{nat_le}
use Rattle.std.proofs.lemmas.Bool.{eqb-true}
use Rattle.std.proofs.lemmas.Bool.Decides.{nat_tests}

module _ {A : Type 0} (new old : ℕ → A) where
  -- of the first pages the new ones, else the old ones
  abbrev pub so_far : ℕ → ℕ → A
  so_far done m = if nat_le m done then new m else old m

  -- the new pages behind this one, and before that one, are the old ones
  abbrev pub AreSame : ℕ → ℕ → Type 0
  AreSame done n = (k : ℕ) → done < k → k < n → new k ≡ old k

  pub none_yet : (m : ℕ) → 1 ≤ m → old m ≡ so_far 0 m
  none_yet m one =
      let none : nat_le m 0 ≡ false = search (rules, one) in
      ap (λ (b : Bool). if b then new m else old m) (sym none)

  is_new : (m done : ℕ) → nat_le m done ≡ true → so_far done m ≡ new m
  is_new m done is = ap (λ (b : Bool). if b then new m else old m) is

  is_old : (m done : ℕ) → nat_le m done ≡ false → so_far done m ≡ old m
  is_old m done is = ap (λ (b : Bool). if b then new m else old m) is

  le_true : (m n : ℕ) → m ≤ n → nat_le m n ≡ true
  le_true m n le = search (rules, le)

  le_false : (m n : ℕ) → n < m → nat_le m n ≡ false
  le_false m n lt = search (rules, lt)

  true_le : (m n : ℕ) → nat_le m n ≡ true → m ≤ n
  true_le m n is = grind (arith, nat_tests)

  false_lt : (m n : ℕ) → nat_le m n ≡ false → n < m
  false_lt m n is = grind (arith, nat_tests)

  -- no page behind is new
  pub all_now : (m done pages : ℕ) → m ≤ pages → AreSame done (pages + 1) → so_far done m ≡ new m
  all_now m done pages le same = by_done (nat_le m done) refl
    where
      by_done : (b : Bool) → nat_le m done ≡ b → so_far done m ≡ new m
      by_done true is = is_new m done is
      by_done false is = is_old m done is ∙ sym (same m (false_lt m done is) (omega (arith, le)))

  -- pages that stay as they were are passed over
  passed : (m done n : ℕ) → m ≢ n → done < n → AreSame done n → so_far done m ≡ so_far n m
  passed m done n other more same = by_done (nat_le m done) refl
    where
      by_next : (b : Bool) → nat_le m n ≡ b → done < m → old m ≡ so_far n m
      by_next true is lt = sym (same m lt (omega (arith, true_le m n is, other))) ∙ sym (is_new m n is)
      by_next false is lt = sym (is_old m n is)

      by_done : (b : Bool) → nat_le m done ≡ b → so_far done m ≡ so_far n m
      by_done true is = is_new m done is ∙ sym (is_new m n (le_true m n (omega (arith, more, true_le m done is))))
      by_done false is = is_old m done is ∙ by_next (nat_le m n) refl (false_lt m done is)

  -- one page more: `put` makes the new one of the old one
  pub one_more : (m done n : ℕ) (put : ℕ → A → A) (seen : ℕ → A) (next : A) → done < n → AreSame done n → ((k : ℕ) → new k ≡ put k (old k))
      → seen m ≡ so_far done m → seen n ≡ so_far done n → next ≡ (if m == n then put n (seen n) else seen m) → next ≡ so_far n m
  one_more m done n put seen next more same made now here is = is ∙ by_number (m == n) refl
    where
      written : put n (seen n) ≡ new n
      written = ap (put n) (here ∙ is_old n done (le_false n done more)) ∙ sym (made n)

      by_number : (b : Bool) → (m == n) ≡ b → (if m == n then put n (seen n) else seen m) ≡ so_far n m
      by_number true equal =
          ap (λ (b : Bool). if b then put n (seen n) else seen m) equal
          ∙ written ∙ ap new (sym (eqb-true m n equal)) ∙ sym (is_new m n (le_true m n (omega (arith, eqb-true m n equal))))
      by_number false other =
          ap (λ (b : Bool). if b then put n (seen n) else seen m) other ∙ now ∙ passed m done n apart more same
        where
          apart : m ≢ n
          apart equal = differ (sym other ∙ ap (λ (k : ℕ). m == k) (sym equal) ∙ self m)
            where
              self : (k : ℕ) → (k == k) ≡ true
              self k = search rules

              differ : false ≡ true → ⊥
              differ is = cc
