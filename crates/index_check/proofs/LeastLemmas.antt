-- The least of some rowids, and how many there are.
use Rattle.std.proofs.Common.{◌≡◌, ◌+◌, ℤ, Bool, true, false, ◌||◌, cond, List, [], ◌∷◌, ◌++◌, length, Option, Some, None, arith, refl, ap, sym, ◌∙◌, true≢false}
use Rattle.std.specs.Prelude.{int_le, filter}
use Rattle.std.proofs.lemmas.Int.{ints}
use Rattle.index_check.specs.Agree.{least, lesser}

le_le : (a b c : ℤ) → int_le a b ≡ true → int_le b c ≡ true → int_le a c ≡ true
le_le a b c e f = grind (arith, ints)

gt_gt : (a b c : ℤ) → int_le a b ≡ false → int_le b c ≡ false → int_le a c ≡ false
gt_gt a b c e f = grind (arith, ints)

three : (a b c : ℤ) (x y : Bool) → int_le a b ≡ x → int_le b c ≡ y → lesser (lesser (Some a) (Some b)) (Some c) ≡ lesser (Some a) (lesser (Some b) (Some c))
three a b c true true e f = rw (e, f, e, le_le a b c e f) refl
three a b c true false e f = rw (e, f) refl
three a b c false true e f = rw (e, f, e) refl
three a b c false false e f = rw (e, f, gt_gt a b c e f) refl

pub lesser_joins : (a b c : Option ℤ) → lesser (lesser a b) c ≡ lesser a (lesser b c)
lesser_joins None b c = refl
lesser_joins (Some a) None c = refl
lesser_joins (Some a) (Some b) None = onto (int_le a b)
  where
    onto : (x : Bool) → lesser (cond x (Some a) (Some b)) None ≡ cond x (Some a) (Some b)
    onto true = refl
    onto false = refl
lesser_joins (Some a) (Some b) (Some c) = three a b c (int_le a b) (int_le b c) refl refl

two : (a b : ℤ) (x y : Bool) → int_le a b ≡ x → int_le b a ≡ y → lesser (Some a) (Some b) ≡ lesser (Some b) (Some a)
two a b true true e f = let same : a ≡ b = grind (arith, ints) in rw (e, f) (ap Some same)
two a b true false e f = rw (e, f) refl
two a b false true e f = rw (e, f) refl
two a b false false e f = let no : true ≡ false = grind (arith, ints) in absurd (true≢false no)

pub lesser_turns : (a b : Option ℤ) → lesser a b ≡ lesser b a
lesser_turns None None = refl
lesser_turns None (Some b) = refl
lesser_turns (Some a) None = refl
lesser_turns (Some a) (Some b) = two a b (int_le a b) (int_le b a) refl refl

pub least-append : (xs ys : List ℤ) → least (xs ++ ys) ≡ lesser (least xs) (least ys)
least-append [] ys = refl
least-append (x ∷ xs) ys = ap (lesser (Some x)) (least-append xs ys) ∙ sym (lesser_joins (Some x) (least xs) (least ys))

past : (x : ℤ) (p q : Option ℤ) → lesser (Some x) (lesser p q) ≡ lesser p (lesser (Some x) q)
past x p q = sym (lesser_joins (Some x) p q) ∙ ap (λ l. lesser l q) (lesser_turns (Some x) p) ∙ lesser_joins p (Some x) q

-- what passes one of two tests, of which none passes both
module _ (p q r : ℤ → Bool) (either : (x : ℤ) → r x ≡ (p x || q x)) (apart : (x : ℤ) → p x ≡ true → q x ≡ false) where
  more_of : (x : ℤ) (xs : List ℤ) (b c : Bool) → p x ≡ b → q x ≡ c → length (filter r xs) ≡ length (filter p xs) + length (filter q xs)
      → length (filter r (x ∷ xs)) ≡ length (filter p (x ∷ xs)) + length (filter q (x ∷ xs))
  more_of x xs true true e f rest = absurd (true≢false (sym f ∙ apart x e))
  more_of x xs true false e f rest = rw (either x, e, f) (omega (arith, rest))
  more_of x xs false true e f rest = rw (either x, e, f) (omega (arith, rest))
  more_of x xs false false e f rest = rw (either x, e, f) rest

  pub count_parts : (xs : List ℤ) → length (filter r xs) ≡ length (filter p xs) + length (filter q xs)
  count_parts [] = refl
  count_parts (x ∷ xs) = more_of x xs (p x) (q x) refl refl (count_parts xs)

  less_of : (x : ℤ) (xs : List ℤ) (b c : Bool) → p x ≡ b → q x ≡ c → least (filter r xs) ≡ lesser (least (filter p xs)) (least (filter q xs))
      → least (filter r (x ∷ xs)) ≡ lesser (least (filter p (x ∷ xs))) (least (filter q (x ∷ xs)))
  less_of x xs true true e f rest = absurd (true≢false (sym f ∙ apart x e))
  less_of x xs true false e f rest = rw (either x, e, f) (ap (lesser (Some x)) rest ∙ sym (lesser_joins (Some x) (least (filter p xs)) (least (filter q xs))))
  less_of x xs false true e f rest = rw (either x, e, f) (ap (lesser (Some x)) rest ∙ past x (least (filter p xs)) (least (filter q xs)))
  less_of x xs false false e f rest = rw (either x, e, f) rest

  pub least_parts : (xs : List ℤ) → least (filter r xs) ≡ lesser (least (filter p xs)) (least (filter q xs))
  least_parts [] = refl
  least_parts (x ∷ xs) = less_of x xs (p x) (q x) refl refl (least_parts xs)
