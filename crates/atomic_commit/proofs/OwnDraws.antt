-- One page more is sealed with the next bytes that are drawn.
use Rattle.std.proofs.Common.{◌≡◌, ◌≢◌, ◌⊎◌, inl, inr, ℕ, ◌+◌, ◌≤◌, ◌==◌, Bool, true, false, List, ◌++◌, length, take, drop, sym, ap, ◌∙◌, subst, arith, if◌then◌else◌, length-append, length-drop}
use Rattle.std.proofs.lemmas.List.{take-append-le, drop-append-le, take_all, drop_all}
use Rattle.std.proofs.lemmas.Bool.Decides.{nat_tests}
use Rattle.rollback_journal.proofs.Played.{either, eq_is}
use Rattle.atomic_commit.specs.Draws.{drawn_at, OwnDraws}

-- what was drawn before is not moved by what is drawn next
pub draw_stays : (reserve at : ℕ) (drawn more : List ℕ) → at + reserve ≤ length drawn → drawn_at reserve at (drawn ++ more) ≡ drawn_at reserve at drawn
draw_stays reserve at drawn more within =
    ap (λ (l : List ℕ). take reserve l) (drop-append-le at drawn more (omega (arith, within)))
    ∙ take-append-le reserve (drop at drawn) more (omega (arith, within, length-drop at drawn))

draw_last : (reserve : ℕ) (drawn more : List ℕ) → length more ≡ reserve → drawn_at reserve (length drawn) (drawn ++ more) ≡ more
draw_last reserve drawn more long =
    ap (λ (l : List ℕ). take reserve l) (drop-append-le (length drawn) drawn more (omega arith) ∙ ap (λ (l : List ℕ). l ++ more) (drop_all (length drawn) drawn (omega arith)))
    ∙ take_all reserve more (omega (arith, long))

pub same_or : (n m : ℕ) → (n ≡ m) ⊎ (n ≢ m)
same_or n m = go (either (n == m))
  where
    go : ((n == m) ≡ true) ⊎ ((n == m) ≡ false) → (n ≡ m) ⊎ (n ≢ m)
    go (inl is) = inl (eq_is n m is)
    go (inr is) = inr (λ same. grind (arith, nat_tests))

-- the places of the draws, with one more
abbrev placed : ℕ → ℕ → (ℕ → ℕ) → ℕ → ℕ
placed m at place n = if n == m then at else place n

placed_here : (m at : ℕ) (place : ℕ → ℕ) → placed m at place m ≡ at
placed_here m at place = grind (arith, nat_tests)

placed_there : (m at n : ℕ) (place : ℕ → ℕ) → n ≢ m → placed m at place n ≡ place n
placed_there m at n place other = grind (arith, nat_tests)

-- the page m is sealed with the bytes that were drawn last
module _ (reserve from : ℕ) (drawn more : List ℕ) (m : ℕ) (sealed after : ℕ → Bool) (seals next : ℕ → List ℕ → Type 0) (begun : from ≤ length drawn) (long : length more ≡ reserve) (here : next m more) (fewer : (n : ℕ) → n ≢ m → after n ≡ true → sealed n ≡ true) (still : (n : ℕ) (draw : List ℕ) → n ≢ m → seals n draw → next n draw) (own : OwnDraws reserve from drawn sealed seals) where
  abbrev at : ℕ → ℕ
  at = placed m (length drawn) own.place

  at_m : at m ≡ length drawn
  at_m = placed_here m (length drawn) own.place

  at_n : (n : ℕ) → n ≢ m → at n ≡ own.place n
  at_n n other = placed_there m (length drawn) n own.place other

  later : (n : ℕ) → after n ≡ true → (n ≡ m) ⊎ (n ≢ m) → from ≤ at n
  later n has (inl same) = subst (λ (k : ℕ). from ≤ at k) (sym same) (omega (arith, at_m, begun))
  later n has (inr other) = omega (arith, at_n n other, own.later n (fewer n other has))

  within : (n : ℕ) → after n ≡ true → (n ≡ m) ⊎ (n ≢ m) → at n + reserve ≤ length (drawn ++ more)
  within n has (inl same) = subst (λ (k : ℕ). at k + reserve ≤ length (drawn ++ more)) (sym same) (omega (arith, at_m, long, length-append drawn more))
  within n has (inr other) = omega (arith, at_n n other, own.within n (fewer n other has), length-append drawn more)

  is_sealed : (n : ℕ) → after n ≡ true → (n ≡ m) ⊎ (n ≢ m) → next n (drawn_at reserve (at n) (drawn ++ more))
  is_sealed n has (inl same) =
      subst (λ (k : ℕ). next k (drawn_at reserve (at k) (drawn ++ more))) (sym same)
      (subst (next m) (sym (ap (λ (k : ℕ). drawn_at reserve k (drawn ++ more)) at_m ∙ draw_last reserve drawn more long)) here)
  is_sealed n has (inr other) =
      subst (next n) (sym (ap (λ (k : ℕ). drawn_at reserve k (drawn ++ more)) (at_n n other) ∙ draw_stays reserve (own.place n) drawn more (own.within n (fewer n other has))))
      (still n (drawn_at reserve (own.place n) drawn) other (own.is_sealed n (fewer n other has)))

  apart : (k n : ℕ) → k ≢ n → after k ≡ true → after n ≡ true → (k ≡ m) ⊎ (k ≢ m) → (n ≡ m) ⊎ (n ≢ m) → (at k + reserve ≤ at n) ⊎ (at n + reserve ≤ at k)
  apart k n differ has_k has_n (inl same) (inl too) = absurd (differ (same ∙ sym too))
  apart k n differ has_k has_n (inl same) (inr other) =
      inr (subst (λ (j : ℕ). at n + reserve ≤ at j) (sym same) (omega (arith, at_m, at_n n other, own.within n (fewer n other has_n))))
  apart k n differ has_k has_n (inr other) (inl too) =
      inl (subst (λ (j : ℕ). at k + reserve ≤ at j) (sym too) (omega (arith, at_m, at_n k other, own.within k (fewer k other has_k))))
  apart k n differ has_k has_n (inr other_k) (inr other_n) =
      subst (λ (j : ℕ). (at k + reserve ≤ j) ⊎ (j + reserve ≤ at k)) (sym (at_n n other_n))
      (subst (λ (j : ℕ). (j + reserve ≤ own.place n) ⊎ (own.place n + reserve ≤ j)) (sym (at_n k other_k))
      (own.apart k n differ (fewer k other_k has_k) (fewer n other_n has_n)))

  pub own_next : OwnDraws reserve from (drawn ++ more) after next
  own_next = record {
    place = at;
    later = λ n has. later n has (same_or n m);
    within = λ n has. within n has (same_or n m);
    is_sealed = λ n has. is_sealed n has (same_or n m);
    apart = λ k n differ has_k has_n. apart k n differ has_k has_n (same_or k m) (same_or n m);
  }

-- before the first draw
pub own_none : (reserve from : ℕ) (drawn : List ℕ) (sealed : ℕ → Bool) (seals : ℕ → List ℕ → Type 0) → ((n : ℕ) → sealed n ≡ false) → OwnDraws reserve from drawn sealed seals
own_none reserve from drawn sealed seals none = record {
  place = λ n. 0;
  later = λ n has. absurd (differ (sealed n) has (none n));
  within = λ n has. absurd (differ (sealed n) has (none n));
  is_sealed = λ n has. absurd (differ (sealed n) has (none n));
  apart = λ m n other has_m has_n. absurd (differ (sealed n) has_n (none n));
}
  where
    differ : (b : Bool) → b ≡ true → b ≡ false → ⊥
    differ b is not = cc
