-- What a session finds among its changes behind one more.
use Rattle.std.proofs.Common.{◌≡◌, ◌≢◌, ◌<◌, ◌∙◌, ℕ, Bool, false, cond, List, [], ◌∷◌, Option, Some, None, refl, sym, ap, subst, arith, Ordering, Less, Equal, Greater, is_eq}
use Rattle.std.specs.BTreeMap.{insert_entry, is_at}
use Rattle.std.specs.Map.{lookup}
use Rattle.std.specs.Ordering.{match_ordering, nat_cmp}
use Rattle.std.proofs.lemmas.Cmp.{ranked}

-- ---- numbers

same_rank : (k : ℕ) → nat_cmp k k ≡ Equal
same_rank k = by_rank (nat_cmp k k) refl
  where
    by_rank : (r : Ordering) → nat_cmp k k ≡ r → nat_cmp k k ≡ Equal
    by_rank Less is = absurd (never (ranked k k Less (sym is)))
      where
        never : k < k → ⊥
        never less = omega (arith, less)
    by_rank Equal is = is
    by_rank Greater is = absurd (never (ranked k k Greater (sym is)))
      where
        never : k < k → ⊥
        never less = omega (arith, less)

apart_rank : (m k : ℕ) → m ≢ k → is_eq (nat_cmp m k) ≡ false
apart_rank m k apart = by_rank (nat_cmp m k) refl
  where
    by_rank : (r : Ordering) → nat_cmp m k ≡ r → is_eq (nat_cmp m k) ≡ false
    by_rank Less is = ap is_eq is
    by_rank Equal is = absurd (apart (ranked m k Equal (sym is)))
    by_rank Greater is = ap is_eq is

-- ---- the changed page

module _ {X : Type 0} (k : ℕ) (v : X) where
  abbrev at_k : ℕ → Bool
  at_k = is_at (nat_cmp k)

  here_by : (e : ℕ × X) (es : List (ℕ × X)) (r : Ordering) → nat_cmp k e.0 ≡ r → lookup at_k (insert_entry nat_cmp es k v) ≡ Some v
      → lookup at_k (match_ordering r ((k, v) ∷ e ∷ es) ((e.0, v) ∷ es) (e ∷ insert_entry nat_cmp es k v)) ≡ Some v
  here_by e es Less is next = rw (same_rank k) refl
  here_by e es Equal is next = rw is refl
  here_by e es Greater is next = rw is next

  pub insert_here : (es : List (ℕ × X)) → lookup at_k (insert_entry nat_cmp es k v) ≡ Some v
  insert_here [] = rw (same_rank k) refl
  insert_here (e ∷ es) = here_by e es (nat_cmp k e.0) refl (insert_here es)

  -- ---- any other

  module _ (m : ℕ) (apart : m ≢ k) where
    abbrev at_m : ℕ → Bool
    at_m = is_at (nat_cmp m)

    other_by : (e : ℕ × X) (es : List (ℕ × X)) (r : Ordering) → nat_cmp k e.0 ≡ r → lookup at_m (insert_entry nat_cmp es k v) ≡ lookup at_m es
        → lookup at_m (match_ordering r ((k, v) ∷ e ∷ es) ((e.0, v) ∷ es) (e ∷ insert_entry nat_cmp es k v)) ≡ lookup at_m (e ∷ es)
    other_by e es Less is next = ap (λ (b : Bool). cond b (Some v) (lookup at_m (e ∷ es))) (apart_rank m k apart)
    other_by e es Equal is next =
        let key : k ≡ e.0 = ranked k e.0 Equal (sym is) in
        let no : is_eq (nat_cmp m e.0) ≡ false = subst (λ (n : ℕ). is_eq (nat_cmp m n) ≡ false) key (apart_rank m k apart) in
        ap (λ (b : Bool). cond b (Some v) (lookup at_m es)) no ∙ sym (ap (λ (b : Bool). cond b (Some e.1) (lookup at_m es)) no)
    other_by e es Greater is next = ap (λ (o : Option X). cond (is_eq (nat_cmp m e.0)) (Some e.1) o) next

    pub insert_other : (es : List (ℕ × X)) → lookup at_m (insert_entry nat_cmp es k v) ≡ lookup at_m es
    insert_other [] = ap (λ (b : Bool). cond b (Some v) None) (apart_rank m k apart)
    insert_other (e ∷ es) = other_by e es (nat_cmp k e.0) refl (insert_other es)
