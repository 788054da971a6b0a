-- A walk of the freelist without a defect reads none of the leaves that it meets.
use Rattle.std.proofs.Common.{◌≡◌, ℕ, zero, suc, ◌-◌, ◌/◌, Bool, true, false, List, [], ◌∷◌, ◌++◌, ◌&&◌, ◌||◌, ◌==◌, if◌then◌else◌, refl, ap, sym, ◌∙◌, append_assoc}
use Rattle.std.proofs.lemmas.Bool.{eqb-true, eq-eqb}
use Rattle.std.proofs.Math.Bool.{or_comm}
use Rattle.db_format.specs.Bytes.{u32_at}
use Rattle.std.specs.Prelude.{nat_le}
use Rattle.std.specs.List.{list_any, list_all}
use Rattle.std.proofs.lemmas.List.Folds.{list_any-append}
use Rattle.db_format.specs.declared.defect.Defect.TheVariants.{PageTwice}
use Rattle.db_format.specs.Pages.{Pages, Test}
use Rattle.btree_model.specs.Finding.{Finding, place, leaf, entry, key, fault, refused, places, leaves, is_sound}
use Rattle.btree_model.specs.Freelist.{leaf_numbers, leaves_of, next_trunk, is_trunk, trunk_found, trunks, visit_trunk}
use Rattle.btree_model.specs.Range.{is_in_range}
use Rattle.btree_model.specs.Walk.{is_met}
use Rattle.btree_model.proofs.FindingLemmas.{places-append}
use Rattle.btree_model.proofs.UnmarkedLemmas.{or_left, or_right, sound_left, sound_right}
use Rattle.btree_model.proofs.UnreadLemmas.{IsAlike, AreAlikeBut}

pub leaves-append : (xs ys : List Finding) → leaves (xs ++ ys) ≡ leaves xs ++ leaves ys
leaves-append [] ys = refl
leaves-append (key k ∷ xs) ys = leaves-append xs ys
leaves-append (place n ∷ xs) ys = leaves-append xs ys
leaves-append (leaf n ∷ xs) ys = ap (λ l. n ∷ l) (leaves-append xs ys)
leaves-append (entry r ∷ xs) ys = leaves-append xs ys
leaves-append (fault d ∷ xs) ys = leaves-append xs ys
leaves-append (refused n ∷ xs) ys = leaves-append xs ys

-- the number is one of these
abbrev pub is_in : List ℕ → Test
is_in ns k = list_any (λ m. m == k) ns

in_both : (xs ys : List ℕ) (k : ℕ) → is_in (xs ++ ys) k ≡ (is_in xs k || is_in ys k)
in_both xs ys k = list_any-append (λ m. m == k) xs ys

in_places : (xs ys : List Finding) (k : ℕ) → is_in (places (xs ++ ys)) k ≡ (is_in (places xs) k || is_in (places ys) k)
in_places xs ys k = ap (λ l. is_in l k) (places-append xs ys) ∙ in_both (places xs) (places ys) k

pub in_leaves : (xs ys : List Finding) (k : ℕ) → is_in (leaves (xs ++ ys)) k ≡ (is_in (leaves xs) k || is_in (leaves ys) k)
in_leaves xs ys k = ap (λ l. is_in l k) (leaves-append xs ys) ∙ in_both (leaves xs) (leaves ys) k

-- a page with no place is no leaf
pub no_leaf : (xs : List Finding) (k : ℕ) → is_in (places xs) k ≡ false → is_in (leaves xs) k ≡ false
no_leaf [] k h = refl
no_leaf (key x ∷ xs) k h = no_leaf xs k h
no_leaf (place n ∷ xs) k h = no_leaf xs k (or_right _ _ h)
no_leaf (leaf n ∷ xs) k h = rw (or_left (n == k) _ h) (no_leaf xs k (or_right _ _ h))
no_leaf (entry r ∷ xs) k h = no_leaf xs k h
no_leaf (fault d ∷ xs) k h = no_leaf xs k h
no_leaf (refused n ∷ xs) k h = no_leaf xs k h

-- ---- a page that was met is no leaf behind it

or_true : (a b : Bool) → a ≡ true → (a || b) ≡ true
or_true true b h = refl
or_true false b h = cc

still_met : (met more : List Finding) (k : ℕ) → is_in (places met) k ≡ true → is_in (places (met ++ more)) k ≡ true
still_met met more k h = in_places met more k ∙ or_true _ _ h

other : (n k : ℕ) (ns : List ℕ) (b : Bool) → (n == k) ≡ b → is_in ns n ≡ false → is_in ns k ≡ true → (n == k) ≡ false
other n k ns false is fresh met = is
other n k ns true is fresh met = let same : n ≡ k = eqb-true n k is in let no : true ≡ false = sym met ∙ ap (is_in ns) (sym same) ∙ fresh in cc

module _ (pages : Pages) (taken : Test) where
  -- the finding of a leaf without a defect
  leaf_step : (n k : ℕ) (met rest : List Finding) (m : Bool) → is_met taken met n ≡ m → is_in (places met) k ≡ true
      → is_sound ((if m then fault (PageTwice n) ∷ [] else []) ++ rest) ≡ true → (is_sound rest ≡ true → is_in (leaves rest) k ≡ false)
      → is_in (n ∷ leaves ((if m then fault (PageTwice n) ∷ [] else []) ++ rest)) k ≡ false
  leaf_step n k met rest true is h sound later = cc
  leaf_step n k met rest false is h sound later = rw (other n k (places met) _ refl (or_left _ _ is) h) (later sound)

  leaves_behind : (ns : List ℕ) (met : List Finding) (k : ℕ) → is_in (places met) k ≡ true → is_sound (leaves_of taken met ns) ≡ true
      → is_in (leaves (leaves_of taken met ns)) k ≡ false
  leaves_behind [] met k h sound = refl
  leaves_behind (n ∷ ns) met k h sound =
      leaf_step n k met (leaves_of taken (met ++ leaf n ∷ []) ns) (is_met taken met n) refl h sound
      (leaves_behind ns (met ++ leaf n ∷ []) k (still_met met (leaf n ∷ []) k h))

  -- what comes after a trunk
  abbrev IsBehind : ℕ → List Finding → Type 0
  IsBehind k found = is_sound found ≡ true → is_in (leaves found) k ≡ false

  -- page k is the trunk n, or was met before it
  abbrev IsMetWith : List Finding → ℕ → ℕ → Type 0
  IsMetWith met n k = is_in (places (met ++ place n ∷ [])) k ≡ true

  met_with : (met found : List Finding) (n k : ℕ) → IsMetWith met n k → is_in (places (met ++ place n ∷ found)) k ≡ true
  met_with met found n k h =
      ap (λ l. is_in (places l) k) (sym (append_assoc met (place n ∷ []) found)) ∙ still_met (met ++ place n ∷ []) found k h

  trunk_behind : (met : List Finding) (n k : ℕ) (bytes : List ℕ) (trunk : Bool) (after : List Finding → List Finding) → IsMetWith met n k
      → ((now : List Finding) → is_in (places now) k ≡ true → IsBehind k (after now)) → IsBehind k (trunk_found taken met n bytes trunk after)
  trunk_behind met n k bytes false after h later sound = cc
  trunk_behind met n k bytes true after h later sound =
      let found = leaves_of taken (met ++ place n ∷ []) (leaf_numbers bytes) in
      let rest = after (met ++ place n ∷ found) in
      in_leaves found rest k
      ∙ ap (λ b. b || is_in (leaves rest) k) (leaves_behind (leaf_numbers bytes) (met ++ place n ∷ []) k h (sound_left found rest sound))
      ∙ later (met ++ place n ∷ found) (met_with met found n k h) (sound_right found rest sound)

  pub visit_behind : (met : List Finding) (n k : ℕ) (m accepted : Bool) (after : List Finding → List Finding) → IsMetWith met n k
      → ((now : List Finding) → is_in (places now) k ≡ true → IsBehind k (after now)) → IsBehind k (visit_trunk pages taken met n m accepted after)
  visit_behind met n k true accepted after h later sound = cc
  visit_behind met n k false false after h later sound = cc
  visit_behind met n k false true after h later sound = trunk_behind met n k (pages.page n) (is_trunk pages (pages.page n)) after h later sound

  if_behind : (k : ℕ) (b : Bool) (one other : List Finding) → IsBehind k one → IsBehind k other → IsBehind k (if b then one else other)
  if_behind k true one other p q = p
  if_behind k false one other p q = q

  pub trunks_behind : (fuel n : ℕ) (met : List Finding) (k : ℕ) → is_in (places met) k ≡ true → IsBehind k (trunks pages taken fuel n met)
  trunks_behind zero n met k h = if_behind k (n == 0) [] (place n ∷ (fault (PageTwice n) ∷ [])) (λ sound. refl) (λ sound. cc)
  trunks_behind (suc fuel) n met k h =
      if_behind k (n == 0) [] _ (λ sound. refl)
      (λ sound. visit_behind met n k (is_met taken met n) (pages.accepts n) _ (still_met met (place n ∷ []) k h)
      (λ now later. trunks_behind fuel (next_trunk (pages.page n)) now k later) sound)

  -- the trunk itself is no leaf of those behind it
  pub trunk_behind_it : (met : List Finding) (n : ℕ) → IsMetWith met n n
  trunk_behind_it met n = in_places met (place n ∷ []) n ∙ ap (λ b. is_in (places met) n || (b || false)) (eq-eqb n n refl) ∙ or_comm (is_in (places met) n) true

-- ---- so the walk is the same over pages that are the same but for its leaves

module _ (taken : Test) (old new : Pages) (all : List Finding) (sound : is_sound all ≡ true) (same : AreAlikeBut (is_in (leaves all)) old new) where
  trunk_same : (bytes : List ℕ) → is_trunk new bytes ≡ is_trunk old bytes
  trunk_same bytes =
      ap (λ c. nat_le (u32_at bytes 4) (new.usable / 4 - 2) && (next_trunk bytes == 0 || (nat_le 2 (next_trunk bytes) && nat_le (next_trunk bytes) c))
      && list_all (λ n. nat_le 2 n && nat_le n c) (leaf_numbers bytes)) same.count
      ∙ ap (λ u. nat_le (u32_at bytes 4) (u / 4 - 2) && (next_trunk bytes == 0 || is_in_range old (next_trunk bytes))
      && list_all (is_in_range old) (leaf_numbers bytes)) same.usable

  -- a trunk that was not met before is no leaf
  unread : (n : ℕ) (met rest : List Finding) → all ≡ met ++ place n ∷ rest → is_met taken met n ≡ false
      → (is_sound rest ≡ true → is_in (leaves rest) n ≡ false) → IsAlike old new n
  unread n met rest whole fresh behind =
      let later : is_sound (place n ∷ rest) ≡ true = sound_right met (place n ∷ rest) (ap is_sound (sym whole) ∙ sound) in
      same.alike n
      (ap (λ l. is_in (leaves l) n) whole ∙ in_leaves met (place n ∷ rest) n
      ∙ ap (λ b. b || is_in (leaves rest) n) (no_leaf met n (or_left _ _ fresh)) ∙ behind later)

  -- the trunks behind are the same, so long as what was met and they are all
  abbrev IsSameBehind : ℕ → Type 0
  IsSameBehind fuel = (n : ℕ) (met : List Finding) → all ≡ met ++ trunks old taken fuel n met → trunks new taken fuel n met ≡ trunks old taken fuel n met

  found_same : (fuel n : ℕ) (met : List Finding) (trunk : Bool) (bytes : List ℕ) → IsSameBehind fuel
      → all ≡ met ++ place n ∷ trunk_found taken met n bytes trunk (trunks old taken fuel (next_trunk bytes))
      → trunk_found taken met n bytes trunk (trunks new taken fuel (next_trunk bytes)) ≡ trunk_found taken met n bytes trunk (trunks old taken fuel (next_trunk bytes))
  found_same fuel n met false bytes behind whole = refl
  found_same fuel n met true bytes behind whole =
      let found = leaves_of taken (met ++ place n ∷ []) (leaf_numbers bytes) in
      let now = met ++ place n ∷ found in
      ap (λ l. found ++ l) (behind (next_trunk bytes) now (whole ∙ sym (append_assoc met (place n ∷ found) (trunks old taken fuel (next_trunk bytes) now))))

  visit_same : (fuel n : ℕ) (met : List Finding) (m accepted : Bool) → is_met taken met n ≡ m → old.accepts n ≡ accepted → IsSameBehind fuel
      → all ≡ met ++ place n ∷ visit_trunk old taken met n m accepted (trunks old taken fuel (next_trunk (old.page n)))
      → visit_trunk new taken met n m (new.accepts n) (trunks new taken fuel (next_trunk (new.page n)))
      ≡ visit_trunk old taken met n m accepted (trunks old taken fuel (next_trunk (old.page n)))
  visit_same fuel n met true accepted is lent behind whole = refl
  visit_same fuel n met false false is lent behind whole =
      let unsound : is_sound (place n ∷ (refused n ∷ [])) ≡ true = sound_right met (place n ∷ (refused n ∷ [])) (ap is_sound (sym whole) ∙ sound) in cc
  visit_same fuel n met false true is lent behind whole =
      let rest = visit_trunk old taken met n false true (trunks old taken fuel (next_trunk (old.page n))) in
      let page = unread n met rest whole is
      (visit_behind old taken met n n false true (trunks old taken fuel (next_trunk (old.page n))) (trunk_behind_it old taken met n)
      (λ now later. trunks_behind old taken fuel (next_trunk (old.page n)) now n later)) in
      ap (λ a. visit_trunk new taken met n false a (trunks new taken fuel (next_trunk (new.page n)))) (page.accepted ∙ lent)
      ∙ ap (λ bytes. trunk_found taken met n bytes (is_trunk new bytes) (trunks new taken fuel (next_trunk bytes))) page.bytes
      ∙ ap (λ t. trunk_found taken met n (old.page n) t (trunks new taken fuel (next_trunk (old.page n)))) (trunk_same (old.page n))
      ∙ found_same fuel n met (is_trunk old (old.page n)) (old.page n) behind whole

  if_same : (fuel n : ℕ) (met : List Finding) (b : Bool) (one other : List Finding) → all ≡ met ++ (if b then [] else other)
      → (all ≡ met ++ other → one ≡ other) → (if b then [] else one) ≡ (if b then [] else other)
  if_same fuel n met true one other whole p = refl
  if_same fuel n met false one other whole p = p whole

  pub trunks_same : (fuel : ℕ) → IsSameBehind fuel
  trunks_same zero n met whole = refl
  trunks_same (suc fuel) n met whole =
      if_same fuel n met (n == 0) _ _ whole
      (λ more. ap (λ l. place n ∷ l) (visit_same fuel n met (is_met taken met n) (old.accepts n) refl refl (trunks_same fuel) more))
