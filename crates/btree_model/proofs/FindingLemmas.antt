-- Lists of findings, joined.
use Rattle.std.proofs.Common.{◌≡◌, ℕ, true, List, [], ◌∷◌, ◌++◌, ◌||◌, ◌&&◌, ◌==◌, refl, ap, ◌∙◌}
use Rattle.std.proofs.Math.Path.{fun_ext}
use Rattle.std.proofs.Math.Bool.{or_assoc, or_comm}
use Rattle.std.specs.List.{list_any}
use Rattle.std.proofs.lemmas.List.Folds.{list_any-append}
use Rattle.db_format.specs.Pages.{Test, also}
use Rattle.btree_model.specs.Finding.{Finding, place, leaf, entry, key, fault, refused, places, entries, faults, refusals, is_sound}

pub places-append : (xs ys : List Finding) → places (xs ++ ys) ≡ places xs ++ places ys
places-append [] ys = refl
places-append (key k ∷ xs) ys = places-append xs ys
places-append (place n ∷ xs) ys = ap (λ l. n ∷ l) (places-append xs ys)
places-append (leaf n ∷ xs) ys = ap (λ l. n ∷ l) (places-append xs ys)
places-append (entry r ∷ xs) ys = places-append xs ys
places-append (fault d ∷ xs) ys = places-append xs ys
places-append (refused n ∷ xs) ys = places-append xs ys

pub entries-append : (xs ys : List Finding) → entries (xs ++ ys) ≡ entries xs ++ entries ys
entries-append [] ys = refl
entries-append (key k ∷ xs) ys = entries-append xs ys
entries-append (place n ∷ xs) ys = entries-append xs ys
entries-append (leaf n ∷ xs) ys = entries-append xs ys
entries-append (entry r ∷ xs) ys = ap (λ l. r ∷ l) (entries-append xs ys)
entries-append (fault d ∷ xs) ys = entries-append xs ys
entries-append (refused n ∷ xs) ys = entries-append xs ys

pub faults-append : (xs ys : List Finding) → faults (xs ++ ys) ≡ faults xs ++ faults ys
faults-append [] ys = refl
faults-append (key k ∷ xs) ys = faults-append xs ys
faults-append (place n ∷ xs) ys = faults-append xs ys
faults-append (leaf n ∷ xs) ys = faults-append xs ys
faults-append (entry r ∷ xs) ys = faults-append xs ys
faults-append (fault d ∷ xs) ys = ap (λ l. d ∷ l) (faults-append xs ys)
faults-append (refused n ∷ xs) ys = faults-append xs ys

pub refusals-append : (xs ys : List Finding) → refusals (xs ++ ys) ≡ refusals xs ++ refusals ys
refusals-append [] ys = refl
refusals-append (key k ∷ xs) ys = refusals-append xs ys
refusals-append (place n ∷ xs) ys = refusals-append xs ys
refusals-append (leaf n ∷ xs) ys = refusals-append xs ys
refusals-append (entry r ∷ xs) ys = refusals-append xs ys
refusals-append (fault d ∷ xs) ys = refusals-append xs ys
refusals-append (refused n ∷ xs) ys = ap (λ l. n ∷ l) (refusals-append xs ys)

pub is_sound-append : (xs ys : List Finding) → is_sound (xs ++ ys) ≡ (is_sound xs && is_sound ys)
is_sound-append [] ys = refl
is_sound-append (key k ∷ xs) ys = is_sound-append xs ys
is_sound-append (place n ∷ xs) ys = is_sound-append xs ys
is_sound-append (leaf n ∷ xs) ys = is_sound-append xs ys
is_sound-append (entry r ∷ xs) ys = is_sound-append xs ys
is_sound-append (fault d ∷ xs) ys = refl
is_sound-append (refused n ∷ xs) ys = refl

pub sound_both : (xs ys : List Finding) → is_sound xs ≡ true → is_sound ys ≡ true → is_sound (xs ++ ys) ≡ true
sound_both xs ys one other = is_sound-append xs ys ∙ ap (λ b. b && is_sound ys) one ∙ other

-- what these pages and then those add to a test
pub also-append : (xs ys : List ℕ) (taken : Test) → also (xs ++ ys) taken ≡ also ys (also xs taken)
also-append xs ys taken =
    fun_ext (λ n.
    ap (λ b. b || taken n) (list_any-append (λ m. m == n) xs ys ∙ or_comm (list_any (λ m. m == n) xs) (list_any (λ m. m == n) ys))
    ∙ or_assoc (list_any (λ m. m == n) ys) (list_any (λ m. m == n) xs) (taken n))
