-- Pages that are met once.
use Rattle.std.proofs.Common.{◌≡◌, ◌≤◌, ◌+◌, ℕ, Bool, true, false, not, List, [], ◌∷◌, ◌++◌, ◌&&◌, ◌||◌, ◌==◌, length, if◌then◌else◌, arith, refl, ap, sym, subst, ◌∙◌}
use Rattle.std.proofs.Math.Path.{fun_ext}
use Rattle.std.proofs.lemmas.Bool.{eqb-true, eq-eqb}
use Rattle.std.proofs.lemmas.List.{append-nil}
use Rattle.std.proofs.lemmas.List.Sums.{sum_by-cons}
use Rattle.db_format.specs.declared.defect.Defect.{Defect}
use Rattle.db_format.specs.declared.defect.Defect.TheVariants.{PageTwice}
use Rattle.db_format.specs.Pages.{Test, also, nothing}
use Rattle.db_format.specs.Seen.{open_count}
use Rattle.btree_model.specs.Finding.{Finding, place, leaf, entry, key, fault, refused, places}
use Rattle.btree_model.proofs.FindingLemmas.{also-append, places-append}
use Rattle.btree_model.proofs.ProperLemmas.{are_proper, is_proper}
use Rattle.btree_model.proofs.UnmarkedLemmas.{and_left, and_right}
use Rattle.rowid_find.specs.Once.{are_new, once}

-- ---- lists in two parts

pub also_none : (met : Test) → met ≡ also [] met
also_none met = fun_ext (λ n. refl)

and_again : (a b c : Bool) → (a && (b && c)) ≡ (a && b && c)
and_again true b c = refl
and_again false b c = refl

also_first : (n : ℕ) (ns : List ℕ) (met : Test) → also (n ∷ ns) met ≡ also ns (also (n ∷ []) met)
also_first n ns met = also-append (n ∷ []) ns met

new-append : (met : Test) (ns ms : List ℕ) → are_new met (ns ++ ms) ≡ (are_new met ns && are_new (also ns met) ms)
new-append met [] ms = ap (λ t. are_new t ms) (also_none met)
new-append met (n ∷ ns) ms =
    ap (λ b. not (met n) && b)
    (new-append (also (n ∷ []) met) ns ms ∙ ap (λ t. are_new (also (n ∷ []) met) ns && are_new t ms) (sym (also_first n ns met)))
    ∙ and_again (not (met n)) (are_new (also (n ∷ []) met) ns) (are_new (also (n ∷ ns) met) ms)

-- the pages of both are new
pub new_both : (met after : Test) (xs ys : List Finding) → are_new met (places xs) ≡ true → after ≡ also (places xs) met → are_new after (places ys) ≡ true
    → are_new met (places (xs ++ ys)) ≡ true
new_both met after xs ys one is other =
    ap (are_new met) (places-append xs ys) ∙ new-append met (places xs) (places ys)
    ∙ ap (λ b. b && are_new (also (places xs) met) (places ys)) one ∙ ap (λ t. are_new t (places ys)) (sym is) ∙ other

pub marks_both : (met after last : Test) (xs ys : List Finding) → after ≡ also (places xs) met → last ≡ also (places ys) after → last ≡ also (places (xs ++ ys)) met
marks_both met after last xs ys one other =
    other ∙ ap (also (places ys)) one ∙ sym (also-append (places xs) (places ys) met) ∙ ap (λ ns. also ns met) (sym (places-append xs ys))

-- one new page
pub one_new : (met : Test) (n : ℕ) → met n ≡ false → are_new met (n ∷ []) ≡ true
one_new met n is = ap (λ b. not b && true) is

-- ---- findings whose pages are new are all there

not_true : (b : Bool) → not b ≡ true → b ≡ false
not_true true is = cc
not_true false is = refl

after_new : (met : Test) (n : ℕ) (rest : List Finding) → not (met n) ≡ true → (if met n then fault (PageTwice n) ∷ [] else rest) ≡ rest
after_new met n rest new = ap (λ (b : Bool). if b then fault (PageTwice n) ∷ [] else rest) (not_true (met n) new)

pub once_split : (met : Test) (found more : List Finding) → are_new met (places found) ≡ true → once met (found ++ more) ≡ found ++ once (also (places found) met) more
once_split met [] more new = ap (λ t. once t more) (also_none met)
once_split met (key k ∷ found) more new = ap (λ l. key k ∷ l) (once_split met found more new)
once_split met (entry row ∷ found) more new = ap (λ l. entry row ∷ l) (once_split met found more new)
once_split met (fault d ∷ found) more new = ap (λ l. fault d ∷ l) (once_split met found more new)
once_split met (refused n ∷ found) more new = ap (λ l. refused n ∷ l) (once_split met found more new)
once_split met (place n ∷ found) more new =
    ap (λ l. place n ∷ l)
    (after_new met n (once (also (n ∷ []) met) (found ++ more)) (and_left (not (met n)) (are_new (also (n ∷ []) met) (places found)) new)
    ∙ once_split (also (n ∷ []) met) found more (and_right (not (met n)) (are_new (also (n ∷ []) met) (places found)) new)
    ∙ ap (λ t. found ++ once t more) (sym (also_first n (places found) met)))
once_split met (leaf n ∷ found) more new =
    ap (λ l. leaf n ∷ l)
    (after_new met n (once (also (n ∷ []) met) (found ++ more)) (and_left (not (met n)) (are_new (also (n ∷ []) met) (places found)) new)
    ∙ once_split (also (n ∷ []) met) found more (and_right (not (met n)) (are_new (also (n ∷ []) met) (places found)) new)
    ∙ ap (λ t. found ++ once t more) (sym (also_first n (places found) met)))

-- no more pages are asked for
if_fewer : (b : Bool) (d : Defect) (rest : List Finding) (most : ℕ) → length (places rest) ≤ most → length (places (if b then fault d ∷ [] else rest)) ≤ most
if_fewer true d rest most p = omega arith
if_fewer false d rest most p = p

pub once_fewer : (met : Test) (xs : List Finding) → length (places (once met xs)) ≤ length (places xs)
once_fewer met [] = omega arith
once_fewer met (key k ∷ xs) = once_fewer met xs
once_fewer met (entry row ∷ xs) = once_fewer met xs
once_fewer met (fault d ∷ xs) = once_fewer met xs
once_fewer met (refused n ∷ xs) = once_fewer met xs
once_fewer met (place n ∷ xs) =
    let rest = if_fewer (met n) (PageTwice n) (once (also (n ∷ []) met) xs) (length (places xs)) (once_fewer (also (n ∷ []) met) xs) in omega (arith, rest)
once_fewer met (leaf n ∷ xs) =
    let rest = if_fewer (met n) (PageTwice n) (once (also (n ∷ []) met) xs) (length (places xs)) (once_fewer (also (n ∷ []) met) xs) in omega (arith, rest)

-- ---- how often a page comes

unfoldable pub one_if : Bool → ℕ
one_if true = 1
one_if false = 0

unfoldable pub none_if : Bool → ℕ
none_if true = 0
none_if false = 1

-- how often page k is among these
abbrev pub times : ℕ → List ℕ → ℕ
times k [] = 0
times k (n ∷ ns) = one_if (n == k) + times k ns

times-append : (k : ℕ) (ns ms : List ℕ) → times k (ns ++ ms) ≡ times k ns + times k ms
times-append k [] ms = omega arith
times-append k (n ∷ ns) ms = let rest = times-append k ns ms in omega (arith, rest)

pub times_both : (k : ℕ) (xs ys : List Finding) → times k (places (xs ++ ys)) ≡ times k (places xs) + times k (places ys)
times_both k xs ys = ap (times k) (places-append xs ys) ∙ times-append k (places xs) (places ys)

zero_more : (a b : ℕ) → a ≤ b → 0 + a ≤ b
zero_more a b p = omega (arith, p)

zero_less : (a b : ℕ) → 0 + a ≤ b → a ≤ b
zero_less a b p = omega (arith, p)

-- new pages come once, and those that were met do not come
new_by : (met : Test) (n k rest : ℕ) (b : Bool) → (n == k) ≡ b → not (met n) ≡ true → rest ≤ none_if ((b || false) || met k) → one_if b + rest ≤ none_if (met k)
unfolding one_if none_if
new_by met n k rest true is new p =
    let same : met k ≡ false = ap met (sym (eqb-true n k is)) ∙ not_true (met n) new in rw same (omega (arith, p))
new_by met n k rest false is new p = zero_more rest (none_if (met k)) p

pub new_times : (met : Test) (ns : List ℕ) → are_new met ns ≡ true → (k : ℕ) → times k ns ≤ none_if (met k)
new_times met [] new k = omega arith
new_times met (n ∷ ns) new k =
    new_by met n k (times k ns) (n == k) refl (and_left (not (met n)) (are_new (also (n ∷ []) met) ns) new)
    (new_times (also (n ∷ []) met) ns (and_right (not (met n)) (are_new (also (n ∷ []) met) ns) new) k)

not_met : (b : Bool) (rest : ℕ) → one_if true + rest ≤ none_if b → not b ≡ true
unfolding one_if none_if
not_met true rest p = absurd (omega (arith, p))
not_met false rest p = refl

rest_by : (b m : Bool) (rest : ℕ) → one_if b + rest ≤ none_if m → rest ≤ none_if ((b || false) || m)
unfolding one_if none_if
rest_by true true rest p = absurd (omega (arith, p))
rest_by true false rest p = omega (arith, p)
rest_by false m rest p = zero_less rest (none_if m) p

-- and such pages are new
new_from : (met : Test) (ns : List ℕ) → ((k : ℕ) → times k ns ≤ none_if (met k)) → are_new met ns ≡ true
new_from met [] few = refl
new_from met (n ∷ ns) few =
    let first : not (met n) ≡ true = not_met (met n) (times n ns) (subst (λ b. one_if b + times n ns ≤ none_if (met n)) (eq-eqb n n refl) (few n)) in
    ap (λ b. b && are_new (also (n ∷ []) met) ns) first
    ∙ new_from (also (n ∷ []) met) ns (λ k. rest_by (n == k) (met k) (times k ns) (few k))

-- where a page comes once at most, all findings are there
pub once_all : (xs : List Finding) → ((k : ℕ) → times k (places xs) ≤ 1) → once nothing xs ≡ xs
unfolding none_if
once_all xs few =
    let new : are_new nothing (places xs) ≡ true = new_from nothing (places xs) few in
    ap (once nothing) (sym (append-nil xs)) ∙ once_split nothing xs [] new ∙ append-nil xs

-- ---- a walk without a defect

same_places : (met : List Finding) (x : Finding) → places (x ∷ []) ≡ [] → also (places (met ++ x ∷ [])) nothing ≡ also (places met) nothing
same_places met x none =
    ap (λ ns. also ns nothing) (places-append met (x ∷ []) ∙ ap (λ ns. places met ++ ns) none ∙ append-nil (places met))

next_place : (met : List Finding) (x : Finding) (n : ℕ) → places (x ∷ []) ≡ n ∷ [] → also (places (met ++ x ∷ [])) nothing ≡ also (n ∷ []) (also (places met) nothing)
next_place met x n is =
    ap (λ ns. also ns nothing) (places-append met (x ∷ []) ∙ ap (λ ns. places met ++ ns) is) ∙ also-append (places met) (n ∷ []) nothing

pub proper_new : (met xs : List Finding) → are_proper nothing met xs ≡ true → are_new (also (places met) nothing) (places xs) ≡ true
proper_new met [] proper = refl
proper_new met (key k ∷ xs) proper =
    ap (λ t. are_new t (places xs)) (sym (same_places met (key k) refl)) ∙ proper_new (met ++ key k ∷ []) xs (and_right (is_proper nothing met (key k)) _ proper)
proper_new met (entry row ∷ xs) proper =
    ap (λ t. are_new t (places xs)) (sym (same_places met (entry row) refl)) ∙ proper_new (met ++ entry row ∷ []) xs (and_right (is_proper nothing met (entry row)) _ proper)
proper_new met (fault d ∷ xs) proper =
    ap (λ t. are_new t (places xs)) (sym (same_places met (fault d) refl)) ∙ proper_new (met ++ fault d ∷ []) xs (and_right (is_proper nothing met (fault d)) _ proper)
proper_new met (refused n ∷ xs) proper =
    ap (λ t. are_new t (places xs)) (sym (same_places met (refused n) refl)) ∙ proper_new (met ++ refused n ∷ []) xs (and_right (is_proper nothing met (refused n)) _ proper)
proper_new met (place n ∷ xs) proper =
    ap (λ b. b && are_new (also (n ∷ []) (also (places met) nothing)) (places xs)) (and_left (is_proper nothing met (place n)) _ proper)
    ∙ ap (λ t. are_new t (places xs)) (sym (next_place met (place n) n refl))
    ∙ proper_new (met ++ place n ∷ []) xs (and_right (is_proper nothing met (place n)) _ proper)
proper_new met (leaf n ∷ xs) proper =
    ap (λ b. b && are_new (also (n ∷ []) (also (places met) nothing)) (places xs)) (and_left (is_proper nothing met (leaf n)) _ proper)
    ∙ ap (λ t. are_new t (places xs)) (sym (next_place met (leaf n) n refl))
    ∙ proper_new (met ++ leaf n ∷ []) xs (and_right (is_proper nothing met (leaf n)) _ proper)

-- in it each page comes once
pub proper_times : (xs : List Finding) → are_proper nothing [] xs ≡ true → (k : ℕ) → times k (places xs) ≤ 1
unfolding none_if
proper_times xs proper k = new_times nothing (places xs) (ap (λ t. are_new t (places xs)) (also_none nothing) ∙ proper_new [] xs proper) k

-- ---- marks that are left

-- no more marks are open than there are
pub open_most : (marks : List Bool) → open_count marks ≤ length marks
open_most [] = omega arith
open_most (true ∷ marks) =
    let rest = open_most marks in
    let first : open_count (true ∷ marks) ≡ 0 + open_count marks = sum_by-cons (λ (mark : Bool). if mark then 0 else 1) true marks in
    omega (arith, rest, first)
open_most (false ∷ marks) =
    let rest = open_most marks in
    let first : open_count (false ∷ marks) ≡ 1 + open_count marks = sum_by-cons (λ (mark : Bool). if mark then 0 else 1) false marks in
    omega (arith, rest, first)
