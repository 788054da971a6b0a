-- The values of a row with another root page, one after another.
use Rattle.std.proofs.Common.{◌≡◌, ◌≤◌, false, ℕ, zero, suc, ◌+◌, pos, List, [], ◌∷◌, ◌++◌, ◌==◌, length, take, drop, if◌then◌else◌, refl, ap, sym, ◌∙◌, arith}
use Rattle.std.proofs.lemmas.List.{drop-drop, length-drop, take_all}
use Rattle.db_format.specs.Value.{Datum}
use Rattle.db_format.specs.Value.Datum.{int}
use Rattle.btree_model.specs.Content.{without_fourth}
use Rattle.migrate_job.specs.Bound.{with_root}
use Rattle.migrate_job.specs.Copied.{row_values}

-- what is left after one value more
pub left_after : (n : ℕ) (all left later : List Datum) (value : Datum) → left ≡ drop n all → left ≡ value ∷ later → later ≡ drop (n + 1) all
left_after n all left later value is first = ap (λ (l : List Datum). drop 1 l) (sym first ∙ is) ∙ drop-drop 1 n all

behind : (k : ℕ) (rest later : List Datum) (value : Datum) → value ∷ later ≡ drop k rest → take k rest ++ value ∷ [] ≡ take (suc k) rest
behind zero [] later value is = cc
behind zero (x ∷ rest) later value is = ap (λ (l : List Datum). take 1 l) is
behind (suc k) [] later value is = cc
behind (suc k) (x ∷ rest) later value is = ap (λ l. x ∷ l) (behind k rest later value is)

not_third : (k : ℕ) → (suc (suc (suc (suc k))) == 3) ≡ false
not_third k = grind arith

-- one value more of the new row
next_by : (n root : ℕ) (all later : List Datum) (value : Datum) → 5 ≤ length all → value ∷ later ≡ drop n all
    → take n (row_values root all) ++ (if n == 3 then int (pos root) else value) ∷ [] ≡ take (suc n) (row_values root all)
next_by n root [] later value long is = absurd (omega arith)
next_by n root (a ∷ []) later value long is = absurd (omega arith)
next_by n root (a ∷ (b ∷ [])) later value long is = absurd (omega arith)
next_by n root (a ∷ (b ∷ (c ∷ []))) later value long is = absurd (omega arith)
next_by zero root (a ∷ (b ∷ (c ∷ (d ∷ rest)))) later value long is = ap (λ (l : List Datum). take 1 l) is
next_by (suc zero) root (a ∷ (b ∷ (c ∷ (d ∷ rest)))) later value long is = ap (λ (l : List Datum). a ∷ take 1 l) is
next_by (suc (suc zero)) root (a ∷ (b ∷ (c ∷ (d ∷ rest)))) later value long is = ap (λ (l : List Datum). a ∷ (b ∷ take 1 l)) is
next_by (suc (suc (suc zero))) root (a ∷ (b ∷ (c ∷ (d ∷ rest)))) later value long is = refl
next_by (suc (suc (suc (suc k)))) root (a ∷ (b ∷ (c ∷ (d ∷ rest)))) later value long is =
    ap (λ yes. a ∷ (b ∷ (c ∷ (int (pos root) ∷ (take k rest ++ (if yes then int (pos root) else value) ∷ []))))) (not_third k)
    ∙ ap (λ l. a ∷ (b ∷ (c ∷ (int (pos root) ∷ l)))) (behind k rest later value is)

pub row_more : (n root : ℕ) (all left later : List Datum) (value : Datum) → 5 ≤ length all → left ≡ drop n all → left ≡ value ∷ later
    → take n (row_values root all) ++ (if n == 3 then int (pos root) else value) ∷ [] ≡ take (n + 1) (row_values root all)
row_more n root all left later value long is first =
    let next : suc n ≡ n + 1 = omega arith in
    next_by n root all later value long (sym first ∙ is) ∙ ap (λ k. take k (row_values root all)) next

pub row_len : (root : ℕ) (all : List Datum) → 5 ≤ length all → length (row_values root all) ≡ length all
row_len root [] long = absurd (omega arith)
row_len root (a ∷ []) long = absurd (omega arith)
row_len root (a ∷ (b ∷ [])) long = absurd (omega arith)
row_len root (a ∷ (b ∷ (c ∷ []))) long = absurd (omega arith)
row_len root (a ∷ (b ∷ (c ∷ (d ∷ rest)))) long = refl

-- all values, as soon as none is left
pub row_whole : (n root : ℕ) (all : List Datum) → 5 ≤ length all → length all ≤ n → take n (row_values root all) ≡ row_values root all
row_whole n root all long whole = let len : length (row_values root all) ≡ length all = row_len root all long in take_all n (row_values root all) (omega (arith, len))

pub none_left : (n : ℕ) (all left : List Datum) → left ≡ drop n all → left ≡ [] → length all ≤ n
none_left n all left is none =
    let len : length (drop n all) ≡ 0 = ap length (sym is ∙ none) in
    omega (arith, len, length-drop n all)

-- the same row, from the columns that the content keeps
pub row_values_kept : (root : ℕ) (all : List Datum) → 5 ≤ length all → with_root root (without_fourth all) ≡ row_values root all
row_values_kept root [] long = absurd (omega arith)
row_values_kept root (a ∷ []) long = absurd (omega arith)
row_values_kept root (a ∷ (b ∷ [])) long = absurd (omega arith)
row_values_kept root (a ∷ (b ∷ (c ∷ []))) long = absurd (omega arith)
row_values_kept root (a ∷ (b ∷ (c ∷ (d ∷ rest)))) long = refl

-- and without its fourth value it is what the content keeps
pub row_values_rest : (root : ℕ) (all : List Datum) → 5 ≤ length all → without_fourth (row_values root all) ≡ without_fourth all
row_values_rest root [] long = absurd (omega arith)
row_values_rest root (a ∷ []) long = absurd (omega arith)
row_values_rest root (a ∷ (b ∷ [])) long = absurd (omega arith)
row_values_rest root (a ∷ (b ∷ (c ∷ []))) long = absurd (omega arith)
row_values_rest root (a ∷ (b ∷ (c ∷ (d ∷ rest)))) long = refl
