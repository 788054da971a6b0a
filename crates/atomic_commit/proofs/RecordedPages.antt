-- A page more has its record, and its mark.
use Rattle.std.proofs.Common.{◌≡◌, ◌≢◌, ◌⊎◌, inl, inr, ℕ, ◌-◌, ◌≤◌, Bool, true, false, List, [], ◌∷◌, ◌++◌, length, sym, ◌∙◌, subst, arith}
use Rattle.std.proofs.lemmas.List.{length-set, get_or-set_same, get_or-set_other}
use Rattle.journal_format.specs.Records.{Record}
use Rattle.atomic_commit.specs.Facts.{HasNone, HasRecord}
use Rattle.atomic_commit.specs.Marks.{is_marked, with_mark}
use Rattle.atomic_commit.specs.Recorded.{AreRecorded}
use Rattle.atomic_commit.proofs.Changed.{has_last, has_more}
use Rattle.atomic_commit.proofs.Kept.{none_one_more}
use Rattle.atomic_commit.proofs.OwnDraws.{same_or}

mark_here : (n : ℕ) (marks : List Bool) → 1 ≤ n → n ≤ length marks → is_marked n (with_mark n marks) ≡ true
mark_here n marks one le = get_or-set_same marks (n - 1) true false (omega (arith, one, le))

mark_there : (m n : ℕ) (marks : List Bool) → 1 ≤ m → 1 ≤ n → n ≢ m → is_marked n (with_mark m marks) ≡ is_marked n marks
mark_there m n marks one_m one_n other =
    get_or-set_other marks (m - 1) (n - 1) true false (λ same. other (let e : n ≡ m = omega (arith, same, one_m, one_n) in e))

not_both : (b : Bool) → b ≡ true → b ≡ false → ⊥
not_both b is not = cc

-- the page of the last record is marked
pub recorded_next : (marks : List Bool) (records all : List Record) (entry : Record) → all ≡ records ++ entry ∷ [] → 1 ≤ entry.page → entry.page ≤ length marks → AreRecorded marks records → AreRecorded (with_mark entry.page marks) all
recorded_next marks records all entry is one le were = subst (λ (rs : List Record). AreRecorded (with_mark entry.page marks) rs) (sym is) (record {
  have_one = λ n one_n le_n marked. has n one_n (short n le_n) marked (same_or n entry.page);
  have_none = λ n one_n le_n unmarked. none n one_n (short n le_n) unmarked (same_or n entry.page);
})
  where
    short : (n : ℕ) → n ≤ length (with_mark entry.page marks) → n ≤ length marks
    short n le_n = omega (arith, le_n, length-set marks (entry.page - 1) true)

    has : (n : ℕ) → 1 ≤ n → n ≤ length marks → is_marked n (with_mark entry.page marks) ≡ true → (n ≡ entry.page) ⊎ (n ≢ entry.page) → HasRecord n (records ++ entry ∷ [])
    has n one_n le_n marked (inl same) = has_last n records entry (sym same)
    has n one_n le_n marked (inr other) = has_more n records entry (were.have_one n one_n le_n (sym (mark_there entry.page n marks one one_n other) ∙ marked))

    none : (n : ℕ) → 1 ≤ n → n ≤ length marks → is_marked n (with_mark entry.page marks) ≡ false → (n ≡ entry.page) ⊎ (n ≢ entry.page) → HasNone n (records ++ entry ∷ [])
    none n one_n le_n unmarked (inl same) =
        absurd (not_both (is_marked n (with_mark entry.page marks)) (subst (λ (k : ℕ). is_marked k (with_mark entry.page marks) ≡ true) (sym same) (mark_here entry.page marks one le)) unmarked)
    none n one_n le_n unmarked (inr other) =
        none_one_more n records entry (were.have_none n one_n le_n (sym (mark_there entry.page n marks one one_n other) ∙ unmarked)) (λ is. other (sym is))
