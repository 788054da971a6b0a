-- One record of a playback.
use Rattle.std.proofs.Common.{◌≡◌, ℕ, suc, ◌+◌, ◌-◌, ◌*◌, ◌<◌, ◌≤◌, true, false, nat_le, List, [], ◌∷◌, ◌++◌, refl, sym, ◌∙◌, ap, subst, arith}
use Rattle.std.proofs.Math.Nat.{suc-mul}
use Rattle.journal_format.specs.Records.{Record, Place, record_at}
use Rattle.journal_format.specs.Segments.{places_of, played}
use Rattle.rollback_journal.specs.Laying.{page_start, reach, IsGivenByte, IsOneOf}
use Rattle.std.proofs.lemmas.Bool.Decides.{nat_tests}
use Rattle.rollback_journal.specs.declared.playback.Step.{Step}
use Rattle.rollback_journal.specs.declared.playback.Step.TheVariants.{End, Passed, Laid}
use Rattle.rollback_journal.specs.Playing.{pending, AreAmong, GoesOn, DidAt, IsOneIfGood}
use Rattle.rollback_journal.proofs.SegmentSteps.{pending_bad, pending_high, pending_low, among_then, one_among, goes_none, goes_then, goes_laid}

-- the next place of a segment
pub todo_next : (size nonce at n i : ℕ) (journal : List ℕ) (rest : List Place) → i < n
    → pending size journal (places_of (n - i) size nonce at ++ rest) ≡ pending size journal
    (record { nonce = nonce; at = at } ∷ (places_of (n - (i + 1)) size nonce (at + (size + 8)) ++ rest))
todo_next size nonce at n i journal rest lt =
    let e : n - i ≡ suc (n - (i + 1)) = omega arith in
    ap (λ (k : ℕ). pending size journal (places_of k size nonce at ++ rest)) e

pub todo_done : (size nonce at n i : ℕ) (journal : List ℕ) (rest : List Place) → n ≤ i
    → pending size journal (places_of (n - i) size nonce at ++ rest) ≡ pending size journal rest
todo_done size nonce at n i journal rest le =
    let e : n - i ≡ 0 = omega arith in
    ap (λ (k : ℕ). pending size journal (places_of k size nonce at ++ rest)) e

pub left_next : (at n i step : ℕ) → i < n → at + step + (n - (i + 1)) * step ≡ at + (n - i) * step
left_next at n i step lt =
    let e : n - i ≡ suc (n - (i + 1)) = omega arith in
    omega (arith, suc-mul (n - (i + 1)) step, ap (λ (k : ℕ). k * step) e)

goes_same : (size : ℕ) (a b c d : List Record) (k : ℕ) (x y : List ℕ) → a ≡ b → b ≡ c → x ≡ y → GoesOn size a c k k x y
goes_same size a b c d k x y e f m =
    subst (λ (y : List ℕ). GoesOn size a c k k x y) m (subst (λ (l : List Record). GoesOn size a l k k x x) (e ∙ f) (goes_none size a k x))

-- the count after a step
abbrev pub counted : Step → ℕ → ℕ
counted End count = count
counted Passed count = count
counted Laid count = count + 1

abbrev pub left_after : Step → ℕ → List ℕ → List Place → List Record
left_after End size journal rest = []
left_after Passed size journal rest = pending size journal rest
left_after Laid size journal rest = pending size journal rest

pub did_goes : (size : ℕ) (journal : List ℕ) (place : Place) (rest : List Place) (count : ℕ) (old new : List ℕ) (step : Step)
    → DidAt size journal place old new step
    → GoesOn size (pending size journal (place ∷ rest)) (left_after step size journal rest) count (counted step count) old new
did_goes size journal place rest count old new End did = goes_same size _ _ _ [] count old new (pending_bad size journal place rest did.0) refl (sym did.1)
did_goes size journal place rest count old new Passed did = goes_same size _ _ _ [] count old new
    (pending_high size journal place rest did.0 did.1) refl (sym did.2)
did_goes size journal place rest count old new Laid did =
    subst (λ (l : List Record). GoesOn size l (pending size journal rest) count (count + 1) old new) (sym (pending_low size journal place rest did.0 did.1))
    (subst (λ (m : List ℕ). GoesOn size (record_at size journal place ∷ pending size journal rest) (pending size journal rest) count (count + 1) old m) (sym did.2) (goes_laid size (record_at size journal place) (pending size journal rest) count old))

pub loop_goes : (size nonce at n i : ℕ) (journal now : List ℕ) (rest : List Place) (all : List Record) (first count after : ℕ) (start old new : List ℕ) (step : Step)
    → i < n → now ≡ journal
    → GoesOn size all (pending size journal (places_of (n - i) size nonce at ++ rest)) first count start old → DidAt size now
    (record { nonce = nonce; at = at }) old new step → after ≡ counted step count
    → GoesOn size all (left_after step size journal (places_of (n - (i + 1)) size nonce (at + (size + 8)) ++ rest)) first after start new
loop_goes size nonce at n i journal now rest all first count after start old new step lt same so_far did after_is =
    let next : List Place = places_of (n - (i + 1)) size nonce (at + (size + 8)) ++ rest in
    let here : DidAt size journal (record { nonce = nonce; at = at }) old new step = subst
    (λ (j : List ℕ). DidAt size j (record { nonce = nonce; at = at }) old new step) same did in
    let one = did_goes size journal (record { nonce = nonce; at = at })
    (places_of (n - (i + 1)) size nonce (at + (size + 8)) ++ rest) count old new step here in
    let begun = subst (λ (l : List Record). GoesOn size all l first count start old) (todo_next size nonce at n i journal rest lt) so_far in
    subst (λ (k : ℕ). GoesOn size all (left_after step size journal (places_of (n - (i + 1)) size nonce (at + (size + 8)) ++ rest)) first k start new)
    (sym after_is) (goes_then size _ _ _ _ _ _ _ _ _ begun one)

pub loop_one : (size nonce at n i : ℕ) (journal now : List ℕ) (rest : List Place) (all : List Record) (first count : ℕ) (start old : List ℕ) → i < n
    → now ≡ journal
    → GoesOn size all (pending size journal (places_of (n - i) size nonce at ++ rest)) first count start old → AreAmong size all
    (played size journal) → IsOneIfGood size now (record { nonce = nonce; at = at })
loop_one size nonce at n i journal now rest all first count start old lt same so_far among = subst
    (λ (j : List ℕ). IsOneIfGood size j (record { nonce = nonce; at = at })) (sym same) here
  where
    here : IsOneIfGood size journal (record { nonce = nonce; at = at })
    here good low =
        let begun = subst (λ (l : List Record). AreAmong size l all)
        (todo_next size nonce at n i journal rest lt ∙ pending_low size journal (record { nonce = nonce; at = at }) (places_of (n - (i + 1)) size nonce (at + (size + 8)) ++ rest) good low) so_far.among in
        one_among size (record_at size journal (record { nonce = nonce; at = at })) _ _ (among_then size _ _ _ begun among)

pub todo_begun : (size nonce at n : ℕ) (journal : List ℕ) (rest : List Place)
    → pending size journal (places_of n size nonce at ++ rest) ≡ pending size journal (places_of (n - 0) size nonce at ++ rest)
todo_begun size nonce at n journal rest =
    let e : n ≡ n - 0 = omega arith in
    ap (λ (k : ℕ). pending size journal (places_of k size nonce at ++ rest)) e

pub left_begun : (at n step : ℕ) → at + (n - 0) * step ≡ at + n * step
left_begun at n step =
    let e : n - 0 ≡ n = omega arith in
    ap (λ (k : ℕ). at + k * step) e

pub goes_begun : (size : ℕ) (a b : List Record) (k : ℕ) (x : List ℕ) → a ≡ b → GoesOn size a b k k x x
goes_begun size a b k x same = subst (λ (l : List Record). GoesOn size a l k k x x) same (goes_none size a k x)

pub low_is : (page of initial at : ℕ) → page ≡ of → initial ≡ at → page ≤ initial → nat_le of at ≡ true
low_is page of initial at same too le = let h : of ≤ at = omega arith in go of at h
  where
    go : (a b : ℕ) → a ≤ b → nat_le a b ≡ true
    go a b h = grind (arith, nat_tests)

pub high_is : (page of initial at : ℕ) → page ≡ of → initial ≡ at → initial < page → nat_le of at ≡ false
high_is page of initial at same too lt = let h : at < of = omega arith in go of at h
  where
    go : (a b : ℕ) → b < a → nat_le a b ≡ false
    go a b h = grind (arith, nat_tests)

pub one_at : (size page : ℕ) (image : List ℕ) (entry : Record) (all : List Record) → page ≡ entry.page → IsOneOf size entry all
    → IsOneOf size (record { page = page; image = image }) all
one_at size page image entry all same one =
    let at = subst (λ (n : ℕ). (i : ℕ) → page_start size n ≤ i → i < page_start size n + size → IsGivenByte size all i) (sym same) one.given in
    record { given = at; reached = subst (λ (n : ℕ). page_start size n + size ≤ reach size all) (sym same) one.reached }
