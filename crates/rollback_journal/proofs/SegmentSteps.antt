-- The places of the segments of a journal, and what they play.
use Rattle.std.proofs.Common.{◌≡◌, inl, inr, ℕ, suc, zero, ◌+◌, ◌-◌, ◌*◌, ◌/◌, ◌<◌, ◌≤◌, Bool, true, false, ◌&&◌, nat_le, not, ◌==◌, if◌then◌else◌, List, [], ◌∷◌, ◌++◌, length, drop, filter, refl, sym, ◌∙◌, ap, arith, length-drop, append_assoc}
use Rattle.std.specs.Prelude.{Option, Some, None, MatchOption}
use Rattle.std.proofs.lemmas.List.{length-take, append-nil}
use Rattle.std.proofs.lemmas.Bool.Decides.{nat_tests}
use Rattle.std.proofs.Math.Nat.{suc-mul, mul-le-mul_right}
use Rattle.edge_model.specs.Files.{written}
use Rattle.journal_format.specs.Header.{head_at, has_header, count_at, nonce_at, initial_at, sector_at}
use Rattle.journal_format.specs.Records.{Record, Place, record_bytes_at, page_of, record_at, is_good}
use Rattle.journal_format.specs.Segments.{good_front, places_from, places_of, rounded_up, sought, is_open_ended}
use Rattle.rollback_journal.specs.Laying.{page_start, IsOneOf}
use Rattle.rollback_journal.specs.declared.segments.Segment.{Segment}
use Rattle.rollback_journal.specs.Playing.{pending, places_at, AreAmong, GoesOn, is_whole, todo_at, IsSegmentAt}
use Rattle.rollback_journal.proofs.Played.{and_second, le_is}

eq_not : (a b : ℕ) → (a ≡ b → ⊥) → (a == b) ≡ false
eq_not a b other = grind (arith, nat_tests)

le_not : (a b : ℕ) → b < a → nat_le a b ≡ false
le_not a b lt = grind (arith, nat_tests)

and_false : (a b : Bool) → a ≡ false → (a && b) ≡ false
and_false a b is = cc

-- no header stands so near to the end
pub no_header : (at : ℕ) (journal : List ℕ) → length journal < at + 28 → has_header at journal ≡ false
no_header at journal near = and_false _ _ (le_not 28 (length (head_at at journal)) (omega (arith, length-take 28 (drop at journal), length-drop at journal)))

pub places_none : (more size sector at : ℕ) (journal : List ℕ) → has_header at journal ≡ false → places_from more size sector at journal ≡ []
places_none zero size sector at journal none = refl
places_none (suc more) size sector at journal none =
    ap (λ (b : Bool). if b then places_of (sought size sector at journal) size (nonce_at at journal) (at + sector)
    ++
    (if is_open_ended at journal then [] else places_from more size sector (rounded_up sector (at + sector + sought size sector at journal * (size + 8))) journal) else []) none

-- the bound does not matter where it is large enough
stable : (more less size sector at : ℕ) (journal : List ℕ) → 0 < sector → length journal ≤ at + more → length journal ≤ at + less
    → places_from more size sector at journal ≡ places_from less size sector at journal
stable zero less size sector at journal some m l = sym (places_none less size sector at journal (no_header at journal (omega arith)))
stable (suc more) zero size sector at journal some m l = places_none (suc more) size sector at journal (no_header at journal (omega arith))
stable (suc more) (suc less) size sector at journal some m l =
    let next : ℕ = rounded_up sector (at + sector + sought size sector at journal * (size + 8)) in
    ap
    (λ (ps : List Place). if has_header at journal then places_of (sought size sector at journal) size (nonce_at at journal) (at + sector) ++ (if is_open_ended at journal then [] else ps) else [])
    (stable more less size sector (rounded_up sector (at + sector + sought size sector at journal * (size + 8))) journal some (omega arith) (omega arith))

-- the places from a header on: those of its segment, and then those from the next one
pub places_unrolled : (size at : ℕ) (journal : List ℕ) → 0 < sector_at 0 journal → at < length journal → has_header at journal ≡ true
    → places_at size journal at ≡ places_of (sought size (sector_at 0 journal) at journal) size (nonce_at at journal) (at + sector_at 0 journal)
    ++
    (if is_open_ended at journal then [] else places_at size journal (rounded_up (sector_at 0 journal) (at + sector_at 0 journal + sought size (sector_at 0 journal) at journal * (size + 8))))
places_unrolled size at journal some lt has = go (length journal) refl
  where
    sector : ℕ
    sector = sector_at 0 journal

    go : (n : ℕ) → length journal ≡ n
        → places_from (length journal) size (sector_at 0 journal) at journal ≡ places_of (sought size (sector_at 0 journal) at journal) size
        (nonce_at at journal) (at + sector_at 0 journal)
        ++
        (if is_open_ended at journal then [] else places_from (length journal) size (sector_at 0 journal) (rounded_up (sector_at 0 journal) (at + sector_at 0 journal + sought size (sector_at 0 journal) at journal * (size + 8))) journal)
    go zero is = absurd (omega arith)
    go (suc n) is =
        ap (λ (m : ℕ). places_from m size (sector_at 0 journal) at journal) is
        ∙ ap (λ (b : Bool). if b then places_of (sought size (sector_at 0 journal) at journal) size (nonce_at at journal) (at + sector_at 0 journal)
        ++
        (if is_open_ended at journal then [] else places_from n size (sector_at 0 journal) (rounded_up (sector_at 0 journal) (at + sector_at 0 journal + sought size (sector_at 0 journal) at journal * (size + 8))) journal) else []) has
        ∙ ap
        (λ (ps : List Place). places_of (sought size (sector_at 0 journal) at journal) size (nonce_at at journal) (at + sector_at 0 journal) ++ (if is_open_ended at journal then [] else ps))
        (stable n (length journal) size (sector_at 0 journal) (rounded_up (sector_at 0 journal) (at + sector_at 0 journal + sought size (sector_at 0 journal) at journal * (size + 8))) journal some (omega arith) (omega arith))

-- a place from which a record would go past the end
pub bad_place : (size : ℕ) (journal : List ℕ) (place : Place) → length journal < place.at + (size + 8) → is_good size journal place ≡ false
bad_place size journal place past = and_false _ _
    (eq_not (length (record_bytes_at size journal place)) (size + 8) (λ whole. omega (arith, whole, length-take (size + 8) (drop place.at journal), length-drop place.at journal)))

front_bad : (size : ℕ) (journal : List ℕ) (place : Place) (rest : List Place) → is_good size journal place ≡ false → good_front size journal (place ∷ rest) ≡ []
front_bad size journal place rest bad = ap (λ (b : Bool). if b then record_at size journal place ∷ good_front size journal rest else []) bad

front_good : (size : ℕ) (journal : List ℕ) (place : Place) (rest : List Place) → is_good size journal place ≡ true
    → good_front size journal (place ∷ rest) ≡ record_at size journal place ∷ good_front size journal rest
front_good size journal place rest good = ap (λ (b : Bool). if b then record_at size journal place ∷ good_front size journal rest else []) good

-- where nothing more is played, it may be left out
front_append : (size : ℕ) (journal : List ℕ) (ps qs : List Place) → good_front size journal qs ≡ []
    → good_front size journal (ps ++ qs) ≡ good_front size journal ps
front_append size journal [] qs none = none
front_append size journal (p ∷ ps) qs none = ap (λ (rs : List Record). if is_good size journal p then record_at size journal p ∷ rs else [])
    (front_append size journal ps qs none)

front_past : (n size nonce first : ℕ) (journal : List ℕ) (rest : List Place) → good_front size journal rest ≡ [] → length journal < first + (size + 8)
    → good_front size journal (places_of n size nonce first ++ rest) ≡ []
front_past zero size nonce first journal rest none past = none
front_past (suc n) size nonce first journal rest none past = front_bad size journal (record { nonce = nonce; at = first })
    (places_of n size nonce (first + (size + 8)) ++ rest) (bad_place size journal (record { nonce = nonce; at = first }) past)

pub places_split : (a b size nonce first : ℕ)
    → places_of (a + b) size nonce first ≡ places_of a size nonce first ++ places_of b size nonce (first + a * (size + 8))
places_split zero b size nonce first =
    let e : zero + b ≡ b = omega arith in
    let f : first + zero * (size + 8) ≡ first = omega arith in
    ap (λ (n : ℕ). places_of n size nonce first) e ∙ ap (λ (n : ℕ). places_of b size nonce n) (sym f)
places_split (suc a) b size nonce first =
    let e : suc a + b ≡ suc (a + b) = omega arith in
    let f : first + (size + 8) + a * (size + 8) ≡ first + suc a * (size + 8) = omega (arith, suc-mul a (size + 8)) in
    ap (λ (n : ℕ). places_of n size nonce first) e
    ∙ ap (λ (ps : List Place). record { nonce = nonce; at = first } ∷ ps)
    (places_split a b size nonce (first + (size + 8)) ∙ ap (λ (n : ℕ). places_of a size nonce (first + (size + 8)) ++ places_of b size nonce n) f)

-- of a segment that goes past the end, the places that fit
pub front_cut : (count fits size nonce first : ℕ) (journal : List ℕ) (rest : List Place) → fits < count
    → length journal < first + fits * (size + 8) + (size + 8)
    → good_front size journal (places_of count size nonce first ++ rest) ≡ good_front size journal (places_of fits size nonce first ++ [])
front_cut count fits size nonce first journal rest more past = go (count - fits) (let e : fits + (count - fits) ≡ count = omega arith in e) (omega arith)
  where
    go : (k : ℕ) → fits + k ≡ count → 0 < k
        → good_front size journal (places_of count size nonce first ++ rest) ≡ good_front size journal (places_of fits size nonce first ++ [])
    go zero is some = absurd (omega arith)
    go (suc k) is some =
        ap (λ (n : ℕ). good_front size journal (places_of n size nonce first ++ rest)) (sym is)
        ∙ ap (λ (ps : List Place). good_front size journal (ps ++ rest)) (places_split fits (suc k) size nonce first)
        ∙ ap (λ (ps : List Place). good_front size journal ps)
        (append_assoc (places_of fits size nonce first) (places_of (suc k) size nonce (first + fits * (size + 8))) rest)
        ∙ front_append size journal (places_of fits size nonce first) (places_of (suc k) size nonce (first + fits * (size + 8)) ++ rest)
        (front_bad size journal (record { nonce = nonce; at = first + fits * (size + 8) }) (places_of k size nonce (first + fits * (size + 8) + (size + 8)) ++ rest) (bad_place size journal (record { nonce = nonce; at = first + fits * (size + 8) }) past))
        ∙ ap (λ (ps : List Place). good_front size journal ps) (sym (append-nil (places_of fits size nonce first)))

abbrev low_page : List ℕ → Record → Bool
low_page journal r = nat_le r.page (initial_at 0 journal)

-- what the header says, by whether it is open-ended and whether its count fits
by_count : (size nonce first count fits : ℕ) (journal : List ℕ) (o w : Bool) → w ≡ nat_le count fits → length journal < first + fits * (size + 8) + (size + 8)
    → good_front size journal
    (places_of (if o then fits else count) size nonce first ++ (if o then [] else places_at size journal (rounded_up (sector_at 0 journal) (first + (if o then fits else count) * (size + 8)))))
    ≡ good_front size journal
    (places_of (if not o && w then count else fits) size nonce first ++ (if not (not o && w) then [] else places_at size journal (rounded_up (sector_at 0 journal) (first + (if not o && w then count else fits) * (size + 8)))))
by_count size nonce first count fits journal true w is past = refl
by_count size nonce first count fits journal false true is past = refl
by_count size nonce first count fits journal false false is past =
    front_cut count fits size nonce first journal (places_at size journal (rounded_up (sector_at 0 journal) (first + count * (size + 8))))
    (above count fits (sym is)) past
  where
    above : (a b : ℕ) → nat_le a b ≡ false → b < a
    above a b off = grind (arith, nat_tests)

fits_past : (room step : ℕ) → 0 < step → room < room / step * step + step
fits_past room step some = omega arith

pub segment_is : (size at count fits : ℕ) (journal : List ℕ) → 0 < sector_at 0 journal → at < length journal
    → at + sector_at 0 journal ≤ length journal → has_header at journal ≡ true → count ≡ count_at at journal
    → fits ≡ (length journal - (at + sector_at 0 journal)) / (size + 8)
    → pending size journal (places_at size journal at)
    ≡ pending size journal (places_of (if is_whole count fits then count else fits) size (nonce_at at journal) (at + sector_at 0 journal)
    ++
    (if not (is_whole count fits) then [] else places_at size journal (rounded_up (sector_at 0 journal) (at + sector_at 0 journal + (if is_whole count fits then count else fits) * (size + 8)))))
segment_is size at count fits journal some lt within has count_is fits_is =
    ap (λ (ps : List Place). pending size journal ps) (places_unrolled size at journal some lt has)
    ∙ ap
    (λ (n : ℕ). pending size journal (places_of (if count_at at journal == 4294967295 then n else count_at at journal) size (nonce_at at journal) (at + sector_at 0 journal)
    ++
    (if count_at at journal == 4294967295 then [] else places_at size journal (rounded_up (sector_at 0 journal) (at + sector_at 0 journal + (if count_at at journal == 4294967295 then n else count_at at journal) * (size + 8)))))) (sym fits_is)
    ∙ ap (λ (n : ℕ). pending size journal (places_of (if n == 4294967295 then fits else n) size (nonce_at at journal) (at + sector_at 0 journal)
    ++
    (if n == 4294967295 then [] else places_at size journal (rounded_up (sector_at 0 journal) (at + sector_at 0 journal + (if n == 4294967295 then fits else n) * (size + 8)))))) (sym count_is)
    ∙ ap (λ (rs : List Record). filter (low_page journal) rs)
    (by_count size (nonce_at at journal) (at + sector_at 0 journal) count fits journal (count == 4294967295) (nat_le count fits) refl past)
  where
    past : length journal < at + sector_at 0 journal + fits * (size + 8) + (size + 8)
    past = let e = fits_past (length journal - (at + sector_at 0 journal)) (size + 8) (omega arith) in omega (arith, e, ap (λ (n : ℕ). n * (size + 8)) fits_is)

-- a header so near to the end that its records would stand past it
pub segment_past : (size at : ℕ) (journal : List ℕ) → 0 < sector_at 0 journal → at < length journal → length journal < at + sector_at 0 journal
    → has_header at journal ≡ true → pending size journal (places_at size journal at) ≡ []
segment_past size at journal some lt past has =
    ap (λ (ps : List Place). pending size journal ps) (places_unrolled size at journal some lt has)
    ∙ ap (λ (rs : List Record). filter (low_page journal) rs)
    (front_past (sought size (sector_at 0 journal) at journal) size (nonce_at at journal) (at + sector_at 0 journal) journal _ (rest (is_open_ended at journal)) (omega arith))
  where
    rest : (o : Bool)
        → good_front size journal
        (if o then [] else places_at size journal (rounded_up (sector_at 0 journal) (at + sector_at 0 journal + sought size (sector_at 0 journal) at journal * (size + 8)))) ≡ []
    rest true = refl
    rest false = ap (λ (ps : List Place). good_front size journal ps)
        (places_none (length journal) size (sector_at 0 journal) _ journal (no_header _ journal (omega arith)))

pub segment_none : (size at : ℕ) (journal : List ℕ) → has_header at journal ≡ false → pending size journal (places_at size journal at) ≡ []
segment_none size at journal none = ap (λ (ps : List Place). pending size journal ps) (places_none (length journal) size (sector_at 0 journal) at journal none)

-- what is still to be laid, at the next place
pub pending_bad : (size : ℕ) (journal : List ℕ) (place : Place) (rest : List Place) → is_good size journal place ≡ false
    → pending size journal (place ∷ rest) ≡ []
pending_bad size journal place rest bad = ap (λ (rs : List Record). filter (low_page journal) rs) (front_bad size journal place rest bad)

pub pending_high : (size : ℕ) (journal : List ℕ) (place : Place) (rest : List Place) → is_good size journal place ≡ true
    → nat_le (page_of (record_bytes_at size journal place)) (initial_at 0 journal) ≡ false → pending size journal (place ∷ rest) ≡ pending size journal rest
pending_high size journal place rest good high =
    ap (λ (rs : List Record). filter (low_page journal) rs) (front_good size journal place rest good)
    ∙ ap (λ (b : Bool). if b then record_at size journal place ∷ pending size journal rest else pending size journal rest) high

pub pending_low : (size : ℕ) (journal : List ℕ) (place : Place) (rest : List Place) → is_good size journal place ≡ true
    → nat_le (page_of (record_bytes_at size journal place)) (initial_at 0 journal) ≡ true
    → pending size journal (place ∷ rest) ≡ record_at size journal place ∷ pending size journal rest
pending_low size journal place rest good low =
    ap (λ (rs : List Record). filter (low_page journal) rs) (front_good size journal place rest good)
    ∙ ap (λ (b : Bool). if b then record_at size journal place ∷ pending size journal rest else pending size journal rest) low

pub among_all : (size : ℕ) (rs : List Record) → AreAmong size rs rs
among_all size rs = record { given = λ i given. given; reached = omega arith }

pub among_then : (size : ℕ) (a b c : List Record) → AreAmong size a b → AreAmong size b c → AreAmong size a c
among_then size a b c one two = record { given = λ i given. two.given i (one.given i given); reached = omega (arith, one.reached, two.reached) }

pub among_none : (size : ℕ) (rs : List Record) → AreAmong size [] rs
among_none size rs = record { given = λ i given. absurd given; reached = omega arith }

pub among_rest : (size : ℕ) (entry : Record) (rs : List Record) → AreAmong size rs (entry ∷ rs)
among_rest size entry rs = record { given = λ i given. inr given; reached = omega arith }

pub one_among : (size : ℕ) (entry : Record) (rest all : List Record) → AreAmong size (entry ∷ rest) all → IsOneOf size entry all
one_among size entry rest all among = record { given = λ i from to. among.given i (inl (from, to)); reached = omega (arith, among.reached) }

pub goes_none : (size : ℕ) (todo : List Record) (count : ℕ) (main : List ℕ) → GoesOn size todo todo count count main main
goes_none size todo count main = record { laid_alike = refl; all_counted = refl; among = among_all size todo }

pub goes_then : (size : ℕ) (a b c : List Record) (k l m : ℕ) (x y z : List ℕ) → GoesOn size a b k l x y → GoesOn size b c l m y z → GoesOn size a c k m x z
goes_then size a b c k l m x y z one two = record { laid_alike = two.laid_alike ∙ one.laid_alike; all_counted = two.all_counted ∙ one.all_counted; among = among_then size c b a two.among one.among }

pub goes_laid : (size : ℕ) (entry : Record) (rest : List Record) (count : ℕ) (main : List ℕ)
    → GoesOn size (entry ∷ rest) rest count (count + 1) main (written (page_start size entry.page) entry.image main)
goes_laid size entry rest count main = record { laid_alike = refl; all_counted = omega arith; among = among_rest size entry rest }

abbrev todo_from : ℕ → List ℕ → ℕ → ℕ → ℕ → Bool → List Record
todo_from size journal first nonce count last = pending size journal
    (places_of count size nonce first ++ (if last then [] else places_at size journal (rounded_up (sector_at 0 journal) (first + count * (size + 8)))))

pub segment_found : (size at count fits : ℕ) (journal : List ℕ) (segment : Segment) → 0 < sector_at 0 journal → at < length journal
    → at + sector_at 0 journal ≤ length journal → has_header at journal ≡ true → count ≡ count_at at journal
    → fits ≡ (length journal - (at + sector_at 0 journal)) /
    (size + 8) → segment.first ≡ at + sector_at 0 journal → segment.nonce ≡ nonce_at at journal → segment.count ≡
    (if is_whole count fits then count else fits) → segment.last ≡ not (is_whole count fits)
    → IsSegmentAt size journal at (Some segment)
segment_found size at count fits journal segment some lt within has count_is fits_is first nonce counted last =
    segment_is size at count fits journal some lt within has count_is fits_is
    ∙ sym (ap (λ (n : ℕ). todo_from size journal n segment.nonce segment.count segment.last) first
    ∙ ap (λ (n : ℕ). todo_from size journal (at + sector_at 0 journal) n segment.count segment.last) nonce
    ∙ ap (λ (n : ℕ). todo_from size journal (at + sector_at 0 journal) (nonce_at at journal) n segment.last) counted
    ∙ ap (λ (b : Bool). todo_from size journal (at + sector_at 0 journal) (nonce_at at journal) (if is_whole count fits then count else fits) b) last)

pub count_bound : (count room step : ℕ) → 0 < step → (if is_whole count (room / step) then count else room / step) * step ≤ room
count_bound count room step some = go (is_whole count (room / step)) refl
  where
    go : (b : Bool) → is_whole count (room / step) ≡ b → (if b then count else room / step) * step ≤ room
    go true is = let le : count ≤ room / step = le_is count (room / step)
        (and_second (not (count == 4294967295)) (nat_le count (room / step)) is) in omega (arith, mul-le-mul_right step le)
    go false is = omega arith

if_true : (b : Bool) (x y : List Record) → b ≡ true → (if b then x else y) ≡ x
if_true true x y is = refl
if_true false x y is = cc

-- after a whole segment: what its header said, and then the next header
pub next_todo : (size : ℕ) (journal : List ℕ) (first count : ℕ) (last : Bool) (next : Option ℕ) → last ≡ false
    → MatchOption next (length journal < rounded_up (sector_at 0 journal) (first + count * (size + 8)))
    (λ n. n ≡ rounded_up (sector_at 0 journal) (first + count * (size + 8)))
    → pending size journal
    (if last then [] else places_at size journal (rounded_up (sector_at 0 journal) (first + count * (size + 8)))) ≡ todo_at size journal next
next_todo size journal first count true next is at = cc
next_todo size journal first count false None is at = segment_none size (rounded_up (sector_at 0 journal) (first + count * (size + 8))) journal
    (no_header _ journal (omega (arith, at)))
next_todo size journal first count false (Some n) is at = ap (λ (k : ℕ). pending size journal (places_at size journal k)) (sym at)

pub last_todo : (size : ℕ) (journal : List ℕ) (rest : List Place) (last : Bool) → last ≡ true → pending size journal (if last then [] else rest) ≡ []
last_todo size journal rest true is = refl
last_todo size journal rest false is = cc
