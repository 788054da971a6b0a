-- A whole segment of a playback.
use Rattle.std.proofs.Common.{◌≡◌, ℕ, ◌+◌, ◌*◌, ◌<◌, Bool, true, false, if◌then◌else◌, List, [], ◌++◌, length, refl, sym, ◌∙◌, subst}
use Rattle.std.specs.Prelude.{Option, Some, None, MatchOption}
use Rattle.edge_model.specs.Files.{Files, main_of}
use Rattle.journal_format.specs.Header.{sector_at}
use Rattle.journal_format.specs.Records.{Record, Place}
use Rattle.journal_format.specs.Segments.{places_of, rounded_up}
use Rattle.rollback_journal.specs.declared.segments.Segment.{Segment}
use Rattle.rollback_journal.specs.Playing.{journal_of, pending, places_at, GoesOn, todo_at, IsSegmentAt}
use Rattle.rollback_journal.proofs.SegmentSteps.{next_todo, goes_then}

abbrev behind : ℕ → List ℕ → Segment → List Place
behind size journal segment = if segment.last then [] else places_at size journal
    (rounded_up (sector_at 0 journal) (segment.first + segment.count * (size + 8)))

goes_to : (size : ℕ) (a b c : List Record) (k l : ℕ) (x y : List ℕ) → b ≡ c → GoesOn size a b k l x y → GoesOn size a c k l x y
goes_to size a b c k l x y same goes = subst (λ (r : List Record). GoesOn size a r k l x y) same goes

goes_of : (size : ℕ) (a b c : List Record) (k l : ℕ) (x y : List ℕ) → a ≡ b → GoesOn size a c k l x y → GoesOn size b c k l x y
goes_of size a b c k l x y same goes = subst (λ (r : List Record). GoesOn size r c k l x y) same goes

if_is : (b : Bool) (x y : List Record) → b ≡ true → (if b then x else y) ≡ x
if_is true x y is = refl
if_is false x y is = cc

pub seg_goes : (size at count after sector : ℕ) (old mid : Files) (new : List ℕ) (segment : Segment) (all : Bool) (next : Option ℕ) → mid ≡ old
    → IsSegmentAt size (journal_of old) at (Some segment)
    →
    ((rest : List Place) → GoesOn size (pending size (journal_of mid) (places_of segment.count size segment.nonce segment.first ++ rest)) (if all then pending size (journal_of mid) rest else []) count after (main_of mid) new)
    → all ≡ true → segment.last ≡ false → sector ≡ sector_at 0 (journal_of old)
    → MatchOption next (length (journal_of old) < rounded_up sector (segment.first + segment.count * (size + 8)))
    (λ n. n ≡ rounded_up sector (segment.first + segment.count * (size + 8)))
    → GoesOn size (pending size (journal_of old) (places_at size (journal_of old) at)) (todo_at size (journal_of old) next) count after (main_of old) new
seg_goes size at count after sector old mid new segment all next same found goes every not_last sectors at_next =
    let j : List ℕ = journal_of old in
    let here = subst
    (λ (f : Files). (rest : List Place) → GoesOn size (pending size (journal_of f) (places_of segment.count size segment.nonce segment.first ++ rest)) (if all then pending size (journal_of f) rest else []) count after (main_of f) new) same goes in
    goes_to size _ _ _ count after (main_of old) new
    (if_is all _ [] every ∙ next_todo size (journal_of old) segment.first segment.count segment.last next not_last
    (subst (λ (s : ℕ). MatchOption next (length (journal_of old) < rounded_up s (segment.first + segment.count * (size + 8))) (λ n. n ≡ rounded_up s (segment.first + segment.count * (size + 8)))) sectors at_next))
    (goes_of size _ _ _ count after (main_of old) new (sym found) (here (behind size (journal_of old) segment)))

pub match_more : (next : Option ℕ) (P : Type 0) (Q R : ℕ → Type 0) → ((n : ℕ) → Q n → R n) → MatchOption next P Q → MatchOption next P R
match_more None P Q R gives is = is
match_more (Some n) P Q R gives is = gives n is

pub match_less : (next : Option ℕ) (P P' : Type 0) (R : ℕ → Type 0) → (P → P') → MatchOption next P R → MatchOption next P' R
match_less None P P' R gives is = gives is
match_less (Some n) P P' R gives is = is

-- one segment more
pub moved_goes : (size at : ℕ) (journal now : List ℕ) (all : List Record) (first count after : ℕ) (start old new : List ℕ) (next : Option ℕ)
    → now ≡ journal → GoesOn size all (pending size journal (places_at size journal at)) first count start old
    → GoesOn size (pending size now (places_at size now at)) (todo_at size now next) count after old new → GoesOn size all
    (todo_at size journal next) first after start new
moved_goes size at journal now all first count after start old new next same one two =
    goes_then size _ _ _ _ _ _ _ _ _ one
    (subst (λ (j : List ℕ). GoesOn size (pending size j (places_at size j at)) (todo_at size j next) count after old new) same two)
