-- The records that a journal plays.
use Rattle.std.proofs.Common.{◌≡◌, ◌⊎◌, inl, inr, ℕ, suc, zero, ◌+◌, ◌-◌, ◌*◌, ◌≤◌, Bool, true, false, ◌&&◌, nat_le, not, ◌==◌, if◌then◌else◌, List, [], ◌∷◌, length, drop, filter, refl, ap, subst, arith, length-drop}
use Rattle.std.proofs.lemmas.List.{length-take}
use Rattle.std.proofs.Math.Nat.{suc-mul, mul-le-mul_right}
use Rattle.std.proofs.lemmas.Bool.Decides.{nat_tests}
use Rattle.journal_format.specs.Header.{initial_at}
use Rattle.journal_format.specs.Records.{Record, Place, record_bytes_at, page_of, image_of, record_at, is_good}
use Rattle.journal_format.specs.Segments.{good_front}
use Rattle.rollback_journal.specs.Laying.{page_start, AreSized}
use Rattle.rollback_journal.specs.Recovery.{end_of}
use Rattle.rollback_journal.specs.Playing.{pending}

pub either : (b : Bool) → (b ≡ true) ⊎ (b ≡ false)
either true = inl refl
either false = inr refl

pub and_first : (a b : Bool) → (a && b) ≡ true → a ≡ true
and_first true b both = refl
and_first false b both = cc

pub and_second : (a b : Bool) → (a && b) ≡ true → b ≡ true
and_second true b both = both
and_second false b both = cc

pub le_is : (a b : ℕ) → nat_le a b ≡ true → a ≤ b
le_is a b is = grind (arith, nat_tests)

not_zero : (n : ℕ) → not (n == 0) ≡ true → 1 ≤ n
not_zero n is = grind (arith, nat_tests)

pub eq_is : (a b : ℕ) → (a == b) ≡ true → a ≡ b
eq_is a b is = grind (arith, nat_tests)

-- a good record is whole, and its page has a number
pub good_whole : (size : ℕ) (journal : List ℕ) (place : Place) → is_good size journal place ≡ true → length (record_bytes_at size journal place) ≡ size + 8
good_whole size journal place good = eq_is _ _ (and_first _ _ good)

pub good_page : (size : ℕ) (journal : List ℕ) (place : Place) → is_good size journal place ≡ true → 1 ≤ page_of (record_bytes_at size journal place)
good_page size journal place good = not_zero _ (and_first _ _ (and_second (length (record_bytes_at size journal place) == size + 8) _ good))

pub page_end : (size page initial : ℕ) → 1 ≤ page → page ≤ initial → page_start size page + size ≤ initial * size
page_end size zero initial one le = absurd (omega arith)
page_end size (suc page) initial one le =
    let e : suc page - 1 ≡ page = omega arith in
    omega (arith, ap (λ (k : ℕ). k * size + size) e, suc-mul page size, mul-le-mul_right size le)

pub image_size : (size : ℕ) (bytes : List ℕ) → length bytes ≡ size + 8 → length (image_of bytes) ≡ size
image_size size bytes whole = omega (arith, length-take (length bytes - 8) (drop 4 bytes), length-drop 4 bytes, whole)

module _ (size : ℕ) (journal : List ℕ) where
  abbrev low_page : Record → Bool
  low_page r = nat_le r.page (initial_at 0 journal)

  sized_if : (b low : Bool) (entry : Record) (rest : List Record)
      → (b ≡ true → low ≡ true → (length entry.image ≡ size) × (page_start size entry.page + size ≤ end_of size journal))
      → low ≡ low_page entry → AreSized size (end_of size journal) (filter low_page rest) → AreSized size (end_of size journal)
      (filter low_page (if b then entry ∷ rest else []))
  sized_if true true entry rest fits is sized =
      subst (λ (low : Bool). AreSized size (end_of size journal) (if low then entry ∷ filter low_page rest else filter low_page rest)) is
      ((fits refl refl).0, (fits refl refl).1, sized)
  sized_if true false entry rest fits is sized =
      subst (λ (low : Bool). AreSized size (end_of size journal) (if low then entry ∷ filter low_page rest else filter low_page rest)) is sized
  sized_if false low entry rest fits is sized = tt

-- each image that is played has the size of a page, and none stands behind the end
pub pending_sized : (size : ℕ) (journal : List ℕ) (rest : List Place) → AreSized size (end_of size journal) (pending size journal rest)
pending_sized size journal [] = tt
pending_sized size journal (place ∷ rest) =
    sized_if size journal (is_good size journal place) (nat_le (page_of (record_bytes_at size journal place)) (initial_at 0 journal))
    (record_at size journal place) (good_front size journal rest)
    (λ good low. (image_size size (record_bytes_at size journal place) (good_whole size journal place good), page_end size (page_of (record_bytes_at size journal place)) (initial_at 0 journal) (good_page size journal place good) (le_is _ _ low)))
    refl (pending_sized size journal rest)
