-- What a journal plays while it is written.
use Rattle.std.proofs.Common.{◌≡◌, ℕ, suc, zero, ◌+◌, ◌-◌, ◌*◌, ◌/◌, ◌<◌, ◌≤◌, Bool, true, false, ◌&&◌, nat_le, not, ◌==◌, if◌then◌else◌, List, [], ◌∷◌, ◌++◌, length, take, drop, map, Some, refl, sym, ◌∙◌, ap, subst, arith, length-drop, append_assoc}
use Rattle.std.specs.Prelude.{All, IsFalse}
use Rattle.std.proofs.Math.Nat.{suc-mul}
use Rattle.std.proofs.lemmas.List.{length-take}
use Rattle.std.proofs.lemmas.List.Elements.{All-cons}
use Rattle.std.proofs.lemmas.Bool.Decides.{nat_tests}
use Rattle.journal_format.specs.Bytes.{u32_at}
use Rattle.journal_format.specs.Header.{is_header, is_sector, head_at, has_header, count_at, nonce_at, initial_at, sector_at}
use Rattle.journal_format.specs.Records.{Record, Place, record_bytes_at, page_of, image_of, is_sound_record, record_at, is_good}
use Rattle.journal_format.specs.Segments.{places_of, rounded_up, sought, is_open_ended, has_mark, names_super, played}
use Rattle.rollback_journal.specs.Playing.{pending, places_at}
use Rattle.rollback_journal.proofs.Played.{good_whole}
use Rattle.rollback_journal.proofs.SegmentSteps.{places_unrolled, pending_low}
use Rattle.rollback_journal.proofs.Looks.{is_hot_by}
use Rattle.rollback_journal.specs.Plays.{Plays}
use Rattle.rollback_journal.specs.Writing.{Writing, IsSmall, end_at, next_at, present_places, earlier_records, present_records, all_records, Leads, HasOwnHeader, IsJournalOpened}
use Rattle.rollback_journal.proofs.Fronts.{front_of, part_same, front_long}

le_makes : (a b : ℕ) → a ≤ b → nat_le a b ≡ true
le_makes a b le = grind (arith, nat_tests)

eq_not : (a b : ℕ) → a < b → (a == b) ≡ false
eq_not a b lt = grind (arith, nat_tests)

-- the places from an open segment on
abbrev unrolled : ℕ → List ℕ → ℕ → ℕ → ℕ → ℕ → Bool → List Place
unrolled size journal at sector count nonce open_ended =
    places_of count size nonce (at + sector) ++ (if open_ended then [] else places_at size journal (rounded_up sector (at + sector + count * (size + 8))))

segment_places : (size at count nonce : ℕ) (journal : List ℕ) → sector_at 0 journal ≡ 512 → at < length journal → has_header at journal ≡ true → count_at at journal ≡ count → count < 4294967295 → nonce_at at journal ≡ nonce
    → places_at size journal at ≡ places_of count size nonce (at + 512) ++ places_at size journal (rounded_up 512 (at + 512 + count * (size + 8)))
segment_places size at count nonce journal sector within has counted few numbered =
    let s : ℕ = sector_at 0 journal in
    let exact : is_open_ended at journal ≡ false = ap (λ (n : ℕ). n == 4294967295) counted ∙ eq_not count 4294967295 few in
    let is : sought size s at journal ≡ count = ap (λ (b : Bool). if b then (length journal - (at + s)) / (size + 8) else count_at at journal) exact ∙ counted in
    places_unrolled size at journal (omega (arith, sector)) within has
    ∙ ap (λ (b : Bool). unrolled size journal at s (sought size s at journal) (nonce_at at journal) b) exact
    ∙ ap (λ (n : ℕ). unrolled size journal at s n (nonce_at at journal) false) is
    ∙ ap (λ (n : ℕ). unrolled size journal at s count n false) numbered
    ∙ ap (λ (n : ℕ). unrolled size journal at n count nonce false) sector

-- whole records of pages that are not above the initial size are played, and then what stands behind them
pending_whole : (size initial : ℕ) (journal : List ℕ) (ps qs : List Place) → initial_at 0 journal ≡ initial → All (λ place. is_good size journal place ≡ true) ps → All (λ (r : Record). r.page ≤ initial) (map (record_at size journal) ps)
    → pending size journal (ps ++ qs) ≡ map (record_at size journal) ps ++ pending size journal qs
pending_whole size initial journal [] qs pages whole low = refl
pending_whole size initial journal (p ∷ ps) qs pages whole low =
    let first : page_of (record_bytes_at size journal p) ≤ initial_at 0 journal = omega (arith, low 0 (record_at size journal p) (omega arith), pages) in
    pending_low size journal p (ps ++ qs) (whole 0 p (omega arith)) (le_makes (page_of (record_bytes_at size journal p)) (initial_at 0 journal) first)
    ∙ ap (λ (rs : List Record). record_at size journal p ∷ rs) (pending_whole size initial journal ps qs pages (λ k d lt. whole (suc k) d (omega arith)) (λ k d lt. low (suc k) d (omega arith)))

-- two journals with the same bytes at the places of a segment
abbrev pub SameAt : ℕ → ℕ → ℕ → List ℕ → List ℕ → Type 0
SameAt n size first a b = (at : ℕ) → first ≤ at → at + (size + 8) ≤ first + n * (size + 8) → take (size + 8) (drop at a) ≡ take (size + 8) (drop at b)

same_next : (n size first : ℕ) (a b : List ℕ) → SameAt (suc n) size first a b → SameAt n size (first + (size + 8)) a b
same_next n size first a b same at from to = same at (omega arith) (omega (arith, suc-mul n (size + 8), to))

same_first : (n size first : ℕ) (a b : List ℕ) → SameAt (suc n) size first a b → take (size + 8) (drop first a) ≡ take (size + 8) (drop first b)
same_first n size first a b same = same first (omega arith) (omega (arith, suc-mul n (size + 8)))

abbrev of_bytes : List ℕ → Record
of_bytes bytes = record { page = page_of bytes; image = image_of bytes }

pub same_records : (n size nonce first : ℕ) (a b : List ℕ) → SameAt n size first a b → map (record_at size a) (places_of n size nonce first) ≡ map (record_at size b) (places_of n size nonce first)
same_records zero size nonce first a b same = refl
same_records (suc n) size nonce first a b same =
    ap (λ (l : List ℕ). of_bytes l ∷ map (record_at size a) (places_of n size nonce (first + (size + 8)))) (same_first n size first a b same)
    ∙ ap (λ (rs : List Record). of_bytes (take (size + 8) (drop first b)) ∷ rs) (same_records n size nonce (first + (size + 8)) a b (same_next n size first a b same))

pub same_whole : (n size nonce first : ℕ) (a b : List ℕ) → SameAt n size first a b → All (λ place. is_good size b place ≡ true) (places_of n size nonce first) → All (λ place. is_good size a place ≡ true) (places_of n size nonce first)
same_whole zero size nonce first a b same whole = λ k d lt. absurd (omega arith)
same_whole (suc n) size nonce first a b same whole =
    let p : Place = record { nonce = nonce; at = first } in
    All-cons (λ place. is_good size a place ≡ true) p (places_of n size nonce (first + (size + 8)))
    (ap (λ (l : List ℕ). length l == size + 8 && is_sound_record nonce l) (same_first n size first a b same) ∙ whole 0 p (omega arith))
    (same_whole n size nonce (first + (size + 8)) a b (same_next n size first a b same) (λ k d lt. whole (suc k) d (omega arith)))

-- whole records stand within the file
pub whole_within : (n size nonce first : ℕ) (a : List ℕ) → 0 < n → All (λ place. is_good size a place ≡ true) (places_of n size nonce first) → first + n * (size + 8) ≤ length a
whole_within zero size nonce first a some whole = absurd (omega arith)
whole_within (suc zero) size nonce first a some whole =
    let p : Place = record { nonce = nonce; at = first } in
    omega (arith, good_whole size a p (whole 0 p (omega arith)), length-take (size + 8) (drop first a), length-drop first a)
whole_within (suc (suc n)) size nonce first a some whole =
    omega (arith, whole_within (suc n) size nonce (first + (size + 8)) a (omega arith) (λ k d lt. whole (suc k) d (omega arith)), suc-mul (suc n) (size + 8))

-- a journal that begins with the first 44 bytes has the same first header and the mark
pub own_same : (size initial n : ℕ) (a b : List ℕ) → 44 ≤ n → take n a ≡ take n b → HasOwnHeader size initial b → HasOwnHeader size initial a
own_same size initial n a b le same own =
    let head : head_at 0 a ≡ head_at 0 b = part_same 0 28 n a b same (omega arith) in
    record {
      header = ap is_header head ∙ own.header;
      sector = ap (λ (l : List ℕ). u32_at l 20) head ∙ own.sector;
      page_size = ap (λ (l : List ℕ). u32_at l 24) head ∙ own.page_size;
      pages = ap (λ (l : List ℕ). u32_at l 16) head ∙ own.pages;
      mark = ap (λ (l : List ℕ). has_mark 512 l) (front_of 44 n a b le same) ∙ own.mark;
    }

marked_no : (a m c d e : Bool) → m ≡ true → (a && not m && c && d && e) ≡ false
marked_no true true c d e is = refl
marked_no true false c d e is = cc
marked_no false m c d e is = refl

-- a journal with the mark names no super-journal
no_super : (size initial : ℕ) (journal : List ℕ) → HasOwnHeader size initial journal → IsFalse (names_super journal)
no_super size initial journal own =
    let s : ℕ = sector_at 0 journal in
    let marked : has_mark s (take 44 journal) ≡ true = ap (λ (n : ℕ). has_mark n (take 44 journal)) own.sector ∙ own.mark in
    marked_no _ (has_mark s (take 44 journal)) _ _ _ marked

pub plays_of : (size initial : ℕ) (records : List Record) (journal : List ℕ) → HasOwnHeader size initial journal → played size journal ≡ records → Plays size initial records (Some journal)
plays_of size initial records journal own is = record {
  bytes = journal;
  there = refl;
  hot = λ main some. is_hot_by main journal some own.header (ap is_sector own.sector);
  pages = own.pages;
  page_size = own.page_size;
  no_super = no_super size initial journal own;
  plays = is;
}

-- the header at a place, of a journal with the same front
module _ (at n : ℕ) (a b : List ℕ) (same : take n a ≡ take n b) (within : at + 28 ≤ n) where
  same_head : head_at at a ≡ head_at at b
  same_head = part_same at 28 n a b same within

-- the present segment is open. A journal with its front plays all of its records, and then what stands behind them.
pub opened_leads : (w : Writing) (journal : List ℕ) → IsSmall w → IsJournalOpened w journal → Leads w.page_size (end_at w) (next_at w) (all_records w journal) journal
opened_leads w journal small opened other same =
    let size : ℕ = w.page_size in
    let end = whole_within w.count w.page_size w.nonce (w.at + 512) journal opened.some opened.written.whole in
    let head : head_at w.at other ≡ head_at w.at journal = same_head w.at (end_at w) other journal same (omega arith) in
    let own = own_same w.page_size w.initial (end_at w) other journal (omega arith) same opened.first in
    let at : SameAt w.count w.page_size (w.at + 512) other journal = λ place from to. part_same place (w.page_size + 8) (end_at w) other journal same to in
    let long = front_long (end_at w) other journal same end in
    let records = same_records w.count w.page_size w.nonce (w.at + 512) other journal at in
    let low = subst (λ (rs : List Record). All (λ (r : Record). r.page ≤ w.initial) rs) (sym records) opened.written.low in
    opened.written.leads other (front_of w.at (end_at w) other journal (omega arith) same)
    ∙ ap (λ (rs : List Record). earlier_records w journal ++ rs) (
    ap (λ (ps : List Place). pending w.page_size other ps) (segment_places w.page_size w.at w.count w.nonce other own.sector (omega (arith, long)) (ap is_header head ∙ opened.header)
    (ap (λ (l : List ℕ). u32_at l 8) head ∙ opened.count) (omega (arith, small.count, small.total, small.initial)) (ap (λ (l : List ℕ). u32_at l 12) head ∙ opened.nonce))
    ∙ pending_whole w.page_size w.initial other (present_places w) (places_at w.page_size other (next_at w)) own.pages (same_whole w.count w.page_size w.nonce (w.at + 512) other journal at opened.written.whole) low
    ∙ ap (λ (rs : List Record). rs ++ pending w.page_size other (places_at w.page_size other (next_at w))) records)
    ∙ sym (append_assoc (earlier_records w journal) (present_records w journal) (pending w.page_size other (places_at w.page_size other (next_at w))))
