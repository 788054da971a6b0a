-- What each call leaves of the journal as it reads.
use Rattle.std.proofs.Common.{◌≡◌, ◌⊎◌, inl, inr, ℕ, suc, zero, ◌+◌, ◌-◌, ◌*◌, ◌%◌, ◌<◌, ◌≤◌, max, Bool, true, ◌&&◌, ◌==◌, List, [], ◌∷◌, ◌++◌, length, take, drop, map, get_or, refl, sym, ◌∙◌, ap, subst, arith, length-drop, append_assoc}
use Rattle.std.specs.Prelude.{All}
use Rattle.std.proofs.Math.Nat.{suc-mul}
use Rattle.std.proofs.Math.Seq.{drop-cons}
use Rattle.std.proofs.lemmas.List.{length-take, append-nil, map-append, get_or-take, get_or-drop, ext_get_or}
use Rattle.std.proofs.lemmas.List.Elements.{All-append}
use Rattle.std.proofs.lemmas.Bool.Decides.{nat_tests}
use Rattle.edge_model.specs.Files.{written, Torn}
use Rattle.edge_model.specs.Bytes.{torn_written}
use Rattle.journal_format.specs.Bytes.{u32_at}
use Rattle.journal_format.specs.Header.{is_header, head_at, has_header}
use Rattle.journal_format.specs.Records.{Record, Place, page_of, image_of, is_sound_record, record_at, is_good, journal_record_bytes}
use Rattle.journal_format.specs.Segments.{has_mark, played}
use Rattle.rollback_journal.specs.Playing.{pending, places_at}
use Rattle.rollback_journal.proofs.SegmentSteps.{places_split, no_header}
use Rattle.rollback_journal.specs.declared.stage.Stage.{Stage}
use Rattle.rollback_journal.specs.declared.stage.Stage.TheVariants.{Opened}
use Rattle.rollback_journal.specs.Writing.{Writing, IsSmall, end_at, next_at, with_stage, with_record, with_segment, present_places, earlier_records, present_records, all_records, Leads, HasOwnHeader, IsJournalWritten, IsJournalOpened, IsFilling, IsJournalShut, sector_of, IsJournalHeaded}
use Rattle.rollback_journal.proofs.Fronts.{take_front, front_of, part_same, index_same, rest_of, written_front, written_rest, written_part, written_length}
use Rattle.rollback_journal.proofs.WrittenBytes.{record_length, record_image, record_page, record_sound, sector_length, head_is, head_count, head_nonce, head_initial, head_sector, head_size, head_mark}
use Rattle.rollback_journal.proofs.Beside.{leads_end}
use Rattle.rollback_journal.proofs.WrittenSegments.{SameAt, same_records, same_whole, whole_within, own_same, opened_leads}

-- the numbers after each call
pub small_stage : (stage : Stage) (w : Writing) → IsSmall w → IsSmall (with_stage stage w)
small_stage stage w small = record { size_low = small.size_low; size_high = small.size_high; initial = small.initial; count = small.count; total = small.total; first = small.first; nonce = small.nonce; at = small.at; boundary = small.boundary }

pub small_record : (w : Writing) → IsSmall w → w.total < w.initial → IsSmall (with_record w)
small_record w small room =
    let e : w.total + 1 - (w.count + 1) ≡ w.total - w.count = omega arith in
    record {
      size_low = small.size_low;
      size_high = small.size_high;
      initial = small.initial;
      count = omega (arith, small.count);
      total = omega arith;
      first = small.first;
      nonce = omega (arith, small.nonce);
      at = omega (arith, small.at, e);
      boundary = small.boundary;
    }

rounded_low : (n : ℕ) → n + (512 - n % 512) % 512 ≤ n + 511
rounded_low n = omega arith

rounded_even : (n : ℕ) → (n + (512 - n % 512) % 512) % 512 ≡ 0
rounded_even n = omega arith

rounded_high : (n : ℕ) → n ≤ n + (512 - n % 512) % 512
rounded_high n = omega arith

-- a record takes no more than 65,544 bytes
records_low : (count step : ℕ) → step ≤ 65544 → count * step ≤ count * 65544
records_low zero step le = omega arith
records_low (suc count) step le = omega (arith, suc-mul count step, suc-mul count 65544, records_low count step le)

pub small_segment : (w : Writing) → IsSmall w → 0 < w.count → IsSmall (with_segment w)
small_segment w small some = record {
  size_low = small.size_low;
  size_high = small.size_high;
  initial = small.initial;
  count = omega arith;
  total = small.total;
  first = omega arith;
  nonce = omega (arith, small.nonce);
  at = omega (arith, small.at, small.count, small.size_high, records_low w.count (w.page_size + 8) (omega (arith, small.size_high)), rounded_low (end_at w));
  boundary = rounded_even (end_at w);
}

-- a front that stays leads to the same
leads_moved : (size at : ℕ) (journal new : List ℕ) → take at new ≡ take at journal → Leads size at at (played size (take at journal)) journal → Leads size at at (played size (take at new)) new
leads_moved size at journal new same leads other is = leads other (is ∙ same) ∙ ap (λ (l : List ℕ). played size l ++ pending size other (places_at size other at)) (sym same)

own_moved : (w : Writing) (journal new : List ℕ) → IsSmall w → take w.at new ≡ take w.at journal → IsJournalWritten w journal → 0 < w.at → HasOwnHeader w.page_size w.initial new
own_moved w journal new small same written some = own_same w.page_size w.initial w.at new journal (omega (arith, small.boundary)) same (written.own some)

-- a change within the first sector of the present segment
module _ (stage : Stage) (w : Writing) (journal new : List ℕ) (small : IsSmall w) (was : IsJournalWritten w journal) (front : take w.at new ≡ take w.at journal) (rest : drop (w.at + 512) new ≡ drop (w.at + 512) journal) where
  at_same : SameAt w.count w.page_size (w.at + 512) new journal
  at_same place from to = ap (λ (l : List ℕ). take (w.page_size + 8) l) (rest_of (w.at + 512) place new journal rest from)

  pub head_records : all_records w new ≡ all_records w journal
  head_records =
      ap (λ (l : List ℕ). played w.page_size l ++ present_records w new) front
      ∙ ap (λ (rs : List Record). earlier_records w journal ++ rs) (same_records w.count w.page_size w.nonce (w.at + 512) new journal at_same)

  pub head_written : length new ≡ length journal → IsJournalWritten (with_stage stage w) new
  head_written long =
      let records = same_records w.count w.page_size w.nonce (w.at + 512) new journal at_same in
      record {
        leads = leads_moved w.page_size w.at journal new front was.leads;
        own = own_moved w journal new small front was;
        within = omega (arith, was.within, long);
        ends = omega (arith, was.ends, long);
        whole = same_whole w.count w.page_size w.nonce (w.at + 512) new journal at_same was.whole;
        low = subst (λ (rs : List Record). All (λ (r : Record). r.page ≤ w.initial) rs) (sym records) was.low;
      }

abbrev of_bytes : List ℕ → Record
of_bytes bytes = record { page = page_of bytes; image = image_of bytes }

some_of : (n step first place : ℕ) → 0 < step → first ≤ place → place + step ≤ first + n * step → 0 < n
some_of zero step first place some from to = absurd (omega arith)
some_of (suc n) step first place some from to = omega arith

both : (a b : Bool) → a ≡ true → b ≡ true → (a && b) ≡ true
both a b p q = cc

size_eq : (a b : ℕ) → a ≡ b → (a == b) ≡ true
size_eq a b is = grind (arith, nat_tests)

-- one record more
module _ (w : Writing) (journal image : List ℕ) (n : ℕ) (small : IsSmall w) (filling : IsFilling w journal) (one : 1 ≤ n) (most : n ≤ w.initial) (size : length image ≡ w.page_size) where
  abbrev bytes : List ℕ
  bytes = journal_record_bytes w.nonce n image

  abbrev new : List ℕ
  new = written (end_at w) (journal_record_bytes w.nonce n image) journal

  abbrev entry : Record
  entry = record { page = n; image = image }

  abbrev last : Place
  last = record { nonce = w.nonce; at = end_at w }

  long : length bytes ≡ w.page_size + 8
  long = omega (arith, record_length w.nonce n image, size)

  pub append_front : take (w.at + 1) new ≡ take (w.at + 1) journal
  append_front = let within = filling.written.within in written_front (w.at + 1) (end_at w) bytes journal (omega arith) (omega (arith, within))

  front : take w.at new ≡ take w.at journal
  front = front_of w.at (w.at + 1) new journal (omega arith) append_front

  earlier_same : SameAt w.count w.page_size (w.at + 512) new journal
  earlier_same place from to =
      let some = some_of w.count (w.page_size + 8) (w.at + 512) place (omega arith) from to in
      let whole = whole_within w.count w.page_size w.nonce (w.at + 512) journal some filling.written.whole in
      part_same place (w.page_size + 8) (end_at w) new journal (written_front (end_at w) (end_at w) bytes journal (omega arith) whole) to

  last_bytes : take (w.page_size + 8) (drop (end_at w) new) ≡ bytes
  last_bytes = ap (λ (k : ℕ). take k (drop (end_at w) new)) (sym long) ∙ written_part (end_at w) bytes journal (omega (arith, long))

  last_record : record_at w.page_size new last ≡ entry
  last_record =
      ap (λ (l : List ℕ). of_bytes l) last_bytes
      ∙ ap (λ (p : ℕ). record { page = p; image = image_of bytes }) (record_page w.nonce n image (omega (arith, small.initial, most)))
      ∙ ap (λ (l : List ℕ). record { page = n; image = l }) (record_image w.nonce n image)

  last_good : is_good w.page_size new last ≡ true
  last_good =
      ap (λ (l : List ℕ). length l == w.page_size + 8 && is_sound_record w.nonce l) last_bytes
      ∙ both _ _ (size_eq (length bytes) (w.page_size + 8) long) (record_sound w.nonce n image one (omega (arith, small.initial, most)))

  places : present_places (with_record w) ≡ present_places w ++ last ∷ []
  places = places_split w.count 1 w.page_size w.nonce (w.at + 512)

  present : present_records (with_record w) new ≡ present_records w journal ++ entry ∷ []
  present =
      ap (λ (ps : List Place). map (record_at w.page_size new) ps) places
      ∙ map-append (record_at w.page_size new) (present_places w) (last ∷ [])
      ∙ ap (λ (rs : List Record). rs ++ record_at w.page_size new last ∷ []) (same_records w.count w.page_size w.nonce (w.at + 512) new journal earlier_same)
      ∙ ap (λ (r : Record). present_records w journal ++ r ∷ []) last_record

  pub append_records : all_records (with_record w) new ≡ all_records w journal ++ entry ∷ []
  append_records =
      ap (λ (l : List ℕ). played w.page_size l ++ present_records (with_record w) new) front
      ∙ ap (λ (rs : List Record). earlier_records w journal ++ rs) present
      ∙ sym (append_assoc (earlier_records w journal) (present_records w journal) (entry ∷ []))

  append_long : length new ≡ max (length journal) (end_at w + (w.page_size + 8))
  append_long = written_length (end_at w) bytes journal (omega (arith, long)) ∙ ap (λ (k : ℕ). max (length journal) (end_at w + k)) long

  pub append_filling : IsFilling (with_record w) new
  append_filling =
      let good : Place → Type 0 = λ place. is_good w.page_size new place ≡ true in
      let lower : Record → Type 0 = λ r. r.page ≤ w.initial in
      record {
        written = record {
          leads = leads_moved w.page_size w.at journal new front filling.written.leads;
          own = own_moved w journal new small front filling.written;
          within = omega (arith, append_long, filling.written.within);
          ends = let e : (w.count + 1) * (w.page_size + 8) ≡ w.count * (w.page_size + 8) + (w.page_size + 8) = omega (arith, suc-mul w.count (w.page_size + 8)) in omega (arith, append_long, filling.written.ends, e);
          whole = subst (λ (ps : List Place). All (λ place. is_good w.page_size new place ≡ true) ps) (sym places)
              (All-append (λ place. is_good w.page_size new place ≡ true) (present_places w) (last ∷ []) (same_whole w.count w.page_size w.nonce (w.at + 512) new journal earlier_same filling.written.whole) all_last);
          low = subst (λ (rs : List Record). All (λ (r : Record). r.page ≤ w.initial) rs) (sym present) (All-append (λ (r : Record). r.page ≤ w.initial) (present_records w journal) (entry ∷ []) filling.written.low all_entry);
        };
        gate = index_same w.at (w.at + 1) new journal append_front (omega arith) ∙ filling.gate;
      }
    where
      all_last : All (λ place. is_good w.page_size new place ≡ true) (last ∷ [])
      all_last zero d lt = last_good
      all_last (suc k) d lt = absurd (omega arith)

      all_entry : All (λ (r : Record). r.page ≤ w.initial) (entry ∷ [])
      all_entry zero d lt = most
      all_entry (suc k) d lt = absurd (omega arith)

-- a segment with a record is as long as its records say
pub full_length : (w : Writing) (journal : List ℕ) → IsJournalWritten w journal → 0 < w.count → length journal ≡ end_at w
full_length w journal was some =
    let whole = whole_within w.count w.page_size w.nonce (w.at + 512) journal some was.whole in
    omega (arith, was.ends, whole)

-- the header but its first byte
module _ (w : Writing) (journal tail : List ℕ) (small : IsSmall w) (filling : IsFilling w journal) (some : 0 < w.count) (tail_is : tail ≡ drop 1 (sector_of w)) where
  abbrev headed : List ℕ
  headed = written (w.at + 1) tail journal

  tail_long : length tail ≡ 511
  tail_long = omega (arith, ap (λ (l : List ℕ). length l) tail_is, length-drop 1 (sector_of w), sector_length w)

  full : length journal ≡ end_at w
  full = full_length w journal filling.written some

  pub head_front : take (w.at + 1) headed ≡ take (w.at + 1) journal
  head_front = written_front (w.at + 1) (w.at + 1) tail journal (omega arith) (omega (arith, full))

  head_rest : drop (w.at + 512) headed ≡ drop (w.at + 512) journal
  head_rest = written_rest (w.at + 512) (w.at + 1) tail journal (omega (arith, tail_long)) (omega (arith, tail_long, full))

  head_long : length headed ≡ length journal
  head_long = omega (arith, written_length (w.at + 1) tail journal (omega (arith, tail_long)), tail_long, full)

  pub headed_filling : IsFilling w headed
  headed_filling = record {
    written = head_written w.stage w journal headed small filling.written (front_of w.at (w.at + 1) headed journal (omega arith) head_front) head_rest head_long;
    gate = index_same w.at (w.at + 1) headed journal head_front (omega arith) ∙ filling.gate;
  }

  pub headed_records : all_records w headed ≡ all_records w journal
  headed_records = head_records w.stage w journal headed small filling.written (front_of w.at (w.at + 1) headed journal (omega arith) head_front) head_rest

  pub headed_is : IsJournalHeaded w headed
  headed_is = record { head = ap (λ (k : ℕ). take k (drop (w.at + 1) headed)) (sym tail_long) ∙ written_part (w.at + 1) tail journal (omega (arith, tail_long)) ∙ tail_is }

order : (a b : ℕ) → (a < b) ⊎ (b ≤ a)
order a b = search arith

-- the gate
module _ (w : Writing) (journal : List ℕ) (small : IsSmall w) (filling : IsFilling w journal) (some : 0 < w.count) (headed : IsJournalHeaded w journal) where
  abbrev opened : List ℕ
  opened = written w.at (217 ∷ []) journal

  gate_within : w.at + 1 ≤ length journal
  gate_within = omega (arith, filling.written.within)

  pub gate_front : take w.at opened ≡ take w.at journal
  gate_front = written_front w.at w.at (217 ∷ []) journal (omega arith) (omega (arith, gate_within))

  gate_rest : drop (w.at + 1) opened ≡ drop (w.at + 1) journal
  gate_rest = written_rest (w.at + 1) w.at (217 ∷ []) journal (omega arith) (omega (arith, gate_within))

  gate_long : length opened ≡ length journal
  gate_long = omega (arith, written_length w.at (217 ∷ []) journal (omega arith), gate_within)

  gate_byte : get_or opened w.at 0 ≡ 217
  gate_byte =
      let e : w.at + 0 ≡ w.at = omega arith in
      ap (λ (k : ℕ). get_or opened k 0) (sym e) ∙ sym (get_or-drop w.at opened 0 0) ∙ sym (get_or-take 1 (drop w.at opened) 0 0 (omega arith)) ∙ ap (λ (l : List ℕ). get_or l 0 0) (written_part w.at (217 ∷ []) journal (omega arith))

  -- the whole sector stands there
  sector_is : take 512 (drop w.at opened) ≡ sector_of w
  sector_is =
      let e : suc w.at ≡ w.at + 1 = omega arith in
      ap (λ (l : List ℕ). take 512 l) (drop-cons opened w.at 0 (omega (arith, gate_long, gate_within)))
      ∙ ap (λ (n : ℕ). n ∷ take 511 (drop (suc w.at) opened)) gate_byte
      ∙ ap (λ (k : ℕ). 217 ∷ take 511 (drop k opened)) e
      ∙ ap (λ (l : List ℕ). 217 ∷ take 511 l) gate_rest
      ∙ ap (λ (l : List ℕ). 217 ∷ l) headed.head

  head_28 : head_at w.at opened ≡ take 28 (sector_of w)
  head_28 = sym (take_front 28 512 (drop w.at opened) (omega arith)) ∙ ap (λ (l : List ℕ). take 28 l) sector_is

  numbered : w.nonce < 4294967296
  numbered = omega (arith, small.nonce, small.total, small.initial)

  counted : w.count < 4294967296
  counted = omega (arith, small.count, small.total, small.initial)

  gate_header : has_header w.at opened ≡ true
  gate_header = ap is_header head_28 ∙ head_is w

  own_first : w.at ≡ 0 → HasOwnHeader w.page_size w.initial opened
  own_first is =
      let head : head_at 0 opened ≡ take 28 (sector_of w) = ap (λ (n : ℕ). head_at n opened) (sym is) ∙ head_28 in
      let front : take 44 (drop w.at opened) ≡ take 44 (sector_of w) = sym (take_front 44 512 (drop w.at opened) (omega arith)) ∙ ap (λ (l : List ℕ). take 44 l) sector_is in
      let marked : take 44 opened ≡ take 44 (sector_of w) = ap (λ (n : ℕ). take 44 (drop n opened)) (sym is) ∙ front in
      record {
        header = ap is_header head ∙ head_is w;
        sector = ap (λ (l : List ℕ). u32_at l 20) head ∙ head_sector w;
        page_size = ap (λ (l : List ℕ). u32_at l 24) head ∙ head_size w (omega (arith, small.size_high));
        pages = ap (λ (l : List ℕ). u32_at l 16) head ∙ head_initial w (omega (arith, small.initial));
        mark = ap (λ (l : List ℕ). has_mark 512 l) marked ∙ head_mark w is;
      }

  own_any : (n : ℕ) → w.at ≡ n → HasOwnHeader w.page_size w.initial opened
  own_any zero is = own_first is
  own_any (suc n) is = own_moved w journal opened small gate_front filling.written (omega arith)

  gate_rest_512 : drop (w.at + 512) opened ≡ drop (w.at + 512) journal
  gate_rest_512 = rest_of (w.at + 1) (w.at + 512) opened journal gate_rest (omega arith)

  pub gate_opened : IsJournalOpened (with_stage Opened w) opened
  gate_opened = record {
    written = head_written Opened w journal opened small filling.written gate_front gate_rest_512 gate_long;
    some = some;
    header = gate_header;
    count = ap (λ (l : List ℕ). u32_at l 8) head_28 ∙ head_count w counted;
    nonce = ap (λ (l : List ℕ). u32_at l 12) head_28 ∙ head_nonce w numbered;
    first = own_any w.at refl;
  }

  pub gate_records : all_records w opened ≡ all_records w journal
  gate_records = head_records Opened w journal opened small filling.written gate_front gate_rest_512

  -- in the middle: another byte, or the gate is open
  pub gate_torn_is : (other : List ℕ) → Torn w.at 1 journal other → get_or other w.at 0 ≡ 217 → other ≡ opened
  gate_torn_is other torn is =
      let long : length other ≡ length opened = omega (arith, torn.no_shorter, torn.no_longer, gate_long, gate_within) in
      let whole = torn_written w.at (217 ∷ []) journal in
      ext_get_or 0 other opened long (λ i lt. by i (omega (arith, lt, long, gate_long)) (order i w.at) (order w.at i))
    where
      by : (i : ℕ) → i < length journal → (i < w.at) ⊎ (w.at ≤ i) → (w.at < i) ⊎ (i ≤ w.at) → get_or other i 0 ≡ get_or opened i 0
      by i lt (inl low) second = torn.below i lt low ∙ sym ((torn_written w.at (217 ∷ []) journal).below i lt low)
      by i lt (inr high) (inl above) = torn.above i lt (omega arith) ∙ sym ((torn_written w.at (217 ∷ []) journal).above i lt (omega arith))
      by i lt (inr high) (inr low) =
          let at : i ≡ w.at = omega arith in
          ap (λ (k : ℕ). get_or other k 0) at ∙ is ∙ sym gate_byte ∙ ap (λ (k : ℕ). get_or opened k 0) (sym at)

-- a further segment
module _ (w : Writing) (journal : List ℕ) (small : IsSmall w) (opened : IsJournalOpened w journal) where
  abbrev begun : List ℕ
  begun = written (next_at w) (0 ∷ []) journal

  begun_full : length journal ≡ end_at w
  begun_full = full_length w journal opened.written opened.some

  begun_front : take (end_at w) begun ≡ take (end_at w) journal
  begun_front = written_front (end_at w) (next_at w) (0 ∷ []) journal (rounded_high (end_at w)) (omega (arith, begun_full))

  begun_long : length begun ≡ next_at w + 1
  begun_long = omega (arith, written_length (next_at w) (0 ∷ []) journal (omega arith), begun_full, rounded_high (end_at w))

  pub begun_records : earlier_records (with_segment w) begun ≡ all_records w journal
  begun_records =
      let front : take (end_at w) (take (next_at w) begun) ≡ take (end_at w) journal = take_front (end_at w) (next_at w) begun (rounded_high (end_at w)) ∙ begun_front in
      let near : length (take (next_at w) begun) < next_at w + 28 = omega (arith, length-take (next_at w) begun) in
      leads_end w.page_size (next_at w) (all_records w journal) (take (next_at w) begun) (no_header (next_at w) (take (next_at w) begun) near) (opened_leads w journal small opened (take (next_at w) begun) front)

  begun_leads : Leads w.page_size (next_at w) (next_at w) (earlier_records (with_segment w) begun) begun
  begun_leads other same =
      opened_leads w journal small opened other (front_of (end_at w) (next_at w) other begun (rounded_high (end_at w)) same ∙ begun_front)
      ∙ ap (λ (rs : List Record). rs ++ pending w.page_size other (places_at w.page_size other (next_at w))) (sym begun_records)

  begun_gate : get_or begun (next_at w) 0 ≡ 0
  begun_gate =
      let e : next_at w + 0 ≡ next_at w = omega arith in
      ap (λ (k : ℕ). get_or begun k 0) (sym e) ∙ sym (get_or-drop (next_at w) begun 0 0) ∙ sym (get_or-take 1 (drop (next_at w) begun) 0 0 (omega arith)) ∙ ap (λ (l : List ℕ). get_or l 0 0) (written_part (next_at w) (0 ∷ []) journal (omega arith))

  pub begun_filling : IsFilling (with_segment w) begun
  begun_filling = record {
    written = record {
      leads = begun_leads;
      own = λ some. own_same w.page_size w.initial (end_at w) begun journal (omega arith) begun_front opened.first;
      within = omega (arith, begun_long);
      ends = omega (arith, begun_long);
      whole = λ k d lt. absurd (omega arith);
      low = λ k d lt. absurd (omega arith);
    };
    gate = begun_gate;
  }

  pub begun_all : all_records (with_segment w) begun ≡ all_records w journal
  begun_all = append-nil (earlier_records (with_segment w) begun) ∙ begun_records

-- the whole journal is closed
module _ (journal : List ℕ) (some : 0 < length journal) where
  shut_long : length (written 0 (0 ∷ []) journal) ≡ length journal
  shut_long = omega (arith, written_length 0 (0 ∷ []) journal (omega arith))

  pub shut_is : IsJournalShut (written 0 (0 ∷ []) journal)
  shut_is = record {
    within = omega (arith, shut_long);
    gate = sym (get_or-take 1 (written 0 (0 ∷ []) journal) 0 0 (omega arith)) ∙ ap (λ (l : List ℕ). get_or l 0 0) (written_part 0 (0 ∷ []) journal (omega arith));
  }
