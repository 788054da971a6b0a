-- The writer of a journal meets what a transaction asks: its two lists of records, and what stands of its bytes.
use Rattle.std.proofs.Common.{◌≡◌, ℕ, suc, zero, ◌+◌, List, [], ◌∷◌, ◌++◌, length, map, refl, sym, ◌∙◌, ap, subst, arith, length-append, append_assoc}
use Rattle.journal_format.specs.Records.{Record, Place, record_at}
use Rattle.journal_format.specs.Segments.{places_of}
use Rattle.rollback_journal.specs.declared.stage.Stage.{Stage}
use Rattle.rollback_journal.specs.declared.stage.Stage.TheVariants.{Filling, Opened}
use Rattle.rollback_journal.specs.Writing.{Writing, HasNoRecordOf, safe_at, waiting_at, safe_records, waiting_records, earlier_records, present_records, present_places, all_records, with_stage, with_record}
use Rattle.atomic_commit.specs.Facts.{HasNone}

-- no record of a page, as the writer says it
pub none_all : (n : ℕ) (records : List Record) → HasNone n records → HasNoRecordOf n records
none_all n [] none k d lt = absurd (omega (arith, lt))
none_all n (entry ∷ rest) none zero d lt = none.0
none_all n (entry ∷ rest) none (suc k) d lt = none_all n rest none.1 k d (omega (arith, lt))

-- while the present gate is closed, both lists are all records
pub both_all : (w : Writing) (journal : List ℕ) → w.stage ≡ Filling → safe_records w journal ++ waiting_records w journal ≡ all_records w journal
both_all w journal is = ap (λ (s : Stage). safe_at s w journal ++ waiting_at s w journal) is

pub fresh_all : (w : Writing) (n : ℕ) (journal : List ℕ) → w.stage ≡ Filling → HasNone n (safe_records w journal ++ waiting_records w journal) → HasNoRecordOf n (all_records w journal)
fresh_all w n journal is none = none_all n (all_records w journal) (subst (λ (rs : List Record). HasNone n rs) (both_all w journal is) none)

-- Two lists that are one: where their second parts are of one length, the parts are the same.
same_parts : (a b c d : List Record) → a ++ b ≡ c ++ d → length b ≡ length d → (a ≡ c) × (b ≡ d)
same_parts [] b [] d is long = (refl, is)
same_parts [] b (y ∷ c) d is long = absurd (omega (arith, long, ap length is, length-append c d))
same_parts (x ∷ a) b [] d is long = absurd (omega (arith, long, ap length is, length-append a b))
same_parts (x ∷ a) b (y ∷ c) d is long =
    let rest = same_parts a b c d (tail_is is) long in
    (ap (λ (l : List Record). x ∷ l) rest.0 ∙ ap (λ (z : Record). z ∷ c) (head_is is), rest.1)
  where
    tail_is : x ∷ (a ++ b) ≡ y ∷ (c ++ d) → a ++ b ≡ c ++ d
    tail_is e = cc

    head_is : x ∷ (a ++ b) ≡ y ∷ (c ++ d) → x ≡ y
    head_is e = cc

places_length : (count size nonce at : ℕ) → length (places_of count size nonce at) ≡ count
places_length zero size nonce at = refl
places_length (suc count) size nonce at = ap suc (places_length count size nonce (at + (size + 8)))

map_length : (give : Place → Record) (places : List Place) → length (map give places) ≡ length places
map_length give [] = refl
map_length give (place ∷ rest) = ap suc (map_length give rest)

present_length : (w : Writing) (journal : List ℕ) → length (present_records w journal) ≡ w.count
present_length w journal = map_length (record_at w.page_size journal) (present_places w) ∙ places_length w.count w.page_size w.nonce (w.at + 512)

-- a record more waits
pub appended : (w u : Writing) (old new : List ℕ) (entry : Record) → w.stage ≡ Filling → u ≡ with_record w → all_records u new ≡ all_records w old ++ entry ∷ []
    → (safe_records u new ≡ safe_records w old) × (waiting_records u new ≡ waiting_records w old ++ entry ∷ [])
appended w u old new entry stage is all = (
  ap (λ (s : Writing). safe_records s new) is ∙ parts.0 ∙ sym (ap (λ (s : Stage). safe_at s w old) stage),
  ap (λ (s : Writing). waiting_records s new) is ∙ parts.1 ∙ sym (ap (λ (s : Stage). waiting_at s w old ++ entry ∷ []) stage),
)
  where
    parts : (earlier_records (with_record w) new ≡ earlier_records w old) × (present_records (with_record w) new ≡ present_records w old ++ entry ∷ [])
    parts = same_parts (earlier_records (with_record w) new) (present_records (with_record w) new) (earlier_records w old) (present_records w old ++ entry ∷ [])
        (sym (ap (λ (s : Writing). all_records s new) is) ∙ all ∙ append_assoc (earlier_records w old) (present_records w old) (entry ∷ []))
        (present_length (with_record w) new ∙ sym (let e = length-append (present_records w old) (entry ∷ []) in let p = present_length w old in omega (arith, e, p)))

-- the gate opens: what waited is safe
pub gate_opened : (w u : Writing) (old new : List ℕ) → w.stage ≡ Filling → u ≡ with_stage Opened w → all_records u new ≡ all_records w old
    → (safe_records u new ≡ safe_records w old ++ waiting_records w old) × (waiting_records u new ≡ [])
gate_opened w u old new stage is all = (
  ap (λ (s : Writing). safe_records s new) is ∙ sym (ap (λ (s : Writing). all_records s new) is) ∙ all ∙ sym (both_all w old stage),
  ap (λ (s : Writing). waiting_records s new) is,
)
