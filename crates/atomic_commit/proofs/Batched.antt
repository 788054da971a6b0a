-- What a batch keeps: the marks of its pages, their records, and Main.
use Rattle.std.proofs.Common.{◌≡◌, ◌≢◌, ◌⊎◌, inl, inr, ℕ, zero, suc, ◌+◌, ◌-◌, ◌*◌, ◌<◌, ◌≤◌, Bool, true, false, if◌then◌else◌, List, [], ◌∷◌, length, replicate, refl, sym, ◌∙◌, ap, subst, arith}
use Rattle.std.specs.Prelude.{slice_index}
use Rattle.std.proofs.lemmas.List.{length-set, get_or-set_same, get_or-set_other}
use Rattle.std.proofs.lemmas.List.Sums.{get_or-le-sum_by, sum_by-cons}
use Rattle.edge_model.specs.Files.{Files, written}
use Rattle.journal_format.specs.Records.{Record}
use Rattle.rollback_journal.specs.Laying.{page_start}
use Rattle.rollback_journal.specs.declared.stage.Stage.{Stage}
use Rattle.atomic_commit.specs.Batches.{AreMarked, HasBatches, HasMarked, IsBatchReady, IsBatchWritten}
use Rattle.atomic_commit.specs.Commit.{AreChanges}
use Rattle.atomic_commit.specs.Database.{Base, HoldsOld}
use Rattle.atomic_commit.specs.Facts.{HasRecord, IsCommitBegun}
use Rattle.atomic_commit.specs.Marks.{is_marked, marked_count, with_mark}
use Rattle.atomic_commit.specs.Recorded.{AreRecorded}
use Rattle.atomic_commit.proofs.Changed.{changed_next}
use Rattle.atomic_commit.proofs.Recovered.{facts_hold_old}

order : (a b : ℕ) → (a < b) ⊎ (b ≤ a)
order a b = search arith

-- no page is marked, or one is
pub none_or_some : (n : ℕ) → (n ≡ 0) ⊎ (0 < n)
none_or_some n = search arith

not_both : (b : Bool) → b ≡ true → b ≡ false → ⊥
not_both b is not = cc

-- where a page is marked, there are marks
pub marked_some : (n : ℕ) (marks : List Bool) → 1 ≤ n → n ≤ length marks → is_marked n marks ≡ true → 0 < marked_count marks
marked_some n marks one le is =
    omega (arith, get_or-le-sum_by (λ (b : Bool). if b then 1 else 0) marks (n - 1) false (omega (arith, one, le)), ap {B = ℕ} (λ (b : Bool). if b then 1 else 0) is)

mark_there : (m n : ℕ) (marks : List Bool) → 1 ≤ m → 1 ≤ n → n ≢ m → is_marked n (with_mark m marks) ≡ is_marked n marks
mark_there m n marks one_m one_n other =
    get_or-set_other marks (m - 1) (n - 1) true false (λ same. other (let e : n ≡ m = omega (arith, same, one_m, one_n) in e))

-- before the first page
pub marked_none : (numbers : List ℕ) (marks : List Bool) → HasMarked numbers 0 marks marks
marked_none numbers marks = record { as_many = refl; marked = λ k lt. absurd (omega (arith, lt)); others = λ n one none. refl }

-- the next page is marked now
pub marked_next : (numbers : List ℕ) (k n : ℕ) (old new after : List Bool) → AreChanges (length new) numbers → k < length numbers → n ≡ slice_index numbers k → after ≡ with_mark n new → HasMarked numbers k old new → HasMarked numbers (k + 1) old after
marked_next numbers k n old new after changes lt number is has = subst (λ (l : List Bool). HasMarked numbers (k + 1) old l) (sym is) (record {
  as_many = length-set new (n - 1) true ∙ has.as_many;
  marked = λ j below. go j below (order j k);
  others = λ m one none. mark_there n m new one_n one (λ same. none k (omega arith) (sym number ∙ sym same)) ∙ has.others m one (λ j below. none j (omega (arith, below)));
})
  where
    one_n : 1 ≤ n
    one_n = omega (arith, number, (changes.in_range k lt).0)

    here : is_marked n (with_mark n new) ≡ true
    here = get_or-set_same new (n - 1) true false (omega (arith, one_n, number, (changes.in_range k lt).1))

    go : (j : ℕ) → j < k + 1 → (j < k) ⊎ (k ≤ j) → is_marked (slice_index numbers j) (with_mark n new) ≡ true
    go j below (inl small) =
        mark_there n (slice_index numbers j) new one_n (changes.in_range j (omega (arith, small, lt))).0 (λ same. changes.apart j k small lt (same ∙ number)) ∙ has.marked j small
    go j below (inr le) = subst (λ (i : ℕ). is_marked (slice_index numbers i) (with_mark n new) ≡ true) (let e : k ≡ j = omega (arith, below, le) in e) (subst (λ (p : ℕ). is_marked p (with_mark n new) ≡ true) number here)

-- a batch with a page leaves marks
pub batch_some : (numbers : List ℕ) (old new : List Bool) → AreChanges (length old) numbers → 0 < length numbers → HasMarked numbers (length numbers) old new → 0 < marked_count new
batch_some numbers old new changes some has =
    let range = changes.in_range 0 some in
    marked_some (slice_index numbers 0) new range.0 (omega (arith, range.1, has.as_many)) (has.marked 0 some)

-- where no page is marked behind a batch, it had no page
pub unmarked_none : (numbers : List ℕ) (old new : List Bool) → AreChanges (length old) numbers → HasMarked numbers (length numbers) old new → marked_count new ≡ 0 → numbers ≡ []
unmarked_none [] old new changes has none = refl
unmarked_none (n ∷ rest) old new changes has none = absurd (omega (arith, none, batch_some (n ∷ rest) old new changes (omega arith) has))

-- the pages of a batch have their records
pub batch_recorded : (numbers : List ℕ) (old new : List Bool) (records : List Record) → AreChanges (length old) numbers → HasMarked numbers (length numbers) old new → AreRecorded new records → (k : ℕ) → k < length numbers → HasRecord (slice_index numbers k) records
batch_recorded numbers old new records changes has are k lt =
    let range = changes.in_range k lt in
    are.have_one (slice_index numbers k) range.0 (omega (arith, range.1, has.as_many)) (has.marked k lt)

-- between two batches each image holds the old database
pub batches_hold_old : (base : Base) (marks : List Bool) (safe waiting : List ℕ → List Record) (left : Files → Type 0) (beside : Files → Files → Type 0) (now : Files) (images : Files → Type 0)
    → HasBatches base marks safe waiting left beside now images → (c : Files) → images c → HoldsOld base c
batches_hold_old base marks safe waiting left beside now images has c here = go (none_or_some (marked_count marks))
  where
    go : (marked_count marks ≡ 0) ⊎ (0 < marked_count marks) → HoldsOld base c
    go (inl none) = (has.begun none).holds c here
    go (inr some) = facts_hold_old base _ _ now images (has.facts some) c here

-- before the first page of a batch
pub written_none : (base : Base) (numbers : List ℕ) (seals : ℕ → List ℕ → Type 0) (main : List ℕ) → IsBatchWritten base main numbers seals 0 main
written_none base numbers seals main = record { sealed = λ k lt. absurd (omega (arith, lt)); others = λ n one le none. refl }

-- one page more
pub written_next : (base : Base) (numbers : List ℕ) (seals : ℕ → List ℕ → Type 0) (k : ℕ) (before stored main after : List ℕ) → AreChanges base.pages numbers → k < length numbers → length stored ≡ base.size
    → base.pages * base.size ≤ length main → seals k stored → after ≡ written (page_start base.size (slice_index numbers k)) stored main → IsBatchWritten base before numbers seals k main → IsBatchWritten base before numbers seals (k + 1) after
written_next base numbers seals k before stored main after changes lt sized long sealed is has =
    changed_next (record base { start = before }) numbers seals k (slice_index numbers k) stored main after changes lt refl sized long sealed is has

-- where not all pages of a batch were marked, it has a page
pub batch_some_unmarked : (numbers : List ℕ) (old new : List Bool) → AreChanges (length old) numbers → (AreMarked numbers old → ⊥) → HasMarked numbers (length numbers) old new → 0 < marked_count new
batch_some_unmarked numbers old new changes not_all has = go (none_or_some (length numbers))
  where
    go : (length numbers ≡ 0) ⊎ (0 < length numbers) → 0 < marked_count new
    go (inl none) = absurd (not_all (λ k lt. absurd (omega (arith, lt, none))))
    go (inr some) = batch_some numbers old new changes some has

-- and a record was written
pub record_some : (count : ℕ) (numbers : List ℕ) (old new : List Bool) → (count ≡ 0 → new ≡ old) → (AreMarked numbers old → ⊥) → HasMarked numbers (length numbers) old new → 0 < count
record_some count numbers old new none not_all has = go (none_or_some count)
  where
    go : (count ≡ 0) ⊎ (0 < count) → 0 < count
    go (inl is) = absurd (not_all (subst (λ (l : List Bool). AreMarked numbers l) (none is) has.marked))
    go (inr some) = some

-- a test that failed
pub not_marked : {A : Type 0} (answer : Bool) → (A → answer ≡ true) → answer ≡ false → A → ⊥
not_marked answer gives is a = not_both answer (gives a) is

-- before the first batch
pub count_none : (pages : ℕ) → marked_count (replicate pages false) ≡ 0
count_none zero = refl
count_none (suc pages) = omega (arith, sum_by-cons (λ (b : Bool). if b then 1 else 0) false (replicate pages false), count_none pages)

pub ready_first : (marks : List Bool) (is_new : Type 0) (stage : Stage) (count total : ℕ) (is_small : Type 0) → marked_count marks ≡ 0 → is_new → IsBatchReady marks is_new stage count total is_small
ready_first marks is_new stage count total is_small none new = record { new = λ is. new; opened = λ some. absurd (omega (arith, none, some)) }

pub batches_first : (base : Base) (marks : List Bool) (safe waiting : List ℕ → List Record) (left : Files → Type 0) (beside : Files → Files → Type 0) (now : Files) (images : Files → Type 0)
    → marked_count marks ≡ 0 → IsCommitBegun base images → HasBatches base marks safe waiting left beside now images
batches_first base marks safe waiting left beside now images none begun = record {
  begun = λ is. begun;
  facts = λ some. absurd (omega (arith, none, some));
  journal = λ some. absurd (omega (arith, none, some));
  recorded = λ some. absurd (omega (arith, none, some));
}
