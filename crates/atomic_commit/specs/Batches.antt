-- Changed pages in batches. A batch is written before the commit, so that its frames are free for other pages, and more may
-- follow. The pages that have a record are marked.
use Rattle.std.specs.Prelude.{ℕ, ◌≡◌, ◌≢◌, ◌<◌, ◌≤◌, Bool, true, List, length, slice_index}
use Rattle.edge_model.specs.Files.{Files}
use Rattle.journal_format.specs.Records.{Record}
use Rattle.rollback_journal.specs.Playing.{journal_of}
use Rattle.rollback_journal.specs.declared.stage.Stage.{Stage}
use Rattle.rollback_journal.specs.declared.stage.Stage.TheVariants.{Opened}
use Rattle.atomic_commit.specs.Commit.{IsChanged}
use Rattle.atomic_commit.specs.Database.{Base}
use Rattle.atomic_commit.specs.Facts.{HasFacts, IsCommitBegun}
use Rattle.atomic_commit.specs.Journals.{AsLeft}
use Rattle.atomic_commit.specs.Marks.{is_marked, marked_count}
use Rattle.atomic_commit.specs.Recorded.{AreRecorded}

-- The writer can take the next batch: it has written nothing yet, or its last gate is open.
pub record IsBatchReady (marks : List Bool) (is_new : Type 0) (stage : Stage) (count total : ℕ) (is_small : Type 0) : Type 0 where
  pub new : marked_count marks ≡ 0 → is_new
  pub opened : 0 < marked_count marks → (stage ≡ Opened) × (0 < count) × (total ≡ marked_count marks) × is_small

-- What the disk has between two batches: no journal yet, or the facts, with a record of each marked page behind an open gate.
pub record HasBatches (base : Base) (marks : List Bool) (safe waiting : List ℕ → List Record) (left : Files → Type 0) (beside : Files → Files → Type 0) (now : Files) (images : Files → Type 0) : Type 0 where
  pub begun : marked_count marks ≡ 0 → IsCommitBegun base images
  pub facts : 0 < marked_count marks → HasFacts base safe waiting now images
  pub journal : 0 < marked_count marks → AsLeft left beside now images
  pub recorded : 0 < marked_count marks → AreRecorded marks (safe (journal_of now))

-- each of these pages is marked
abbrev pub AreMarked : List ℕ → List Bool → Type 0
AreMarked numbers marks = (k : ℕ) → k < length numbers → is_marked (slice_index numbers k) marks ≡ true

-- the first of these pages are marked, and every other page is as it was
pub record HasMarked (numbers : List ℕ) (done : ℕ) (old new : List Bool) : Type 0 where
  pub as_many : length new ≡ length old
  pub marked : (k : ℕ) → k < done → is_marked (slice_index numbers k) new ≡ true
  pub others : (n : ℕ) → 1 ≤ n → ((k : ℕ) → k < done → slice_index numbers k ≢ n) → is_marked n new ≡ is_marked n old

-- Main with the first pages of a batch: each of these is sealed, and every other page is as it was before the batch.
abbrev pub IsBatchWritten : Base → List ℕ → List ℕ → (ℕ → List ℕ → Type 0) → ℕ → List ℕ → Type 0
IsBatchWritten base before numbers seals done main = IsChanged (record base { start = before }) numbers seals done main
