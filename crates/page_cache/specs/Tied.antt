-- What holds of a cache's parts together.
use Rattle.std.specs.Prelude.{ℕ, ◌≡◌, ◌≤◌, ◌*◌, List, Option, length}
use Rattle.std.specs.HashMap.{HashMap}
use Rattle.page_cache.specs.Frames.{FrameEntry, HaveDistinctPages, AreFreeLast, AreFrames, AllOfLength}
use Rattle.page_cache.specs.Index.{Names, room}

-- what holds of the index, the frames and the table of what they hold
pub record AreTied (usable : ℕ) {S : Type 0} (index : HashMap ℕ (Option ℕ) S) (frames : List (List ℕ)) (es : List FrameEntry) : Type 0 where
  pub apart : HaveDistinctPages es
  pub last : AreFreeLast es
  pub within : AreFrames (length frames) es
  pub full : length es ≡ length frames
  pub sized : AllOfLength usable frames
  pub names : Names index es
  pub roomy : 2 * length frames ≤ room index
