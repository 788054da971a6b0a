-- What contracts see of a source, a sink and an entropy in memory.
use Rattle.std.specs.Prelude.{◌≡◌, ℕ, Bool, false, List, []}
use Rattle.edge_memory.specs.Gate.{CallCounts, IsCounted, at_first}

-- bytes that are handed out in order
pub record Supplied : Type 0 where
  pub given : List ℕ
  pub left : List ℕ

-- a source or an entropy: the bytes that were given, those to come, and its counts
pub record Feed : Type 0 where
  pub given : List ℕ
  pub left : List ℕ
  pub counts : CallCounts

-- all of these bytes to come, and these calls to fail
abbrev pub full_feed : List ℕ → List ℕ → Feed
full_feed bytes failing = record { given = []; left = bytes; counts = at_first failing }

-- A call for bytes is counted. Where it was not done, the same bytes are to come.
pub record IsFeedDrawn (done : Bool) (old new : Feed) : Type 0 where
  pub counts : IsCounted done old.counts new.counts
  pub not_done : done ≡ false → new.left ≡ old.left

-- a sink: the bytes that it has, and its counts
pub record Intake : Type 0 where
  pub taken : List ℕ
  pub counts : CallCounts

-- no byte so far, and these calls to fail
abbrev pub empty_intake : List ℕ → Intake
empty_intake failing = record { taken = []; counts = at_first failing }
