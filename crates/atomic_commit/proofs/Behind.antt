-- A change of the file, behind a run that left the old pages.
use Rattle.std.proofs.Common.{inl, inr, ℕ, List}
use Rattle.edge_model.specs.Files.{Files}
use Rattle.edge_model.specs.Images.{LeavesOnly}
use Rattle.edge_model.specs.Moments.{and_then, weaker}
use Rattle.atomic_commit.specs.Commit.{LeavesChanged}
use Rattle.atomic_commit.specs.Database.{Base, HoldsOld}

module _ {D : Type 0} {moment : D → ℕ} {since : D → ℕ → Files → Type 0} {base : Base} where
  -- first each image held the old pages, and then those or the changed ones
  pub then_changed : {changed : List ℕ → Type 0} {old mid new : D} → LeavesOnly moment since old mid (HoldsOld base)
      → LeavesChanged moment since base changed mid new → LeavesChanged moment since base changed old new
  then_changed first (inl run) = inl (and_then first run)
  then_changed first (inr one) = inr (one.0, one.1, and_then (weaker (λ c old. inl old) first) one.2)

  -- the same run, of which less is said
  pub changed_weaker : {P Q : List ℕ → Type 0} {old new : D} → ((main : List ℕ) → P main → Q main)
      → LeavesChanged moment since base P old new → LeavesChanged moment since base Q old new
  changed_weaker gives (inl run) = inl run
  changed_weaker gives (inr one) = inr (one.0, gives one.0 one.1, one.2)
