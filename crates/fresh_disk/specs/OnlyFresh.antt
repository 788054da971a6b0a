-- Runs that change Fresh alone, and their laws.
use Rattle.std.specs.Prelude.{◌≡◌, ℕ, ◌≤◌}
use Rattle.edge_model.specs.Files.{Files}
use Rattle.edge_model.specs.Images.{Each, From, HasSynced, LeavesOnly}
use Rattle.edge_model.specs.Moments.{started_from, then_from}
use Rattle.edge_model.specs.declared.role.Role.TheVariants.{Fresh}
use Rattle.std.proofs.Common.{refl, ◌∙◌}

-- Main and Journal are the same files with the same bytes
pub record OnlyFresh (old new : Files) : Type 0 where
  pub main : new.main ≡ old.main
  pub journal : new.journal ≡ old.journal

-- Main and Journal are as in one of these images
abbrev pub IsOld : (Files → Type 0) → Files → Type 0
IsOld images image = From OnlyFresh images image

-- no byte of Fresh is unsynced
abbrev pub IsFreshSynced : (Files → Type 0) → Files → Type 0
IsFreshSynced images now = Each images (HasSynced Fresh now)

pub only_fresh_stays : (c : Files) → OnlyFresh c c
only_fresh_stays c = record { main = refl; journal = refl }

pub only_fresh_joins : (a b c : Files) → OnlyFresh a b → OnlyFresh b c → OnlyFresh a c
only_fresh_joins a b c first next = record { main = next.main ∙ first.main; journal = next.journal ∙ first.journal }

-- the same of a run, at each of its moments
module _ {D : Type 0} {images : D → Files → Type 0} {moment : D → ℕ} {since : D → ℕ → Files → Type 0} where
  pub run_stays : (only_now : (disk : D) (c : Files) → since disk (moment disk) c → images disk c) (d : D) → LeavesOnly moment since d d (IsOld (images d))
  run_stays only_now d = started_from only_now d OnlyFresh only_fresh_stays

  pub run_joins : (counts_now : (disk : D) (t : ℕ) (c : Files) → t ≤ moment disk → images disk c → since disk t c) {a b c : D}
      → LeavesOnly moment since a b (IsOld (images a)) → LeavesOnly moment since b c (IsOld (images b)) → LeavesOnly moment since a c (IsOld (images a))
  run_joins counts_now first next = then_from counts_now only_fresh_joins first next
