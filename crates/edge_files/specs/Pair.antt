-- What is done behind a run where no others were met.
use Rattle.std.specs.Prelude.{◌≡◌, ℕ, Some}
use Rattle.edge_model.specs.Files.{Files}
use Rattle.edge_model.specs.Images.{From, LeavesOnly}
use Rattle.system_calls.specs.System.{System, seen}

-- The names and what is open are the same, and every byte but those of the file that is open as Main.
pub record OnlyMain (old new : System) : Type 0 where
  pub names : new.names ≡ old.names
  pub places : new.places ≡ old.places
  pub others : (m : ℕ) → (old.places.main ≡ Some m → ⊥) → new.held m ≡ old.held m

-- Main's name and what is open are the same, and every byte but those of the file that is open as Main.
pub record TakesBack (old new : System) : Type 0 where
  pub main : new.names.main ≡ old.names.main
  pub places : new.places ≡ old.places
  pub others : (m : ℕ) → (old.places.main ≡ Some m → ⊥) → new.held m ≡ old.held m

-- Main and Journal are the same
pub record SamePair (old new : Files) : Type 0 where
  pub main : new.main ≡ old.main
  pub journal : new.journal ≡ old.journal

-- so they read, and at each moment an image has those of an image from before
pub record KeepsPair {C : Type 0} (system : C → System) (images : C → Files → Type 0) (moment : C → ℕ) (since : C → ℕ → Files → Type 0) (old new : C) : Type 0 where
  pub reads : SamePair (seen (system old)) (seen (system new))
  pub any_moment : LeavesOnly moment since old new (From SamePair (images old))
