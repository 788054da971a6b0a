-- Calls around a call of a disk: looks at the files, and what is prepared.
use Rattle.std.specs.Prelude.{◌≡◌, ℕ, Bool, IsTrue, Result, Ok, IfOk}
use Rattle.edge_model.specs.Files.{Files}
use Rattle.edge_model.specs.Images.{Each, SameImages, Passes}
use Rattle.system_calls.specs.System.{System, seen}

-- what the names lead to is the same, and so are what a stop may leave and the number of the next new file
-- But for the number it is `OnlyRead` of `edge_model`, which is of a disk that tells. Here each fact stands under `tells`, as the clauses of `OpenFiles` have it.
pub record OnlyLooked {C : Type 0} (tells : Bool) (system : C → System) (images : C → Files → Type 0) (moment : C → ℕ) (since : C → ℕ → Files → Type 0)
    (next : C → ℕ) (old new : C) : Type 0 where
  pub stays : IsTrue tells → seen (system new) ≡ seen (system old)
  pub number : IsTrue tells → next new ≡ next old
  pub crash : IsTrue tells → SameImages (images old) (images new)
  pub time : IsTrue tells → Passes images moment since old new

-- what the names lead to is the same, and a stop leaves nothing that it could not have left before
pub record NothingNew {C : Type 0} (tells : Bool) (system : C → System) (images : C → Files → Type 0) (moment : C → ℕ) (since : C → ℕ → Files → Type 0)
    (old new : C) : Type 0 where
  pub stays : IsTrue tells → seen (system new) ≡ seen (system old)
  pub crash : IsTrue tells → Each (images new) (images old)
  pub time : IsTrue tells → Passes images moment since old new

-- it is done only where the files' own call was done, and then it answers the same
abbrev pub IsEndOf : {T E F : Type 0} → Result T E → Result T F → Type 0
IsEndOf outcome result = IfOk result (λ value. outcome ≡ Ok value)
