-- How far a salvage is, and why it stops.
use Rattle.std.specs.Prelude.{◌≡◌, ℕ, ◌+◌, Bool, List, ◌++◌, Result, Ok, Err, IsTrue, ⊤}
use Rattle.edge_model.specs.Causes.{Rose}
use Rattle.row_text.specs.Out.{Moves, MovesPart}
use Rattle.salvage_scan.specs.declared.error.SalvageError.{SalvageError}
use Rattle.salvage_scan.specs.declared.error.SalvageError.TheVariants.{KeyRefused, DiskFault, OutputFault, OutOfMemory}
use Rattle.salvage_scan.specs.Salvage.{LineCounts, Line, counts_of}
use Rattle.salvage_scan.specs.Text.{lines_text}

-- what a salvage has done: what the sink took, what waits for it, and the counts
pub record ScanState : Type 0 where
  pub taken : List ℕ
  pub waits : List ℕ
  pub counts : LineCounts

abbrev pub added : LineCounts → LineCounts → LineCounts
added a b = record { rows = a.rows + b.rows; lost_rows = a.lost_rows + b.lost_rows; refused_pages = a.refused_pages + b.refused_pages }

-- these lines were put and counted. The bytes are known where the sink tells them.
pub record IsPutLine (tells : Bool) (lines : List Line) (s t : ScanState) : Type 0 where
  pub moves : IsTrue tells → Moves (lines_text lines) s.taken s.waits t.taken t.waits
  pub counts : t.counts ≡ added s.counts (counts_of lines)

-- a part of them was put
abbrev pub IsPutPart : Bool → List Line → ScanState → ScanState → Type 0
IsPutPart tells lines s t = IsTrue tells → MovesPart (lines_text lines) s.taken s.waits t.taken

abbrev pub IsSalvaged : Bool → List Line → ScanState → ScanState → Result Unit SalvageError → Type 0
IsSalvaged tells lines s t (Ok done) = IsPutLine tells lines s t
IsSalvaged tells lines s t (Err error) = IsPutPart tells lines s t

-- of all lines the first ones are behind, and `more` are left
pub record IsScanSoFar (tells : Bool) (all more : List Line) (s t : ScanState) : Type 0 where
  pub behind : List Line
  pub whole : all ≡ behind ++ more
  pub put : IsPutLine tells behind s t

-- ---- why it stops, by the counts of faults of the disk and of the sink before and after

-- while the pages of the disk are read
abbrev pub IsDiskCause : ℕ → ℕ → SalvageError → Type 0
IsDiskCause before now KeyRefused = ⊥
IsDiskCause before now DiskFault = Rose before now
IsDiskCause before now OutputFault = ⊥
IsDiskCause before now OutOfMemory = ⊤

-- while lines are put
abbrev pub IsOutCause : ℕ → ℕ → SalvageError → Type 0
IsOutCause before now KeyRefused = ⊥
IsOutCause before now DiskFault = ⊥
IsOutCause before now OutputFault = Rose before now
IsOutCause before now OutOfMemory = ⊤

abbrev pub IsSalvageCause : ℕ → ℕ → ℕ → ℕ → SalvageError → Type 0
IsSalvageCause before now out out_now KeyRefused = ⊥
IsSalvageCause before now out out_now DiskFault = Rose before now
IsSalvageCause before now out out_now OutputFault = Rose out out_now
IsSalvageCause before now out out_now OutOfMemory = ⊤
