-- What a salvage answers.
use Rattle.std.specs.Prelude.{◌≡◌, ◌<◌, ℕ, Bool, List, [], ◌++◌, Result, Ok, Err, IsTrue, ⊤}
use Rattle.edge_model.specs.Causes.{Rose}
use Rattle.db_format.specs.Pages.{Pages}
use Rattle.row_text.specs.Out.{MovesPart}
use Rattle.salvage_scan.specs.declared.error.SalvageError.{SalvageError}
use Rattle.salvage_scan.specs.declared.error.SalvageError.TheVariants.{KeyRefused, DiskFault, OutputFault, OutOfMemory}
use Rattle.salvage_scan.specs.declared.scan.Salvaged.{Salvaged}
use Rattle.salvage_scan.specs.Salvage.{IsNoneAccepted, counts_of, salvage_lines}
use Rattle.salvage_scan.specs.Text.{counts_shown, salvage_report}

-- all lines were put, and the counts are theirs
pub record IsWholeSalvage (tells : Bool) (pages : Pages) (before after : List ℕ) (counts : Salvaged) : Type 0 where
  pub text : IsTrue tells → after ≡ before ++ salvage_report (salvage_lines pages)
  pub is : counts_shown counts ≡ counts_of (salvage_lines pages)

-- the sink took the report of these pages; where it stopped, a part of it
abbrev pub IsReported : Bool → Pages → List ℕ → List ℕ → Result Salvaged SalvageError → Type 0
IsReported tells pages before after (Ok counts) = IsWholeSalvage tells pages before after counts
IsReported tells pages before after (Err error) = IsTrue tells → MovesPart (salvage_report (salvage_lines pages)) before [] after

-- the key is refused where no page is accepted, and never in a profile without tags
abbrev pub IsKeyAnswered : ℕ → Pages → Result Salvaged SalvageError → Type 0
IsKeyAnswered tag_len pages (Ok counts) = 0 < tag_len → IsNoneAccepted pages → ⊥
IsKeyAnswered tag_len pages (Err KeyRefused) = (0 < tag_len) × IsNoneAccepted pages
IsKeyAnswered tag_len pages (Err DiskFault) = ⊤
IsKeyAnswered tag_len pages (Err OutputFault) = ⊤
IsKeyAnswered tag_len pages (Err OutOfMemory) = ⊤

-- why it stopped, by the counts of faults of the disk and of the sink before and after. Where the key is refused, nothing was put.
abbrev pub IsStop : ℕ → ℕ → ℕ → ℕ → ℕ → Type 0 → SalvageError → Type 0
IsStop tag_len before now out out_now same KeyRefused = (0 < tag_len) × same
IsStop tag_len before now out out_now same DiskFault = Rose before now
IsStop tag_len before now out out_now same OutputFault = Rose out out_now
IsStop tag_len before now out out_now same OutOfMemory = ⊤
