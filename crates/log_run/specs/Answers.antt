-- What is answered of a file and its log. A page size is in bytes, and Journal is the log.
use Rattle.std.specs.Prelude.{◌≡◌, ◌⊎◌, ℕ, Bool, IsTrue, List, Some}
use Rattle.edge_model.specs.Files.{Files}
use Rattle.log_view.specs.Refused.{IsViewRefused}
use Rattle.log_view.specs.View.{viewed}
use Rattle.log_view.specs.declared.opening.ViewError.{ViewError}
use Rattle.sqlcipher_tool.specs.Answer.{Answer, Puts}
use Rattle.sqlcipher_tool.specs.Due.{due}
use Rattle.sqlcipher_tool.specs.Stop.{stop_answer}
use Rattle.sqlcipher_tool.specs.WithLog.{view_stop}
use Rattle.sqlcipher_tool.specs.declared.opening.Stop.TheVariants.{DiskFault as StopDisk, OutOfMemory as StopMemory}
use Rattle.sqlcipher_tool.specs.declared.status.Status.{Status}
use Rattle.sqlcipher_tool.specs.declared.status.Status.TheVariants.{DiskFault, OutputFault, OutOfMemory}

-- the answers to the words, of the file to which Main and its log open
abbrev pub due_with_log : ℕ → List (List ℕ) → List ℕ → Files → List Answer
due_with_log size words left files = due words left (viewed size files) (viewed size files)

-- Main and the log are not read as one file, for a reason that they give: its line is the answer. Or the disk failed, or memory ran
-- out, and nothing was printed.
pub record IsStoppedBy (size most : ℕ) (files : Files) (status : Status) (tells : Bool) (before after : List ℕ) : Type 0 where
  pub why : ViewError
  pub is_due : IsViewRefused size most files why
  pub refused : (answer : Answer) → stop_answer (view_stop why) ≡ Some answer → (status ≡ answer.status) ⊎ (status ≡ OutputFault)
  pub text : (answer : Answer) → stop_answer (view_stop why) ≡ Some answer → IsTrue tells → Puts status answer.text before after
  pub disk : view_stop why ≡ StopDisk → (status ≡ DiskFault) × (after ≡ before)
  pub memory : view_stop why ≡ StopMemory → (status ≡ OutOfMemory) × (after ≡ before)
