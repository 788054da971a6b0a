-- A line of a script that was carried out.
use Rattle.std.specs.Prelude.{ℕ, List, Option}
use Rattle.session_hall.specs.Machine.{HallState}
use Rattle.session_hall.specs.declared.step.Answer.{Answer}

-- its answer, the machine's state after it, and the file that it makes, if it is a commit that makes one
pub record Reply : Type 0 where
  pub line : List ℕ
  pub answer : Answer
  pub after : HallState
  pub made : Option (List ℕ)
