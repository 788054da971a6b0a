-- What a walk does to marks, whatever it answers.
use Rattle.std.specs.Prelude.{ℕ, IsTrue}
use Rattle.db_format.specs.Pages.{Test}

-- no page loses its mark
abbrev pub KeepsMarks : Test → Test → Type 0
KeepsMarks old new = (n : ℕ) → IsTrue (old n) → IsTrue (new n)
