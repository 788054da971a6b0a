-- The members of a disk that tells nothing.
use Rattle.std.specs.Prelude.{◌≡◌, ℕ}
use Rattle.std.proofs.Common.{sym, subst}
use Rattle.edge_model.specs.Files.{Files, no_files}
use Rattle.edge_model.specs.Images.{IsNumbered}

nothing_is : (next : ℕ) → IsNumbered next no_files
nothing_is next =
    record {
      main = λ n is. cc;
      journal = λ n is. cc;
      fresh = λ n is. cc;
      main_journal = λ n is too. cc;
      main_fresh = λ n is too. cc;
      journal_fresh = λ n is too. cc;
    }

pub nothing_numbered : (c : Files) → c ≡ no_files → IsNumbered 0 c
nothing_numbered c is = subst (IsNumbered 0) (sym is) (nothing_is 0)
