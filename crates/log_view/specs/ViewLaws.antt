-- Files through a log have the laws of files.
use Rattle.std.specs.Prelude.{◌≡◌, ℕ, List, Option, None, Some, refl}
use Rattle.std.proofs.Common.{sym, subst, ◌∙◌}
use Rattle.edge_model.specs.Files.{File, Files, bytes_of, number_of, with_file_bytes}
use Rattle.edge_model.specs.Images.{IsNumbered}
use Rattle.log_recovery.specs.Opened.{opened_by_log}
use Rattle.log_view.specs.View.{viewed}

-- other bytes leave a file its number
same_number : (change : List ℕ → List ℕ) (file : Option File) → number_of (with_file_bytes change file) ≡ number_of file
same_number change None = refl
same_number change (Some file) = refl

numbered : (size next : ℕ) (d : Files) → IsNumbered next d → IsNumbered next (viewed size d)
numbered size next d is = record {
  main = λ n named. is.main n (sym (same_number (λ main. opened_by_log size main (bytes_of d.journal)) d.main) ∙ named);
  journal = λ n named. cc;
  fresh = λ n named. cc;
  main_journal = λ n named too. cc;
  main_fresh = λ n named too. cc;
  journal_fresh = λ n named too. cc;
}

pub viewed_numbered : (size next : ℕ) (d c : Files) → c ≡ viewed size d → IsNumbered next d → IsNumbered next c
viewed_numbered size next d c same is = subst (IsNumbered next) (sym same) (numbered size next d is)
