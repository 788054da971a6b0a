-- How many indexes there are of each kind.
use Rattle.std.specs.Prelude.{ℕ, ◌-◌, ◌^◌, not, min, Bool, true, false, List, count_by, sum_by}
use Rattle.index_check.specs.Checked.{is_whole}
use Rattle.index_report.specs.declared.verdict.Verdict.{Verdict}
use Rattle.index_report.specs.declared.verdict.Verdict.TheVariants.{Unchecked, Checked}
use Rattle.index_report.specs.declared.summary.Summary.{Summary}

abbrev pub is_checked : Verdict → Bool
is_checked (Unchecked why) = false
is_checked (Checked found) = true

abbrev pub entry_count : Verdict → ℕ
entry_count (Unchecked why) = 0
entry_count (Checked found) = found.entries

-- it is checked, and differs from its table
abbrev pub differs : Verdict → Bool
differs (Unchecked why) = false
differs (Checked found) = not (is_whole found)

abbrev pub summary : List Verdict → Summary
summary verdicts =
    record {
      checked = count_by is_checked verdicts;
      entries = min (sum_by entry_count verdicts) (2 ^ 64 - 1);
      unchecked = count_by (λ verdict. not (is_checked verdict)) verdicts;
      differing = count_by differs verdicts;
    }
