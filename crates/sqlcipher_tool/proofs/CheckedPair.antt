-- A pair of files that was checked before its log is laid.
use Rattle.std.proofs.Common.{◌≡◌, ⊎_elim, ◌≤◌, ℕ, List, Result, Ok, Err, sym, subst, ◌∙◌, arith}
use Rattle.std.specs.List.{Contains}
use Rattle.std.specs.Prelude.{OnOk}
use Rattle.cipher_profile.specs.Profile.{with_log}
use Rattle.cipher_profile.specs.declared.keys.Secret.{Secret}
use Rattle.cipher_profile.specs.declared.profile.Profile.{Profile}
use Rattle.db_format.specs.Pages.{Pages}
use Rattle.db_format.specs.declared.header.Header.{Header}
use Rattle.edge_model.specs.Causes.{Rose}
use Rattle.page_codec.specs.Page.{keys_of}
use Rattle.pager.specs.Opening.{Opened}
use Rattle.pager.specs.Pages.{opened_pages}
use Rattle.pager.specs.declared.opening.OpenError.{OpenError}
use Rattle.sqlcipher_tool.specs.Answer.{IsFault}
use Rattle.sqlcipher_tool.specs.Opening.{opened_with}
use Rattle.sqlcipher_tool.specs.Promises.{AnswersOne}
use Rattle.sqlcipher_tool.specs.Reading.{job_due}
use Rattle.sqlcipher_tool.specs.Settling.{CanBeLaid, CanLoseMaps, IsChecked, IsWalked}
use Rattle.sqlcipher_tool.specs.Verify.{opened_answers, pages_answers}
use Rattle.sqlcipher_tool.specs.declared.reading.Job.TheVariants.{Verify}
use Rattle.sqlcipher_tool.specs.declared.status.Status.{Status}
use Rattle.sqlcipher_tool.specs.declared.status.Status.TheVariants.{Done}
use Rattle.sqlcipher_tool.proofs.DueReports.{done_verifies}
use Rattle.sqlcipher_tool.proofs.OpenedParts.{open_count, open_parts}
use Rattle.sqlcipher_tool.proofs.Verified.{some_is}

-- what holds where a call was done
pub on_ok : {T E A B : Type 0} (r : Result T E) → OnOk r A → (A → B) → OnOk r B
on_ok (Ok x) was other = other was
on_ok (Err e) was other = was

-- and where two hold there
pub both_ok : {T E A B C : Type 0} (r : Result T E) → OnOk r A → OnOk r B → (A → B → C) → OnOk r C
both_ok (Ok x) a b other = other a b
both_ok (Err e) a b other = a

-- a file that opens where marks pass, and was checked
pub laid_if : (profile : Profile) (secret : Secret) (file : List ℕ) (header : Header) (n : ℕ) → 1 ≤ n
    → opened_with (with_log profile) secret file ≡ Ok (record { header = header; count = n }) → IsChecked (opened_pages (keys_of (with_log profile) secret file) file n) → CanBeLaid profile secret file
laid_if profile secret file header n some opens checked =
    let keys = keys_of (with_log profile) secret file in
    let walked = checked.0 in
    let due = subst (λ (r : Result Opened OpenError). Contains (opened_answers r (λ count. job_due Verify (opened_pages keys file count))) walked.answer) (sym opens) walked.is_due in
    let clean = (done_verifies (with_log profile) secret file walked.answer due walked.done).0 in
    let same : n ≡ clean.opens.count = sym (some_is clean.opens.count n (sym clean.opens.is_count ∙ open_count keys file header n (open_parts keys file header n opens))) in record {
      clean = clean;
      maps = subst (λ (count : ℕ). CanLoseMaps (opened_pages keys file count)) same checked.1;
    }
