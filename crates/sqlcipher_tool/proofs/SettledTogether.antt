-- The last run of `settle` begins with the very file that was checked, and ends with one that holds the same.
use Rattle.std.proofs.Common.{◌≡◌, ◌∙◌, ℕ, Bool, List, [], Option, Some, None, sym, ap, subst}
use Rattle.std.specs.Prelude.{unwrap_or}
use Rattle.cipher_profile.specs.Profile.{IsListed}
use Rattle.cipher_profile.specs.declared.keys.Secret.{Secret}
use Rattle.cipher_profile.specs.declared.profile.Profile.{Profile}
use Rattle.edge_model.specs.Files.{File, Files, bytes_of, main_of}
use Rattle.edge_model.specs.Images.{Each}
use Rattle.fresh_disk.specs.Published.{IsAlone}
use Rattle.log_recovery.specs.Opened.{IsLogDone}
use Rattle.log_view.specs.View.{viewed}
use Rattle.page_codec.specs.Page.{keys_of}
use Rattle.rollback_journal.specs.Recovery.{recovered}
use Rattle.sqlcipher_tool.specs.Crash.{IsSafely, new_held, old_held}
use Rattle.sqlcipher_tool.specs.Holding.{DiskRun, HoldsOnly, held_by}
use Rattle.sqlcipher_tool.specs.Plain.{IsClean}
use Rattle.sqlcipher_tool.specs.Recovered.{recovered_main}
use Rattle.sqlcipher_tool.specs.Renewal.{old_keys, renewed}
use Rattle.sqlcipher_tool.specs.Seams.{BeginsBehind, IsLaid}
use Rattle.sqlcipher_tool.specs.Settling.{CanBeLaid}
use Rattle.sqlcipher_tool.specs.declared.change.Change.TheVariants.{Settle as SettleBy}
use Rattle.sqlcipher_tool.specs.declared.command.Command.TheVariants.{Change as ChangeFile}
use Rattle.sqlcipher_tool.specs.declared.status.Status.TheVariants.{Done}
use Rattle.sqlcipher_tool.proofs.Databases.{alone_holds}
use Rattle.sqlcipher_tool.proofs.SettledDone.{settle_done}

-- what a laying of these files left has as Main what a view of them has
laid_main : (size : ℕ) (files d : Files) → IsLogDone size (bytes_of files.main) (bytes_of files.journal) d → bytes_of d.main ≡ Some (main_of (viewed size files))
laid_main size files d done = by_main files.main done
  where
    by_main : (main : Option File) → IsLogDone size (bytes_of main) (bytes_of files.journal) d
        → bytes_of d.main ≡ Some (main_of (viewed size (record { main = main; journal = files.journal; fresh = files.fresh })))
    by_main None left = absurd left
    by_main (Some file) left = left.0

-- each image with which the last run begins is that file alone
all_alone : (size : ℕ) (files : Files) (exit start : Files → Type 0) → IsLaid size files exit → BeginsBehind exit start → Each start (IsAlone (main_of (viewed size files)))
all_alone size files exit start done behind c now =
    let d = behind c now in
    record { main = d.2 ∙ laid_main size files d.0 (done d.0 d.1); journal = d.3 }

-- a file alone is what is recovered of it
alone_recovered : (size : ℕ) (file : List ℕ) (c : Files) → IsAlone file c → recovered size (main_of c) (bytes_of c.journal) ≡ file
alone_recovered size file c alone =
    ap (λ (j : Option File). recovered size (main_of c) (bytes_of j)) alone.journal ∙ ap (λ (o : Option (List ℕ)). unwrap_or o []) alone.main

-- The last run begins with the file that was checked, and holds it alone; so after Done it leaves one that holds the same.
pub settled_together : (profile : Profile) (first second : Secret) (frames : ℕ) (tells : Bool) (drawn : List ℕ) (view files : Files) (exit : Files → Type 0) (run : DiskRun)
    → IsListed profile → view ≡ viewed profile.page_size files → (checked : CanBeLaid profile first (recovered_main profile view))
    → IsLaid profile.page_size files exit → BeginsBehind exit run.at_start → run.at_start run.before
    → IsSafely Done (ChangeFile profile (SettleBy frames)) tells drawn run (Some (renewed profile (SettleBy frames) first second))
    → (now : IsClean (keys_of profile first (main_of run.after)) (main_of run.after)) × (now.held ≡ checked.clean.held)
settled_together profile first second frames tells drawn view files exit run listed same checked done behind now safely =
    let renewal = renewed profile (SettleBy frames) first second in
    let alone = all_alone profile.page_size files exit run.at_start done behind in
    let file = main_of (viewed profile.page_size files) in
    let begins : recovered_main profile run.before ≡ file = alone_recovered profile.page_size file run.before (alone run.before now) in
    let seen : file ≡ recovered_main profile view = ap (λ (v : Files). recovered_main profile v) (sym same) in
    subst (λ (f : List ℕ). (laid : CanBeLaid profile first f) → (ended : IsClean (keys_of profile first (main_of run.after)) (main_of run.after)) × (ended.held ≡ laid.clean.held)) (begins ∙ seen)
    (λ laid. settle_done profile first second frames tells drawn (recovered_main profile run.before) (HoldsOnly (old_held renewal run.before)) (λ f. HoldsOnly (new_held renewal f)) run listed
    (safely (λ c is. subst (λ (f : List ℕ). HoldsOnly (held_by (old_keys renewal f) f) c) (sym begins) (alone_holds (old_keys renewal file) file c (alone c is)))) laid) checked
