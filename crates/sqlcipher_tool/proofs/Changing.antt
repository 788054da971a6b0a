-- A change of the file as its disk shows it: old or new at every moment, and at the exit by the status.
use Rattle.std.proofs.Common.{◌≡◌, ◌⊎◌, ⊎_elim, inl, inr, ◌≤◌, ℕ, List, Some, None, Err, refl, sym, subst}
use Rattle.edge_model.specs.Files.{Files, bytes_of}
use Rattle.edge_model.specs.Images.{Each, From, LeavesOnly}
use Rattle.edge_model.specs.Moments.{and_then, at_exit, weaker}
use Rattle.edge_model.specs.OnlyRead.{OnlyRead}
use Rattle.atomic_commit.specs.Commit.{IsCommitted, LeavesChanged}
use Rattle.atomic_commit.specs.Database.{Base, HoldsEither, HoldsOld, HoldsPages, stored_pages}
use Rattle.atomic_commit.specs.Facts.{SameFresh}
use Rattle.rekey_job.proofs.Committed.{while_read}
use Rattle.sqlcipher_tool.specs.Change.{Commits, KeepsOld, KeepsOrCommits, change_status, stop_status}
use Rattle.sqlcipher_tool.specs.Crash.{AtExit, StaysOrRenews}
use Rattle.sqlcipher_tool.specs.Holding.{disk_run}
use Rattle.sqlcipher_tool.specs.declared.status.Status.{Status}
use Rattle.sqlcipher_tool.specs.declared.status.Status.TheVariants.{Done, Usage, Refused, KeyRefused, DiskFault, OutputFault, InputFault, EntropyFault, OutOfMemory}
use Rattle.sqlcipher_tool.specs.Answer.{IsAnswer}
use Rattle.sqlcipher_tool.specs.declared.opening.ChangeError.{ChangeError}
use Rattle.sqlcipher_tool.specs.declared.opening.ChangeError.TheVariants.{EntropyFault as EntropyFails, Stopped}
use Rattle.sqlcipher_tool.specs.declared.opening.Stop.{Stop}
use Rattle.sqlcipher_tool.specs.declared.opening.Stop.TheVariants.{DiskFault as StopDisk, KeyRefused as StopKey, OutOfMemory as StopMemory, Refused as StopRefused}

output_exit : (status : Status) (old new images : Files → Type 0) → IsAnswer status → AtExit status old new images → AtExit OutputFault old new images
output_exit Done old new images printed now = inr now
output_exit Usage old new images printed now = inl now
output_exit (Refused refusal) old new images printed now = inl now
output_exit KeyRefused old new images printed now = inl now
output_exit DiskFault old new images printed now = absurd printed
output_exit OutputFault old new images printed now = absurd printed
output_exit InputFault old new images printed now = absurd printed
output_exit EntropyFault old new images printed now = absurd printed
output_exit OutOfMemory old new images printed now = absurd printed

-- what stops a command is no success
pub stop_not_done : (stop : Stop) → stop_status stop ≡ Done → ⊥
stop_not_done (StopRefused refusal) is = cc
stop_not_done StopKey is = cc
stop_not_done StopDisk is = cc
stop_not_done StopMemory is = cc

pub error_not_done : (error : ChangeError) → change_status (Err error) ≡ Done → ⊥
error_not_done (Stopped stop) is = stop_not_done stop is
error_not_done EntropyFails is = cc

output_not_done : OutputFault ≡ Done → ⊥
output_not_done is = cc

failed_not_done : DiskFault ≡ Done → ⊥
failed_not_done is = cc

module _ {D : Type 0} (reads : D → Files) (images : D → Files → Type 0) (moment : D → ℕ) (since : D → ℕ → Files → Type 0)
    (counts_now : (disk : D) (t : ℕ) (c : Files) → t ≤ moment disk → images disk c → since disk t c)
    (only_now : (disk : D) (c : Files) → since disk (moment disk) c → images disk c) where
  -- the disk was only read
  pub read_only : {old new : D} {P : Files → Type 0} → Each (images old) P → OnlyRead reads images moment since old new → LeavesOnly moment since old new P
  read_only {old} {new} {P} start read = while_read reads images moment since counts_now only_now P old new start read

  pub read_fresh : {old new : D} → OnlyRead reads images moment since old new → LeavesOnly moment since old new (From SameFresh (images old))
  read_fresh {old} read = read_only (λ c now. (c, now, refl)) read

  module _ {P : Files → Type 0} {Q : List ℕ → Files → Type 0} {is_new : List ℕ → Type 0} where
    -- the commit was done
    pub commits_done : {old new : D} (file : List ℕ) → is_new file → LeavesOnly moment since old new (λ c. P c ⊎ Q file c)
        → Each (images new) (λ c. Q file c × (c.journal ≡ None)) → bytes_of (reads new).main ≡ Some file → Commits reads images moment since Done is_new P Q old new
    commits_done file is run now main = record {
      file = file;
      is_new = is;
      any_moment = run;
      at_exit = λ c here. (now c here).0;
      is_main = λ done. main;
      no_journal = λ done c here. (now c here).1;
    }

    -- the disk failed in it
    pub commits_failed : {old new : D} (file : List ℕ) → is_new file → LeavesOnly moment since old new (λ c. P c ⊎ Q file c)
        → Commits reads images moment since DiskFault is_new P Q old new
    commits_failed file is run = record {
      file = file;
      is_new = is;
      any_moment = run;
      at_exit = at_exit counts_now run;
      is_main = λ done. absurd (failed_not_done done);
      no_journal = λ done. absurd (failed_not_done done);
    }

    -- a run before it, in which each image had the old one
    pub after_old : {old mid new : D} (status : Status) → LeavesOnly moment since old mid P → KeepsOrCommits reads images moment since status is_new P Q mid new
        → KeepsOrCommits reads images moment since status is_new P Q old new
    after_old {old} {mid} {new} status first next = ⊎_elim
        (λ (keeps : KeepsOld moment since status P mid new). inl (record { any_moment = and_then first keeps.any_moment; not_done = keeps.not_done }))
        (λ (commits : Commits reads images moment since status is_new P Q mid new). inr (record {
          file = commits.file;
          is_new = commits.is_new;
          any_moment = and_then (weaker (λ c holds. inl holds) first) commits.any_moment;
          at_exit = commits.at_exit;
          is_main = commits.is_main;
          no_journal = commits.no_journal;
        })) next

    -- its last line is printed, or the output fails
    pub printed : {old new : D} (status last : Status) → (last ≡ status) ⊎ ((last ≡ OutputFault) × IsAnswer status)
        → KeepsOrCommits reads images moment since status is_new P Q old new → KeepsOrCommits reads images moment since last is_new P Q old new
    printed {old} {new} status last is was = ⊎_elim
        (λ (same : last ≡ status). subst (λ (s : Status). KeepsOrCommits reads images moment since s is_new P Q old new) (sym same) was)
        (λ out. subst (λ (s : Status). KeepsOrCommits reads images moment since s is_new P Q old new) (sym out.0) (⊎_elim
        (λ (keeps : KeepsOld moment since status P old new). inl (record { any_moment = keeps.any_moment; not_done = output_not_done }))
        (λ (commits : Commits reads images moment since status is_new P Q old new). inr (record {
          file = commits.file;
          is_new = commits.is_new;
          any_moment = commits.any_moment;
          at_exit = output_exit status P (Q commits.file) (images new) out.1 commits.at_exit;
          is_main = λ done. absurd (output_not_done done);
          no_journal = λ done. absurd (output_not_done done);
        })) was)) is

    -- the same, as a run shows it
    pub as_run : {old new : D} (status : Status) → KeepsOrCommits reads images moment since status is_new P Q old new
        → StaysOrRenews status is_new P Q (disk_run reads images moment since old new)
    as_run {old} {new} status was = ⊎_elim
        (λ (keeps : KeepsOld moment since status P old new). inl (record { any_moment = keeps.any_moment.each; not_done = keeps.not_done }))
        (λ (commits : Commits reads images moment since status is_new P Q old new). inr (record {
          file = commits.file;
          is_new = commits.is_new;
          goes_over = record { any_moment = commits.any_moment.each; at_exit = commits.at_exit };
          is_main = commits.is_main;
          no_journal = commits.no_journal;
        })) was

  either_exit : (status : Status) (old new other here : Files → Type 0) → ((c : Files) → new c → other c) → AtExit status old new here → AtExit status old other here
  either_exit Done old new other here gives now = λ c is. gives c (now c is)
  either_exit Usage old new other here gives now = now
  either_exit (Refused refusal) old new other here gives now = now
  either_exit KeyRefused old new other here gives now = now
  either_exit DiskFault old new other here gives now = λ c is. ⊎_elim (λ was. inl was) (λ has. inr (gives c has)) (now c is)
  either_exit OutputFault old new other here gives now = ⊎_elim (λ was. inl was) (λ has. inr (λ c is. gives c (has c is))) now
  either_exit InputFault old new other here gives now = now
  either_exit EntropyFault old new other here gives now = now
  either_exit OutOfMemory old new other here gives now = now

  -- what is said of the new file may be said otherwise
  pub said_so : {P : Files → Type 0} {Q R : List ℕ → Files → Type 0} {is_new is_other : List ℕ → Type 0} {old new : D} (status : Status)
      → ((file : List ℕ) → is_new file → is_other file) → ((file : List ℕ) → is_new file → (c : Files) → Q file c → R file c)
      → KeepsOrCommits reads images moment since status is_new P Q old new → KeepsOrCommits reads images moment since status is_other P R old new
  said_so {P} {Q} {R} {is_new} {is_other} {old} {new} status other gives was = ⊎_elim (λ (keeps : KeepsOld moment since status P old new). inl keeps)
      (λ (commits : Commits reads images moment since status is_new P Q old new). inr (record {
        file = commits.file;
        is_new = other commits.file commits.is_new;
        any_moment = weaker (λ c had. ⊎_elim (λ was. inl was) (λ has. inr (gives commits.file commits.is_new c has)) had) commits.any_moment;
        at_exit = either_exit status P (Q commits.file) (R commits.file) (images new) (gives commits.file commits.is_new) commits.at_exit;
        is_main = commits.is_main;
        no_journal = commits.no_journal;
      })) was

  -- A transaction from a database that `base` names, after a run in which each image had the old one. `Has` is what the transaction says
  -- of the new Main.
  module _ (base : Base) {P : Files → Type 0} {Q : List ℕ → Files → Type 0} {is_new : List ℕ → Type 0} (Has : List ℕ → Type 0)
      (was_old : (c : Files) → HoldsOld base c → P c) (is_one : (main : List ℕ) → Has main → is_new main)
      (has_one : (main : List ℕ) → Has main → (c : Files) → HoldsPages base (stored_pages base.size base.pages main) c → Q main c)
      {old mid new : D} (before : LeavesOnly moment since old mid P) where
    joined : (main : List ℕ) → Has main → LeavesOnly moment since mid new (HoldsEither base (stored_pages base.size base.pages main))
        → LeavesOnly moment since old new (λ c. P c ⊎ Q main c)
    joined main has run =
        and_then (weaker (λ c was. inl was) before) (weaker (λ c either. ⊎_elim (λ was. inl (was_old c was)) (λ now. inr (has_one main has c now)) either) run)

    -- it was not committed
    pub uncommitted : (status : Status) → (status ≡ Done → ⊥) → LeavesOnly moment since mid new (HoldsOld base) → KeepsOld moment since status P old new
    uncommitted status never run = record { any_moment = and_then before (weaker was_old run); not_done = never }

    pub committed : (main : List ℕ) → Has main → Each (images new) (IsCommitted base main) → LeavesOnly moment since mid new (HoldsEither base (stored_pages base.size base.pages main))
        → bytes_of (reads new).main ≡ Some main → Commits reads images moment since Done is_new P Q old new
    committed main has now run is =
        commits_done main (is_one main has) (joined main has run) (λ c here. (has_one main has c (now c here).0, (now c here).1)) is

    -- the disk failed in it
    pub broken : LeavesChanged moment since base Has mid new → KeepsOrCommits reads images moment since DiskFault is_new P Q old new
    broken run = ⊎_elim
        (λ was. inl (uncommitted DiskFault failed_not_done was))
        (λ now. inr (commits_failed now.0 (is_one now.0 now.1) (joined now.0 now.1 now.2))) run
