-- A file that stands beside Main, and takes its place.
use Rattle.std.proofs.Common.{◌≡◌, ◌≤◌, ℕ, List, [], Option, Some, None, ap, refl, sym, subst, ◌∙◌}
use Rattle.std.specs.Prelude.{unwrap_or}
use Rattle.edge_model.specs.Files.{File, Files, bytes_of, renamed, main_of}
use Rattle.edge_model.specs.Images.{Each, LeavesOnly}
use Rattle.fresh_disk.specs.OnlyFresh.{IsFreshSynced}
use Rattle.fresh_disk.specs.Published.{IsOldOrPublished, IsPublished}
use Rattle.fresh_disk.specs.Place.{TakesPlace, LeavesOld, MayTakePlace}
use Rattle.fresh_disk.specs.Beside.{IsNewBeside, IsNewWritten}
use Rattle.fresh_disk.proofs.RunLaws.{moments_then, then_published}

-- ---- beside Main

-- the file of these bytes in the role
file_of : (file : Option File) (bytes : List ℕ) → bytes_of file ≡ Some bytes → (there : File) × (file ≡ Some there) × (there.bytes ≡ bytes)
file_of None bytes is = cc
file_of (Some there) bytes is = (there, refl, cc)

-- the disk is that of a pair which is let go
pub beside : {D : Type 0} (reads : D → Files) (images : D → Files → Type 0) (is_new : List ℕ → Type 0) (disk after : D) → after ≡ disk
    → IsNewWritten is_new (bytes_of (reads disk).fresh) → IsFreshSynced (images disk) (reads disk) → IsNewBeside reads images is_new after
beside reads images is_new disk after same written synced =
    let there = file_of (reads disk).fresh written.file written.is in
    subst (λ d. IsNewBeside reads images is_new d) (sym same)
    (record { file = there.0; is = there.1; made = subst is_new (sym there.2) written.made; synced = synced })

-- and what holds of the file that is there
pub drawn_beside : {D : Type 0} (reads : D → Files) (images : D → Files → Type 0) (is_new own : List ℕ → Type 0) (disk : D) → IsNewBeside reads images is_new disk
    → ((file : File) → (reads disk).fresh ≡ Some file → own file.bytes) → IsNewBeside reads images (λ file. is_new file × own file) disk
drawn_beside reads images is_new own disk there draws =
    record { file = there.file; is = there.is; made = (there.made, draws there.file there.is); synced = there.synced }

-- ---- in its place

-- from old to mid Fresh alone changed, and then it was published
module _ {D : Type 0} (reads : D → Files) (images : D → Files → Type 0) (moment : D → ℕ) (since : D → ℕ → Files → Type 0)
    (only_now : (disk : D) (c : Files) → since disk (moment disk) c → images disk c)
    (counts_now : (disk : D) (t : ℕ) (c : Files) → t ≤ moment disk → images disk c → since disk t c)
    (is_new : List ℕ → Type 0) (old mid new : D) (written : IsNewBeside reads images is_new mid) (first : LeavesOld reads images moment since old mid) where
  moments : LeavesOnly moment since mid new (IsOldOrPublished (images mid) (reads mid).fresh) → LeavesOnly moment since old new (IsOldOrPublished (images old) (Some written.file))
  moments next =
      moments_then reads images moment since only_now counts_now old mid new first (Some written.file)
      (subst (λ (file : Option File). LeavesOnly moment since mid new (IsOldOrPublished (images mid) file)) written.is next)

  pub may_take : LeavesOnly moment since mid new (IsOldOrPublished (images mid) (reads mid).fresh) → MayTakePlace images moment since is_new old new
  may_take next = record { file = written.file; is = written.made; any_moment = moments next }

  pub takes_place : (reads old).journal ≡ None → reads new ≡ renamed (reads mid) → Each (images new) (IsPublished (images mid) (reads mid).fresh)
      → LeavesOnly moment since mid new (IsOldOrPublished (images mid) (reads mid).fresh) → TakesPlace reads images moment since is_new old new
  unfolding may_take
  takes_place free renames each next = record {
    may = may_take next;
    reads_so =
        renames
        ∙ ap (λ (file : Option File). record { main = file; journal = (reads mid).journal; fresh = None }) written.is
        ∙ ap (λ (file : Option File). record { main = Some written.file; journal = file; fresh = None })
        (first.stays.journal ∙ free);
    at_exit = λ c now.
        then_published reads images moment since only_now counts_now old mid new first (Some written.file) c
        (subst (λ (file : Option File). IsPublished (images mid) file c) written.is (each c now));
  }

  pub main_is : reads new ≡ renamed (reads mid) → main_of (reads new) ≡ written.file.bytes
  main_is renames = ap main_of renames ∙ ap (λ (file : Option File). unwrap_or (bytes_of file) []) written.is
