-- A new file and what it is written through, seen of other values.
use Rattle.std.proofs.Common.{◌≡◌, ◌≤◌, ◌+◌, ◌&&◌, ℕ, Bool, true, false, List, Option, Some, Result, Err, arith, refl, ap, sym, subst, ◌∙◌}
use Rattle.std.specs.Prelude.{IsTrue, nat_le, nat_lt}
use Rattle.std.specs.Borrow.{MutBor}
use Rattle.edge_model.specs.Files.{Files, bytes_of}
use Rattle.db_format.specs.Pages.{Pages}
use Rattle.btree_model.specs.Finding.{Finding}
use Rattle.bulk_load.specs.declared.error.LoadError.{LoadError}
use Rattle.bulk_load.specs.declared.error.LoadError.TheVariants.{RowidOrder, Out, OutOfMemory as NoRoomToLoad, TooDeep}
use Rattle.bulk_load.specs.declared.out.OutError.TheVariants.{TooManyPages as NoNumber, DiskFault as NotWritten, EntropyFault as NotDrawn}
use Rattle.bulk_load.specs.Out.{Faults, Follows, KeepsPages}
use Rattle.fresh_file.specs.declared.state.FreshState.{FreshState}
use Rattle.fresh_file.specs.State.{IsWellAs, fresh_pages}
use Rattle.migrate_job.specs.declared.error.MigrateError.{MigrateError}
use Rattle.migrate_job.specs.declared.error.MigrateError.TheVariants.{PageTag, Defect, TooManyPages, DiskFault, EntropyFault, OutOfMemory}
use Rattle.pager.specs.Reads.{DiskRead, Untouched}
use Rattle.migrate_job.specs.Stops.{is_early_stop}
use Rattle.migrate_job.specs.Copying.{FollowsBeside, IsOfWalk, IsTargetWell, Target, beside_main, migrate_load_error, target_faults, target_limit, target_pages}

-- what is said of two values holds of equal ones
pub moved : {A B : Type 0} (P : A → B → Type 0) (a b : A) (x y : B) → b ≡ a → y ≡ x → P a x → P b y
moved P a b x y same_first same_second holds = subst (λ v. P v y) (sym same_first) (subst (P a) (sym same_second) holds)

pub moved_one : {A : Type 0} (P : A → Type 0) (a b : A) → b ≡ a → P a → P b
moved_one P a b same holds = subst P (sym same) holds

-- the same run, where each of these values has such a new file, whether page 1 may be put besides or not
module _ {T : Type 0} (tells draws_tell : Bool) (fresh : T → Option (List ℕ)) (drawn : T → List ℕ) (disk_faults draw_faults : T → ℕ)
    {S : Type 0} (target : S → Target T) where
  pub keeps_along : {first : Bool} (old new : S)
      → KeepsPages (λ s. target_pages fresh (target s)) (λ s. target_limit (target s)) (λ s. target_faults disk_faults draw_faults (target s))
      (λ start s. IsTargetWell tells draws_tell fresh drawn start (target s)) first old new
      → KeepsPages (target_pages fresh) target_limit (target_faults disk_faults draw_faults) (IsTargetWell tells draws_tell fresh drawn) first (target old) (target new)
  keeps_along old new k = record {
    size = k.size;
    count = k.count;
    put = k.put;
    others = k.others;
    free = k.free;
    page = k.page;
    limit_is = k.limit_is;
    disk = k.disk;
    entropy = k.entropy;
  }

  pub follows_along : {first : Bool} (old new : S)
      → Follows (λ s. target_pages fresh (target s)) (λ s. target_limit (target s)) (λ s. target_faults disk_faults draw_faults (target s))
      (λ start s. IsTargetWell tells draws_tell fresh drawn start (target s)) first old new
      → Follows (target_pages fresh) target_limit (target_faults disk_faults draw_faults) (IsTargetWell tells draws_tell fresh drawn) first (target old) (target new)
  follows_along old new f = record { keeps = keeps_along old new f.keeps; puts = f.puts; puts_first = f.puts_first; told = f.told }

-- a tree whose root does not go to page 1
module _ {S : Type 0} {pages : S → Pages} {limit : S → ℕ} {faults : S → Faults} {well : ℕ → S → Type 0} {first : Bool} (old new : S) (other : first ≡ false) where
  pub keeps_without : KeepsPages pages limit faults well first old new → KeepsPages pages limit faults well false old new
  keeps_without k = subst (λ one. KeepsPages pages limit faults well one old new) other k

  pub follows_without : Follows pages limit faults well first old new → Follows pages limit faults well false old new
  follows_without f = subst (λ one. Follows pages limit faults well one old new) other f

-- ---- a run that only reads

module _ {tells : Bool} {D : Type 0} {reads : D → Files} {images : D → Files → Type 0} {moment : D → ℕ} {since : D → ℕ → Files → Type 0} {faults : D → ℕ} {d d' : MutBor D}
    (read : DiskRead tells reads images moment since faults d d') where
  pub fresh_read : IsTrue tells → bytes_of (reads d'.now).fresh ≡ bytes_of (reads d.now).fresh
  fresh_read told = ap (λ (files : Files). bytes_of files.fresh) (read.only_read told).stays

module _ {tells : Bool} {D : Type 0} {reads : D → Files} {images : D → Files → Type 0} {moment : D → ℕ} {since : D → ℕ → Files → Type 0} {disk_faults : D → ℕ} {d d' : MutBor D}
    {E : Type 0} {e e' : MutBor E} (draws_tell : Bool) (drawn : E → List ℕ) (read : DiskRead tells reads images moment since disk_faults d d') (still : Untouched e e') where
  pub well_read : (state : FreshState) (start : ℕ) → IsWellAs state start tells draws_tell (bytes_of (reads d.now).fresh) (drawn e.now)
      → IsWellAs state start tells draws_tell (bytes_of (reads d'.now).fresh) (drawn e'.now)
  well_read state start well =
      moved (λ file bytes. IsWellAs state start tells draws_tell file bytes) (bytes_of (reads d.now).fresh) (bytes_of (reads d'.now).fresh) (drawn e.now) (drawn e'.now)
      (fresh_read read well.told) (ap drawn still.value) well

  pub follows_read : (draw_faults : E → ℕ) (state : FreshState)
      → FollowsBeside tells draws_tell reads drawn disk_faults draw_faults (beside_main state d.now e.now) (beside_main state d'.now e'.now)
  follows_read draw_faults state = record {
    keeps = record {
      size = refl;
      count = omega arith;
      put = λ k h. h;
      others = λ k free h. refl;
      free = λ k h. let no : true ≡ false = sym h ∙ none_new (state.taken + 1) k in cc;
      page = λ start well k h. ap (λ file. (fresh_pages state file).page k) (fresh_read read well.told);
      limit_is = refl;
      disk = read.later;
      entropy = subst (λ n. draw_faults e.now ≤ n) (ap draw_faults (sym still.value)) (omega arith);
    };
    puts = λ k h. let no : true ≡ false = sym h ∙ none_new (state.taken + 1) k in cc;
    puts_first = λ h. cc;
    told = λ start well. well_read state start well;
  }
    where
      none_new : (a k : ℕ) → (nat_lt a k && nat_le k a) ≡ false
      none_new a k = grind arith

-- ---- which load stopped the command

-- what is found while the new file is written is none of the old pages
pub late_of_walk : (all : List Finding) (error : MigrateError) → is_early_stop error ≡ false → IsOfWalk all error
late_of_walk all (PageTag n) late = cc
late_of_walk all (Defect defect) late = cc
late_of_walk all (TooManyPages limit) late = tt
late_of_walk all DiskFault late = tt
late_of_walk all EntropyFault late = tt
late_of_walk all OutOfMemory late = tt

module _ {A : Type 0} (error : MigrateError) (why : LoadError) (is : migrate_load_error why ≡ Some error) where
  pub limit_of : (limit : ℕ) → ◌≡◌ {A = Result A MigrateError} (Err error) (Err (TooManyPages limit)) → why ≡ Out (NoNumber limit)
  limit_of limit h = by_case why is h
    where
      by_case : (e : LoadError) → migrate_load_error e ≡ Some error → ◌≡◌ {A = Result A MigrateError} (Err error) (Err (TooManyPages limit)) → e ≡ Out (NoNumber limit)
      by_case RowidOrder so h = cc
      by_case (Out (NoNumber most)) so h = cc
      by_case (Out NotWritten) so h = cc
      by_case (Out NotDrawn) so h = cc
      by_case NoRoomToLoad so h = cc
      by_case TooDeep so h = cc

  pub disk_of : ◌≡◌ {A = Result A MigrateError} (Err error) (Err DiskFault) → why ≡ Out NotWritten
  disk_of h = by_case why is h
    where
      by_case : (e : LoadError) → migrate_load_error e ≡ Some error → ◌≡◌ {A = Result A MigrateError} (Err error) (Err DiskFault) → e ≡ Out NotWritten
      by_case RowidOrder so h = cc
      by_case (Out (NoNumber most)) so h = cc
      by_case (Out NotWritten) so h = refl
      by_case (Out NotDrawn) so h = cc
      by_case NoRoomToLoad so h = cc
      by_case TooDeep so h = cc

  pub entropy_of : ◌≡◌ {A = Result A MigrateError} (Err error) (Err EntropyFault) → why ≡ Out NotDrawn
  entropy_of h = by_case why is h
    where
      by_case : (e : LoadError) → migrate_load_error e ≡ Some error → ◌≡◌ {A = Result A MigrateError} (Err error) (Err EntropyFault) → e ≡ Out NotDrawn
      by_case RowidOrder so h = cc
      by_case (Out (NoNumber most)) so h = cc
      by_case (Out NotWritten) so h = cc
      by_case (Out NotDrawn) so h = refl
      by_case NoRoomToLoad so h = cc
      by_case TooDeep so h = cc
