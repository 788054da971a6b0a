-- Why a file is not rekeyed.
use Rattle.std.specs.Prelude.{◌≡◌, ◌⊎◌, ◌≤◌, ◌<◌, ℕ, Bool, true, false, ⊤}
use Rattle.std.specs.List.{Contains}
use Rattle.btree_model.specs.Parts.{first_faults, first_refusals, is_database, parts}
use Rattle.btree_model.specs.Plain.{is_leaf}
use Rattle.btree_walk.specs.declared.error.WalkError.{WalkError}
use Rattle.btree_walk.specs.declared.error.WalkError.TheVariants.{Defect as WalkDefect, Source, OutOfMemory as WalkMemory}
use Rattle.db_format.specs.Pages.{Pages, Test, is_page}
use Rattle.page_plan.specs.declared.error.WriteError.{WriteError}
use Rattle.page_plan.specs.declared.error.WriteError.TheVariants.{LayoutDiffers as WriteLayout, OutOfMemory as WriteMemory, TagRefused as WriteTag, DiskFault as WriteDisk, EntropyFault as WriteEntropy}
use Rattle.pager.specs.declared.fill.PageError.{PageError}
use Rattle.pager.specs.declared.fill.PageError.TheVariants.{OutOfRange, TagRefused, DiskFault as PageFault, EntropyFault as DrawFault, AllPinned}
use Rattle.rekey_job.specs.declared.error.RekeyError.{RekeyError}
use Rattle.rekey_job.specs.declared.error.RekeyError.TheVariants.{LayoutDiffers, PageTag, Defect, DiskFault, EntropyFault, OutOfMemory}

-- no part has a defect, and each page in use is accepted
pub record AreClean (pages : Pages) : Type 0 where
  pub sound : is_database pages ≡ true
  pub accepted : (n : ℕ) → is_page pages n ≡ true → is_leaf pages n ≡ false → pages.accepts n ≡ true

-- page n is the first of these that is not accepted, but for those of a test
pub record IsFirstRefused (pages : Pages) (passed : Test) (n : ℕ) : Type 0 where
  pub range : is_page pages n ≡ true
  pub used : passed n ≡ false
  pub refused : pages.accepts n ≡ false
  pub first : (m : ℕ) → 1 ≤ m → m < n → passed m ≡ false → pages.accepts m ≡ true

-- These pages show this error: a defect or a refused page of the earliest part that has one, and where none has, the first refused page
-- in use. What else stops a rekey they do not show.
abbrev pub IsRekeyShown : Pages → RekeyError → Type 0
IsRekeyShown pages LayoutDiffers = ⊤
IsRekeyShown pages (PageTag n) = Contains (first_refusals (parts pages)) n ⊎ ((is_database pages ≡ true) × IsFirstRefused pages (is_leaf pages) n)
IsRekeyShown pages (Defect d) = Contains (first_faults (parts pages)) d
IsRekeyShown pages DiskFault = ⊤
IsRekeyShown pages EntropyFault = ⊤
IsRekeyShown pages OutOfMemory = ⊤

-- nothing was written
abbrev pub is_unwritten : RekeyError → Bool
is_unwritten LayoutDiffers = true
is_unwritten (PageTag n) = true
is_unwritten (Defect d) = true
is_unwritten DiskFault = false
is_unwritten EntropyFault = false
is_unwritten OutOfMemory = true

-- it may stop a rekey of a file that was checked
abbrev pub IsLateRekey : RekeyError → Type 0
IsLateRekey LayoutDiffers = ⊥
IsLateRekey (PageTag n) = ⊥
IsLateRekey (Defect d) = ⊥
IsLateRekey DiskFault = ⊤
IsLateRekey EntropyFault = ⊤
IsLateRekey OutOfMemory = ⊤

-- how a plan that is not written stops a rekey
abbrev pub rekey_write_error : WriteError → RekeyError
rekey_write_error WriteLayout = LayoutDiffers
rekey_write_error WriteMemory = OutOfMemory
rekey_write_error (WriteTag n) = PageTag n
rekey_write_error WriteDisk = DiskFault
rekey_write_error WriteEntropy = EntropyFault

-- how a page that is refused stops a rekey; it asks for pages of the file alone, and pins few
abbrev pub rekey_page_error : PageError → RekeyError
rekey_page_error OutOfRange = OutOfMemory
rekey_page_error (TagRefused n) = PageTag n
rekey_page_error PageFault = DiskFault
rekey_page_error DrawFault = EntropyFault
rekey_page_error AllPinned = OutOfMemory

-- how a walk does
abbrev pub rekey_walk_error : WalkError PageError → RekeyError
rekey_walk_error (WalkDefect d) = Defect d
rekey_walk_error (Source refusal) = rekey_page_error refusal
rekey_walk_error WalkMemory = OutOfMemory
