-- Why a plan is not written.
use Rattle.std.specs.Prelude.{Bool, true, false}
use Rattle.page_plan.specs.declared.error.WriteError.{WriteError}
use Rattle.page_plan.specs.declared.error.WriteError.TheVariants.{LayoutDiffers, OutOfMemory, TagRefused, DiskFault, EntropyFault}
use Rattle.pager.specs.declared.fill.PageError.{PageError}
use Rattle.pager.specs.declared.fill.PageError.TheVariants.{OutOfRange, TagRefused as PageRefused, DiskFault as PageFault, EntropyFault as DrawFault, AllPinned}

-- the transaction was begun
abbrev pub is_begun : WriteError → Bool
is_begun LayoutDiffers = false
is_begun OutOfMemory = false
is_begun (TagRefused page) = true
is_begun DiskFault = true
is_begun EntropyFault = true

-- a call of the disk or of the entropy failed
abbrev pub is_fault : WriteError → Bool
is_fault LayoutDiffers = false
is_fault OutOfMemory = false
is_fault (TagRefused page) = false
is_fault DiskFault = true
is_fault EntropyFault = true

-- how a page that is refused stops a plan, which asks for pages of the file alone, and pins none
abbrev pub page_stop : PageError → WriteError
page_stop OutOfRange = OutOfMemory
page_stop (PageRefused n) = TagRefused n
page_stop PageFault = DiskFault
page_stop DrawFault = EntropyFault
page_stop AllPinned = OutOfMemory
