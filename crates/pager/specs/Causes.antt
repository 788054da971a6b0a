-- Why a page is not given.
use Rattle.std.specs.Prelude.{ℕ, ◌≡◌, Bool, true, false, IsTrue, ⊤}
use Rattle.edge_model.specs.Causes.{Rose}
use Rattle.db_format.specs.Pages.{Pages as Plain}
use Rattle.page_cache.specs.Pages.{HeldPages, is_held}
use Rattle.pager.specs.Held.{IsAllPinned}
use Rattle.pager.specs.Pages.{is_page_number}
use Rattle.pager.specs.declared.fill.PageError.{PageError}
use Rattle.pager.specs.declared.fill.PageError.TheVariants.{OutOfRange, TagRefused, DiskFault, EntropyFault, AllPinned}

-- Page n, which is one of the file, is refused so with these pages held, while the count of the disk's faults went from one number to
-- the other. The first is the fact that the page is not accepted.
abbrev pub IsLoadCause : Type 0 → ℕ → HeldPages → ℕ → ℕ → PageError → Type 0
IsLoadCause unaccepted n cache before now OutOfRange = ⊥
IsLoadCause unaccepted n cache before now (TagRefused page) = (page ≡ n) × (is_held n cache.held ≡ false) × unaccepted
IsLoadCause unaccepted n cache before now DiskFault = (is_held n cache.held ≡ false) × Rose before now
IsLoadCause unaccepted n cache before now EntropyFault = ⊥
IsLoadCause unaccepted n cache before now AllPinned = (is_held n cache.held ≡ false) × IsAllPinned cache

-- Page n of these pages is refused so. What is said of its bytes holds where they are told.
abbrev pub IsRefusedPage : Bool → Plain → ℕ → HeldPages → ℕ → ℕ → PageError → Type 0
IsRefusedPage tells plain n cache before now OutOfRange = is_page_number plain.count n ≡ false
IsRefusedPage tells plain n cache before now (TagRefused page) =
    (is_page_number plain.count n ≡ true) × IsLoadCause (IsTrue tells → plain.accepts n ≡ false) n cache before now (TagRefused page)
IsRefusedPage tells plain n cache before now DiskFault =
    (is_page_number plain.count n ≡ true) × IsLoadCause (IsTrue tells → plain.accepts n ≡ false) n cache before now DiskFault
IsRefusedPage tells plain n cache before now EntropyFault = ⊥
IsRefusedPage tells plain n cache before now AllPinned =
    (is_page_number plain.count n ≡ true) × IsLoadCause (IsTrue tells → plain.accepts n ≡ false) n cache before now AllPinned

-- a pager of these pages may refuse page n so, whatever it holds
abbrev pub MayRefuse : Bool → Plain → ℕ → PageError → Type 0
MayRefuse tells plain n OutOfRange = is_page_number plain.count n ≡ false
MayRefuse tells plain n (TagRefused page) = (is_page_number plain.count n ≡ true) × (page ≡ n) × (IsTrue tells → plain.accepts n ≡ false)
MayRefuse tells plain n DiskFault = is_page_number plain.count n ≡ true
MayRefuse tells plain n EntropyFault = ⊥
MayRefuse tells plain n AllPinned = is_page_number plain.count n ≡ true

-- a page of the file may be refused so by a call that only reads
abbrev pub IsReadRefusal : PageError → Type 0
IsReadRefusal OutOfRange = ⊥
IsReadRefusal (TagRefused n) = ⊤
IsReadRefusal DiskFault = ⊤
IsReadRefusal EntropyFault = ⊥
IsReadRefusal AllPinned = ⊤

-- and so by one that changes it, which needs no frame without a pin
abbrev pub IsChangeRefusal : PageError → Type 0
IsChangeRefusal OutOfRange = ⊥
IsChangeRefusal (TagRefused n) = ⊤
IsChangeRefusal DiskFault = ⊤
IsChangeRefusal EntropyFault = ⊤
IsChangeRefusal AllPinned = ⊥

-- the refusal says that the disk failed
abbrev pub is_fault : PageError → Bool
is_fault OutOfRange = false
is_fault (TagRefused page) = false
is_fault DiskFault = true
is_fault EntropyFault = false
is_fault AllPinned = false
