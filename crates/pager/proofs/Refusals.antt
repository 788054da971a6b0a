-- Which refusals a call has, by what it asks for.
use Rattle.std.proofs.Common.{◌≡◌, ◌∙◌, ℕ, Bool, true, false, sym}
use Rattle.db_format.specs.Pages.{Pages}
use Rattle.pager.specs.Causes.{IsChangeRefusal, IsReadRefusal, MayRefuse}
use Rattle.pager.specs.Pages.{is_page_number}
use Rattle.pager.specs.UnderWay.{IsRefusedAs}
use Rattle.pager.specs.declared.fill.PageError.{PageError}
use Rattle.pager.specs.declared.fill.PageError.TheVariants.{OutOfRange, TagRefused, DiskFault, EntropyFault, AllPinned}

-- a call that reads a page of the file
pub read_refusal : (tells : Bool) (pages : Pages) (n : ℕ) (error : PageError) → is_page_number pages.count n ≡ true → MayRefuse tells pages n error → IsReadRefusal error
read_refusal tells pages n OutOfRange number refused = let no : true ≡ false = sym number ∙ refused in cc
read_refusal tells pages n (TagRefused page) number refused = tt
read_refusal tells pages n DiskFault number refused = tt
read_refusal tells pages n EntropyFault number refused = refused
read_refusal tells pages n AllPinned number refused = tt

-- a call that changes a page of the file
pub change_refusal : (tells : Bool) (seen : Pages) (n a b c d : ℕ) (error : PageError) → is_page_number seen.count n ≡ true → IsRefusedAs tells seen n a b c d error → IsChangeRefusal error
change_refusal tells seen n a b c d OutOfRange number refused = let no : true ≡ false = sym number ∙ refused in cc
change_refusal tells seen n a b c d (TagRefused page) number refused = tt
change_refusal tells seen n a b c d DiskFault number refused = tt
change_refusal tells seen n a b c d EntropyFault number refused = tt
change_refusal tells seen n a b c d AllPinned number refused = refused
