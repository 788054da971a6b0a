-- How a walk of a pager stops: it asks for pages of the file alone, and draws nothing.
use Rattle.std.proofs.Common.{◌≡◌, ◌∙◌, ℕ, Bool, true, false, sym, subst}
use Rattle.btree_walk.specs.Causes.{IsGivenBy, IsWalkStop}
use Rattle.btree_walk.specs.declared.error.WalkError.{WalkError}
use Rattle.btree_walk.specs.declared.error.WalkError.TheVariants.{Defect, Source, OutOfMemory}
use Rattle.db_format.specs.Pages.{Pages}
use Rattle.pager.specs.Causes.{IsReadRefusal, MayRefuse}
use Rattle.pager.specs.Pages.{is_page_number}
use Rattle.pager.proofs.Refusals.{read_refusal}
use Rattle.pager.specs.declared.fill.PageError.{PageError}
use Rattle.pager.specs.declared.fill.PageError.TheVariants.{OutOfRange, TagRefused, DiskFault, EntropyFault, AllPinned}

-- a walk stopped, whose pages keep their count while they are read
pub given_stop : {T : Type 0} (tells : Bool) (read : T → T → Type 0) (plain : T → Pages) (before : T) (error : WalkError PageError)
    → ((s t : T) → read s t → (plain t).count ≡ (plain s).count) → IsGivenBy read plain (MayRefuse tells) before error → IsWalkStop IsReadRefusal error
given_stop tells read plain before (Defect d) same given = tt
given_stop tells read plain before (Source error) same given =
    read_refusal tells (plain given.state) given.page error
    (subst (λ (count : ℕ). is_page_number count given.page ≡ true) (sym (same before given.state given.since)) given.range) given.refused
given_stop tells read plain before OutOfMemory same given = tt
