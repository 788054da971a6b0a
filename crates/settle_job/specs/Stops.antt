-- Why a new trunk is not written.
use Rattle.std.specs.Prelude.{Bool, true, false, ⊤}
use Rattle.pager.specs.UnderWay.{is_failure}
use Rattle.settle_job.specs.declared.trunks.TrunkError.{TrunkError}
use Rattle.settle_job.specs.declared.trunks.TrunkError.TheVariants.{Page, OutOfMemory}
use Rattle.pager.specs.Causes.{IsChangeRefusal}

-- its page is one of the file, and no frame is pinned
abbrev pub IsTrunkRefusal : TrunkError → Type 0
IsTrunkRefusal (Page error) = IsChangeRefusal error
IsTrunkRefusal OutOfMemory = ⊤

-- a call failed, or there was no memory: no page is refused for what it holds
abbrev pub is_failed : TrunkError → Bool
is_failed (Page error) = is_failure error
is_failed OutOfMemory = true

-- a call failed: what the transaction was before it, it need not be
abbrev pub is_broken : TrunkError → Bool
is_broken (Page error) = is_failure error
is_broken OutOfMemory = false
