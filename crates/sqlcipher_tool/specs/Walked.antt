-- How a walk stops a command.
use Rattle.std.specs.Prelude.{Result, Ok, Err}
use Rattle.btree_walk.specs.declared.error.WalkError.{WalkError}
use Rattle.btree_walk.specs.declared.error.WalkError.TheVariants.{Defect, Source, OutOfMemory}
use Rattle.pager.specs.declared.fill.PageError.{PageError}
use Rattle.pager.specs.declared.fill.PageError.TheVariants.{OutOfRange, TagRefused, DiskFault, EntropyFault, AllPinned}
use Rattle.sqlcipher_tool.specs.declared.opening.Stop.{Stop}
use Rattle.sqlcipher_tool.specs.declared.opening.Stop.TheVariants.{Refused as StopRefused, DiskFault as StopDisk, OutOfMemory as StopMemory}
use Rattle.sqlcipher_tool.specs.declared.status.Refusal.{Refusal}
use Rattle.sqlcipher_tool.specs.declared.status.Refusal.TheVariants.{PageTag, Defect as RefusedDefect}

-- the defect or the refused page that a walk came upon, or what else stopped it
abbrev pub walk_refusal : WalkError PageError → Result Refusal Stop
walk_refusal (Defect defect) = Ok (RefusedDefect defect)
walk_refusal (Source OutOfRange) = Err StopMemory
walk_refusal (Source (TagRefused page)) = Ok (PageTag page)
walk_refusal (Source DiskFault) = Err StopDisk
walk_refusal (Source EntropyFault) = Err StopMemory
walk_refusal (Source AllPinned) = Err StopMemory
walk_refusal OutOfMemory = Err StopMemory

abbrev pub stop_by : Result Refusal Stop → Stop
stop_by (Ok refusal) = StopRefused refusal
stop_by (Err stop) = stop

-- how a walk stops a command
abbrev pub walk_stop : WalkError PageError → Stop
walk_stop error = stop_by (walk_refusal error)
