-- Why no database is made.
use Rattle.std.specs.Prelude.{Bool, true, false, is_some, Option, Some, None, if◌then◌else◌}
use Rattle.bulk_load.specs.declared.error.LoadError.{LoadError}
use Rattle.bulk_load.specs.declared.error.LoadError.TheVariants.{RowidOrder, Out, OutOfMemory as LoadMemory, TooDeep}
use Rattle.bulk_load.specs.declared.out.OutError.TheVariants.{TooManyPages as OutPages, DiskFault as OutDisk, EntropyFault as OutEntropy}
use Rattle.edge_model.specs.Files.{Files}
use Rattle.make_job.specs.declared.error.MakeError.{MakeError}
use Rattle.make_job.specs.declared.error.MakeError.TheVariants.{FileThere, JournalThere, TooManyPages, DiskFault, EntropyFault, OutOfMemory}

-- the file that stands in the way, if there is one: Main before Journal
abbrev pub in_the_way : Files → Option MakeError
in_the_way files = if is_some files.main then Some FileThere else (if is_some files.journal then Some JournalThere else None)

-- it names a file that stands in the way
abbrev pub is_make_refusal : MakeError → Bool
is_make_refusal FileThere = true
is_make_refusal JournalThere = true
is_make_refusal (TooManyPages limit) = false
is_make_refusal DiskFault = false
is_make_refusal EntropyFault = false
is_make_refusal OutOfMemory = false

-- How a load that failed stops the command. Rows are pushed in their order, and a tree that is too deep has more pages than a file may
-- have: so neither of these stops it.
abbrev pub make_load_error : LoadError → Option MakeError
make_load_error RowidOrder = None
make_load_error (Out (OutPages limit)) = Some (TooManyPages limit)
make_load_error (Out OutDisk) = Some DiskFault
make_load_error (Out OutEntropy) = Some EntropyFault
make_load_error LoadMemory = Some OutOfMemory
make_load_error TooDeep = None
