-- Refusals of a log that was taken.
use Rattle.std.proofs.Common.{◌≡◌, Result, Ok, Err, IfErr, sym, ℕ, ◌∙◌, subst}
use Rattle.std.specs.Result.{IsErrAnd}
use Rattle.edge_model.specs.Files.{Files}
use Rattle.log_recovery.specs.Laying.{log_of, IsReadingOfLog, IsTaken}
use Rattle.log_recovery.specs.declared.laying.LogReading.{LogReading}
use Rattle.log_view.specs.Refused.{IsIndexRefused, IsTableRefused, IsViewRefused}
use Rattle.log_view.specs.declared.opening.ViewError.{ViewError}
use Rattle.log_view.specs.declared.opening.ViewError.TheVariants.{Log, TooLarge, TooLong, Short, LogCut, DiskFault, OutOfMemory}

pub table_view : (most : ℕ) (reading : LogReading) (files : Files) (why : ViewError) → IsTaken reading.page_size files → IsReadingOfLog reading (log_of files)
    → IsTableRefused reading most why → IsViewRefused reading.page_size most files why
table_view most reading files (Log why) taken read is = absurd is
table_view most reading files (TooLarge pages) taken read is = (taken, is.0 ∙ read.pages, is.1)
table_view most reading files (TooLong frames) taken read is = (taken, is.0 ∙ read.frames, is.1)
table_view most reading files (Short pages) taken read is = absurd is
table_view most reading files LogCut taken read is = absurd is
table_view most reading files DiskFault taken read is = tt
table_view most reading files OutOfMemory taken read is = tt

pub index_view : (size most : ℕ) (files : Files) (why : ViewError) → IsTaken size files → IsIndexRefused size files why → IsViewRefused size most files why
index_view size most files (Log why) taken is = absurd is
index_view size most files (TooLarge pages) taken is = absurd is
index_view size most files (TooLong frames) taken is = absurd is
index_view size most files (Short pages) taken is = (taken, is.0, is.1)
index_view size most files LogCut taken is = absurd is
index_view size most files DiskFault taken is = tt
index_view size most files OutOfMemory taken is = absurd is

pub err_as : {T E : Type 0} (P : E → Type 0) (r : Result T E) (x : E) → IsErrAnd r (λ e. e ≡ x) → P x → IfErr r P
err_as P (Ok done) x is p = tt
err_as P (Err e) x is p = subst P (sym is) p
