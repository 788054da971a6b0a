-- What stands in the way of opening a file, in the order in which it is looked at.
use Rattle.std.specs.Prelude.{ℕ, ◌*◌, ◌<◌, List, [], ◌∷◌, length, map, nat_lt, Option, Some, None, unwrap_or, Result, Ok, Err}
use Rattle.edge_model.specs.Files.{Files, main_of}
use Rattle.edge_model.specs.Images.{Each}
use Rattle.cipher_profile.specs.declared.keys.Secret.{Secret}
use Rattle.cipher_profile.specs.declared.profile.Profile.{Profile}
use Rattle.db_format.specs.Count.{largest_database}
use Rattle.db_format.specs.Rules.{Rule}
use Rattle.page_codec.specs.Page.{FileKeys, keys_of}
use Rattle.pager.specs.Database.{count_of}
use Rattle.pager.specs.File.{whole_pages}
use Rattle.pager.specs.Opening.{HasNoJournal, Opened, file_opened, key_rules, length_rules}
use Rattle.pager.specs.declared.opening.OpenError.{OpenError}
use Rattle.pager.specs.declared.opening.OpenError.TheVariants.{Empty as IsEmpty, Short as IsShort, KeyRefused as NoKey, HeaderFault as AtFault, WalMode as IsWal, AutoVacuum as IsVacuum, Ragged as IsRagged, TooLarge as IsLarge, DiskFault as DiskFails, OutOfMemory as MemoryEnds}
use Rattle.sqlcipher_tool.specs.Answer.{Answer, Cause, refused, key_refused}
use Rattle.sqlcipher_tool.specs.declared.status.Refusal.TheVariants.{Empty, Short, HeaderFault, WalMode, AutoVacuum, Ragged, TooLarge}
use Rattle.sqlcipher_tool.specs.declared.status.Status.TheVariants.{DiskFault, OutOfMemory}

-- the answer to a file that does not open; the last two are never due to a file
abbrev pub open_answer : OpenError → Answer
open_answer IsEmpty = refused Empty
open_answer (IsShort len) = refused (Short len)
open_answer NoKey = key_refused
open_answer (AtFault offset found) = refused (HeaderFault offset found)
open_answer IsWal = refused WalMode
open_answer IsVacuum = refused AutoVacuum
open_answer (IsRagged len) = refused (Ragged len)
open_answer (IsLarge pages) = refused (TooLarge pages)
open_answer DiskFails = record { status = DiskFault; text = []; begun = [] }
open_answer MemoryEnds = record { status = OutOfMemory; text = []; begun = [] }

-- what opening Main with this secret comes to
abbrev pub opened_with : Profile → Secret → List ℕ → Result Opened OpenError
opened_with profile secret file = file_opened (keys_of profile secret file) file

-- how many pages the file has, 0 where it has no count
abbrev pub page_count_of : FileKeys → List ℕ → ℕ
page_count_of keys file = unwrap_or (count_of keys file) 0

-- the answer where it does not open, none where it does
abbrev pub unopened_answer : Result Opened OpenError → Option Answer
unopened_answer (Ok opened) = None
unopened_answer (Err error) = Some (open_answer error)

-- no image has a journal beside a Main with a byte
abbrev pub AreRecovered : Files → (Files → Type 0) → Type 0
AreRecovered files images = 0 < length (main_of files) → Each images HasNoJournal

-- a broken rule as a cause
abbrev pub causes_of : List (Rule OpenError) → List Cause
causes_of rules = map (λ rule. record { holds = rule.0; answer = open_answer rule.1 }) rules

-- a file that is absent or empty, or shorter than a page
abbrev pub length_causes : Profile → List ℕ → List Cause
length_causes profile file = causes_of (length_rules profile.page_size file)

-- more whole pages than are served
abbrev pub size_causes : Profile → List ℕ → List Cause
size_causes profile file =
    record { holds = nat_lt largest_database (whole_pages profile file * profile.page_size); answer = refused (TooLarge (whole_pages profile file)) }
    ∷ []

-- a key that does not fit
abbrev pub key_causes : Profile → Secret → List ℕ → List Cause
key_causes profile secret file = causes_of (key_rules (keys_of profile secret file) file)
