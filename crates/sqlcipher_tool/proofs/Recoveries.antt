-- A command that reads the recovered file.
use Rattle.std.proofs.Common.{◌≡◌, ◌≤◌, ◌<◌, ◌*◌, ◌==◌, not, ℕ, Bool, true, false, List, [], ◌∷◌, length, Option, Some, None, Result, Ok, Err, IsTrue, refl, sym, ap, ◌∙◌, subst, arith}
use Rattle.std.specs.Prelude.{nat_lt, unwrap_or}
use Rattle.db_format.specs.Count.{largest_database}
use Rattle.page_codec.specs.Page.{fits, keys_of}
use Rattle.edge_model.specs.Files.{Files, bytes_of, main_of}
use Rattle.edge_model.specs.Images.{From, LeavesOnly}
use Rattle.edge_model.specs.Moments.{goes_less}
use Rattle.edge_model.specs.OnlyRead.{OnlyRead}
use Rattle.cipher_profile.specs.declared.keys.Secret.{Secret}
use Rattle.cipher_profile.specs.declared.profile.Profile.{Profile}
use Rattle.pager.specs.Opening.{Opened}
use Rattle.pager.specs.declared.opening.OpenError.{OpenError}
use Rattle.pager.specs.declared.opening.OpenError.TheVariants.{Empty, Short, KeyRefused as NoKey, HeaderFault, WalMode, AutoVacuum, Ragged, TooLarge, DiskFault as DiskFails, OutOfMemory as MemoryEnds}
use Rattle.rollback_journal.specs.Recovery.{HasByte, IsPlaybackDone, answer_of, answer_to, changes_nothing, recovered}
use Rattle.pager.specs.File.{first_page, whole_pages}
use Rattle.sqlcipher_tool.specs.Answer.{Answer, Cause, IsFault, first_answer}
use Rattle.sqlcipher_tool.specs.declared.status.Status.{Status}
use Rattle.sqlcipher_tool.specs.declared.status.Status.TheVariants.{Done, Usage, Refused, KeyRefused, DiskFault, OutputFault, InputFault, EntropyFault, OutOfMemory}
use Rattle.sqlcipher_tool.specs.Header.{header_answer, opened_answer}
use Rattle.sqlcipher_tool.specs.Opening.{open_answer, opened_with}
use Rattle.sqlcipher_tool.specs.Tags.{file_answer, pages_answer, refused_pages, tags_answer}
use Rattle.sqlcipher_tool.specs.Promises.{IsUnrecovered}
use Rattle.sqlcipher_tool.specs.Recovered.{recovered_main}

-- a recovery, and then a run that only reads
pub read_after : {D : Type 0} {reads : D → Files} {images : D → Files → Type 0} {moment : D → ℕ} {since : D → ℕ → Files → Type 0}
    (counts_now : (disk : D) (t : ℕ) (c : Files) → t ≤ moment disk → images disk c → since disk t c)
    {old mid new : D} {R : Files → Files → Type 0} → LeavesOnly moment since old mid (From R (images old))
    → OnlyRead reads images moment since mid new → LeavesOnly moment since old new (From R (images old))
read_after counts_now run read = goes_less counts_now run read.time (λ c now. read.same_images.no_more c now)

-- ---- a refusal of the recovery comes of no file

abbrev pub IsOfFile : Answer → Type 0
IsOfFile answer = IsUnrecovered answer.status → ⊥

opened_of_file : (opened : Result Opened OpenError) → IsOfFile (opened_answer opened)
opened_of_file (Ok opened) is = is
opened_of_file (Err Empty) is = is
opened_of_file (Err (Short len)) is = is
opened_of_file (Err NoKey) is = is
opened_of_file (Err (HeaderFault offset found)) is = is
opened_of_file (Err WalMode) is = is
opened_of_file (Err AutoVacuum) is = is
opened_of_file (Err (Ragged len)) is = is
opened_of_file (Err (TooLarge pages)) is = is
opened_of_file (Err DiskFails) is = is
opened_of_file (Err MemoryEnds) is = is

pub header_of_file : (profile : Profile) (secret : Secret) (file : List ℕ) → IsOfFile (header_answer profile secret file)
header_of_file profile secret file = opened_of_file (opened_with profile secret file)

pub fault_of_file : (status : Status) → IsFault status → IsUnrecovered status → ⊥
fault_of_file Done fault is = fault
fault_of_file Usage fault is = fault
fault_of_file (Refused refusal) fault is = fault
fault_of_file KeyRefused fault is = fault
fault_of_file DiskFault fault is = is
fault_of_file OutputFault fault is = is
fault_of_file InputFault fault is = is
fault_of_file EntropyFault fault is = is
fault_of_file OutOfMemory fault is = is

pages_of_file : (count : ℕ) (refused : List ℕ) → IsOfFile (pages_answer count refused)
pages_of_file count [] is = is
pages_of_file count (page ∷ rest) is = is

-- a cause of an error of opening
abbrev cause_of : Bool → OpenError → Cause
cause_of holds error = record { holds = holds; answer = open_answer error }

first_of_file : (a b d e : Bool) (len pages : ℕ) (answer : Answer) → IsOfFile answer
    → IsOfFile (unwrap_or (first_answer (cause_of a Empty ∷ cause_of b (Short len) ∷ cause_of d (TooLarge pages) ∷ cause_of e NoKey ∷ [])) answer)
first_of_file true b d e len pages answer other is = is
first_of_file false true d e len pages answer other is = is
first_of_file false false true e len pages answer other is = is
first_of_file false false false true len pages answer other is = is
first_of_file false false false false len pages answer other is = other is

pub tags_of_file : (profile : Profile) (secret : Secret) (file : List ℕ) → IsOfFile (tags_answer profile secret file)
tags_of_file profile secret file =
    let keys = keys_of profile secret file in
    let pages = whole_pages profile file in
    first_of_file (length file == 0) (nat_lt (length file) profile.page_size) (nat_lt largest_database (pages * profile.page_size))
    (not (fits keys (first_page profile file))) (length file) pages (file_answer keys file) (pages_of_file pages (refused_pages keys file pages))

-- ---- what a recovery leaves beside Main

byte_before : (size : ℕ) (main : List ℕ) (journal : Option (List ℕ)) → 0 < length (recovered size main journal) → 0 < length main
byte_before size [] None byte = byte
byte_before size [] (Some journal) byte = byte
byte_before size (x ∷ xs) journal byte = omega arith

-- Main had a byte, where the recovered file has one
pub had_byte : (profile : Profile) (files : Files) (main : List ℕ) → main ≡ recovered_main profile files → 0 < length main → 0 < length (main_of files)
had_byte profile files main is byte =
    byte_before profile.page_size (main_of files) (bytes_of files.journal) (subst (λ (l : List ℕ). 0 < length l) is byte)

-- and then no journal is left
pub journal_gone : (size : ℕ) (main journal : Option (List ℕ)) (image : Files) → IsPlaybackDone size main journal image → image.journal ≡ None
journal_gone size None journal image done = absurd done
journal_gone size (Some main) journal image done = done.1

-- a file without a byte is recovered to itself
none_recovered : (size : ℕ) (journal : Option (List ℕ)) → recovered size [] journal ≡ []
none_recovered size None = refl
none_recovered size (Some journal) = refl

-- what is read after a recovery that came to its end
pub main_after : (size : ℕ) (was now : Files) → (HasByte (bytes_of was.main) → IsPlaybackDone size (bytes_of was.main) (bytes_of was.journal) now)
    → (IsTrue (changes_nothing (answer_to size was)) → now ≡ was) → main_of now ≡ recovered size (main_of was) (bytes_of was.journal)
main_after size was now done idle = by_main (bytes_of was.main) (bytes_of was.journal) refl done idle
  where
    empty : (o journal : Option (List ℕ)) → bytes_of was.main ≡ o → unwrap_or o [] ≡ [] → now ≡ was → unwrap_or (bytes_of now.main) [] ≡ recovered size [] journal
    empty o journal is none same =
        ap (λ (files : Files). unwrap_or (bytes_of files.main) []) same ∙ (ap (λ (b : Option (List ℕ)). unwrap_or b []) is ∙ (none ∙ sym (none_recovered size journal)))

    by_main : (o journal : Option (List ℕ)) → bytes_of was.main ≡ o → (HasByte o → IsPlaybackDone size o journal now)
        → (IsTrue (changes_nothing (answer_of size o journal)) → now ≡ was) → unwrap_or (bytes_of now.main) [] ≡ recovered size (unwrap_or o []) journal
    by_main None journal is done idle = empty None journal is refl (idle refl)
    by_main (Some []) None is done idle = empty (Some []) None is refl (idle refl)
    by_main (Some []) (Some journal) is done idle = empty (Some []) (Some journal) is refl (idle refl)
    by_main (Some (x ∷ xs)) journal is done idle = ap (λ (b : Option (List ℕ)). unwrap_or b []) (done (omega arith)).0
