-- Files of which nothing is recovered are left alone.
use Rattle.std.proofs.Common.{◌≡◌, ⊎_elim, ℕ, ◌≤◌, Bool, true, false, not, ◌==◌, if◌then◌else◌, IsTrue, List, [], ◌∷◌, length, Option, Some, None, Result, Ok, Err, refl, sym, subst, ◌∙◌}
use Rattle.std.specs.Prelude.{IsErr, unwrap_or}
use Rattle.cipher_profile.specs.declared.keys.Secret.{Secret}
use Rattle.cipher_profile.specs.declared.profile.Profile.{Profile}
use Rattle.edge_model.specs.Files.{Files, bytes_of, main_of}
use Rattle.edge_model.specs.Images.{LeavesOnly}
use Rattle.edge_model.specs.OnlyRead.{OnlyRead}
use Rattle.journal_format.specs.Header.{page_size_at}
use Rattle.journal_format.specs.Segments.{is_hot, names_super, played}
use Rattle.pager.specs.Opening.{Opened}
use Rattle.pager.specs.declared.opening.OpenError.{OpenError}
use Rattle.rollback_journal.specs.declared.recovery.Recovery.{Recovery}
use Rattle.rollback_journal.specs.declared.recovery.Recovery.TheVariants.{Nothing, Cold, Played}
use Rattle.rollback_journal.specs.declared.recovery.RecoverError.{RecoverError}
use Rattle.rollback_journal.specs.declared.recovery.RecoverError.TheVariants.{JournalPageSize, SuperJournal}
use Rattle.rollback_journal.specs.Recovery.{answer_of, changes_nothing}
use Rattle.sqlcipher_tool.specs.Holding.{DiskRun, disk_run}
use Rattle.sqlcipher_tool.specs.Opening.{opened_with}
use Rattle.sqlcipher_tool.specs.Recovered.{recovery_of}
use Rattle.sqlcipher_tool.specs.Untouched.{HasNoFile, IsUnwritten, LeavesAlone}

-- ---- a recovery that is done where there is no file

-- it has done nothing
empty_nothing : (size : ℕ) (main journal : Option (List ℕ)) → length (unwrap_or main []) ≡ 0 → answer_of size main journal ≡ Ok Nothing
empty_nothing size None journal is = refl
empty_nothing size (Some []) None is = refl
empty_nothing size (Some []) (Some journal) is = refl
empty_nothing size (Some (x ∷ xs)) journal is = cc

no_error : false ≡ true → ⊥
no_error is = cc

not_done : (r : Result Recovery RecoverError) (did : Recovery) → r ≡ Ok did → IsErr r → ⊥
not_done r did is err = no_error (subst IsErr is err)

-- no file, where the recovery was done: Main has no byte
pub has_no_byte : (profile : Profile) (files : Files) (did : Recovery) → recovery_of profile files ≡ Ok did → HasNoFile profile files → length (main_of files) ≡ 0
has_no_byte profile files did is none = ⊎_elim (λ empty. empty) (λ refused. absurd (not_done (recovery_of profile files) did is refused)) none

-- the answer to a Main and a Journal that are there, by what is found of them
abbrev found_answer : ℕ → ℕ → Bool → Bool → Bool → Bool → Result Recovery RecoverError
found_answer found records empty hot taken named =
    if empty then Ok Nothing else if not hot then Ok Cold else if not taken then Err (JournalPageSize found) else if named then Err SuperJournal else Ok (Played records)

found_idle : (found records : ℕ) (empty hot taken named : Bool) → IsErr (found_answer found records empty hot taken named)
    → IsTrue (changes_nothing (found_answer found records empty hot taken named))
found_idle found records true hot taken named err = refl
found_idle found records false false taken named err = absurd (no_error err)
found_idle found records false true false named err = refl
found_idle found records false true true true err = refl
found_idle found records false true true false err = absurd (no_error err)

refused_idle : (size : ℕ) (main journal : Option (List ℕ)) → IsErr (answer_of size main journal) → IsTrue (changes_nothing (answer_of size main journal))
refused_idle size None journal err = refl
refused_idle size (Some main) None err = refl
refused_idle size (Some main) (Some journal) err =
    found_idle (page_size_at 0 journal) (length (played size journal)) (length main == 0) (is_hot main journal) (page_size_at 0 journal == size) (names_super journal) err

-- where there is no file the recovery has nothing to do
is_idle : (profile : Profile) (files : Files) → HasNoFile profile files → IsTrue (changes_nothing (recovery_of profile files))
is_idle profile files none = ⊎_elim
    (λ empty. subst (λ (r : Result Recovery RecoverError). IsTrue (changes_nothing r)) (sym (empty_nothing profile.page_size (bytes_of files.main) (bytes_of files.journal) empty)) refl)
    (λ refused. refused_idle profile.page_size (bytes_of files.main) (bytes_of files.journal) refused) none

-- ---- a file that does not open

-- a file without a byte does not
pub empty_unopened : (profile : Profile) (secret : Secret) (file : List ℕ) → length file ≡ 0 → IsErr (opened_with profile secret file)
empty_unopened profile secret [] is = refl
empty_unopened profile secret (x ∷ xs) is = cc

pub is_opened : {A : Type 0} (r : Result Opened OpenError) (opened : Opened) → r ≡ Ok opened → IsErr r → A
is_opened r opened is err = absurd (no_error (subst IsErr is err))

-- ---- runs

-- what is only read after a run that wrote nothing is unwritten still
pub unwritten_read : {D : Type 0} {reads : D → Files} {images : D → Files → Type 0} {moment : D → ℕ} {since : D → ℕ → Files → Type 0}
    (counts_now : (disk : D) (t : ℕ) (c : Files) → t ≤ moment disk → images disk c → since disk t c) {old mid new : D}
    → moment old ≤ moment mid → IsUnwritten (disk_run reads images moment since old mid) → OnlyRead reads images moment since mid new
    → IsUnwritten (disk_run reads images moment since old new)
unwritten_read {moment = moment} counts_now {old} {mid} later run read = record {
  reads = read.stays ∙ run.reads;
  no_more = λ image ever. ⊎_elim (λ was. run.no_more image was)
      (λ now. run.no_more image (counts_now mid (moment old) image later (read.same_images.no_more image now)))
      (read.time.nothing_else (moment old) image later ever);
}

pub unmoved : {D : Type 0} (reads : D → Files) (images : D → Files → Type 0) (moment : D → ℕ) (since : D → ℕ → Files → Type 0)
    (only_now : (disk : D) (c : Files) → since disk (moment disk) c → images disk c) (disk : D) → IsUnwritten (disk_run reads images moment since disk disk)
unmoved reads images moment since only_now disk = record { reads = refl; no_more = λ image ever. only_now disk image ever }

-- an idle recovery
pub left_idle : {D : Type 0} (reads : D → Files) (images : D → Files → Type 0) {moment : D → ℕ} {since : D → ℕ → Files → Type 0} (profile : Profile) {old new : D}
    → (IsTrue (changes_nothing (recovery_of profile (reads old))) → reads new ≡ reads old)
    → (IsTrue (changes_nothing (recovery_of profile (reads old))) → LeavesOnly moment since old new (images old))
    → HasNoFile profile (reads old) → IsUnwritten (disk_run reads images moment since old new)
left_idle reads images profile {old} same only none =
    let idle = is_idle profile (reads old) none in
    record { reads = same idle; no_more = λ image ever. (only idle).each image ever }

pub left_alone : (profile : Option Profile) (run : DiskRun) → IsUnwritten run → LeavesAlone profile run
left_alone None run is = tt
left_alone (Some profile) run is = λ none. is
