-- What is found, and what is answered.
use Rattle.std.proofs.Common.{◌≡◌, ◌≢◌, ◌⊎◌, inl, inr, ⊎_elim, ℕ, ◌<◌, Bool, true, false, ◌&&◌, nat_lt, not, ◌==◌, if◌then◌else◌, List, length, take, Option, Some, None, Result, Ok, Err, refl, sym, ◌∙◌, ap, subst, arith}
use Rattle.std.specs.Prelude.{IsTrue, IfErr, IfOk, OnOk}
use Rattle.std.proofs.lemmas.Bool.Decides.{nat_tests}
use Rattle.edge_model.specs.Files.{File, Files, bytes_of, main_of}
use Rattle.edge_model.specs.Images.{LeavesOnly}
use Rattle.edge_model.specs.Moments.{and_then, weaker}
use Rattle.journal_format.specs.Header.{has_header, is_sector, sector_at, page_size_at}
use Rattle.journal_format.specs.Segments.{is_hot, names_super, played}
use Rattle.rollback_journal.specs.declared.recovery.Recovery.{Recovery}
use Rattle.rollback_journal.specs.declared.recovery.Recovery.TheVariants.{Nothing, Cold, Played}
use Rattle.rollback_journal.specs.declared.recovery.RecoverError.{RecoverError}
use Rattle.rollback_journal.specs.declared.recovery.RecoverError.TheVariants.{JournalPageSize, SuperJournal, DiskFault, OutOfMemory}
use Rattle.rollback_journal.specs.Laying.{laid}
use Rattle.rollback_journal.specs.Recovery.{HasByte, IsPlaybackDone, answer_of, answer_to, changes_nothing, end_of}
use Rattle.rollback_journal.specs.Playing.{journal_of, IsPlayedHot}
use Rattle.rollback_journal.proofs.MainSteps.{some_contents, has_byte}
use Rattle.rollback_journal.proofs.LaidBack.{there_contents}

zero_not : (n : ℕ) → 0 < n → (n == 0) ≡ false
zero_not n lt = grind (arith, nat_tests)

eq_no : (a b : ℕ) → a ≢ b → (a == b) ≡ false
eq_no a b other = grind (arith, nat_tests)

eq_yes : (a b : ℕ) → a ≡ b → (a == b) ≡ true
eq_yes a b same = grind (arith, nat_tests)

lt_yes : (n : ℕ) → 0 < n → nat_lt 0 n ≡ true
lt_yes n lt = grind (arith, nat_tests)

all_three : (a b c : Bool) → a ≡ true → b ≡ true → c ≡ true → (a && b && c) ≡ true
all_three a b c p q r = cc

sector_no : (a b c : Bool) → c ≡ false → (a && b && c) ≡ false
sector_no true true c r = cc
sector_no true false c r = refl
sector_no false b c r = refl

pub is_hot_by : (main journal : List ℕ) → 0 < length main → has_header 0 journal ≡ true → is_sector (sector_at 0 journal) ≡ true → is_hot main journal ≡ true
is_hot_by main journal some head sector = all_three _ _ _ (lt_yes (length main) some) head sector

of_files : (size : ℕ) (files : Files) → HasByte (bytes_of files.main) → files.journal ≢ None
    → answer_of size (bytes_of files.main) (bytes_of files.journal) ≡ answer_of size (Some (main_of files)) (Some (journal_of files))
of_files size files some there =
    ap (λ (m : Option (List ℕ)). answer_of size m (bytes_of files.journal)) (some_contents files.main some)
    ∙ ap (λ (j : Option (List ℕ)). answer_of size (Some (main_of files)) j) (there_contents files.journal there)

pub answer_size : (size found : ℕ) (files : Files) → HasByte (bytes_of files.main) → files.journal ≢ None
    → is_hot (main_of files) (journal_of files) ≡ true → found ≡ page_size_at 0 (journal_of files) → found ≢ size
    → answer_of size (bytes_of files.main) (bytes_of files.journal) ≡ Err (JournalPageSize found)
answer_size size found files some there hot is other =
    let main = main_of files in
    let j = journal_of files in
    let no : (page_size_at 0 j == size) ≡ false = subst (λ (n : ℕ). (n == size) ≡ false) is (eq_no found size other) in
    of_files size files some there
    ∙ ap
    (λ (b : Bool). if b then Ok Nothing else if not (is_hot main j) then Ok Cold else if not (page_size_at 0 j == size) then Err (JournalPageSize (page_size_at 0 j)) else if names_super j then Err SuperJournal else Ok (Played (length (played size j))))
    (zero_not (length main) (has_byte files.main some))
    ∙ ap
    (λ (b : Bool). if not b then Ok Cold else if not (page_size_at 0 j == size) then Err (JournalPageSize (page_size_at 0 j)) else if names_super j then Err SuperJournal else Ok (Played (length (played size j)))) hot
    ∙ ap
    (λ (b : Bool). if not b then Err (JournalPageSize (page_size_at 0 j)) else if names_super j then Err SuperJournal else Ok (Played (length (played size j)))) no
    ∙ ap (λ (n : ℕ). Err (JournalPageSize n)) (sym is)

pub answer_taken : (size : ℕ) (files : Files) (b : Bool) → HasByte (bytes_of files.main) → files.journal ≢ None
    → is_hot (main_of files) (journal_of files) ≡ true → page_size_at 0 (journal_of files) ≡ size → b ≡ names_super (journal_of files)
    → answer_of size (bytes_of files.main) (bytes_of files.journal) ≡ (if b then Err SuperJournal else Ok (Played (length (played size (journal_of files)))))
answer_taken size files b some there hot is named =
    let main = main_of files in
    let j = journal_of files in
    of_files size files some there
    ∙ ap
    (λ (b : Bool). if b then Ok Nothing else if not (is_hot main j) then Ok Cold else if not (page_size_at 0 j == size) then Err (JournalPageSize (page_size_at 0 j)) else if names_super j then Err SuperJournal else Ok (Played (length (played size j))))
    (zero_not (length main) (has_byte files.main some))
    ∙ ap
    (λ (b : Bool). if not b then Ok Cold else if not (page_size_at 0 j == size) then Err (JournalPageSize (page_size_at 0 j)) else if names_super j then Err SuperJournal else Ok (Played (length (played size j)))) hot
    ∙ ap
    (λ (b : Bool). if not b then Err (JournalPageSize (page_size_at 0 j)) else if names_super j then Err SuperJournal else Ok (Played (length (played size j))))
    (eq_yes (page_size_at 0 j) size is)
    ∙ ap (λ (b : Bool). if b then Err SuperJournal else Ok (Played (length (played size j)))) (sym named)

-- two runs that only read
pub reads_on : {D : Type 0} (images : D → Files → Type 0) {moment : D → ℕ} {since : D → ℕ → Files → Type 0} {old mid new : D}
    → LeavesOnly moment since old mid (images old) → ((c : Files) → images mid c → images old c) → LeavesOnly moment since mid new (images mid)
    → LeavesOnly moment since old new (images old)
reads_on images one less two = and_then one (weaker less two)

pub done_is : (size : ℕ) (old new image : Files) → HasByte (bytes_of old.main) → bytes_of old.journal ≡ Some (journal_of old)
    → is_hot (main_of old) (journal_of old) ≡ true → bytes_of new.main ≡ Some (main_of new)
    → main_of new ≡ take (end_of size (journal_of old))
    (laid size (played size (journal_of old)) (main_of old)) → image.main ≡ new.main → image.journal ≡ None → IsPlaybackDone size (bytes_of old.main)
    (bytes_of old.journal) image
done_is size old new image some journal hot there is main gone =
    subst (λ (m : Option (List ℕ)). IsPlaybackDone size m (bytes_of old.journal) image) (sym (some_contents old.main some))
    (subst (λ (j : Option (List ℕ)). IsPlaybackDone size (Some (main_of old)) j image) (sym journal) (
      ap bytes_of main ∙ there ∙ ap (λ (l : List ℕ). Some l) is
          ∙ ap
          (λ (b : Bool). Some (if b then take (end_of size (journal_of old)) (laid size (played size (journal_of old)) (main_of old)) else main_of old))
          (sym hot),
      gone,
    ))

pub has_not_none : (file : Option File) → HasByte (bytes_of file) → file ≢ None
has_not_none None has = absurd has
has_not_none (Some file) has = λ is. cc

-- a journal that is taken is played: that changes something
pub taken_changes : (size : ℕ) (files : Files) → IsPlayedHot size files → IsTrue (changes_nothing (answer_to size files)) → ⊥
taken_changes size files taken idle =
    let played : changes_nothing (answer_to size files) ≡ false = ap (λ (r : Result Recovery RecoverError). changes_nothing r)
    (answer_taken size files false taken.main (has_not_none files.journal taken.journal) taken.hot taken.page_size (sym taken.no_super)) in
    cc

-- the answer to a hot journal that is taken, by what was looked at
pub hot_answer : (tells : Bool) (n size : ℕ) (old looked : Files) (result : Result Recovery RecoverError) → IsTrue tells → n ≡ size → looked ≡ old
    → IsPlayedHot size old
    → IfOk result (λ did. IsTrue tells → did ≡ Played (length (played n (journal_of looked)))) → IfErr result (λ why. (why ≡ DiskFault) ⊎ (why ≡ OutOfMemory))
    → (result ≡ answer_to size old) ⊎ (result ≡ Err DiskFault) ⊎ (result ≡ Err OutOfMemory)
hot_answer tells n size old looked (Ok did) told is same taken ok err =
    inl (ap (λ (r : Recovery). Ok r) (ok told)
    ∙ ap (λ (k : ℕ). Ok (Played (length (played k (journal_of looked))))) is
    ∙ ap (λ (x : Files). Ok (Played (length (played size (journal_of x))))) same
    ∙ sym (answer_taken size old false taken.main (has_not_none old.journal taken.journal) taken.hot taken.page_size (sym taken.no_super)))
hot_answer tells n size old looked (Err why) told is same taken ok err = ⊎_elim (λ fault. inr (inl (ap (λ (e : RecoverError). Err e) fault)))
    (λ starved. inr (inr (ap (λ (e : RecoverError). Err e) starved))) err

pub on_ok : {P Q : Type 0} (result : Result Recovery RecoverError) → (P → Q) → OnOk result P → OnOk result Q
on_ok (Ok did) gives p = gives p
on_ok (Err why) gives p = tt

pub done_same : (n size : ℕ) (old looked image : Files) → n ≡ size → looked ≡ old → IsPlaybackDone n (bytes_of looked.main) (bytes_of looked.journal) image
    → IsPlaybackDone size (bytes_of old.main) (bytes_of old.journal) image
done_same n size old looked image is same done =
    subst (λ (k : ℕ). IsPlaybackDone k (bytes_of old.main) (bytes_of old.journal) image) is
    (subst (λ (x : Files). IsPlaybackDone n (bytes_of x.main) (bytes_of x.journal) image) same done)
