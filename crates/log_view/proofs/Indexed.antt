-- A table of the last frames leads to each byte of a view.
use Rattle.std.proofs.Common.{◌≡◌, ◌⊎◌, inl, inr, ℕ, zero, suc, ◌+◌, ◌-◌, ◌*◌, ◌/◌, ◌%◌, ◌<◌, ◌≤◌, max, Bool, true, false, ◌&&◌, ◌==◌, nat_lt, if◌then◌else◌, List, length, take, get_or, Option, Some, None, unwrap_or, refl, sym, ◌∙◌, ap, subst, arith}
use Rattle.std.proofs.lemmas.List.{get_or-take, get_or_past, length-take}
use Rattle.std.proofs.lemmas.Nat.{div_below, mod_below}
use Rattle.edge_model.specs.Files.{File, Files, bytes_of, contents, length_of, main_of, with_file_bytes}
use Rattle.log_format.specs.Frames.{frame_page}
use Rattle.log_format.specs.Logs.{committed_frames, frame_bytes_at, frame_start, logged, logged_count}
use Rattle.log_format.proofs.Whole.{committed_whole, start_le}
use Rattle.rollback_journal.specs.Laying.{laid, page_start, reach}
use Rattle.rollback_journal.specs.Recovery.{HasByte}
use Rattle.rollback_journal.proofs.Laid.{laid_reach}
use Rattle.rollback_journal.proofs.MainSteps.{has_byte, some_contents}
use Rattle.log_recovery.specs.Finding.{IsEmptyLog}
use Rattle.log_recovery.specs.Laying.{log_of, IsTaken}
use Rattle.log_recovery.specs.Opened.{log_end, opened_by_log}
use Rattle.log_recovery.proofs.Kept.{over_is}
use Rattle.log_recovery.proofs.MainSteps.{log_taken}
use Rattle.log_recovery.proofs.Sized.{logged_sized}
use Rattle.log_view.specs.View.{IsHeldByLog, IsIndexed, IsTable, ReachesEnd, last_frame, looked, viewed}
use Rattle.log_view.proofs.Lookup.{lookup, order}
use Rattle.log_view.proofs.Places.{split}

-- without a byte in Main, or a log, the view is Main
none_over : (a b : Bool) (n : ℕ) → n ≡ 0 → (nat_lt 0 n && a && b) ≡ false
none_over a b n is = ap (λ (m : ℕ). nat_lt 0 m && a && b) is

alone : (size : ℕ) (main : Option File) (log : Option (List ℕ)) → ((file : File) → main ≡ Some file → opened_by_log size file.bytes log ≡ file.bytes)
    → with_file_bytes (λ bytes. opened_by_log size bytes log) main ≡ main
alone size None log is = refl
alone size (Some file) log is = ap (λ (bytes : List ℕ). Some (record { number = file.number; bytes = bytes })) (is file refl)

no_byte : (size : ℕ) (file : File) (log : Option (List ℕ)) → (0 < length file.bytes → ⊥) → opened_by_log size file.bytes log ≡ file.bytes
no_byte size file None none = refl
no_byte size file (Some log) none = ap (λ (b : Bool). if b then take (log_end size log) (laid size (logged size log) file.bytes) else file.bytes)
    (none_over _ _ (length file.bytes) (search arith))

pub nothing_alone : (size : ℕ) (files : Files) → (HasByte (bytes_of files.main) → ⊥) ⊎ (files.journal ≡ None) → (viewed size files).main ≡ files.main
nothing_alone size files (inl none) = alone size files.main (bytes_of files.journal) (λ file is. no_byte size file (bytes_of files.journal)
    (λ some. none (subst (λ (m : Option File). HasByte (bytes_of m)) (sym is) some)))
nothing_alone size files (inr gone) = alone size files.main (bytes_of files.journal)
    (λ file is. ap (λ (j : Option File). opened_by_log size file.bytes (bytes_of j)) gone)

-- with a log that counts, it is the laid file
contents_with : (change : List ℕ → List ℕ) (file : Option File) → HasByte (bytes_of file) → contents (with_file_bytes change file) ≡ change (contents file)
contents_with change None some = absurd some
contents_with change (Some file) some = refl

length_with : (change : List ℕ → List ℕ) (file : Option File) → HasByte (bytes_of file) → length_of (with_file_bytes change file) ≡ Some (length (contents (with_file_bytes change file)))
length_with change None some = absurd some
length_with change (Some file) some = refl

taken_main : (size : ℕ) (files : Files) → IsTaken size files
    → main_of (viewed size files) ≡ take (log_end size (log_of files)) (laid size (logged size (log_of files)) (main_of files))
taken_main size files taken =
    contents_with (λ main. opened_by_log size main (bytes_of files.journal)) files.main taken.main
    ∙ ap (λ (j : Option (List ℕ)). opened_by_log size (main_of files) j) (some_contents files.journal taken.log)
    ∙ ap (λ (b : Bool). if b then take (log_end size (log_of files)) (laid size (logged size (log_of files)) (main_of files)) else main_of files)
    (over_is size (main_of files) (log_of files) (log_taken size files taken) (has_byte files.main taken.main))

pub taken_long : (size whole : ℕ) (files : Files) → 0 < size → IsTaken size files → whole ≡ logged_count size (log_of files) * size → ReachesEnd size files
    → Some whole ≡ length_of (viewed size files).main
taken_long size whole files some taken is reaches =
    let long = laid_reach size (log_end size (log_of files)) (logged size (log_of files)) (main_of files) some (logged_sized size (log_of files) taken.live) in
    let all = ap length (taken_main size files taken) in
    let cut = length-take (log_end size (log_of files)) (laid size (logged size (log_of files)) (main_of files)) in
    let e : whole ≡ length (main_of (viewed size files)) = omega (arith, long, all, cut, is, reaches) in
    ap Some e ∙ sym (length_with (λ main. opened_by_log size main (bytes_of files.journal)) files.main taken.main)

-- the end is reached, or it is not
main_length : (main_len : ℕ) (file : Option File) → main_len ≡ unwrap_or (length_of file) 0 → main_len ≡ length (contents file)
main_length main_len None is = is
main_length main_len (Some file) is = is

pub end_reached : (size main_len end whole : ℕ) (files : Files) → main_len ≡ unwrap_or (length_of files.main) 0 → end ≡ reach size (logged size (log_of files))
    → whole ≡ logged_count size (log_of files) * size → whole ≤ max main_len end → ReachesEnd size files
end_reached size main_len end whole files is ends wholes le = omega (arith, main_length main_len files.main is, ends, wholes, le)

-- a log that is taken is there, beside a Main with a byte, and holds a commit
pub nothing_not_taken : (size : ℕ) (files : Files) → (HasByte (bytes_of files.main) → ⊥) ⊎ (files.journal ≡ None) → IsTaken size files → ⊥
nothing_not_taken size files (inl none) taken = none taken.main
nothing_not_taken size files (inr gone) taken = subst (λ (j : Option File). HasByte (bytes_of j)) gone taken.log

pub empty_not_taken : (size : ℕ) (files : Files) → IsEmptyLog files → IsTaken size files → ⊥
empty_not_taken size files empty taken =
    let over = over_is size (main_of files) (log_of files) (log_taken size files taken) (has_byte files.main taken.main) in
    let both : true ≡ false = sym over ∙ empty.none in cc

last_low : (size : ℕ) (log : List ℕ) (n k page old : ℕ) → old ≤ k + n → last_frame size log n k page old ≤ k + n
last_low size log zero k page old le = le
last_low size log (suc n) k page old le =
    omega (
      arith,
      last_low size log n (suc k) page (if frame_page (frame_bytes_at size log k) == page then suc k else old)
          (go (frame_page (frame_bytes_at size log k) == page)),
    )
  where
    go : (b : Bool) → (if b then suc k else old) ≤ suc k + n
    go true = omega arith
    go false = omega (arith, le)

pub taken_held : (size : ℕ) (table : List ℕ) (files : Files) → IsTaken size files → IsTable size table (log_of files) (committed_frames size (log_of files))
    → IsHeldByLog size table files
taken_held size table files taken noted row some = go (order row (length table))
  where
    go : (row < length table) ⊎ (length table ≤ row) → frame_start size (get_or table row 0) ≤ length (log_of files)
    go (inl lt) =
        let m : row ≡ row + 1 - 1 = omega arith in
        let is = ap (λ (n : ℕ). get_or table n 0) m ∙ noted (row + 1) (omega arith) (omega (arith, lt)) in
        let low = last_low size (log_of files) (committed_frames size (log_of files)) 0 (row + 1) 0 (omega arith) in
        let most : get_or table row 0 ≤ committed_frames size (log_of files) = omega (arith, is, low) in
        omega (arith, start_le size (get_or table row 0) (committed_frames size (log_of files)) most, committed_whole size (log_of files) taken.live)
    go (inr le) = absurd (let e = get_or_past table row 0 le in omega (arith, e, some))

pub taken_indexed : (size : ℕ) (table : List ℕ) (files : Files) → 0 < size → IsTaken size files → length table ≡ logged_count size (log_of files)
    → IsTable size table (log_of files) (committed_frames size (log_of files)) → IsIndexed size table files
taken_indexed size table files some taken long noted i lt =
    let log = log_of files in
    let all = ap length (taken_main size files taken) in
    let cut = length-take (log_end size (log_of files)) (laid size (logged size (log_of files)) (main_of files)) in
    let small : i < logged_count size (log_of files) * size = omega (arith, lt, all, cut) in
    let row : i / size < logged_count size (log_of files) = div_below i size (logged_count size (log_of files)) some small in
    let m : i / size + 1 - 1 ≡ i / size = omega arith in
    let place : page_start size (i / size + 1) + i % size ≡ i = ap (λ (n : ℕ). n * size + i % size) m ∙ sym (split size i some) in
    ap (λ (l : List ℕ). get_or l i 0) (taken_main size files taken)
    ∙ get_or-take (log_end size (log_of files)) (laid size (logged size (log_of files)) (main_of files)) i 0 small
    ∙ ap (λ (n : ℕ). get_or (laid size (logged size (log_of files)) (main_of files)) n 0) (sym place)
    ∙ lookup size (logged_count size (log_of files)) (i / size + 1) (i % size) (log_of files) (main_of files) (omega arith) (omega (arith, row)) (mod_below i size some)
    (committed_frames size (log_of files)) 0 0 (main_of files)
    (let e : committed_frames size (log_of files) ≡ 0 + committed_frames size (log_of files) = omega arith in subst (λ (n : ℕ). frame_start size n ≤ length (log_of files)) e (committed_whole size (log_of files) taken.live))
    refl
    ∙ ap (λ (n : ℕ). looked size (main_of files) (log_of files) n (i % size) (last_frame size (log_of files) (committed_frames size (log_of files)) 0 (i / size + 1) 0)) place
    ∙ ap (λ (n : ℕ). looked size (main_of files) (log_of files) i (i % size) n)
    (sym (noted (i / size + 1) (omega arith) (omega (arith, row, long))) ∙ ap (λ (n : ℕ). get_or table n 0) m)
