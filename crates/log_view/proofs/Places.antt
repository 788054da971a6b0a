-- Where the bytes of a page stand.
use Rattle.std.proofs.Common.{◌≡◌, ◌≢◌, ℕ, zero, suc, ◌+◌, ◌-◌, ◌*◌, ◌/◌, ◌%◌, ◌<◌, ◌≤◌, List, ◌++◌, length, get_or, refl, sym, ◌∙◌, ap, arith}
use Rattle.std.proofs.lemmas.Nat.{div-mul-add, mod-mul-add}
use Rattle.std.proofs.Math.ListN.{get_or-append}
use Rattle.edge_model.specs.Files.{Files, main_of}
use Rattle.log_format.specs.Logs.{frame_start}
use Rattle.log_recovery.specs.Laying.{log_of}
use Rattle.log_view.specs.View.{looked, through}

pub split : (size at : ℕ) → 0 < size → at ≡ at / size * size + at % size
split size at some = search arith

-- bytes of one page
pub same_page : (size at i : ℕ) → 0 < size → at % size + i < size → (at + i) / size ≡ at / size
same_page size at i some within =
    let e : at + i ≡ at / size * size + (at % size + i) = omega (arith, split size at some) in
    ap (λ (n : ℕ). n / size) e ∙ div-mul-add (at / size) size (at % size + i) within

pub same_offset : (size at i : ℕ) → 0 < size → at % size + i < size → (at + i) % size ≡ at % size + i
same_offset size at i some within =
    let e : at + i ≡ at / size * size + (at % size + i) = omega (arith, split size at some) in
    ap (λ (n : ℕ). n % size) e ∙ mod-mul-add (at / size) size (at % size + i) within

-- what a table leads to, within a page
through_is : (size at i frame : ℕ) (table : List ℕ) (files : Files) → 0 < size → at % size + i < size → frame ≡ get_or table (at / size) 0
    → through size table files (at + i) ≡ looked size (main_of files) (log_of files) (at + i) (at % size + i) frame
through_is size at i frame table files some within is =
    ap (λ (n : ℕ). looked size (main_of files) (log_of files) (at + i) n (get_or table ((at + i) / size) 0)) (same_offset size at i some within)
    ∙ ap (λ (n : ℕ). looked size (main_of files) (log_of files) (at + i) (at % size + i) (get_or table n 0)) (same_page size at i some within)
    ∙ ap (λ (n : ℕ). looked size (main_of files) (log_of files) (at + i) (at % size + i) n) (sym is)

-- no frame has the page: Main's byte
pub main_part : (size at i frame count : ℕ) (table new rest : List ℕ) (files : Files) → 0 < size → count ≤ size - at % size → i < count → length new ≡ count
    → frame ≡ get_or table (at / size) 0 → frame ≡ 0
    → ((j : ℕ) → j < count → get_or new j 0 ≡ get_or (main_of files) (at + j) 0)
    → get_or (new ++ rest) i 0 ≡ through size table files (at + i)
main_part size at i frame count table new rest files some room lt long is none read =
    get_or-append new rest 0 i (omega (arith, long, lt)) ∙ read i lt
    ∙ sym (through_is size at i frame table files some (omega (arith, room, lt)) is
    ∙ ap (λ (n : ℕ). looked size (main_of files) (log_of files) (at + i) (at % size + i) n) none)

-- a frame has it
pub log_part : (size at i frame count : ℕ) (table new rest : List ℕ) (files : Files) → 0 < size → count ≤ size - at % size → i < count → length new ≡ count
    → frame ≡ get_or table (at / size) 0 → frame ≢ 0
    → ((j : ℕ) → j < count → get_or new j 0 ≡ get_or (log_of files) (32 + (frame - 1) * (size + 24) + 24 + at % size + j) 0)
    → get_or (new ++ rest) i 0 ≡ through size table files (at + i)
log_part size at i zero count table new rest files some room lt long is other read = absurd (other refl)
log_part size at i (suc k) count table new rest files some room lt long is other read =
    let m : suc k - 1 ≡ k = omega arith in
    get_or-append new rest 0 i (omega (arith, long, lt)) ∙ read i lt
    ∙ ap (λ (n : ℕ). get_or (log_of files) (32 + n * (size + 24) + 24 + at % size + i) 0) m
    ∙ ap (λ (n : ℕ). get_or (log_of files) n 0) (let e : 32 + k * (size + 24) + 24 + at % size + i ≡ frame_start size k + 24 + (at % size + i) = omega arith in e)
    ∙ sym (through_is size at i (suc k) table files some (omega (arith, room, lt)) is)
