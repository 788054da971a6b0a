-- A record that was read, and runs that only read.
use Rattle.std.proofs.Common.{◌≡◌, ℕ, ◌+◌, ◌-◌, List, length, take, drop, Option, sym, ◌∙◌, ap, subst, arith}
use Rattle.edge_model.specs.Files.{Files}
use Rattle.edge_model.specs.Images.{From, LeavesOnly}
use Rattle.edge_model.specs.Moments.{weaker}
use Rattle.journal_format.specs.Records.{Place, image_of}
use Rattle.rollback_journal.specs.Recovery.{KeepsRecovered}
use Rattle.rollback_journal.specs.Playing.{IsReadBack, IsInPlay}
use Rattle.rollback_journal.proofs.Kept.{keeps_none}

pub read_size : (size len : ℕ) (journal : List ℕ) (place : Place) (buffer : List ℕ) (page : Option ℕ) → len ≡ size + 8
    → IsReadBack (len - 8) journal place buffer page → IsReadBack size journal place buffer page
read_size size len journal place buffer page is read =
    let e : len - 8 ≡ size = omega arith in
    subst (λ (n : ℕ). IsReadBack n journal place buffer page) e read

pub image_is : (size : ℕ) (buffer bytes : List ℕ) → length buffer ≡ size + 8 → buffer ≡ bytes → take (4 + size - 4) (drop 4 buffer) ≡ image_of bytes
image_is size buffer bytes len is =
    let e : 4 + size - 4 ≡ length buffer - 8 = omega arith in
    ap (λ (n : ℕ). take n (drop 4 buffer)) e ∙ ap (λ (b : List ℕ). image_of b) is

pub still_in_play : (size : ℕ) (old new c : Files) → new ≡ old → IsInPlay size old c → IsInPlay size new c
still_in_play size old new c same play = subst (λ (now : Files). IsInPlay size now c) (sym same) play

-- a run that adds no image keeps all
pub only_read : {D : Type 0} (images : D → Files → Type 0) {moment : D → ℕ} {since : D → ℕ → Files → Type 0} {old new : D} (size : ℕ)
    → LeavesOnly moment since old new (images old) → LeavesOnly moment since old new (From (KeepsRecovered size) (images old))
only_read images size run = weaker (λ f left. (f, left, keeps_none size f)) run
