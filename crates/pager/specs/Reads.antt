-- A disk behind a pager that only reads, and an entropy that is not called.
use Rattle.std.specs.Prelude.{ℕ, ◌≡◌, ◌≤◌, Bool, IsTrue, refl}
use Rattle.std.specs.Borrow.{MutBor}
use Rattle.std.proofs.Common.{inl, inr, ⊎_elim, ◌∙◌, arith, subst, sym}
use Rattle.edge_model.specs.Files.{Files}
use Rattle.edge_model.specs.OnlyRead.{OnlyRead}

-- it is the same object, and was not called
pub record Untouched {T : Type 0} (old new : MutBor T) : Type 0 where
  pub same : new.ghost_name ≡ old.ghost_name
  pub value : new.now ≡ old.now

pub untouched : {T : Type 0} (s : MutBor T) → Untouched s s
untouched s = record { same = refl; value = refl }

pub then_untouched : {T : Type 0} {s t u : MutBor T} → Untouched s t → Untouched t u → Untouched s u
then_untouched first next = record { same = next.same ∙ first.same; value = next.value ∙ first.value }

module _ {D : Type 0} {reads : D → Files} {images : D → Files → Type 0} {moment : D → ℕ} {since : D → ℕ → Files → Type 0} where
  -- no call at all
  pub not_read : (disk : D) → OnlyRead reads images moment since disk disk
  not_read disk = record {
    stays = refl;
    same_images = record { no_more = λ c now. now; no_fewer = λ c now. now };
    time = record { later = omega arith; nothing_else = λ t c le left. inl left; keeps = λ t c le left. left };
  }

  -- one run of reads after another
  pub then_read : {old mid new : D} → OnlyRead reads images moment since old mid → OnlyRead reads images moment since mid new
      → OnlyRead reads images moment since old new
  then_read first next = record {
    stays = next.stays ∙ first.stays;
    same_images =
        record { no_more = λ c now. first.same_images.no_more c (next.same_images.no_more c now); no_fewer = λ c now. next.same_images.no_fewer c (first.same_images.no_fewer c now) };
    time = record {
      later = omega (arith, first.time.later, next.time.later);
      nothing_else =
          λ t c le left. ⊎_elim
          (λ was. ⊎_elim (λ before. inl before) (λ now. inr (next.same_images.no_fewer c now)) (first.time.nothing_else t c le was))
          (λ now. inr now) (next.time.nothing_else t c (omega (arith, le, first.time.later)) left);
      keeps = λ t c le left. next.time.keeps t c (omega (arith, le, first.time.later)) (first.time.keeps t c le left);
    };
  }

-- It is the same disk, which was only read where it tells its bytes, and its count of faults does not fall.
pub record DiskRead (tells : Bool) {D : Type 0} (reads : D → Files) (images : D → Files → Type 0) (moment : D → ℕ) (since : D → ℕ → Files → Type 0) (faults : D → ℕ) (old new : MutBor D) : Type 0 where
  pub same : new.ghost_name ≡ old.ghost_name
  pub only_read : IsTrue tells → OnlyRead reads images moment since old.now new.now
  pub later : faults old.now ≤ faults new.now

module _ {tells : Bool} {D : Type 0} {reads : D → Files} {images : D → Files → Type 0} {moment : D → ℕ} {since : D → ℕ → Files → Type 0} {faults : D → ℕ} where
  pub disk_unread : (disk : MutBor D) → DiskRead tells reads images moment since faults disk disk
  disk_unread disk = record { same = refl; only_read = λ told. not_read disk.now; later = omega arith }

  pub disk_then_read : {s t u : MutBor D} → DiskRead tells reads images moment since faults s t → DiskRead tells reads images moment since faults t u
      → DiskRead tells reads images moment since faults s u
  disk_then_read first next = record {
    same = next.same ∙ first.same;
    only_read = λ told. then_read (first.only_read told) (next.only_read told);
    later = omega (arith, first.later, next.later);
  }

  -- a disk that was not called was only read
  pub untouched_read : {s t : MutBor D} → Untouched s t → DiskRead tells reads images moment since faults s t
  untouched_read {s} still = record {
    same = still.same;
    only_read = λ told. subst (λ (d : D). OnlyRead reads images moment since s.now d) (sym still.value) (not_read s.now);
    later = subst (λ (d : D). faults s.now ≤ faults d) (sym still.value) (omega arith);
  }
