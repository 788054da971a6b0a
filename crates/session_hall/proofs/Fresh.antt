-- Runs that leave Fresh as it is.
use Rattle.std.proofs.Common.{◌≡◌, ◌∙◌, ◌≤◌, ℕ, refl, sym, subst}
use Rattle.edge_model.specs.Files.{Files}
use Rattle.edge_model.specs.Images.{From, LeavesOnly}
use Rattle.edge_model.specs.Moments.{goes_less, started_from, then_from}
use Rattle.edge_model.specs.OnlyRead.{OnlyRead}
use Rattle.atomic_commit.specs.Facts.{SameFresh}

-- one after another
pub then_fresh : {D : Type 0} {images : D → Files → Type 0} {moment : D → ℕ} {since : D → ℕ → Files → Type 0}
    (counts_now : (disk : D) (t : ℕ) (c : Files) → t ≤ moment disk → images disk c → since disk t c)
    {old mid new : D} → LeavesOnly moment since old mid (From SameFresh (images old)) → LeavesOnly moment since mid new (From SameFresh (images mid))
    → LeavesOnly moment since old new (From SameFresh (images old))
then_fresh counts_now first next = then_from counts_now (λ a b c one two. two ∙ one) first next

module _ {D : Type 0} (images : D → Files → Type 0) (moment : D → ℕ) (since : D → ℕ → Files → Type 0)
    (counts_now : (disk : D) (t : ℕ) (c : Files) → t ≤ moment disk → images disk c → since disk t c)
    (only_now : (disk : D) (c : Files) → since disk (moment disk) c → images disk c) where
  -- one that only reads
  pub read_fresh : {reads : D → Files} {old new : D} → OnlyRead reads images moment since old new → LeavesOnly moment since old new (From SameFresh (images old))
  read_fresh {old} {new} run = goes_less counts_now (started_from only_now old SameFresh (λ c. refl)) run.time (λ c now. run.same_images.no_more c now)

  -- one in which the disk is not called
  pub still_fresh : (old new : D) → new ≡ old → LeavesOnly moment since old new (From SameFresh (images old))
  still_fresh old new same =
      subst (λ (d : D). LeavesOnly moment since old d (From SameFresh (images old))) (sym same) (started_from only_now old SameFresh (λ c. refl))
