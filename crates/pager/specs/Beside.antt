-- A disk and an entropy behind a pager that writes beside Main.
use Rattle.std.specs.Prelude.{ℕ, ◌≡◌, ◌≤◌, Bool, List, IsTrue, refl}
use Rattle.std.specs.Borrow.{MutBor}
use Rattle.std.specs.Io.{StartsWith}
use Rattle.std.proofs.Common.{◌∙◌, subst, sym}
use Rattle.std.proofs.Transfers.{starts_with_of_eq, starts_with_trans}
use Rattle.edge_model.specs.Files.{Files}
use Rattle.edge_model.specs.Images.{LeavesOnly}
use Rattle.edge_model.specs.Moments.{goes_less, started_from}
use Rattle.fresh_disk.specs.OnlyFresh.{IsOld, OnlyFresh, only_fresh_joins, only_fresh_stays, run_joins}
use Rattle.pager.specs.Reads.{DiskRead, Untouched}

-- They are the same objects. More may have been drawn. Main and Journal read as before, and at each moment an image has them as one had
-- them before.
pub record Beside (tells draws_tell : Bool) {D E : Type 0} (reads : D → Files) (images : D → Files → Type 0) (moment : D → ℕ) (since : D → ℕ → Files → Type 0) (drawn : E → List ℕ)
    (old_disk new_disk : MutBor D) (old_entropy new_entropy : MutBor E) : Type 0 where
  pub disk : new_disk.ghost_name ≡ old_disk.ghost_name
  pub entropy : new_entropy.ghost_name ≡ old_entropy.ghost_name
  pub drawn_on : IsTrue draws_tell → StartsWith (drawn new_entropy.now) (drawn old_entropy.now)
  pub only_fresh : IsTrue tells → OnlyFresh (reads old_disk.now) (reads new_disk.now)
  pub any_moment : IsTrue tells → LeavesOnly moment since old_disk.now new_disk.now (IsOld (images old_disk.now))

module _ {tells draws_tell : Bool} {D E : Type 0} {reads : D → Files} {images : D → Files → Type 0} {moment : D → ℕ} {since : D → ℕ → Files → Type 0} {drawn : E → List ℕ} where
  -- no call at all
  pub beside_stays : (only_now : (disk : D) (c : Files) → since disk (moment disk) c → images disk c) (d : MutBor D) (e : MutBor E)
      → Beside tells draws_tell reads images moment since drawn d d e e
  beside_stays only_now d e = record {
    disk = refl;
    entropy = refl;
    drawn_on = λ told. starts_with_of_eq _ _ refl;
    only_fresh = λ told. only_fresh_stays _;
    any_moment = λ told. started_from only_now d.now OnlyFresh only_fresh_stays;
  }

  -- one run after another
  pub beside_joins : (counts_now : (disk : D) (t : ℕ) (c : Files) → t ≤ moment disk → images disk c → since disk t c)
      {d d' d'' : MutBor D} {e e' e'' : MutBor E} → Beside tells draws_tell reads images moment since drawn d d' e e'
      → Beside tells draws_tell reads images moment since drawn d' d'' e' e'' → Beside tells draws_tell reads images moment since drawn d d'' e e''
  beside_joins counts_now {d' = d'} {e' = e'} first next = record {
    disk = next.disk ∙ first.disk;
    entropy = next.entropy ∙ first.entropy;
    drawn_on = λ told. starts_with_trans _ (drawn e'.now) _ (next.drawn_on told) (first.drawn_on told);
    only_fresh = λ told. only_fresh_joins _ (reads d'.now) _ (first.only_fresh told) (next.only_fresh told);
    any_moment = λ told. run_joins counts_now (first.any_moment told) (next.any_moment told);
  }

  -- a run that only reads
  pub read_beside : (only_now : (disk : D) (c : Files) → since disk (moment disk) c → images disk c)
      (counts_now : (disk : D) (t : ℕ) (c : Files) → t ≤ moment disk → images disk c → since disk t c)
      {faults : D → ℕ} {d d' : MutBor D} {e e' : MutBor E} → DiskRead tells reads images moment since faults d d' → Untouched e e'
      → Beside tells draws_tell reads images moment since drawn d d' e e'
  read_beside only_now counts_now {d = d} {d'} {e} {e'} read still = record {
    disk = read.same;
    entropy = still.same;
    drawn_on = λ told. starts_with_of_eq _ _ (ap_drawn (still.value));
    only_fresh = λ told. subst (λ files. OnlyFresh (reads d.now) files) (sym (read.only_read told).stays) (only_fresh_stays (reads d.now));
    any_moment =
        λ told. goes_less counts_now (started_from only_now d.now OnlyFresh only_fresh_stays) (read.only_read told).time (read.only_read told).same_images.no_more;
  }
    where
      ap_drawn : e'.now ≡ e.now → drawn e'.now ≡ drawn e.now
      ap_drawn same = subst (λ (n : E). drawn n ≡ drawn e.now) (sym same) refl
