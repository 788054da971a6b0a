-- A run beside Main that leaves the old files, and then one that may publish.
use Rattle.std.proofs.Common.{◌≡◌, ◌⊎◌, inl, inr, ◌≤◌, ℕ, List, Option, Some, Result, Ok, Err, IfErr, ◌∙◌, ap, sym, subst}
use Rattle.edge_model.specs.Files.{File, Files}
use Rattle.edge_model.specs.Images.{LeavesOnly}
use Rattle.edge_model.specs.Moments.{and_then, at_exit, goes_less, weaker}
use Rattle.edge_model.specs.OnlyRead.{OnlyRead}
use Rattle.fresh_disk.specs.OnlyFresh.{only_fresh_joins, run_joins, run_stays}
use Rattle.fresh_disk.specs.Published.{IsOldOrPublished, IsPublished}
use Rattle.fresh_disk.specs.Place.{TakesPlace, LeavesOld, MayTakePlace}

-- what follows from what is said of an error, of the same answer
err_gives : {T E : Type 0} (P Q : E → Type 0) (r : Result T E) → ((e : E) → P e → Q e) → IfErr r P → IfErr r Q
err_gives P Q (Ok done) gives none = none
err_gives P Q (Err e) gives p = gives e p

pub err_then : {T E : Type 0} {P Q : E → Type 0} (first last : Result T E) → last ≡ first → ((e : E) → P e → Q e) → IfErr first P → IfErr last Q
err_then {P = P} {Q = Q} first last same gives holds = subst (λ r. IfErr r Q) (sym same) (err_gives P Q first gives holds)

module _ {D : Type 0} (reads : D → Files) (images : D → Files → Type 0) (moment : D → ℕ) (since : D → ℕ → Files → Type 0)
    (only_now : (disk : D) (c : Files) → since disk (moment disk) c → images disk c)
    (counts_now : (disk : D) (t : ℕ) (c : Files) → t ≤ moment disk → images disk c → since disk t c) (old mid : D) where
  -- what only reads leaves them
  pub read_leaves : OnlyRead reads images moment since old mid → LeavesOld reads images moment since old mid
  read_leaves read = record {
    stays = record { main = ap (λ (f : Files). f.main) read.stays; journal = ap (λ (f : Files). f.journal) read.stays };
    any_moment = goes_less counts_now (run_stays only_now old) read.time read.same_images.no_more;
  }

  module _ (new : D) (first : LeavesOld reads images moment since old mid) where
    pub old_then : LeavesOld reads images moment since mid new → LeavesOld reads images moment since old new
    old_then next = record {
      stays = only_fresh_joins (reads old) (reads mid) (reads new) first.stays next.stays;
      any_moment = run_joins counts_now first.any_moment next.any_moment;
    }

    pub then_published : (file : Option File) (c : Files) → IsPublished (images mid) file c → IsPublished (images old) file c
    then_published file c at =
        let was = at_exit counts_now first.any_moment at.was at.is_image in
        record { was = was.0; is_image = was.1; main = at.main; journal = at.journal ∙ was.2.journal }

    back : (file : Option File) (c : Files) → IsOldOrPublished (images mid) file c → IsOldOrPublished (images old) file c
    back file c (inl from) = let was = at_exit counts_now first.any_moment from.0 from.1 in inl (was.0, was.1, only_fresh_joins was.0 from.0 c was.2 from.2)
    back file c (inr at) = inr (then_published file c at)

    pub moments_then : (file : Option File) → LeavesOnly moment since mid new (IsOldOrPublished (images mid) file)
        → LeavesOnly moment since old new (IsOldOrPublished (images old) file)
    moments_then file next = and_then (weaker (λ c from. inl from) first.any_moment) (weaker (back file) next)

    module _ (was_new is_new : List ℕ → Type 0) (same : (file : List ℕ) → was_new file → is_new file) where
      may_then : MayTakePlace images moment since was_new mid new → MayTakePlace images moment since is_new old new
      may_then next = record { file = next.file; is = same next.file.bytes next.is; any_moment = moments_then (Some next.file) next.any_moment }

      pub takes_then : TakesPlace reads images moment since was_new mid new → TakesPlace reads images moment since is_new old new
      unfolding may_then
      takes_then next = record {
        may = may_then next.may;
        reads_so = next.reads_so;
        at_exit = λ c now. then_published (Some next.may.file) c (next.at_exit c now);
      }

      pub either_then : LeavesOld reads images moment since mid new ⊎ MayTakePlace images moment since was_new mid new
          → LeavesOld reads images moment since old new ⊎ MayTakePlace images moment since is_new old new
      either_then (inl stays) = inl (old_then stays)
      either_then (inr may) = inr (may_then may)
