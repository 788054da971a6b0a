-- The steps of a script come in order at every moment of its disk.
use Rattle.std.proofs.Common.{◌⊎◌, ◌≤◌, ℕ, List, [], ◌∷◌, ◌++◌, inl, inr, ⊎_elim, sym, subst, arith}
use Rattle.std.specs.Prelude.{All}
use Rattle.std.proofs.lemmas.List.Elements.{All-head, All-tail}
use Rattle.edge_model.specs.Files.{Files}
use Rattle.edge_model.specs.Images.{Each}
use Rattle.cipher_profile.specs.declared.profile.Profile.{Profile}
use Rattle.session_hall.specs.Machine.{HallState}
use Rattle.session_play.specs.Moments.{DiskTold, HasMain, IsOnWay, StandsAs, state_behind}
use Rattle.session_play.specs.Order.{KeepsOrder, LeavesTheRest}
use Rattle.session_play.specs.Play.{GoesThrough, IsPrinted}
use Rattle.session_play.specs.Reply.{Reply}
use Rattle.session_play.proofs.Stopping.{settled_main}

module _ {D : Type 0} (told : DiskTold D) (only_now : (disk : D) (c : Files) → told.since disk (told.moment disk) c → told.images disk c) (layout : Profile) where
  -- time goes on through the steps
  later : (old : HallState) (replies : List Reply) (from to : D) → GoesThrough told layout old replies from to → told.moment from ≤ told.moment to
  later old [] from to way = subst (λ (d : D). told.moment from ≤ told.moment d) (sym way) (omega arith)
  later old (reply ∷ replies) from to way =
      let first : told.moment from ≤ told.moment way.0 = way.1.later in
      let next = later reply.after replies way.0 to way.3 in
      omega (arith, first, next)

  -- what a crash may have left since a moment before the steps was left before them, or is on their way
  since_before : (old : HallState) (replies : List Reply) (from to : D) → GoesThrough told layout old replies from to
      → (t : ℕ) (c : Files) → t ≤ told.moment from → told.since to t c → told.since from t c ⊎ IsOnWay layout old replies c
  since_before old [] from to way t c le left = inl (subst (λ (d : D). told.since d t c) way left)
  since_before old (reply ∷ replies) from to way t c le left =
      let first : told.moment from ≤ told.moment way.0 = way.1.later in
      ⊎_elim (λ was. ⊎_elim (λ before. inl before) (λ now. inr (inl now)) (way.1.before t c le was)) (λ on. inr (inr on))
      (since_before reply.after replies way.0 to way.3 t c (omega (arith, le, first)) left)

  -- since their start it is on their way
  on_way : (old : HallState) (replies : List Reply) (from to : D) → Each (told.images from) (HasMain old.file) → GoesThrough told layout old replies from to
      → Each (told.since to (told.moment from)) (IsOnWay layout old replies)
  on_way old [] from to stands way c left = stands c (only_now from c (subst (λ (d : D). told.since d (told.moment from) c) way left))
  on_way old (reply ∷ replies) from to stands way c left =
      ⊎_elim (λ was. inl (way.1.each c was)) (λ on. inr on) (since_before reply.after replies way.0 to way.3 (told.moment from) c way.1.later left)

  -- Main stands alone as the machine has it
  has_main : (file : List ℕ) (disk : D) → StandsAs file (told.reads disk) (told.images disk) → Each (told.images disk) (HasMain file)
  has_main file disk stands = subst (λ (f : List ℕ). Each (told.images disk) (HasMain f)) stands.main (settled_main (told.reads disk) (told.images disk) stands.settled)

  behind : (old : HallState) (first rest : List Reply) (from to : D) → Each (told.images from) (HasMain old.file) → All IsPrinted first
      → GoesThrough told layout old (first ++ rest) from to → LeavesTheRest told layout (state_behind old first) rest from to
  behind old [] rest from to stands printed way =
      record { behind = from; later = omega arith; within = later old rest from to way; each = on_way old rest from to stands way }
  behind old (reply ∷ first) rest from to stands printed way =
      let next = way.0 in
      let here : IsPrinted reply = All-head IsPrinted reply first printed in
      let found = behind reply.after first rest next to (has_main reply.after.file next (way.2 here)) (All-tail IsPrinted reply first printed) way.3 in
      let time : told.moment from ≤ told.moment next = way.1.later in
      record { behind = found.behind; later = omega (arith, time, found.later); within = found.within; each = found.each }

pub keeps_order : {D : Type 0} (told : DiskTold D) → ((disk : D) (c : Files) → told.since disk (told.moment disk) c → told.images disk c) → KeepsOrder told
keeps_order told only_now layout = behind told only_now layout
