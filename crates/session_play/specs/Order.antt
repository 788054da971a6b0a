-- What follows from the order of the steps: behind an answer no image is of an earlier step.
use Rattle.std.specs.Prelude.{◌≤◌, List, ◌++◌, All}
use Rattle.edge_model.specs.Images.{Each}
use Rattle.cipher_profile.specs.declared.profile.Profile.{Profile}
use Rattle.session_hall.specs.Machine.{HallState}
use Rattle.session_play.specs.Moments.{DiskTold, HasMain, IsOnWay, state_behind}
use Rattle.session_play.specs.Play.{GoesThrough, IsPrinted}
use Rattle.session_play.specs.Reply.{Reply}

-- Behind the first of the replies stands a disk of the run: whatever a crash leaves from its moment to the end is on the way of the others.
pub record LeavesTheRest {D : Type 0} (told : DiskTold D) (layout : Profile) (old : HallState) (rest : List Reply) (from to : D) : Type 0 where
  pub behind : D
  pub later : told.moment from ≤ told.moment behind
  pub within : told.moment behind ≤ told.moment to
  pub each : Each (told.since to (told.moment behind)) (IsOnWay layout old rest)

abbrev pub KeepsOrder : {D : Type 0} → DiskTold D → Type 0
KeepsOrder {D} told = (layout : Profile) (old : HallState) (first rest : List Reply) (from to : D) → Each (told.images from) (HasMain old.file) → All IsPrinted first
    → GoesThrough told layout old (first ++ rest) from to → LeavesTheRest told layout (state_behind old first) rest from to
