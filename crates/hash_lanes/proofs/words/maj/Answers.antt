use Rattle.std.proofs.Common.{refl}
use Rattle.hash_lanes.proofs.words.maj.Goals as goal

pub returns : goal.returns
returns c = λ f g h ex ey ez. rw (ex, ey, ez) refl
