use Rattle.std.proofs.Common.{refl}
use Rattle.hash_lanes.proofs.words.small_sigma1.Goals as goal

pub returns : goal.returns
returns c = λ f e. rw (c.rotate_right.ensures f e, c.rotate_right-2.ensures f e, e) refl
