use Rattle.std.proofs.Common.{refl}
use Rattle.hash_lanes.proofs.sha1_words.maj.Goals as goal

pub returns : goal.returns
returns c = λ f g h ex ey ez. rw (ex, ey, ez) refl
