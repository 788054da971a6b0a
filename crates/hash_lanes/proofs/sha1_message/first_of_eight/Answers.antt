use Rattle.std.proofs.Common.{slice_index, sym, refl}
use Rattle.std.proofs.lemmas.List.FromFn.{fill_by_all}
use Rattle.hash_lanes.proofs.sha1_message.first_of_eight.Goals as goal

pub returns : goal.returns
returns c = λ H e long. rw e (sym (fill_by_all (slice_index (H 0)) (H 0) 5 0 long (λ n lt. refl)))
