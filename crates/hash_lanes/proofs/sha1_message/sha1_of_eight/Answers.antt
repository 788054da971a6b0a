use Rattle.std.proofs.Common.{ℕ, List, [], ap, ◌∙◌, append-nil, refl}
use Rattle.sha1.specs.Sha1.{digest_bytes, hash_after, sha1}
use Rattle.hash_lanes.specs.Messages.{message, piece}
use Rattle.hash_lanes.specs.Sha1Lanes.{final_hash}
use Rattle.hash_lanes.proofs.sha1_message.sha1_of_eight.Goals as goal

pub returns : goal.returns
unfolding sha1 hash_after
returns c = λ i lt.
    let text = c.args.text.now in
    let hashed = c.finished.ensures [] refl refl in
    c.digests.ensures (λ k. final_hash (message text c.args.stride c.args.len [] 0 k)) hashed i lt
    ∙ ap (λ (m : List ℕ). digest_bytes (final_hash m) 5) (append-nil (piece text c.args.stride c.args.len i))
