use Rattle.std.proofs.Common.{ℕ, List, [], ap, ◌∙◌, append-nil, refl}
use Rattle.sha2.specs.Sha512.{digest_bytes, final_hash, hash_after, initial_hash_512, sha512}
use Rattle.hash_lanes.specs.Messages.{message, piece}
use Rattle.hash_lanes.proofs.message.sha512_of_four.Goals as goal

pub returns : goal.returns
unfolding sha512 hash_after
returns c = λ i lt.
    let text = c.args.text.now in
    let hashed = c.finished.ensures [] refl refl in
    c.digests.ensures (λ k. final_hash initial_hash_512 (message text c.args.stride c.args.len [] 0 k)) hashed i lt
    ∙ ap (λ (m : List ℕ). digest_bytes (final_hash initial_hash_512 m) 8) (append-nil (piece text c.args.stride c.args.len i))
