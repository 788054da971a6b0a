use Rattle.std.proofs.Common.{ℕ, ◌+◌, ◌*◌, take, drop, refl}
use Rattle.sha1.specs.Sha1.{compress}
use Rattle.hash_lanes.proofs.sha1_block.compress.Goals as goal

pub returns : goal.returns
unfolding compress
returns c = λ H e.
    let B = λ (i : ℕ). take 64 (drop (c.args.at + i * c.args.stride) c.args.text.now) in
    let s1 = c.choose_rounds-v.ensures B H c.first_words-w.ensures e in
    let s2 = c.parity_rounds-v.ensures B H s1 in
    let s3 = c.majority_rounds-v.ensures B H s2 in
    let s4 = c.last_rounds-v.ensures B H s3 in
    rw (e, s4.1) refl
