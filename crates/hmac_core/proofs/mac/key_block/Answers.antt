use Rattle.std.proofs.Common.{◌<◌, ◌≤◌, length, sym, ◌∙◌, arith}
use Rattle.hmac_core.proofs.KeyBlock.{key_block-long, key_block-short}
use Rattle.hmac_core.proofs.mac.key_block.Goals as goal

pub returns-then-key-BLOCK : goal.returns-then-key-BLOCK
returns-then-key-BLOCK g c =
    let law = g.met.H.PageHash in
    let hash = g.H.PageHash.hash in
    let hashed = c.finish.ensures _ (c.update.ensures _ c.start-hasher.ensures) in
    let long : g.H.PageHash.BLOCK < length c.args.key.now = omega arith in
    let sized = law.hash_length c.args.key.now ∙ sym c.OUT.ensures in
    let fits : c.OUT.result ≤ g.H.PageHash.BLOCK = omega (arith, law.hash_within_block) in
    key_block-long hash g.H.PageHash.BLOCK c.OUT.result 128 c.args.key.now c.finish.new.out
    long hashed sized fits law.block_within_128

pub returns-else-key-BLOCK : goal.returns-else-key-BLOCK
returns-else-key-BLOCK g c =
    let law = g.met.H.PageHash in
    let short : length c.args.key.now ≤ g.H.PageHash.BLOCK = omega arith in
    key_block-short g.H.PageHash.hash g.H.PageHash.BLOCK 128 c.args.key.now _
    short c.copy_from_slice.ensures.after law.block_within_128
