use Rattle.std.proofs.Common.{◌≡◌, ℕ, List, length, arith, ap, sym, ◌∙◌, refl}
use Rattle.aes_block.specs.Aes.{inv_aes256}
use Rattle.aes_block.specs.Blocks.{block_at}
use Rattle.cbc_mode.specs.Halves.{block_bytes}
use Rattle.cbc_mode.proofs.BlockFacts.{block_left, block_of_front}
use Rattle.cbc_mode.proofs.LoopFacts.{alone, decrypted_all, decrypted_more, decrypted_none}
use Rattle.cbc_mode.proofs.piece.decrypt_by_planes.Goals as goal

pub decryption-init : goal.decryption-init
decryption-init c = decrypted_none c.args.aes.now c.args.iv.now c.args.piece.now _ c.told-iv c.at-before.ensures

pub decryption-preserved : goal.decryption-preserved
decryption-preserved c =
    let key : List ℕ = c.args.aes.now in
    let old : List ℕ = c.args.piece.now in
    let i : ℕ = c.decryption.i in
    let encrypted : List ℕ = block_bytes c.at-encrypted.result in
    let given : List ℕ = block_bytes c.at.result in
    let is_old : encrypted ≡ block_at old i = c.at-encrypted.ensures ∙ block_left old c.decryption.piece i c.decryption.invariant.tail in
    let same : given ≡ c.block_of-decrypted.result = c.at.ensures ∙ alone c.block_of-decrypted.result (ap length c.block_of-decrypted.ensures) in
    rw c.put.ensures
    (decrypted_more key c.args.iv.now old c.decryption.piece (block_bytes c.decryption.before) encrypted given _ i
    c.decryption.invariant (omega arith) refl refl c.at-encrypted.ensures
    (same ∙ c.block_of-decrypted.ensures ∙ c.decrypt_blocks-blocks.ensures i (omega arith)
    ∙ ap (inv_aes256 key) (block_of_front old c.copy_from_slice.new.self _ i c.copy_from_slice.ensures.after (omega arith) ∙ sym is_old))
    c.xor.ensures)

pub returns : goal.returns
returns c =
    decrypted_all c.args.aes.now c.args.iv.now c.args.piece.now c.decryption.piece (block_bytes c.decryption.before) c.decryption.i
    (omega arith) (omega arith) (omega arith) c.decryption.invariant
