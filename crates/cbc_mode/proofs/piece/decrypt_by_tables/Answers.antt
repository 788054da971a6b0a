use Rattle.std.proofs.Common.{◌≡◌, ℕ, List, arith, ap, ◌∙◌, refl}
use Rattle.aes_block.specs.Aes.{inv_aes256}
use Rattle.cbc_mode.specs.Halves.{block_bytes}
use Rattle.cbc_mode.proofs.LoopFacts.{alone, decrypted_all, decrypted_more, decrypted_none}
use Rattle.cbc_mode.proofs.piece.decrypt_by_tables.Goals as goal

pub decryption-init : goal.decryption-init
decryption-init c = decrypted_none c.args.aes.now c.args.iv.now c.args.piece.now _ c.told-iv c.at-before.ensures

pub decryption-preserved : goal.decryption-preserved
decryption-preserved c =
    let key : List ℕ = c.args.aes.now in
    let stored : List ℕ = block_bytes c.at-stored.result in
    let block = c.decrypt.new.block in
    let given : List ℕ = block_bytes c.at.result in
    let same : given ≡ block = c.at.ensures ∙ alone block c.decrypt.array_long in
    rw c.put.ensures
    (decrypted_more key c.args.iv.now c.args.piece.now c.decryption.piece (block_bytes c.decryption.before) stored given _ c.decryption.i
    c.decryption.invariant (omega arith) refl refl c.at-stored.ensures
    (same ∙ c.decrypt.ensures.value ∙ ap (inv_aes256 key) c.to_bytes-block.ensures) c.xor.ensures)

pub returns : goal.returns
returns c =
    decrypted_all c.args.aes.now c.args.iv.now c.args.piece.now c.decryption.piece (block_bytes c.decryption.before) c.decryption.i
    (omega arith) (omega arith) (omega arith) c.decryption.invariant
