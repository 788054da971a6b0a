use Rattle.std.proofs.Common.{◌≡◌, ℕ, ◌+◌, ◌-◌, ◌*◌, ◌/◌, List, length, ap, ◌∙◌, arith, rules}
use Rattle.std.specs.Prelude.{min}
use Rattle.aes_block.specs.Aes.{IsBlock}
use Rattle.aes_block.specs.Blocks.{block_at}
use Rattle.cbc_mode.specs.Cbc.{IsText, cbc_encrypted}
use Rattle.cbc_mode.proofs.ChainFacts.{round_trip}
use Rattle.cbc_mode.proofs.PieceFacts.{part_all, part_at, part_more, part_none}
use Rattle.cbc_mode.proofs.chain.cbc_decrypt.Goals as goal

pub pieces-init : goal.pieces-init
pieces-init c =
    part_at _ _ _ _ _ 0 (min (1024 * 0) (length c.args.text.now)) (omega arith) (part_none c.args.aes.now c.args.iv.now c.args.text.now)

pub pieces-preserved : goal.pieces-preserved
pieces-preserved c =
    let start : ℕ = 1024 * c.pieces.p in
    let end : ℕ = c.min-end.result in
    let old : List ℕ = c.args.text.now in
    let text : List ℕ = c.pieces.text in
    let piece : List ℕ = c.decrypt_piece.new.piece in
    let to : end ≡ min (start + 1024) (length old) = omega (arith, c.min-end.ensures) in
    let size : length piece ≡ end - start = omega arith in
    let begun = part_at _ _ _ _ _ (min start (length old)) start (omega arith) c.pieces.invariant in
    let is_last : c.to_bytes-last.result ≡ block_at text (end / 16 - 1) = c.to_bytes-last.ensures ∙ c.at.ensures in
    part_at _ _ _ _ _ end (min (1024 * (c.pieces.p + 1)) (length old)) (omega (arith, to))
    (part_more c.args.aes.now c.args.iv.now old text c.pieces.before piece c.to_bytes-last.result start end begun
    (omega arith) (omega (arith, to)) (omega (arith, to)) (omega (arith, to)) (omega arith) size c.decrypt_piece.ensures is_last)

pub returns-clause-value : goal.returns-clause-value
returns-clause-value c =
    part_all c.args.aes.now c.args.iv.now c.args.text.now c.pieces.text c.pieces.before (min (1024 * c.pieces.p) (length c.args.text.now))
    (omega arith) (omega arith) c.pieces.invariant

pub returns-clause-encrypts_to : goal.returns-clause-encrypts_to
returns-clause-encrypts_to c =
    let key : List ℕ = c.args.aes.now in
    let iv : List ℕ = c.args.iv.now in
    let block : IsBlock iv = (c.told-iv, search rules) in
    let text : IsText c.args.text.now = record { whole = c.requires; bytes = search rules } in
    ap (cbc_encrypted key iv) (returns-clause-value c) ∙ (round_trip key iv c.args.text.now c.key_law.ensures block text).encrypts_back
