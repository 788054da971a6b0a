-- Records of one length, of whole blocks: each begins with a text, and the block after the text is the text's IV.
use Rattle.std.specs.Prelude.{ℕ, ◌*◌, List, ◌++◌, take, drop}
use Rattle.aes_block.specs.Blocks.{block_at}
use Rattle.cbc_mode.specs.Cbc.{cbc_encrypted}

-- record i of records that have so many blocks each
abbrev pub cbc_text_at : ℕ → List ℕ → ℕ → List ℕ
cbc_text_at blocks records i = take (16 * blocks) (drop (16 * (blocks * i)) records)

-- the record with its text, of so many blocks, encrypted
abbrev pub encrypted_record : List ℕ → ℕ → List ℕ → List ℕ
encrypted_record key blocks whole = cbc_encrypted key (block_at whole blocks) (take (16 * blocks) whole) ++ drop (16 * blocks) whole
