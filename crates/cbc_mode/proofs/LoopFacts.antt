-- What the loops of both directions keep: the blocks before block i are done, the others are as they were.
use Rattle.std.proofs.Common.{◌≡◌, ℕ, suc, ◌+◌, ◌*◌, ◌/◌, ◌%◌, ◌≤◌, List, ◌++◌, length, take, drop, ap, sym, ◌∙◌, refl, arith}
use Rattle.std.proofs.lemmas.List.{take_all}
use Rattle.aes_block.specs.Aes.{xor_bytes, aes256, inv_aes256}
use Rattle.aes_block.specs.Blocks.{block_at}
use Rattle.cbc_mode.specs.Cbc.{block_before, cbc_decrypted, cbc_encrypted, cipher_block, plain_block}
use Rattle.aes_block.proofs.ByteFacts.{length-xor}
use Rattle.cbc_mode.proofs.BlockFacts.{block_left, head_more, joined, tail_more}

pub record EncryptedUpTo (key iv old text last : List ℕ) (i : ℕ) : Type 0 where
  pub head : take (16 * i) text ≡ joined (λ j. cipher_block key iv old (suc j)) i
  pub tail : drop (16 * i) text ≡ drop (16 * i) old
  pub chained : last ≡ cipher_block key iv old i

pub record DecryptedUpTo (key iv old text last : List ℕ) (i : ℕ) : Type 0 where
  pub head : take (16 * i) text ≡ joined (plain_block key iv old) i
  pub tail : drop (16 * i) text ≡ drop (16 * i) old
  pub chained : last ≡ block_before iv old i

-- a block alone is its first block
pub alone : (block : List ℕ) → length block ≡ 16 → block_at block 0 ≡ block
alone block len = take_all 16 block (omega arith)

pub encrypted_none : (key iv text last : List ℕ) → length iv ≡ 16 → last ≡ block_at iv 0 → EncryptedUpTo key iv text text last 0
unfolding cipher_block
encrypted_none key iv text last len is = record {
  head = refl;
  tail = refl;
  chained = is ∙ alone iv len;
}

pub decrypted_none : (key iv text last : List ℕ) → length iv ≡ 16 → last ≡ block_at iv 0 → DecryptedUpTo key iv text text last 0
decrypted_none key iv text last len is = record {
  head = refl;
  tail = refl;
  chained = is ∙ alone iv len;
}

pub encrypted_more : (key iv old text last plain sum block : List ℕ) (i : ℕ) → EncryptedUpTo key iv old text last i → 16 * i + 16 ≤ length text
    → length block ≡ 16 → plain ≡ block_at text i → sum ≡ xor_bytes plain last → block ≡ aes256 key sum
    → EncryptedUpTo key iv old (take (16 * i) text ++ block ++ drop (16 * i + 16) text) block (i + 1)
unfolding cipher_block
encrypted_more key iv old text last plain sum block i h le len is sum_of done =
    let sum_is : sum ≡ xor_bytes (block_at old i) (cipher_block key iv old i) =
    sum_of ∙ (λ k. xor_bytes ((is ∙ block_left old text i h.tail) k) (h.chained k)) in
    let block_is : block ≡ cipher_block key iv old (suc i) = done ∙ ap (aes256 key) sum_is in
    let e : suc i ≡ i + 1 = omega arith in
    record {
      head = head_more text block i (λ j. cipher_block key iv old (suc j)) le len block_is h.head;
      tail = tail_more old text block i le len h.tail;
      chained = block_is ∙ ap (cipher_block key iv old) e;
    }

pub decrypted_more : (key iv old text last stored block plain : List ℕ) (i : ℕ) → DecryptedUpTo key iv old text last i → 16 * i + 16 ≤ length text
    → length block ≡ 16 → length last ≡ 16 → stored ≡ block_at text i → block ≡ inv_aes256 key stored → plain ≡ xor_bytes block last
    → DecryptedUpTo key iv old (take (16 * i) text ++ plain ++ drop (16 * i + 16) text) stored (i + 1)
unfolding plain_block
decrypted_more key iv old text last stored block plain i h le len before is done sum_is =
    let stored_is : stored ≡ block_at old i = is ∙ block_left old text i h.tail in
    let block_is : block ≡ inv_aes256 key (block_at old i) = done ∙ ap (inv_aes256 key) stored_is in
    let plain_is : plain ≡ plain_block key iv old i = sum_is ∙ (λ k. xor_bytes (block_is k) (h.chained k)) in
    let size : length plain ≡ 16 = ap length sum_is ∙ length-xor block last (len ∙ sym before) ∙ len in
    let e : suc i ≡ i + 1 = omega arith in
    record {
      head = head_more text plain i (plain_block key iv old) le size plain_is h.head;
      tail = tail_more old text plain i le size h.tail;
      chained = stored_is ∙ ap (block_before iv old) e;
    }

pub encrypted_all : (key iv old text last : List ℕ) (i : ℕ) → length text ≡ length old → length old % 16 ≡ 0 → i ≡ length old / 16
    → EncryptedUpTo key iv old text last i → text ≡ cbc_encrypted key iv old
unfolding cbc_encrypted
encrypted_all key iv old text last i same whole e h =
    sym (take_all (16 * i) text (omega arith)) ∙ h.head ∙ ap (joined (λ j. cipher_block key iv old (suc j))) e

pub decrypted_all : (key iv old text last : List ℕ) (i : ℕ) → length text ≡ length old → length old % 16 ≡ 0 → i ≡ length old / 16
    → DecryptedUpTo key iv old text last i → text ≡ cbc_decrypted key iv old
unfolding cbc_decrypted
decrypted_all key iv old text last i same whole e h =
    sym (take_all (16 * i) text (omega arith)) ∙ h.head ∙ ap (joined (plain_block key iv old)) e
