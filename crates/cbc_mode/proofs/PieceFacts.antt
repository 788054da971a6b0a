-- A text decrypted in pieces: each with the block before it as its IV.
use Rattle.std.proofs.Common.{◌≡◌, ℕ, zero, suc, ◌+◌, ◌-◌, ◌*◌, ◌/◌, ◌%◌, ◌<◌, ◌≤◌, List, ◌++◌, length, take, drop, ap, sym, ◌∙◌, refl, subst, arith, append_assoc}
use Rattle.std.proofs.Math.Seq.{take-add}
use borrow.Rule.Slice.PartMut.{put_mid}
use Rattle.std.proofs.lemmas.Slice.{drop-put_mid, take-put_mid}
use Rattle.std.proofs.lemmas.List.{append-nil, drop-append-le, drop-drop, drop_all, length-append, length-drop, length-take-le, take-append-drop, take_all}
use Rattle.aes_block.specs.Aes.{xor_bytes, inv_aes256}
use Rattle.aes_block.specs.Blocks.{block_at}
use Rattle.cbc_mode.specs.Cbc.{block_before, cbc_decrypted, plain_block}
use Rattle.cbc_mode.proofs.BlockFacts.{block_in_front, joined, joined_same, joined_suc}

pub joined_split : (f : ℕ → List ℕ) (m n : ℕ) → joined f (m + n) ≡ joined f m ++ joined (λ j. f (m + j)) n
joined_split f m zero =
    let e : m + 0 ≡ m = omega arith in
    ap (joined f) e ∙ sym (append-nil (joined f m))
joined_split f m (suc n) =
    let e : m + suc n ≡ suc (m + n) = omega arith in
    ap (joined f) e ∙ joined_suc f (m + n) ∙ ap (λ (l : List ℕ). l ++ f (m + n)) (joined_split f m n)
    ∙ append_assoc (joined f m) (joined (λ j. f (m + j)) n) (f (m + n))
    ∙ ap (λ (l : List ℕ). joined f m ++ l) (sym (joined_suc (λ j. f (m + j)) n))

-- ---- a text in two parts, the first of m blocks

module _ (key iv a b : List ℕ) (m : ℕ) (ea : length a ≡ 16 * m) where
  block_ahead : (j : ℕ) → block_at (a ++ b) (m + j) ≡ block_at b j
  block_ahead j =
      let e : 16 * (m + j) ≡ 16 * m + 16 * j = omega arith in
      ap (λ (k : ℕ). take 16 (drop k (a ++ b))) e ∙ ap (take 16) (sym (drop-drop (16 * j) (16 * m) (a ++ b))
      ∙ ap (drop (16 * j)) (drop-append-le (16 * m) a b (omega arith) ∙ ap (λ (l : List ℕ). l ++ b) (drop_all (16 * m) a (omega arith))))

  before_front : (j : ℕ) → j ≤ m → block_before iv (a ++ b) j ≡ block_before iv a j
  before_front zero le = refl
  before_front (suc j) le = block_in_front a b j (omega arith)

  before_ahead : (j : ℕ) → block_before iv (a ++ b) (m + j) ≡ block_before (block_before iv a m) b j
  before_ahead zero =
      let e : m + 0 ≡ m = omega arith in
      ap (block_before iv (a ++ b)) e ∙ before_front m (omega arith)
  before_ahead (suc j) =
      let e : m + suc j ≡ suc (m + j) = omega arith in
      ap (block_before iv (a ++ b)) e ∙ block_ahead j

  decrypted_append : (n : ℕ) → length b ≡ 16 * n
      → cbc_decrypted key iv (a ++ b) ≡ cbc_decrypted key iv a ++ cbc_decrypted key (block_before iv a m) b
  unfolding cbc_decrypted plain_block
  decrypted_append n eb =
      let na : length a / 16 ≡ m = omega arith in
      let nb : length b / 16 ≡ n = omega arith in
      let nab : length (a ++ b) / 16 ≡ m + n = omega (arith, length-append a b) in
      let whole : ℕ → List ℕ = plain_block key iv (a ++ b) in
      let front : ℕ → List ℕ = plain_block key iv a in
      let rest : ℕ → List ℕ = plain_block key (block_before iv a m) b in
      ap (joined whole) nab ∙ joined_split whole m n
      ∙ (λ i. joined_same whole front m
      (λ j lt k. xor_bytes (inv_aes256 key (block_in_front a b j (omega arith) k)) (before_front j (omega arith) k)) i
      ++ joined_same (λ j. whole (m + j)) rest n (λ j lt k. xor_bytes (inv_aes256 key (block_ahead j k)) (before_ahead j k)) i)
      ∙ (λ i. joined front (sym na i) ++ joined rest (sym nb i))

-- ---- what the loop over the pieces keeps: the first s bytes are done, the others are as they were

pub record DecryptedPart (key iv old text before : List ℕ) (s : ℕ) : Type 0 where
  pub head : take s text ≡ cbc_decrypted key iv (take s old)
  pub tail : drop s text ≡ drop s old
  pub chained : before ≡ block_before iv old (s / 16)

pub part_at : (key iv old text before : List ℕ) (s t : ℕ) → s ≡ t → DecryptedPart key iv old text before s → DecryptedPart key iv old text before t
part_at key iv old text before s t e h = subst (DecryptedPart key iv old text before) e h

pub part_none : (key iv text : List ℕ) → DecryptedPart key iv text text iv 0
unfolding cbc_decrypted
part_none key iv text = record {
  head = refl;
  tail = refl;
  chained = refl;
}

later : (old text : List ℕ) (s t : ℕ) → s ≤ t → drop s text ≡ drop s old → drop t text ≡ drop t old
later old text s t le e =
    let i : s + (t - s) ≡ t = omega arith in
    ap (λ (k : ℕ). drop k text) (sym i) ∙ sym (drop-drop (t - s) s text) ∙ ap (drop (t - s)) e ∙ drop-drop (t - s) s old
    ∙ ap (λ (k : ℕ). drop k old) i

-- the piece of an old text from s to e is decrypted in its place
pub part_more : (key iv old text before piece last : List ℕ) (s e : ℕ) → DecryptedPart key iv old text before s
    → s % 16 ≡ 0 → e % 16 ≡ 0 → s < e → e ≤ length old → length text ≡ length old → length piece ≡ e - s
    → piece ≡ cbc_decrypted key before (take (e - s) (drop s text)) → last ≡ block_at text (e / 16 - 1)
    → DecryptedPart key iv old (put_mid s (e - s) text piece) last e
part_more key iv old text before piece last s e h hs he lt le same len is is_last =
    let m : ℕ = s / 16 in
    let a : List ℕ = take s old in
    let b : List ℕ = take (e - s) (drop s old) in
    let la : length a ≡ 16 * m = omega (arith, length-take-le s old (omega arith)) in
    let lb : length b ≡ 16 * ((e - s) / 16) =
    omega (arith, length-drop s old, length-take-le (e - s) (drop s old) (omega (arith, length-drop s old))) in
    let sum : s + (e - s) ≡ e = omega arith in
    let next : e / 16 ≡ suc (e / 16 - 1) = omega arith in
    let chain : before ≡ block_before iv a m =
    h.chained ∙ ap (λ (l : List ℕ). block_before iv l m) (sym (take-append-drop s old)) ∙ before_front key iv a (drop s old) m la m (omega arith) in
    record {
      head = take-put_mid s (e - s) text piece e (omega arith) (omega arith)
          ∙ (λ k. h.head k ++ (is ∙ (λ i. cbc_decrypted key (chain i) (take (e - s) (h.tail i)))) k)
          ∙ sym (decrypted_append key iv a b m la ((e - s) / 16) lb)
          ∙ ap (cbc_decrypted key iv) (sym (take-add s (e - s) old) ∙ ap (λ (k : ℕ). take k old) sum);
      tail = drop-put_mid s (e - s) text piece e (omega arith) (omega arith) len ∙ later old text s e (omega arith) h.tail;
      chained = is_last ∙ ap (take 16) (later old text s (16 * (e / 16 - 1)) (omega arith) h.tail) ∙ ap (block_before iv old) (sym next);
    }

-- the whole text
pub part_all : (key iv old text before : List ℕ) (s : ℕ) → s ≡ length old → length text ≡ length old → DecryptedPart key iv old text before s
    → text ≡ cbc_decrypted key iv old
part_all key iv old text before s e same h =
    sym (take_all s text (omega arith)) ∙ h.head ∙ ap (cbc_decrypted key iv) (take_all s old (omega arith))
