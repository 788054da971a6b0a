-- Columns of blocks: block j of each record.
use Rattle.std.proofs.Common.{◌≡◌, ℕ, suc, ◌+◌, ◌-◌, ◌*◌, ◌/◌, ◌<◌, ◌≤◌, inl, inr, List, ◌++◌, length, take, drop, ap, sym, ◌∙◌, refl, arith}
use Rattle.std.specs.Prelude.{◌≢◌}
use Rattle.std.proofs.Math.Nat.{mul-le-mul_left, mul-suc}
use Rattle.std.proofs.lemmas.Bool.{cases_lt}
use Rattle.std.proofs.lemmas.List.{drop-drop, length-append, length-drop, length-take-le, take-append-drop}
use Rattle.aes_block.specs.Aes.{xor_bytes, aes256}
use Rattle.aes_block.specs.Blocks.{block_at}
use Rattle.cbc_mode.specs.Cbc.{cbc_encrypted, cipher_block}
use Rattle.cbc_mode.specs.Records.{encrypted_record, cbc_text_at}
use Rattle.cbc_mode.proofs.BlockFacts.{block_behind, block_in_front, joined, joined_same, joined_whole, tail_more}
use Rattle.cbc_mode.proofs.PieceFacts.{joined_split}

-- ---- one block replaced

abbrev pub replaced : List ℕ → List ℕ → ℕ → List ℕ
replaced old block p = take (16 * p) old ++ block ++ drop (16 * p + 16) old

module _ (old block : List ℕ) (p : ℕ) (within : 16 * p + 16 ≤ length old) (size : length block ≡ 16) where
  front : length (take (16 * p) old ++ block) ≡ 16 * p + 16
  front = omega (arith, length-append (take (16 * p) old) block, length-take-le (16 * p) old (omega arith))

  pub length-replaced : length (replaced old block p) ≡ length old
  length-replaced =
      length-append (take (16 * p) old ++ block) (drop (16 * p + 16) old) ∙ omega (arith, front, length-drop (16 * p + 16) old)

  pub there : block_at (replaced old block p) p ≡ block
  there =
      block_in_front (take (16 * p) old ++ block) (drop (16 * p + 16) old) p (omega (arith, front))
      ∙ block_behind (take (16 * p) old) block p (length-take-le (16 * p) old (omega arith)) size

  before : (k : ℕ) → k < p → block_at (replaced old block p) k ≡ block_at old k
  before k lt =
      block_in_front (take (16 * p) old ++ block) (drop (16 * p + 16) old) k (omega (arith, front))
      ∙ block_in_front (take (16 * p) old) block k (omega (arith, length-take-le (16 * p) old (omega arith)))
      ∙ sym (block_in_front (take (16 * p) old) (drop (16 * p) old) k (omega (arith, length-take-le (16 * p) old (omega arith))))
      ∙ ap (λ (l : List ℕ). block_at l k) (take-append-drop (16 * p) old)

  behind : (k : ℕ) → p < k → block_at (replaced old block p) k ≡ block_at old k
  behind k lt =
      let m : ℕ = 16 * (k - (p + 1)) in
      let e : m + 16 * (p + 1) ≡ 16 * k = omega arith in
      let e2 : 16 * (p + 1) + m ≡ 16 * k = omega arith in
      ap (take 16) (ap (λ (n : ℕ). drop n (replaced old block p)) (sym e2) ∙ sym (drop-drop m (16 * (p + 1)) (replaced old block p))
      ∙ ap (drop m) (tail_more old old block p within size refl)
      ∙ drop-drop m (16 * (p + 1)) old ∙ ap (λ (n : ℕ). drop n old) e2)

  pub elsewhere : (k : ℕ) → k ≢ p → block_at (replaced old block p) k ≡ block_at old k
  elsewhere k apart = elim (cases_lt k p) as (λ _. block_at (replaced old block p) k ≡ block_at old k) [
    | inl lt ↦ before k lt
    | inr le ↦ elim (cases_lt p k) as (λ _. block_at (replaced old block p) k ≡ block_at old k) [
      | inl lt ↦ behind k lt
      | inr ge ↦ absurd (apart (omega arith))
    ]
  ]

-- ---- places of blocks

pub in_records : (stride count i j : ℕ) → j < stride → i < count → stride * i + j < stride * count
in_records stride count i j hj hi =
    let h : stride * suc i ≤ stride * count = mul-le-mul_left stride (omega arith) in
    omega (arith, h, mul-suc stride i)

-- two places in different columns differ
pub columns_apart : (stride i j k c : ℕ) → j < stride → c < stride → j ≢ c → stride * i + j ≢ stride * k + c
columns_apart stride i j k c hj hc apart same = elim (cases_lt i k) as (λ _. ⊥) [
  | inl lt ↦
      let h : stride * suc i ≤ stride * k = mul-le-mul_left stride (omega arith) in
      omega (arith, h, mul-suc stride i, same)
  | inr le ↦ elim (cases_lt k i) as (λ _. ⊥) [
    | inl lt ↦
        let h : stride * suc k ≤ stride * i = mul-le-mul_left stride (omega arith) in
        omega (arith, h, mul-suc stride k, same)
    | inr ge ↦
        let e : i ≡ k = omega arith in
        let e2 : stride * i ≡ stride * k = ap (λ (n : ℕ). stride * n) e in
        apart (omega (arith, e2, same))
  ]
]

-- two places in one column differ
pub rows_apart : (stride i k j : ℕ) → j < stride → i < k → stride * i + j ≢ stride * k + j
rows_apart stride i k j hj lt same =
    let h : stride * suc i ≤ stride * k = mul-le-mul_left stride (omega arith) in
    omega (arith, h, mul-suc stride i, same)

-- ---- what the loops over the records keep

-- blocks 0 to i - 1 are f 0, …, and the others as they were
pub record Filled (f : ℕ → List ℕ) (old last : List ℕ) (i : ℕ) : Type 0 where
  pub size : length last ≡ 1024
  pub blocks : (k : ℕ) → k < i → block_at last k ≡ f k
  pub left : (k : ℕ) → i ≤ k → k < 64 → block_at last k ≡ block_at old k

pub filled_none : (f : ℕ → List ℕ) (old : List ℕ) → length old ≡ 1024 → Filled f old old 0
filled_none f old size = record {
  size = size;
  blocks = λ k lt. absurd (omega arith);
  left = λ k le lt. refl;
}

pub filled_more : (f : ℕ → List ℕ) (old last block : List ℕ) (i : ℕ) → Filled f old last i → i < 64 → length block ≡ 16 → block ≡ f i
    → Filled f old (replaced last block i) (i + 1)
filled_more f old last block i h lt size is =
    let within : 16 * i + 16 ≤ length last = omega (arith, h.size) in
    record {
      size = length-replaced last block i within size ∙ h.size;
      blocks = λ k less. elim (cases_lt k i) as (λ _. block_at (replaced last block i) k ≡ f k) [
        | inl a ↦ elsewhere last block i within size k (λ e. omega (arith, e)) ∙ h.blocks k a
        | inr b ↦
            let e : i ≡ k = omega arith in
            ap (block_at (replaced last block i)) (sym e) ∙ there last block i within size ∙ is ∙ ap f e
      ];
      left = λ k le most. elsewhere last block i within size k (λ e. omega (arith, e)) ∙ h.left k (omega arith) most;
    }

-- in records 0 to i - 1 block j is f 0, …, and all else is as it was
pub record ColumnUpTo (f : ℕ → List ℕ) (stride j : ℕ) (old records : List ℕ) (i : ℕ) : Type 0 where
  pub size : length records ≡ length old
  pub put : (k : ℕ) → k < i → block_at records (stride * k + j) ≡ f k
  pub others : (q : ℕ) → 16 * q + 16 ≤ length old → ((k : ℕ) → k < i → q ≢ stride * k + j) → block_at records q ≡ block_at old q

pub column_none : (f : ℕ → List ℕ) (stride j : ℕ) (old : List ℕ) → ColumnUpTo f stride j old old 0
column_none f stride j old = record {
  size = refl;
  put = λ k lt. absurd (omega arith);
  others = λ q le apart. refl;
}

pub column_more : (f : ℕ → List ℕ) (stride j : ℕ) (old records block : List ℕ) (i : ℕ) → ColumnUpTo f stride j old records i
    → j < stride → 16 * (stride * i + j) + 16 ≤ length records → length block ≡ 16 → block ≡ f i
    → ColumnUpTo f stride j old (replaced records block (stride * i + j)) (i + 1)
column_more f stride j old records block i h hj within size is =
    let p : ℕ = stride * i + j in
    record {
      size = length-replaced records block p within size ∙ h.size;
      put = λ k less. elim (cases_lt k i) as (λ _. block_at (replaced records block p) (stride * k + j) ≡ f k) [
        | inl a ↦ elsewhere records block p within size (stride * k + j) (rows_apart stride k i j hj a) ∙ h.put k a
        | inr b ↦
            let e : i ≡ k = omega arith in
            ap (λ (n : ℕ). block_at (replaced records block p) (stride * n + j)) (sym e) ∙ there records block p within size ∙ is ∙ ap f e
      ];
      others = λ q le apart. elsewhere records block p within size q (apart i (omega arith)) ∙ h.others q le (λ k lt. apart k (omega arith));
    }

-- ---- what the loop over the columns keeps

-- the text of record i
abbrev pub text_of : ℕ → ℕ → List ℕ → ℕ → List ℕ
text_of text stride records i = take (16 * text) (cbc_text_at stride records i)

-- its IV
abbrev pub iv_of : ℕ → ℕ → List ℕ → ℕ → List ℕ
iv_of text stride records i = block_at (cbc_text_at stride records i) text

-- the columns before column j are encrypted, the others are as they were, and `last` has what is added next
pub record ColumnsUpTo (key : List ℕ) (text stride count : ℕ) (old records last : List ℕ) (j : ℕ) : Type 0 where
  pub size : length records ≡ length old
  pub room : length last ≡ 1024
  pub done : (i k : ℕ) → i < count → k < j
      → block_at records (stride * i + k) ≡ cipher_block key (iv_of text stride old i) (text_of text stride old i) (suc k)
  pub left : (i k : ℕ) → i < count → j ≤ k → k < stride → block_at records (stride * i + k) ≡ block_at old (stride * i + k)
  pub chained : (i : ℕ) → i < count → block_at last i ≡ cipher_block key (iv_of text stride old i) (text_of text stride old i) j

-- block j of a part of a list
block_in_part : (whole : List ℕ) (at n j : ℕ) → j < n → 16 * (at + n) ≤ length whole
    → block_at (take (16 * n) (drop (16 * at) whole)) j ≡ block_at whole (at + j)
block_in_part whole at n j lt le =
    let part : List ℕ = drop (16 * at) whole in
    let long : length part ≡ length whole - 16 * at = length-drop (16 * at) whole in
    let e : 16 * at + 16 * j ≡ 16 * (at + j) = omega arith in
    sym (block_in_front (take (16 * n) part) (drop (16 * n) part) j (omega (arith, long, length-take-le (16 * n) part (omega (arith, long)))))
    ∙ ap (λ (l : List ℕ). block_at l j) (take-append-drop (16 * n) part)
    ∙ ap (take 16) (drop-drop (16 * j) (16 * at) whole ∙ ap (λ (m : ℕ). drop m whole) e)

module _ (stride count : ℕ) (records : List ℕ) (size : length records ≡ 16 * (stride * count)) (i : ℕ) (hi : i < count) where
  within_records : 16 * (stride * i + stride) ≤ length records
  within_records =
      let h : stride * suc i ≤ stride * count = mul-le-mul_left stride (omega arith) in
      omega (arith, h, mul-suc stride i)

  pub length-record : length (cbc_text_at stride records i) ≡ 16 * stride
  length-record = length-take-le (16 * stride) (drop (16 * (stride * i)) records)
      (omega (arith, length-drop (16 * (stride * i)) records, within_records))

  pub block_of_record : (j : ℕ) → j < stride → block_at (cbc_text_at stride records i) j ≡ block_at records (stride * i + j)
  block_of_record j lt = block_in_part records (stride * i) stride j lt within_records

  pub block_of_text : (text j : ℕ) → text ≤ stride → j < text → block_at (text_of text stride records i) j ≡ block_at records (stride * i + j)
  block_of_text text j le lt =
      let whole : List ℕ = cbc_text_at stride records i in
      sym (block_in_front (take (16 * text) whole) (drop (16 * text) whole) j
      (omega (arith, length-record, length-take-le (16 * text) whole (omega (arith, length-record)))))
      ∙ ap (λ (l : List ℕ). block_at l j) (take-append-drop (16 * text) whole)
      ∙ block_of_record j (omega arith)

  block_of_rest : (text j : ℕ) → text + j < stride → block_at (drop (16 * text) (cbc_text_at stride records i)) j ≡ block_at records (stride * i + (text + j))
  block_of_rest text j lt =
      let e : 16 * text + 16 * j ≡ 16 * (text + j) = omega arith in
      ap (take 16) (drop-drop (16 * j) (16 * text) (cbc_text_at stride records i) ∙ ap (λ (m : ℕ). drop m (cbc_text_at stride records i)) e)
      ∙ block_of_record (text + j) lt

pub columns_none : (key : List ℕ) (text stride count : ℕ) (old last : List ℕ) → length old ≡ 16 * (stride * count) → text < stride
    → length last ≡ 1024 → ((i : ℕ) → i < count → block_at last i ≡ block_at old (stride * i + text))
    → ColumnsUpTo key text stride count old old last 0
unfolding cipher_block
columns_none key text stride count old last size iv room first = record {
  size = refl;
  room = room;
  done = λ i k hi lt. absurd (omega arith);
  left = λ i k hi le lt. refl;
  chained = λ i hi. first i hi ∙ sym (block_of_record stride count old size i hi text iv);
}

pub columns_more : (key : List ℕ) (text stride count : ℕ) (old records last sums again next : List ℕ) (f : ℕ → List ℕ) (j : ℕ)
    → length old ≡ 16 * (stride * count) → j < text → text < stride
    → ColumnsUpTo key text stride count old records last j
    → ((i : ℕ) → i < count → block_at sums i ≡ xor_bytes (block_at records (stride * i + j)) (block_at last i))
    → ((i : ℕ) → i < count → f i ≡ aes256 key (block_at sums i))
    → length again ≡ length records → length next ≡ 1024
    → ((i : ℕ) → i < count → block_at next i ≡ f i)
    → ((i : ℕ) → i < count → block_at again (stride * i + j) ≡ f i)
    → ((k : ℕ) → 16 * k + 16 ≤ length records → ((i : ℕ) → i < count → k ≢ stride * i + j) → block_at again k ≡ block_at records k)
    → ColumnsUpTo key text stride count old again next (j + 1)
unfolding cipher_block
columns_more key text stride count old records last sums again next f j size lt iv h sum_of made same room kept put others =
    let block_is : (i : ℕ) → i < count → f i ≡ cipher_block key (iv_of text stride old i) (text_of text stride old i) (suc j) =
    λ i hi. made i hi ∙ ap (aes256 key) (sum_of i hi
    ∙ (λ n. xor_bytes ((h.left i j hi (omega arith) (omega arith) ∙ sym (block_of_text stride count old size i hi text j (omega arith) lt)) n) (h.chained i hi n))) in
    let e : suc j ≡ j + 1 = omega arith in
    record {
      size = same ∙ h.size;
      room = room;
      done = λ i k hi less. elim (cases_lt k j) as (λ _. block_at again (stride * i + k)
          ≡ cipher_block key (iv_of text stride old i) (text_of text stride old i) (suc k)) [
            | inl a ↦
                others (stride * i + k) (omega (arith, h.size, in_records stride count i k (omega arith) hi))
                (λ m hm. columns_apart stride i k m j (omega arith) (omega arith) (λ q. omega (arith, q)))
                ∙ h.done i k hi a
            | inr b ↦
                let s : j ≡ k = omega arith in
                ap (λ (n : ℕ). block_at again (stride * i + n)) (sym s) ∙ put i hi ∙ block_is i hi
                ∙ ap (λ (n : ℕ). cipher_block key (iv_of text stride old i) (text_of text stride old i) (suc n)) s
          ];
      left = λ i k hi le less.
          others (stride * i + k) (omega (arith, h.size, in_records stride count i k less hi))
          (λ m hm. columns_apart stride i k m j less (omega arith) (λ q. omega (arith, q)))
          ∙ h.left i k hi (omega arith) less;
      chained = λ i hi. kept i hi ∙ block_is i hi ∙ ap (cipher_block key (iv_of text stride old i) (text_of text stride old i)) e;
    }

pub columns_all : (key : List ℕ) (text stride count : ℕ) (old records last : List ℕ) (j : ℕ) → length old ≡ 16 * (stride * count) → text < stride
    → j ≡ text → ColumnsUpTo key text stride count old records last j
    → (i : ℕ) → i < count → cbc_text_at stride records i ≡ encrypted_record key text (cbc_text_at stride old i)
unfolding cbc_encrypted
columns_all key text stride count old records last j size iv end h i hi =
    let size2 : length records ≡ 16 * (stride * count) = h.size ∙ size in
    let long : length (cbc_text_at stride old i) ≡ 16 * stride = length-record stride count old size i hi in
    let long2 : length (cbc_text_at stride records i) ≡ 16 * stride = length-record stride count records size2 i hi in
    let n : ℕ = stride - text in
    let e : text + n ≡ stride = omega arith in
    let own : ℕ → List ℕ = block_at (cbc_text_at stride records i) in
    let made : ℕ → List ℕ = λ k. cipher_block key (iv_of text stride old i) (text_of text stride old i) (suc k) in
    let rest : List ℕ = drop (16 * text) (cbc_text_at stride old i) in
    let blocks : length (text_of text stride old i) / 16 ≡ text = omega
    (arith, long, length-take-le (16 * text) (cbc_text_at stride old i) (omega (arith, long))) in
    sym (joined_whole (cbc_text_at stride records i) (text + n) (omega (arith, long2)))
    ∙ joined_split own text n
    ∙ (λ q. (joined_same own made text (λ k lt. block_of_record stride count records size2 i hi k (omega arith) ∙ h.done i k hi (omega arith))
    ∙ ap (joined made) (sym blocks)) q
    ++ (joined_same (λ k. own (text + k)) (block_at rest) n (λ k lt.
    block_of_record stride count records size2 i hi (text + k) (omega arith)
    ∙ h.left i (text + k) hi (omega arith) (omega arith)
    ∙ sym (block_of_rest stride count old size i hi text k (omega arith)))
    ∙ joined_whole rest n (omega (arith, long, length-drop (16 * text) (cbc_text_at stride old i)))) q)
