-- Marks: one bit set, every other bit as it was.
use Rattle.std.proofs.Common.{◌≡◌, ℕ, zero, suc, ◌+◌, ◌*◌, ◌/◌, ◌%◌, ◌^◌, ◌<◌, ◌≤◌, Bool, true, false, List, [], ◌∷◌, ◌==◌, length, slice_index, slice_index_or, slice_set, replicate, if◌then◌else◌, arith, rules, w8, refl, ap, sym, subst, ◌∙◌}
use Rattle.std.specs.Int.{bit_at}
use Rattle.std.specs.Prelude.{bit_or, nat_lt}
use Rattle.std.proofs.lemmas.Bool.{eqb-true, eqb-false, ltb-true, ltb-false}
use Rattle.std.proofs.lemmas.Grind.{common_steps}
use Rattle.std.proofs.lemmas.List.{get_or-set_same, get_or-set_other, get_or-replicate, get_or_past, length-replicate}
use Rattle.std.proofs.lemmas.List.Sums.{sum_by-cons}
use Rattle.std.proofs.lemmas.Nat.Bits.{bit_at_set_same, bit_at_set_other, bit_at-zero}
use Rattle.std.proofs.Math.Path.{fun_ext}
use Rattle.db_format.specs.Pages.{also, nothing}
use Rattle.db_format.specs.Seen.{bit_of, bits_from, marked, open_count}
use Rattle.db_format.specs.declared.seen.Seen.TheInside.{Inside}

pub length-bits : (bytes : List ℕ) (at more : ℕ) → length (bits_from bytes at more) ≡ more
length-bits bytes at zero = refl
length-bits bytes at (suc more) = ap suc (length-bits bytes (at + 1) more)

pub get-bits : (bytes : List ℕ) (at more i : ℕ) → i < more → slice_index_or (bits_from bytes at more) i false ≡ bit_of bytes (at + i)
get-bits bytes at zero i h = absurd (omega arith)
get-bits bytes at (suc more) zero h = let e : at + 0 ≡ at = omega arith in rw e refl
get-bits bytes at (suc more) (suc i) h = let e : at + suc i ≡ at + 1 + i = omega arith in rw e (get-bits bytes (at + 1) more i (omega arith))

module _ (old new : List ℕ) where
  same-bits : (at more : ℕ) → ((m : ℕ) → at ≤ m → bit_of new m ≡ bit_of old m) → bits_from new at more ≡ bits_from old at more
  same-bits at zero same = refl
  same-bits at (suc more) same =
      ap (λ b. b ∷ bits_from new (at + 1) more) (same at (omega arith))
      ∙ ap (λ l. bit_of old at ∷ l) (same-bits (at + 1) more (λ m above. same m (omega arith)))

  pub set-bits : (at more i : ℕ) → i < more → bit_of new (at + i) ≡ true → ((m : ℕ) → (m ≡ at + i → ⊥) → bit_of new m ≡ bit_of old m)
      → bits_from new at more ≡ slice_set (bits_from old at more) i true
  set-bits at zero i h here same = absurd (omega arith)
  set-bits at (suc more) zero h here same =
      let e : at + 0 ≡ at = omega arith in
      let first : bit_of new at ≡ true = subst (λ k. bit_of new k ≡ true) e here in
      ap (λ b. b ∷ bits_from new (at + 1) more) first
      ∙ ap (λ l. true ∷ l) (same-bits (at + 1) more (λ m above. same m (λ z. let z' : m ≡ at + 0 = z in omega arith)))
  set-bits at (suc more) (suc i) h here same =
      let e : at + suc i ≡ at + 1 + i = omega arith in
      ap (λ b. b ∷ bits_from new (at + 1) more) (same at (λ z. let z' : at ≡ at + suc i = z in omega arith))
      ∙ ap (λ l. bit_of old at ∷ l)
      (set-bits (at + 1) more i (omega arith) (subst (λ k. bit_of new k ≡ true) e here) (λ m other. same m (λ z. other (z ∙ e))))

-- the byte of bit n with that bit set
abbrev put : List ℕ → ℕ → List ℕ
put bytes n = slice_set bytes (n / 8) (bit_or (slice_index bytes (n / 8)) (1 * 2 ^ (n % 8) % 2 ^ 8))

pub put_here : (bytes : List ℕ) (n : ℕ) → n / 8 < length bytes → bit_of (put bytes n) n ≡ true
put_here bytes n h =
    let small : n % 8 < 8 = omega arith in
    ap (λ b. bit_at b (n % 8) == 1) (get_or-set_same bytes (n / 8) (bit_or (slice_index bytes (n / 8)) (1 * 2 ^ (n % 8) % 2 ^ 8)) 0 h)
    ∙ ap (λ v. v == 1) (bit_at_set_same w8 (slice_index bytes (n / 8)) (n % 8) small)

others_by : (bytes : List ℕ) (n m : ℕ) (b : Bool) → (m / 8 == n / 8) ≡ b → n / 8 < length bytes → (m ≡ n → ⊥)
    → bit_of (put bytes n) m ≡ bit_of bytes m
others_by bytes n m true e h other =
    let same : m / 8 ≡ n / 8 = eqb-true _ _ e in
    let apart : m % 8 ≡ n % 8 → ⊥ = λ z. other (omega arith) in
    let small : n % 8 < 8 = omega arith in
    ap (λ k. bit_at (slice_index (put bytes n) k) (m % 8) == 1) same
    ∙ ap (λ b. bit_at b (m % 8) == 1) (get_or-set_same bytes (n / 8) (bit_or (slice_index bytes (n / 8)) (1 * 2 ^ (n % 8) % 2 ^ 8)) 0 h)
    ∙ ap (λ v. v == 1) (bit_at_set_other w8 (slice_index bytes (n / 8)) (n % 8) small (m % 8) apart)
    ∙ ap (λ k. bit_at (slice_index bytes k) (m % 8) == 1) (sym same)
others_by bytes n m false e h other =
    ap (λ b. bit_at b (m % 8) == 1)
    (get_or-set_other bytes (n / 8) (m / 8) (bit_or (slice_index bytes (n / 8)) (1 * 2 ^ (n % 8) % 2 ^ 8)) 0 (λ z. eqb-false _ _ e z))

pub put_others : (bytes : List ℕ) (n m : ℕ) → n / 8 < length bytes → (m ≡ n → ⊥) → bit_of (put bytes n) m ≡ bit_of bytes m
put_others bytes n m h other = others_by bytes n m _ refl h other

-- marks: one set
pub marked_set : (marks : List Bool) (n : ℕ) → n < length marks → marked (slice_set marks n true) ≡ also (n ∷ []) (marked marks)
marked_set marks n h = search (rules, common_steps)

pub open_set : (marks : List Bool) (n : ℕ) → n < length marks → marked marks n ≡ false → open_count (slice_set marks n true) + 1 ≡ open_count marks
open_set [] n h fresh = absurd (omega arith)
open_set (b ∷ marks) zero h fresh =
    let is : b ≡ false = fresh in
    let one : open_count (true ∷ marks) ≡ 0 + open_count marks = sum_by-cons _ true marks in
    let two : open_count (false ∷ marks) ≡ 1 + open_count marks = sum_by-cons _ false marks in
    rw is (omega arith)
open_set (b ∷ marks) (suc n) h fresh =
    let rest : open_count (slice_set marks n true) + 1 ≡ open_count marks = open_set marks n (omega arith) fresh in
    let one : open_count (b ∷ slice_set marks n true) ≡ (if b then 0 else 1) + open_count (slice_set marks n true) = sum_by-cons _ b (slice_set marks n true) in
    let two : open_count (b ∷ marks) ≡ (if b then 0 else 1) + open_count marks = sum_by-cons _ b marks in
    omega arith

-- marks whose fields are these
module _ (inside : Inside) (now : List Bool) (view : bits_from inside.bytes.items 0 inside.size ≡ now) (n : ℕ) where
  size_is : length now ≡ inside.size
  size_is = sym (ap length view) ∙ length-bits inside.bytes.items 0 inside.size

  pub within : n < length now → n < inside.size
  within less = let size : length now ≡ inside.size = size_is in omega arith

  pub room : (bytes : List ℕ) → bytes ≡ inside.bytes.items → n < inside.size → inside.size ≤ 8 * length inside.bytes.items
      → n / 8 < length bytes
  room bytes same less enough = let e : length bytes ≡ length inside.bytes.items = ap length same in omega arith

  pub has_bit : (bytes : List ℕ) → bytes ≡ inside.bytes.items → n < inside.size → bit_of bytes n ≡ marked now n
  has_bit bytes same less =
      let z : 0 + n ≡ n = omega arith in
      ap (λ b. bit_of b n) same ∙ ap (bit_of inside.bytes.items) (sym z)
      ∙ sym (get-bits inside.bytes.items 0 inside.size n less) ∙ ap (λ l. marked l n) view

  pub past : inside.size ≤ n → marked now n ≡ false
  past behind = get_or_past now n false (let size : length now ≡ inside.size = size_is in omega arith)

  pub set_view : (bytes new : List ℕ) → bytes ≡ inside.bytes.items → n < inside.size → bit_of new n ≡ true
      → ((m : ℕ) → (m ≡ n → ⊥) → bit_of new m ≡ bit_of bytes m) → bits_from new 0 inside.size ≡ slice_set now n true
  set_view bytes new same less here others =
      let z : 0 + n ≡ n = omega arith in
      set-bits inside.bytes.items new 0 inside.size n less (ap (bit_of new) z ∙ here)
      (λ m other. others m (λ e. other (e ∙ sym z)) ∙ ap (λ b. bit_of b m) same)
      ∙ ap (λ l. slice_set l n true) view

-- no bit is set
zero_at : (k i : ℕ) (b : Bool) → nat_lt i k ≡ b → slice_index (replicate k 0) i ≡ 0
zero_at k i true e = get_or-replicate k i 0 0 (ltb-true i k e)
zero_at k i false e = let past : k ≤ i = ltb-false i k e in get_or_past (replicate k 0) i 0 (subst (λ m. m ≤ i) (sym (length-replicate k 0)) past)

none_at : (items : List ℕ) (k size n : ℕ) (b : Bool) → items ≡ replicate k 0 → nat_lt n size ≡ b → marked (bits_from items 0 size) n ≡ false
none_at items k size n true same e =
    get-bits items 0 size n (ltb-true n size e) ∙ ap (λ l. bit_of l (0 + n)) same
    ∙ ap (λ v. bit_at v ((0 + n) % 8) == 1) (zero_at k ((0 + n) / 8) _ refl) ∙ ap (λ v. v == 1) (bit_at-zero ((0 + n) % 8))
none_at items k size n false same e =
    let past : size ≤ n = ltb-false n size e in
    get_or_past (bits_from items 0 size) n false (let l : length (bits_from items 0 size) ≡ size = length-bits items 0 size in omega arith)

pub none_set : (items : List ℕ) (k size : ℕ) → items ≡ replicate k 0 → marked (bits_from items 0 size) ≡ nothing
none_set items k size same = fun_ext (λ n. none_at items k size n _ same refl)
