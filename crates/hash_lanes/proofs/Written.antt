-- Records that are written into an array, each at the front of n bytes.
use Rattle.std.proofs.Common.{◌≡◌, ℕ, suc, ◌+◌, ◌-◌, ◌*◌, ◌<◌, ◌≤◌, List, ◌++◌, length, take, drop, sym, ap, ◌∙◌, arith, inl, inr, length-drop}
use Rattle.std.proofs.Math.Nat.{mul-le-mul_right, suc-mul}
use Rattle.std.proofs.lemmas.Bool.{cases_lt}
use Rattle.std.proofs.lemmas.List.{drop-append-le, drop-take, drop_at, length-take-le, take-append-le, take-take}
use borrow.Rule.Slice.PartMut.{put_mid}

module _ (n s a k : ℕ) (xs ys : List ℕ) (some : s ≤ n) (within : a ≤ length xs) (long : s ≤ length ys) where
  abbrev after : List ℕ
  after = ys ++ drop k (drop a xs)

  before_long : length (take a xs) ≡ a
  before_long = length-take-le a xs within

  -- the first bytes of the record that was written
  pub record_there : take s (drop a (put_mid a k xs ys)) ≡ take s ys
  record_there =
      ap (take s) (drop_at (take a xs) after a before_long) ∙ take-append-le s ys (drop k (drop a xs)) long

  -- those of a record before it
  pub record_before : (m : ℕ) → m + n ≤ a → take s (drop m (put_mid a k xs ys)) ≡ take s (drop m xs)
  record_before m room =
      let on : m + (a - m) ≡ a = omega (arith, room) in
      let cut : drop m (take a xs) ≡ take (a - m) (drop m xs) =
      ap (λ (l : ℕ). drop m (take l xs)) (sym on) ∙ drop-take m (a - m) xs in
      let left : s ≤ length (drop m (take a xs)) = omega (arith, length-drop m (take a xs), before_long, some, room) in
      ap (take s) (drop-append-le m (take a xs) after (omega (arith, before_long, room)))
      ∙ take-append-le s (drop m (take a xs)) after left
      ∙ ap (take s) cut
      ∙ take-take s (a - m) (drop m xs) (omega (arith, some, room))

-- a record more, of which the first s bytes count
pub records_more : (V : ℕ → List ℕ) (n s i a k : ℕ) (xs ys : List ℕ) → a ≡ i * n → s ≤ n → a ≤ length xs → s ≤ length ys
    → ((j : ℕ) → j < i → take s (drop (j * n) xs) ≡ V j) → take s ys ≡ V i
    → (j : ℕ) → j < i + 1 → take s (drop (j * n) (put_mid a k xs ys)) ≡ V j
records_more V n s i a k xs ys place some within long held is j lt = elim (cases_lt j i)
    as (λ _. take s (drop (j * n) (put_mid a k xs ys)) ≡ V j) [
      | inl less ↦
          let next : suc j * n ≤ i * n = mul-le-mul_right n (omega arith) in
          let room : j * n + n ≤ a = omega (arith, next, suc-mul j n, place) in
          record_before n s a k xs ys some within long (j * n) room ∙ held j less
      | inr last ↦
          let e : i ≡ j = omega arith in
          let at : j * n ≡ a = ap (λ (m : ℕ). m * n) (sym e) ∙ sym place in
          ap (λ (m : ℕ). take s (drop m (put_mid a k xs ys))) at ∙ record_there n s a k xs ys some within long ∙ is ∙ ap V e
    ]
