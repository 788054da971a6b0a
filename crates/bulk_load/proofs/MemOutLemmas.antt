-- A page in memory is written over, and the others stay.
use Rattle.std.proofs.Common.{◌≡◌, ◌≢◌, ◌≤◌, ◌<◌, ℕ, ◌+◌, ◌-◌, ◌*◌, ◌==◌, Bool, true, false, List, [], ◌++◌, length, take, drop, inl, inr, refl, ap, sym, ◌∙◌, arith, length-append, length-drop, if◌then◌else◌}
use Rattle.std.proofs.lemmas.Bool.{cases_lt, eq-eqb}
use Rattle.std.proofs.lemmas.List.{append_assoc, drop-append-le, drop-drop, length-take-le, take-append-drop, take-append-le}
use Rattle.std.proofs.Math.Seq.{drop-append-add}
use Rattle.std.proofs.Math.Nat.{mul-le-mul_right}
use Rattle.db_format.specs.Source.{page_at}
use Rattle.page_build.specs.Draft.{laid}

-- bytes before those that were laid
before : (at from size : ℕ) (piece bytes : List ℕ) → from + size ≤ at → at ≤ length bytes
    → take size (drop from (laid at piece bytes)) ≡ take size (drop from bytes)
before at from size piece bytes fits within =
    let rest : List ℕ = piece ++ drop (at + length piece) bytes in
    let long : length (take at bytes) ≡ at = length-take-le at bytes within in
    ap (take size) (drop-append-le from (take at bytes) rest (omega arith))
    ∙ same from size (take at bytes) rest (omega arith)
    ∙ sym (ap (λ l. take size (drop from l)) (sym (take-append-drop at bytes)) ∙ ap (take size) (drop-append-le from (take at bytes) (drop at bytes) (omega arith))
    ∙ same from size (take at bytes) (drop at bytes) (omega arith))
  where
    same : (from size : ℕ) (xs ys : List ℕ) → from + size ≤ length xs → take size (drop from xs ++ ys) ≡ take size (drop from xs)
    same from size xs ys h = let left : length (drop from xs) ≡ length xs - from = length-drop from xs in take-append-le size (drop from xs) ys (omega arith)

-- and behind them
after : (at from : ℕ) (piece bytes : List ℕ) → at + length piece ≤ from → at ≤ length bytes → drop from (laid at piece bytes) ≡ drop from bytes
after at from piece bytes fits within =
    let long : length (take at bytes) ≡ at = length-take-le at bytes within in
    let front : List ℕ = take at bytes ++ piece in
    let size : length front ≡ at + length piece = length-append (take at bytes) piece ∙ ap (λ n. n + length piece) long in
    let split : from ≡ length front + (from - (at + length piece)) = omega arith in
    ap (drop from) (sym (append_assoc (take at bytes) piece (drop (at + length piece) bytes)))
    ∙ ap (λ n. drop n (front ++ drop (at + length piece) bytes)) split
    ∙ drop-append-add front (drop (at + length piece) bytes) (from - (at + length piece))
    ∙ drop-drop (from - (at + length piece)) (at + length piece) bytes ∙ ap (λ n. drop n bytes) (sum_is fits)
  where
    sum_is : at + length piece ≤ from → at + length piece + (from - (at + length piece)) ≡ from
    sum_is h = omega arith

rows : (a b u : ℕ) → a ≤ b → a * u ≤ b * u
rows a b u h = mul-le-mul_right u h

one_more : (a u : ℕ) → (a + 1) * u ≡ a * u + u
one_more a u = omega arith

pub others_stay : (usable n k : ℕ) (piece bytes : List ℕ) → 1 ≤ n → n * usable ≤ length bytes → length piece ≡ usable → (n == k) ≡ false
    → page_at usable (laid ((n - 1) * usable) piece bytes) k ≡ page_at usable bytes k
others_stay usable n k piece bytes some within long other =
    elim (cases_lt k n) [
      | inl less ↦ by_zero (k == 0) refl less
      | inr more ↦
          let differs : n ≢ k = λ same. let no : true ≡ false = sym (eq-eqb n k same) ∙ other in cc in
          let above : n ≤ k - 1 = omega arith in
          let place : (n - 1) * usable + usable ≤ (k - 1) * usable =
          let a : n * usable ≤ (k - 1) * usable = rows n (k - 1) usable above in
          let b : (n - 1 + 1) * usable ≡ (n - 1) * usable + usable = one_more (n - 1) usable in
          let e : n - 1 + 1 ≡ n = omega arith in
          let f : n * usable ≡ (n - 1) * usable + usable = ap (λ m. m * usable) (sym e) ∙ b in omega arith in
          ap (λ l. if k == 0 then [] else take usable l) (after ((n - 1) * usable) ((k - 1) * usable) piece bytes (omega arith) begins)
    ]
  where
    begins : (n - 1) * usable ≤ length bytes
    begins = let a : (n - 1) * usable ≤ n * usable = rows (n - 1) n usable (omega arith) in omega arith

    by_zero : (b : Bool) → (k == 0) ≡ b → k < n → page_at usable (laid ((n - 1) * usable) piece bytes) k ≡ page_at usable bytes k
    by_zero true none less =
        ap (λ b. if b then [] else take usable (drop ((k - 1) * usable) (laid ((n - 1) * usable) piece bytes))) none
        ∙ sym (ap (λ b. if b then [] else take usable (drop ((k - 1) * usable) bytes)) none)
    by_zero false some_k less =
        let one : 1 ≤ k = positive k some_k in
        let place : (k - 1) * usable + usable ≤ (n - 1) * usable =
        let a : k * usable ≤ (n - 1) * usable = rows k (n - 1) usable (omega arith) in
        let b : (k - 1 + 1) * usable ≡ (k - 1) * usable + usable = one_more (k - 1) usable in
        let e : k - 1 + 1 ≡ k = omega arith in
        let f : k * usable ≡ (k - 1) * usable + usable = ap (λ m. m * usable) (sym e) ∙ b in omega arith in
        ap (λ l. if k == 0 then [] else l) (before ((n - 1) * usable) ((k - 1) * usable) usable piece bytes place begins)
      where
        positive : (k : ℕ) → (k == 0) ≡ false → 1 ≤ k
        positive k h = grind arith

pub within_rows : (n last limit usable long : ℕ) → n ≤ last → last ≤ limit → long ≡ limit * usable → n * usable ≤ long
within_rows n last limit usable long h g is = let a : n * usable ≤ limit * usable = rows n limit usable (omega arith) in omega arith
