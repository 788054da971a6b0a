-- Four lists, laid one after another over another list.
use Rattle.std.proofs.Common.{◌≡◌, ℕ, ◌+◌, ◌≤◌, List, ◌++◌, length, take, drop, sym, ap, ◌∙◌, arith, length-append, length-drop}
use Rattle.std.proofs.lemmas.List.{append_assoc, length-take-le, take_all}
use Rattle.std.proofs.lemmas.Slice.{take-put_mid}
use borrow.Rule.Slice.PartMut.{put_mid}

pub length-put_mid : (a k : ℕ) (xs ys : List ℕ) → a + k ≤ length xs → length ys ≡ k → length (put_mid a k xs ys) ≡ length xs
length-put_mid a k xs ys within long =
    let rest : List ℕ = drop k (drop a xs) in
    length-append (take a xs) (ys ++ rest) ∙ omega (
      arith,
      within,
      long,
      length-append ys rest,
      length-take-le a xs (omega (arith, within)),
      length-drop k (drop a xs),
      length-drop a xs,
    )

module _ (z a b d e : List ℕ) (p1 p2 p3 p4 k1 k2 k3 k4 : ℕ) (h1 : p1 ≡ length a) (h2 : p2 ≡ p1 + length b) (h3 : p3 ≡ p2 + length d)
    (h4 : p4 ≡ p3 + length e) (room : p4 ≤ length z) (j1 : length a ≡ k1) (j2 : length b ≡ k2) (j3 : length d ≡ k3) (j4 : length e ≡ k4) where
  length_1 : length (put_mid 0 k1 z a) ≡ length z
  length_1 = length-put_mid 0 k1 z a (omega (arith, h1, h2, h3, h4, room, j1)) j1

  length_2 : length (put_mid p1 k2 (put_mid 0 k1 z a) b) ≡ length z
  length_2 = length-put_mid p1 k2 (put_mid 0 k1 z a) b (omega (arith, h2, h3, h4, room, j2, length_1)) j2 ∙ length_1

  length_3 : length (put_mid p2 k3 (put_mid p1 k2 (put_mid 0 k1 z a) b) d) ≡ length z
  length_3 = length-put_mid p2 k3 (put_mid p1 k2 (put_mid 0 k1 z a) b) d (omega (arith, h3, h4, room, j3, length_2)) j3 ∙ length_2

  length_4 : length (put_mid p3 k4 (put_mid p2 k3 (put_mid p1 k2 (put_mid 0 k1 z a) b) d) e) ≡ length z
  length_4 = length-put_mid p3 k4 (put_mid p2 k3 (put_mid p1 k2 (put_mid 0 k1 z a) b) d) e (omega (arith, h4, room, j4, length_3)) j4 ∙ length_3

  first : take p1 (put_mid 0 k1 z a) ≡ a
  first = take-put_mid 0 k1 z a p1 (omega (arith, h1)) (omega arith)

  second : take p2 (put_mid p1 k2 (put_mid 0 k1 z a) b) ≡ a ++ b
  second =
      take-put_mid p1 k2 (put_mid 0 k1 z a) b p2 h2 (omega (arith, h2, h3, h4, room, length_1)) ∙ ap (λ (l : List ℕ). l ++ b) first

  third : take p3 (put_mid p2 k3 (put_mid p1 k2 (put_mid 0 k1 z a) b) d) ≡ (a ++ b) ++ d
  third =
      take-put_mid p2 k3 (put_mid p1 k2 (put_mid 0 k1 z a) b) d p3 h3 (omega (arith, h3, h4, room, length_2))
      ∙ ap (λ (l : List ℕ). l ++ d) second

  pub laid_first : take p4 (put_mid p3 k4 (put_mid p2 k3 (put_mid p1 k2 (put_mid 0 k1 z a) b) d) e) ≡ a ++ (b ++ (d ++ e))
  laid_first =
      take-put_mid p3 k4 (put_mid p2 k3 (put_mid p1 k2 (put_mid 0 k1 z a) b) d) e p4 h4 (omega (arith, h4, room, length_3))
      ∙ ap (λ (l : List ℕ). l ++ e) third ∙ append_assoc (a ++ b) d e ∙ append_assoc a b (d ++ e)

  pub laid_whole : length z ≤ p4 → put_mid p3 k4 (put_mid p2 k3 (put_mid p1 k2 (put_mid 0 k1 z a) b) d) e ≡ a ++ (b ++ (d ++ e))
  laid_whole all =
      sym (take_all p4 (put_mid p3 k4 (put_mid p2 k3 (put_mid p1 k2 (put_mid 0 k1 z a) b) d) e) (omega (arith, all, length_4))) ∙ laid_first
