-- Stored pages, byte by byte.
use Rattle.std.proofs.Common.{◌≡◌, ◌⊎◌, inl, inr, ℕ, suc, zero, ◌+◌, ◌-◌, ◌*◌, ◌<◌, ◌≤◌, List, ◌∷◌, length, take, drop, get_or, refl, sym, ◌∙◌, ap, arith, length-drop}
use Rattle.std.proofs.lemmas.List.{ext_get_or, get_or-take, get_or-drop, length-take}
use Rattle.std.proofs.Math.Nat.{suc-mul}
use Rattle.atomic_commit.specs.Database.{stored_pages}

-- files that agree below the end of their pages have the same pages
pub same_pages : (size n : ℕ) (a b : List ℕ) → n * size ≤ length a → n * size ≤ length b → ((i : ℕ) → i < n * size → get_or a i 0 ≡ get_or b i 0) → stored_pages size n a ≡ stored_pages size n b
same_pages size zero a b in_a in_b same = refl
same_pages size (suc n) a b in_a in_b same =
    let all = suc-mul n size in
    let first : take size a ≡ take size b = ext_get_or 0 (take size a) (take size b) (omega (arith, length-take size a, length-take size b, all))
    (λ i lt. let small : i < size = omega (arith, lt, length-take size a) in get_or-take size a i 0 small ∙ same i (omega (arith, all)) ∙ sym (get_or-take size b i 0 small)) in
    let rest : stored_pages size n (drop size a) ≡ stored_pages size n (drop size b) = same_pages size n (drop size a) (drop size b) (omega (arith, all, length-drop size a)) (omega (arith, all, length-drop size b))
    (λ i lt. get_or-drop size a i 0 ∙ same (size + i) (omega (arith, all)) ∙ sym (get_or-drop size b i 0)) in
    ap (λ (l : List ℕ). l ∷ stored_pages size n (drop size a)) first ∙ ap (λ (l : List (List ℕ)). take size b ∷ l) rest

head_of : (x y : List ℕ) (xs ys : List (List ℕ)) → x ∷ xs ≡ y ∷ ys → x ≡ y
head_of x y xs ys e = cc

tail_of : (x y : List ℕ) (xs ys : List (List ℕ)) → x ∷ xs ≡ y ∷ ys → xs ≡ ys
tail_of x y xs ys e = cc

order : (a b : ℕ) → (a < b) ⊎ (b ≤ a)
order a b = search arith

later_or : (size : ℕ) (a b : List ℕ) (i : ℕ) → (i < size) ⊎ (size ≤ i) → take size a ≡ take size b → (size ≤ i → get_or (drop size a) (i - size) 0 ≡ get_or (drop size b) (i - size) 0) → get_or a i 0 ≡ get_or b i 0
later_or size a b i (inl small) first later = sym (get_or-take size a i 0 small) ∙ ap (λ (l : List ℕ). get_or l i 0) first ∙ get_or-take size b i 0 small
later_or size a b i (inr le) first later =
    let back : size + (i - size) ≡ i = omega arith in
    ap (λ (k : ℕ). get_or a k 0) (sym back) ∙ sym (get_or-drop size a (i - size) 0) ∙ later le ∙ get_or-drop size b (i - size) 0 ∙ ap (λ (k : ℕ). get_or b k 0) back

-- files with the same pages agree below their end
pub same_bytes : (size n : ℕ) (a b : List ℕ) → stored_pages size n a ≡ stored_pages size n b → (i : ℕ) → i < n * size → get_or a i 0 ≡ get_or b i 0
same_bytes size zero a b same i lt = absurd (omega arith)
same_bytes size (suc n) a b same i lt = later_or size a b i (order i size) first (λ le. same_bytes size n (drop size a) (drop size b) (tail_of (take size a) (take size b) (stored_pages size n (drop size a)) (stored_pages size n (drop size b)) same) (i - size) (omega (arith, suc-mul n size, le, lt)))
  where
    first : take size a ≡ take size b
    first = head_of (take size a) (take size b) (stored_pages size n (drop size a)) (stored_pages size n (drop size b)) same

-- a file with the pages of another has their length
pub pages_long : (size n : ℕ) (a b : List ℕ) → n * size ≤ length b → stored_pages size n a ≡ stored_pages size n b → n * size ≤ length a
pages_long size zero a b in_b same = omega arith
pages_long size (suc n) a b in_b same =
    let all = suc-mul n size in
    let first : take size a ≡ take size b = head_of (take size a) (take size b) (stored_pages size n (drop size a)) (stored_pages size n (drop size b)) same in
    let rest = pages_long size n (drop size a) (drop size b) (omega (arith, all, in_b, length-drop size b)) (tail_of (take size a) (take size b) (stored_pages size n (drop size a)) (stored_pages size n (drop size b)) same) in
    omega (arith, all, rest, in_b, ap length first, length-take size a, length-take size b, length-drop size a)
