-- Lists that are the same in four lanes, and four lists that stand one after another.
use Rattle.std.proofs.Common.{◌≡◌, ℕ, zero, suc, ◌+◌, ◌-◌, ◌*◌, ◌<◌, ◌≤◌, List, [], ◌∷◌, ◌++◌, length, slice_index, take, drop, refl, sym, ap, ◌∙◌, arith}
use Rattle.std.specs.Prelude.{slice_index_or}
use Rattle.std.proofs.lemmas.List.{drop-drop, drop-take, drop_at, length-drop, length-take-le, take-append-le}
use Rattle.hash_lanes.specs.Lanes.{across, four, words}

-- ---- lanes

pub four_at : (f : ℕ → ℕ) (i : ℕ) → i < 4 → slice_index (four f) i ≡ f i
four_at f zero lt = refl
four_at f (suc zero) lt = refl
four_at f (suc (suc zero)) lt = refl
four_at f (suc (suc (suc zero))) lt = refl
four_at f (suc (suc (suc (suc i)))) lt = absurd (omega arith)

pub words_at : (H : ℕ → List ℕ) (k : ℕ) → k < 8 → slice_index_or (words H) k [] ≡ across H k
words_at H zero lt = refl
words_at H (suc zero) lt = refl
words_at H (suc (suc zero)) lt = refl
words_at H (suc (suc (suc zero))) lt = refl
words_at H (suc (suc (suc (suc zero)))) lt = refl
words_at H (suc (suc (suc (suc (suc zero))))) lt = refl
words_at H (suc (suc (suc (suc (suc (suc zero)))))) lt = refl
words_at H (suc (suc (suc (suc (suc (suc (suc zero))))))) lt = refl
words_at H (suc (suc (suc (suc (suc (suc (suc (suc k)))))))) lt = absurd (omega arith)

-- only the lists of four messages count
pub words_same : (F G : ℕ → List ℕ) → ((i : ℕ) → i < 4 → F i ≡ G i) → words F ≡ words G
words_same F G h =
    let e0 = h 0 (omega arith) in
    let e1 = h 1 (omega arith) in
    let e2 = h 2 (omega arith) in
    let e3 = h 3 (omega arith) in
    let across_same : (k : ℕ) → across F k ≡ across G k =
    λ k t. slice_index (e0 t) k ∷ slice_index (e1 t) k ∷ slice_index (e2 t) k ∷ slice_index (e3 t) k ∷ [] in
    λ t. across_same 0 t ∷ across_same 1 t ∷ across_same 2 t ∷ across_same 3 t ∷ across_same 4 t ∷ across_same 5 t ∷ across_same 6 t
    ∷ across_same 7 t ∷ []

-- ---- pieces

-- piece i begins no later than piece 3
pub begins_by : (i stride : ℕ) → i < 4 → i * stride ≤ 3 * stride
begins_by zero stride lt = omega arith
begins_by (suc zero) stride lt = omega arith
begins_by (suc (suc zero)) stride lt = omega arith
begins_by (suc (suc (suc zero))) stride lt = omega arith
begins_by (suc (suc (suc (suc i)))) stride lt = absurd (omega arith)

module _ (a b c d : List ℕ) (n s : ℕ) (la : length a ≡ n) (lb : length b ≡ n) (lc : length c ≡ n) (within : s ≤ n) where
  after_first : drop n (a ++ (b ++ (c ++ d))) ≡ b ++ (c ++ d)
  after_first = drop_at a (b ++ (c ++ d)) n la

  after_second : drop (n + n) (a ++ (b ++ (c ++ d))) ≡ c ++ d
  after_second = sym (drop-drop n n (a ++ (b ++ (c ++ d)))) ∙ ap (drop n) after_first ∙ drop_at b (c ++ d) n lb

  after_third : drop (n + n + n) (a ++ (b ++ (c ++ d))) ≡ d
  after_third = sym (drop-drop n (n + n) (a ++ (b ++ (c ++ d)))) ∙ ap (drop n) after_second ∙ drop_at c d n lc

  pub first_of : take s (drop (0 * n) (a ++ (b ++ (c ++ d)))) ≡ take s a
  first_of =
      let e : 0 * n ≡ 0 = omega arith in
      ap (λ (k : ℕ). take s (drop k (a ++ (b ++ (c ++ d))))) e ∙ take-append-le s a (b ++ (c ++ d)) (omega (arith, la))

  pub second_of : take s (drop (1 * n) (a ++ (b ++ (c ++ d)))) ≡ take s b
  second_of =
      let e : 1 * n ≡ n = omega arith in
      ap (λ (k : ℕ). take s (drop k (a ++ (b ++ (c ++ d))))) e ∙ ap (take s) after_first ∙ take-append-le s b (c ++ d) (omega (arith, lb))

  pub third_of : take s (drop (2 * n) (a ++ (b ++ (c ++ d)))) ≡ take s c
  third_of =
      let e : 2 * n ≡ n + n = omega arith in
      ap (λ (k : ℕ). take s (drop k (a ++ (b ++ (c ++ d))))) e ∙ ap (take s) after_second ∙ take-append-le s c d (omega (arith, lc))

  pub fourth_of : take s (drop (3 * n) (a ++ (b ++ (c ++ d)))) ≡ take s d
  fourth_of =
      let e : 3 * n ≡ n + n + n = omega arith in
      ap (λ (k : ℕ). take s (drop k (a ++ (b ++ (c ++ d))))) e ∙ ap (take s) after_third

-- ---- the last bytes of a message

-- what is left of a piece, and an end, as they were cut out; `filled` says how many bytes so many fill with their padding
pub tail_at : (filled : ℕ → ℕ) (r rest end pad text ends : List ℕ) (start at len end_start end_len from end_from : ℕ) → at ≤ len → start + len ≤ length text
    → end_start + end_len ≤ length ends → from ≡ start + at → end_from ≡ end_start → rest ≡ take (len - at) (drop from text)
    → end ≡ take end_len (drop end_from ends) → take (filled (length rest + length end)) r ≡ rest ++ (end ++ pad)
    → take (filled (len - at + end_len)) r ≡ drop at (take len (drop start text)) ++ (take end_len (drop end_start ends) ++ pad)
tail_at filled r rest end pad text ends start at len end_start end_len from end_from within room end_room from_is end_from_is rest_is end_is is =
    let start_room : len ≤ length (drop start text) = omega (arith, length-drop start text) in
    let whole : at + (len - at) ≡ len = omega arith in
    let cut : rest ≡ drop at (take len (drop start text)) =
    rest_is ∙ ap (λ (k : ℕ). take (len - at) (drop k text)) from_is ∙ ap (take (len - at)) (sym (drop-drop at start text))
    ∙ sym (drop-take at (len - at) (drop start text)) ∙ ap (λ (k : ℕ). drop at (take k (drop start text))) whole in
    let end_cut : end ≡ take end_len (drop end_start ends) = end_is ∙ ap (λ (k : ℕ). take end_len (drop k ends)) end_from_is in
    let rest_long : length rest ≡ len - at =
    ap length rest_is ∙ length-take-le (len - at) (drop from text) (omega (arith, length-drop from text)) in
    let end_long : length end ≡ end_len =
    ap length end_is ∙ length-take-le end_len (drop end_from ends) (omega (arith, length-drop end_from ends)) in
    (λ t. take (filled (sym rest_long t + sym end_long t)) r) ∙ is ∙ (λ t. cut t ++ (end_cut t ++ pad))
