-- Lists that are the same in eight lanes, and the hash value of a message that SHA-1 takes in parts: what came before, whole blocks of a
-- text, and the last blocks.
use Rattle.std.proofs.Common.{◌≡◌, ℕ, zero, suc, ◌+◌, ◌*◌, ◌/◌, ◌<◌, ◌≤◌, List, [], ◌∷◌, ◌++◌, length, slice_index, take, drop, refl, sym, ap, ◌∙◌, arith, length-append}
use Rattle.std.specs.Prelude.{slice_index_or}
use Rattle.std.proofs.Math.Nat.{mul-le-mul_right}
use Rattle.std.proofs.lemmas.List.{append_assoc, drop-drop, drop_at, length-take-le, take-append-drop, take-take}
use Rattle.sha1.specs.Sha1.{compress, hash_after, initial_hash, padded_message, padding}
use Rattle.sha1.proofs.Absorbing.{hash_after-append, hash_after_next}
use Rattle.hash_lanes.specs.Sha1Lanes.{across_eight, eight, final_hash, five, hash_from}

-- ---- lanes

pub eight_at : (f : ℕ → ℕ) (i : ℕ) → i < 8 → slice_index (eight f) i ≡ f i
eight_at f zero lt = refl
eight_at f (suc zero) lt = refl
eight_at f (suc (suc zero)) lt = refl
eight_at f (suc (suc (suc zero))) lt = refl
eight_at f (suc (suc (suc (suc zero)))) lt = refl
eight_at f (suc (suc (suc (suc (suc zero))))) lt = refl
eight_at f (suc (suc (suc (suc (suc (suc zero)))))) lt = refl
eight_at f (suc (suc (suc (suc (suc (suc (suc zero))))))) lt = refl
eight_at f (suc (suc (suc (suc (suc (suc (suc (suc i)))))))) lt = absurd (omega arith)

pub five_at : (H : ℕ → List ℕ) (k : ℕ) → k < 5 → slice_index_or (five H) k [] ≡ across_eight H k
five_at H zero lt = refl
five_at H (suc zero) lt = refl
five_at H (suc (suc zero)) lt = refl
five_at H (suc (suc (suc zero))) lt = refl
five_at H (suc (suc (suc (suc zero)))) lt = refl
five_at H (suc (suc (suc (suc (suc k))))) lt = absurd (omega arith)

-- only the lists of eight messages count
pub five_same : (F G : ℕ → List ℕ) → ((i : ℕ) → i < 8 → F i ≡ G i) → five F ≡ five G
five_same F G h =
    let e0 = h 0 (omega arith) in
    let e1 = h 1 (omega arith) in
    let e2 = h 2 (omega arith) in
    let e3 = h 3 (omega arith) in
    let e4 = h 4 (omega arith) in
    let e5 = h 5 (omega arith) in
    let e6 = h 6 (omega arith) in
    let e7 = h 7 (omega arith) in
    let across_same : (k : ℕ) → across_eight F k ≡ across_eight G k =
    λ k t. slice_index (e0 t) k ∷ slice_index (e1 t) k ∷ slice_index (e2 t) k ∷ slice_index (e3 t) k ∷ slice_index (e4 t) k
    ∷ slice_index (e5 t) k ∷ slice_index (e6 t) k ∷ slice_index (e7 t) k ∷ [] in
    λ t. across_same 0 t ∷ across_same 1 t ∷ across_same 2 t ∷ across_same 3 t ∷ across_same 4 t ∷ []

-- piece i begins no later than piece 7
pub begins_by : (i stride : ℕ) → i < 8 → i * stride ≤ 7 * stride
begins_by i stride lt = mul-le-mul_right stride (omega arith)

-- ---- blocks after blocks

-- from the initial hash value
pub hash_begun : (text : List ℕ) (n : ℕ) → hash_from initial_hash text n ≡ hash_after text n
unfolding hash_from hash_after
hash_begun text zero = refl
hash_begun text (suc n) = ap (λ (h : List ℕ). compress h (take 64 (drop (n * 64) text))) (hash_begun text n)

-- from what another text left
hash_joined : (a b : List ℕ) (n m : ℕ) → length a ≡ n * 64 → hash_from (hash_after a n) b m ≡ hash_after (a ++ b) (n + m)
unfolding hash_from
hash_joined a b n zero e =
    let none : n ≡ n + 0 = omega arith in
    sym (hash_after-append a b n (omega (arith, e))) ∙ ap (hash_after (a ++ b)) none
hash_joined a b n (suc m) e =
    let place : n * 64 + m * 64 ≡ (n + m) * 64 = omega arith in
    let more : n + m + 1 ≡ n + suc m = omega arith in
    let from : drop (m * 64) b ≡ drop ((n + m) * 64) (a ++ b) =
    ap (drop (m * 64)) (sym (drop_at a b (n * 64) e)) ∙ drop-drop (m * 64) (n * 64) (a ++ b) ∙ ap (λ (k : ℕ). drop k (a ++ b)) place in
    (λ t. compress (hash_joined a b n m e t) (take 64 (from t)))
    ∙ sym (hash_after_next (a ++ b) (n + m))
    ∙ ap (hash_after (a ++ b)) more

-- only the blocks that are counted are read
hash_cut : (a l : List ℕ) (n k : ℕ) → length a + k ≡ n * 64 → k ≤ length l → hash_after (a ++ l) n ≡ hash_after (a ++ take k l) n
hash_cut a l n k e within =
    ap (λ (m : List ℕ). hash_after (a ++ m) n) (sym (take-append-drop k l))
    ∙ ap (λ (m : List ℕ). hash_after m n) (sym (append_assoc a (take k l) (drop k l)))
    ∙ hash_after-append (a ++ take k l) (drop k l) n (omega (arith, e, length-append a (take k l), length-take-le k l within))

-- a message that begins with p blocks, goes on with a piece of a text, of which q are whole, and ends with the last bytes of the
-- piece and an end, which with their padding are b blocks of another text
pub whole_hash : (first text last end : List ℕ) (p q b len : ℕ) → length first ≡ p * 64 → len ≤ length text → q ≡ len / 64
    → b * 64 ≤ length last
    → take (b * 64) last ≡ drop (q * 64) (take len text) ++ (end ++ padding (p * 64 + len + length end))
    → hash_from (hash_from (hash_after first p) text q) last b ≡ final_hash (first ++ (take len text ++ end))
whole_hash first text last end p q b len sized within count room is =
    let body : List ℕ = take len text in
    let m : List ℕ = first ++ (body ++ end) in
    let front : List ℕ = take (q * 64) text in
    let rest : List ℕ = drop (q * 64) body in
    let tail : List ℕ = take (b * 64) last in
    let pad : List ℕ = padding (p * 64 + len + length end) in
    let body_long : length body ≡ len = length-take-le len text within in
    let front_long : length front ≡ q * 64 = length-take-le (q * 64) text (omega (arith, within, count)) in
    let tail_long : length tail ≡ b * 64 = length-take-le (b * 64) last room in
    let long : length m ≡ p * 64 + len + length end =
    omega (arith, length-append first (body ++ end), length-append body end, body_long, sized) in
    let both : front ++ rest ≡ body =
    ap (λ (l : List ℕ). l ++ rest) (sym (take-take (q * 64) len text (omega (arith, count)))) ∙ take-append-drop (q * 64) body in
    let whole : (first ++ front) ++ tail ≡ padded_message m =
    ap (λ (l : List ℕ). (first ++ front) ++ l) is
    ∙ append_assoc first front (rest ++ (end ++ pad))
    ∙ ap (λ (l : List ℕ). first ++ l) (sym (append_assoc front rest (end ++ pad)) ∙ ap (λ (l : List ℕ). l ++ (end ++ pad)) both
    ∙ sym (append_assoc body end pad))
    ∙ sym (append_assoc first (body ++ end) pad)
    ∙ ap (λ (n : ℕ). m ++ padding n) (sym long) in
    let front_all : length (first ++ front) ≡ (p + q) * 64 = omega (arith, length-append first front, sized, front_long) in
    let blocks : p + q + b ≡ length (padded_message m) / 64 =
    omega (arith, ap length whole, length-append (first ++ front) tail, front_all, tail_long) in
    ap (λ (h : List ℕ). hash_from h last b)
    (hash_joined first text p q sized ∙ hash_cut first text (p + q) (q * 64) (omega (arith, sized)) (omega (arith, within, count)))
    ∙ hash_joined (first ++ front) last (p + q) b front_all
    ∙ hash_cut (first ++ front) last (p + q + b) (b * 64) (omega (arith, front_all)) room
    ∙ (λ t. hash_after (whole t) (blocks t))
