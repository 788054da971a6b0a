-- The hash value of a message that is taken in parts: what came before, whole blocks of a text, and the last blocks.
use Rattle.std.proofs.Common.{◌≡◌, ℕ, zero, suc, ◌+◌, ◌*◌, ◌/◌, ◌≤◌, List, ◌++◌, length, take, drop, sym, ap, ◌∙◌, arith, length-append}
use Rattle.std.proofs.lemmas.List.{append_assoc, drop-drop, drop_at, length-take-le, take-append-drop, take-take}
use Rattle.sha2.specs.Sha512.{compress, final_hash, hash_after, padded_message, padding}
use Rattle.sha2.proofs.Absorbing512.{hash_after-append, hash_after_next}

-- blocks after blocks
hash_joined : (ini a b : List ℕ) (n m : ℕ) → length a ≡ n * 128 → hash_after (hash_after ini a n) b m ≡ hash_after ini (a ++ b) (n + m)
unfolding hash_after
hash_joined ini a b n zero e =
    let none : n ≡ n + 0 = omega arith in
    sym (hash_after-append ini a b n (omega (arith, e))) ∙ ap (hash_after ini (a ++ b)) none
hash_joined ini a b n (suc m) e =
    let place : n * 128 + m * 128 ≡ (n + m) * 128 = omega arith in
    let more : n + m + 1 ≡ n + suc m = omega arith in
    let from : drop (m * 128) b ≡ drop ((n + m) * 128) (a ++ b) =
    ap (drop (m * 128)) (sym (drop_at a b (n * 128) e)) ∙ drop-drop (m * 128) (n * 128) (a ++ b) ∙ ap (λ (k : ℕ). drop k (a ++ b)) place in
    (λ t. compress (hash_joined ini a b n m e t) (take 128 (from t)))
    ∙ sym (hash_after_next ini (a ++ b) (n + m))
    ∙ ap (hash_after ini (a ++ b)) more

-- only the blocks that are counted are read
hash_first : (ini text : List ℕ) (n : ℕ) → n * 128 ≤ length text → hash_after ini text n ≡ hash_after ini (take (n * 128) text) n
hash_first ini text n within =
    ap (λ (l : List ℕ). hash_after ini l n) (sym (take-append-drop (n * 128) text))
    ∙ hash_after-append ini (take (n * 128) text) (drop (n * 128) text) n (omega (arith, length-take-le (n * 128) text within))

-- a message that begins with p blocks, goes on with a piece of a text, of which q are whole, and ends with the last bytes of the
-- piece and an end, which with their padding are b blocks of another text
pub whole_hash : (ini first text last end : List ℕ) (p q b len : ℕ) → length first ≡ p * 128 → len ≤ length text → q ≡ len / 128
    → b * 128 ≤ length last
    → take (b * 128) last ≡ drop (q * 128) (take len text) ++ (end ++ padding (p * 128 + len + length end))
    → hash_after (hash_after (hash_after ini first p) text q) last b ≡ final_hash ini (first ++ (take len text ++ end))
whole_hash ini first text last end p q b len sized within count room is =
    let body : List ℕ = take len text in
    let m : List ℕ = first ++ (body ++ end) in
    let front : List ℕ = take (q * 128) text in
    let rest : List ℕ = drop (q * 128) body in
    let tail : List ℕ = take (b * 128) last in
    let pad : List ℕ = padding (p * 128 + len + length end) in
    let body_long : length body ≡ len = length-take-le len text within in
    let front_long : length front ≡ q * 128 = length-take-le (q * 128) text (omega (arith, within)) in
    let tail_long : length tail ≡ b * 128 = length-take-le (b * 128) last room in
    let long : length m ≡ p * 128 + len + length end =
    omega (arith, length-append first (body ++ end), length-append body end, body_long, sized) in
    let both : front ++ rest ≡ body =
    ap (λ (l : List ℕ). l ++ rest) (sym (take-take (q * 128) len text (omega arith))) ∙ take-append-drop (q * 128) body in
    let whole : (first ++ front) ++ tail ≡ padded_message m =
    ap (λ (l : List ℕ). (first ++ front) ++ l) is
    ∙ append_assoc first front (rest ++ (end ++ pad))
    ∙ ap (λ (l : List ℕ). first ++ l) (sym (append_assoc front rest (end ++ pad)) ∙ ap (λ (l : List ℕ). l ++ (end ++ pad)) both
    ∙ sym (append_assoc body end pad))
    ∙ sym (append_assoc first (body ++ end) pad)
    ∙ ap (λ (n : ℕ). m ++ padding n) (sym long) in
    let front_all : length (first ++ front) ≡ (p + q) * 128 = omega (arith, length-append first front, sized, front_long) in
    let blocks : p + q + b ≡ length (padded_message m) / 128 =
    omega (arith, ap length whole, length-append (first ++ front) tail, front_all, tail_long) in
    (λ t. hash_after (hash_first (hash_after ini first p) text q (omega (arith, within)) t) last b)
    ∙ hash_first (hash_after (hash_after ini first p) front q) last b room
    ∙ (λ t. hash_after (hash_joined ini first front p q sized t) tail b)
    ∙ hash_joined ini (first ++ front) tail (p + q) b front_all
    ∙ (λ t. hash_after ini (whole t) (blocks t))
