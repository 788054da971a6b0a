-- The key block as the first bytes of an array of zeros onto which the key, or its hash, is laid.
use Rattle.std.proofs.Common.{◌≡◌, ℕ, ◌+◌, ◌-◌, ◌<◌, ◌≤◌, List, ◌++◌, length, take, drop, replicate, cond, ap, arith}
use Rattle.std.proofs.lemmas.Bool.{le-ltb, lt-ltb}
use Rattle.std.proofs.lemmas.List.{drop-replicate, take-replicate}
use Rattle.std.proofs.Math.Seq.{take-append-add}
use Rattle.hmac_core.specs.Hmac.{key_block}

-- bytes laid over the front of n zeros, and cut to a block
filled : (short : List ℕ) (block n : ℕ) → length short ≤ block → block ≤ n
    → take block (short ++ drop (length short) (replicate n 0)) ≡ short ++ replicate (block - length short) 0
filled short block n fits within =
    let sum : block ≡ length short + (block - length short) = omega arith in
    let zeros = drop-replicate {X = ℕ} (length short) n 0 in
    let joined = take-append-add short (replicate (n - length short) 0) (block - length short) in
    let room : block - length short ≤ n - length short = omega arith in
    let rest = take-replicate {X = ℕ} (block - length short) (n - length short) 0 room in
    cc (sum, zeros, joined, rest)

-- a key, short as it is or by its hash, filled up with zeros
abbrev padded : List ℕ → ℕ → List ℕ
padded short block = short ++ replicate (block - length short) 0

-- a key that is longer than a block is hashed
pub key_block-long : (hash : List ℕ → List ℕ) (block out n : ℕ) (key digest : List ℕ)
    → block < length key → digest ≡ hash key → length (hash key) ≡ out → out ≤ block → block ≤ n
    → take block (digest ++ drop out (replicate n 0)) ≡ key_block hash block key
unfolding key_block
key_block-long hash block out n key digest long is_hash sized fits within =
    let chosen : key_block hash block key ≡ padded (hash key) block =
    ap (λ b. padded (cond b (hash key) key) block) (lt-ltb block (length key) long) in
    let laid = filled (hash key) block n (omega (arith, sized)) within in
    cc (chosen, laid, is_hash, sized)

-- another stands as it is
pub key_block-short : (hash : List ℕ → List ℕ) (block n : ℕ) (key laid : List ℕ) → length key ≤ block
    → laid ≡ key → block ≤ n
    → take block (laid ++ drop (length key) (replicate n 0)) ≡ key_block hash block key
unfolding key_block
key_block-short hash block n key laid short is_key within =
    let chosen : key_block hash block key ≡ padded key block =
    ap (λ b. padded (cond b (hash key) key) block) (le-ltb block (length key) short) in
    let filled_up = filled key block n short within in
    cc (chosen, filled_up, is_key)
