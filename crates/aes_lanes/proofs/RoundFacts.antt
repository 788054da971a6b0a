-- The rounds of the cipher that are done, and those of the inverse cipher that are left.
use Rattle.std.proofs.Common.{◌≡◌, ℕ, suc, ◌+◌, ◌-◌, ◌<◌, List, ap, ◌∙◌, arith}
use Rattle.aes_block.specs.Aes.{aes256, inv_aes256, inv_mix_columns, inv_rounds, inv_start, key_expansion, last_round, round, round_key, rounds, xor_bytes}
use Rattle.aes_block.specs.Blocks.{block_at}
use Rattle.aes_lanes.specs.States.{IsState, state_in}
use Rattle.aes_lanes.specs.declared.lanes.State.{State}

-- after i rounds
pub record RoundsLeft (key text : List ℕ) (s : State) (i : ℕ) : Type 0 where
  pub lanes : IsState s
  pub blocks : (j : ℕ) → j < 64 → inv_rounds (key_expansion key 52) (13 - i) (state_in s j) ≡ inv_aes256 key (block_at text j)

pub first_step : (key b k s : List ℕ) → s ≡ xor_bytes b k → k ≡ round_key (key_expansion key 52) 14
    → inv_rounds (key_expansion key 52) 13 s ≡ inv_aes256 key b
unfolding inv_aes256
first_step key b k s es ek = ap (inv_rounds (key_expansion key 52) 13) (es ∙ ap (xor_bytes b) ek)

pub next_step : (w : List (List ℕ)) (s k t : List ℕ) (i : ℕ) → i < 13 → t ≡ inv_mix_columns (inv_start k s) → k ≡ round_key w (13 - i)
    → inv_rounds w (13 - (i + 1)) t ≡ inv_rounds w (13 - i) s
unfolding inv_rounds
next_step w s k t i lt es ek =
    let n : ℕ = 13 - (i + 1) in
    let e : suc n ≡ 13 - i = omega arith in
    let e2 : 13 - i ≡ n + 1 = omega arith in
    ap (inv_rounds w n) (es ∙ ap (λ (l : List ℕ). inv_mix_columns (inv_start l s)) (ek ∙ ap (round_key w) e2)) ∙ ap (λ (m : ℕ). inv_rounds w m s) e

pub last_step : (w : List (List ℕ)) (s k t : List ℕ) (i : ℕ) → i ≡ 13 → t ≡ inv_start k s → k ≡ round_key w 0 → t ≡ inv_rounds w (13 - i) s
unfolding inv_rounds
last_step w s k t i hi es ek =
    let e : 0 ≡ 13 - i = omega arith in
    es ∙ ap (λ (l : List ℕ). inv_start l s) ek ∙ ap (λ (m : ℕ). inv_rounds w m s) e

-- round key 0 was added, and i rounds are done
pub record RoundsDone (key text : List ℕ) (s : State) (i : ℕ) : Type 0 where
  pub lanes : IsState s
  pub blocks : (j : ℕ) → j < 64 → state_in s j ≡ rounds (key_expansion key 52) (block_at text j) i

pub begun : (w : List (List ℕ)) (b k s : List ℕ) → s ≡ xor_bytes b k → k ≡ round_key w 0 → s ≡ rounds w b 0
unfolding rounds
begun w b k s es ek = es ∙ ap (xor_bytes b) ek

plus_one : (i : ℕ) → suc i ≡ i + 1
plus_one i = omega arith

pub one_more : (w : List (List ℕ)) (b s k t : List ℕ) (i : ℕ) → s ≡ rounds w b i → t ≡ round k s → k ≡ round_key w (i + 1)
    → t ≡ rounds w b (i + 1)
unfolding rounds
one_more w b s k t i es et ek =
    et ∙ (λ n. round (ek n) (es n)) ∙ ap (rounds w b) (plus_one i)

pub ended : (key b s k t : List ℕ) (i : ℕ) → i ≡ 13 → s ≡ rounds (key_expansion key 52) b i → t ≡ last_round k s
    → k ≡ round_key (key_expansion key 52) 14 → t ≡ aes256 key b
unfolding aes256
ended key b s k t i hi es et ek =
    et ∙ (λ n. last_round (ek n) ((es ∙ ap (rounds (key_expansion key 52) b) hi) n))
