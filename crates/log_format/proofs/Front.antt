-- The header of a log by its first 32 bytes.
use Rattle.std.proofs.Common.{◌≡◌, ℕ, ◌+◌, ◌*◌, ◌≤◌, ◌<◌, Bool, ◌&&◌, ◌||◌, ◌==◌, nat_le, List, length, take, get_or, sym, ◌∙◌, ap, arith}
use Rattle.std.proofs.lemmas.List.{ext_get_or, get_or-take, length-take}
use Rattle.std.proofs.lemmas.Bool.Decides.{nat_tests}
use Rattle.log_format.specs.declared.header.LogHeader.{LogHeader}
use Rattle.log_format.specs.Bytes.{u32_at}
use Rattle.log_format.specs.Header.{HasLogFields, head_sum, is_big, is_log_head, is_page_size}
use Rattle.log_format.specs.Sums.{no_sum, log_sum}

at_front : (log : List ℕ) (at : ℕ) → at < 32 → get_or (take 32 log) at 0 ≡ get_or log at 0
at_front log at lt = get_or-take 32 log at 0 lt

pub u32_front : (log : List ℕ) (at : ℕ) → at + 3 < 32 → u32_at (take 32 log) at ≡ u32_at log at
u32_front log at lt =
    let a : at < 32 = omega arith in
    let b : at + 1 < 32 = omega arith in
    let c : at + 2 < 32 = omega arith in
    let d : at + 2 + 1 < 32 = omega arith in
    λ i. (at_front log at a i * 256 + at_front log (at + 1) b i) * 65536 + (at_front log (at + 2) c i * 256 + at_front log (at + 2 + 1) d i)

front_24 : (log : List ℕ) → 32 ≤ length log → take 24 (take 32 log) ≡ take 24 log
front_24 log long =
    let mine = length-take 24 (take 32 log) in
    let its = length-take 24 log in
    let inner = length-take 32 log in
    ext_get_or 0 (take 24 (take 32 log)) (take 24 log) (omega (arith, mine, its, inner, long)) (λ i lt.
    let small : i < 24 = omega (arith, mine, lt) in
    let less : i < 32 = omega arith in
    get_or-take 24 (take 32 log) i 0 small ∙ get_or-take 32 log i 0 less ∙ sym (get_or-take 24 log i 0 small))

le_both : (a b n : ℕ) → n ≤ a → n ≤ b → nat_le n a ≡ nat_le n b
le_both a b n la lb = grind (arith, nat_tests)

big_front : (log : List ℕ) → is_big (take 32 log) ≡ is_big log
big_front log = ap (λ (n : ℕ). n == 931071619) (u32_front log 0 (omega arith))

sum_front : (log : List ℕ) → 32 ≤ length log → head_sum (take 32 log) ≡ head_sum log
sum_front log long =
    ap (λ (b : Bool). log_sum b no_sum (take 24 (take 32 log))) (big_front log) ∙ ap (λ (l : List ℕ). log_sum (is_big log) no_sum l) (front_24 log long)

pub head_front : (log : List ℕ) → 32 ≤ length log → is_log_head (take 32 log) ≡ is_log_head log
head_front log long =
    let len : nat_le 32 (length (take 32 log)) ≡ nat_le 32 (length log) =
    le_both (length (take 32 log)) (length log) 32 (omega (arith, length-take 32 log, long)) long in
    let u0 = u32_front log 0 (omega arith) in
    let u8 = u32_front log 8 (omega arith) in
    let u24 = u32_front log 24 (omega arith) in
    let u28 = u32_front log 28 (omega arith) in
    let sum = sum_front log long in
    λ i. len i && (u0 i == 931071618 || u0 i == 931071619) && is_page_size (u8 i) && (u24 i == (sum i).first && u28 i == (sum i).second)

pub fields_front : (log : List ℕ) (header : LogHeader) → 32 ≤ length log → HasLogFields (take 32 log) header → HasLogFields log header
fields_front log header long is = (
  is.0 ∙ big_front log,
  is.1 ∙ u32_front log 4 (omega arith),
  is.2 ∙ u32_front log 8 (omega arith),
  is.3 ∙ u32_front log 16 (omega arith),
  is.4 ∙ u32_front log 20 (omega arith),
  is.5 ∙ sum_front log long,
)
