-- The blocks of PBKDF2 as they are laid one after another into the 32 bytes.
use Rattle.std.proofs.Common.{◌≡◌, ℕ, ◌+◌, ◌-◌, ◌*◌, ◌<◌, ◌≤◌, List, ◌++◌, length, take, min, sym, ap, ◌∙◌, add-one, arith, length-append}
use Rattle.std.specs.Int.{div_ceil}
use Rattle.std.proofs.lemmas.Grind.{div_ceil_times}
use Rattle.std.proofs.lemmas.List.{length-take-le, take_all, take_min}
use Rattle.std.proofs.lemmas.Slice.{take-put_mid}
use Rattle.std.proofs.Math.Seq.{take-append-add}
use borrow.Rule.Slice.PartMut.{put_mid, mid_of, same_len_mid}
use Rattle.hmac_core.specs.Pbkdf2.{derived_block, derived_blocks}

-- of the 32 bytes those that the first blocks give stand there, each block of `out` bytes
pub record IsLaid (prf : List ℕ → List ℕ) (salt : List ℕ) (rounds out blocks : ℕ) (bytes : List ℕ)
    : Type 0 where
  pub whole : length bytes ≡ 32
  pub sized : length (derived_blocks prf salt rounds blocks) ≡ blocks * out
  pub laid : take (min 32 (blocks * out)) bytes ≡ take 32 (derived_blocks prf salt rounds blocks)

-- at first there is none
pub IsLaid-none : (prf : List ℕ → List ℕ) (salt : List ℕ) (rounds out : ℕ) (bytes : List ℕ)
    → length bytes ≡ 32 → IsLaid prf salt rounds out 0 bytes
unfolding derived_blocks
IsLaid-none prf salt rounds out bytes whole =
    let none : 0 * out ≡ 0 = omega arith in
    record {
      whole = whole;
      sized = sym none;
      laid = ap (λ n. take (min 32 n) bytes) none;
    }

-- a block that is needed begins within the 32 bytes
begins_within : (done out : ℕ) → 1 ≤ out → done < div_ceil 32 out → done * out < 32
begins_within done out positive needed = grind (arith, div_ceil_times 32 out positive)

-- bytes laid at `at` behind those that stand there, as many of the block's as there is room for
laid_more : (bytes part before block : List ℕ) (at k out count : ℕ) → length before ≡ at → at < 32
    → length bytes ≡ 32 → length block ≡ out → count ≡ min out (32 - at) → part ≡ take count block
    → take (min 32 at) bytes ≡ take 32 before
    → take (min 32 (at + out)) (put_mid at k bytes part) ≡ take 32 (before ++ block)
laid_more bytes part before block at k out count sized begins whole long room is_part laid =
    let count_within : count ≤ length block = omega (arith, long, room) in
    let counted : length part ≡ count = ap length is_part ∙ length-take-le count block count_within in
    let here : at ≡ min 32 at = omega arith in
    let end : min 32 (at + out) ≡ at + length part = omega (arith, counted, room) in
    let at_within : at ≤ length bytes = omega (arith, whole) in
    let front = take-put_mid at k bytes part (min 32 (at + out)) end at_within in
    let all_before : length before ≤ 32 = omega (arith, sized) in
    let standing : take at bytes ≡ before = ap (λ n. take n bytes) here ∙ laid ∙ take_all 32 before all_before in
    let split : 32 ≡ length before + (32 - at) = omega (arith, sized) in
    let joined : take 32 (before ++ block) ≡ before ++ take (32 - at) block =
    ap (λ n. take n (before ++ block)) split ∙ take-append-add before block (32 - at) in
    let shorter : count ≡ min (32 - at) (length block) = omega (arith, long, room) in
    let fitting : part ≡ take (32 - at) block =
    is_part ∙ ap (λ n. take n block) shorter ∙ take_min (32 - at) block in
    front ∙ ap (λ xs. xs ++ part) standing ∙ ap (λ xs. before ++ xs) fitting ∙ sym joined

-- one block more
pub IsLaid-next : (prf : List ℕ → List ℕ) (salt : List ℕ) (rounds out done : ℕ)
    (bytes part block : List ℕ) (at k count : ℕ)
    → IsLaid prf salt rounds out done bytes → 1 ≤ out → done < div_ceil 32 out → at ≡ done * out
    → block ≡ derived_block prf salt rounds (done + 1) → length block ≡ out → count ≡ min out (32 - at)
    → part ≡ take count block → length part ≡ length (mid_of at k bytes)
    → IsLaid prf salt rounds out (done + 1) (put_mid at k bytes part)
unfolding derived_blocks
IsLaid-next prf salt rounds out done bytes part block at k count
    before positive needed starts is_block long room is_part fits =
    let blocks = derived_blocks prf salt rounds done in
    let begins : at < 32 = omega (arith, starts, begins_within done out positive needed) in
    let next : derived_blocks prf salt rounds (done + 1) ≡ blocks ++ block =
    rw add-one (ap (λ xs. blocks ++ xs) (sym (rw add-one at is_block))) in
    let here : length blocks ≡ at = before.sized ∙ sym starts in
    let standing : take (min 32 at) bytes ≡ take 32 blocks =
    ap (λ n. take (min 32 n) bytes) starts ∙ before.laid in
    let more =
    laid_more bytes part blocks block at k out count here begins before.whole long room is_part standing in
    let end : (done + 1) * out ≡ at + out = omega (arith, starts) in
    record {
      whole = same_len_mid at k bytes part fits ∙ before.whole;
      sized = ap length next ∙ length-append blocks block ∙ omega (arith, here, long, end);
      laid = ap (λ n. take (min 32 n) (put_mid at k bytes part)) end ∙ more ∙ ap (take 32) (sym next);
    }

-- at last all that are needed fill the 32 bytes
pub IsLaid-all : (prf : List ℕ → List ℕ) (salt : List ℕ) (rounds out done : ℕ) (bytes : List ℕ)
    → IsLaid prf salt rounds out done bytes → 1 ≤ out → done ≡ div_ceil 32 out
    → bytes ≡ take 32 (derived_blocks prf salt rounds (div_ceil 32 out))
IsLaid-all prf salt rounds out done bytes laid positive all =
    let filled : 32 ≤ done * out = rw all ((div_ceil_times 32 out positive).0) in
    let end : 32 ≡ min 32 (done * out) = omega arith in
    let whole : length bytes ≤ 32 = omega (arith, laid.whole) in
    sym (take_all 32 bytes whole) ∙ ap (λ n. take n bytes) end ∙ laid.laid
    ∙ ap (λ n. take 32 (derived_blocks prf salt rounds n)) all
