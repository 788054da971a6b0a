use Rattle.std.proofs.Common.{◌≡◌, ◌+◌, ◌*◌, [], ◌∙◌, arith, inl, inr, take, drop}
use Rattle.std.specs.Prelude.{slice_index_or, slice_set}
use Rattle.std.proofs.lemmas.List.{get_or-set_other, get_or-set_same, length-set}
use Rattle.std.proofs.lemmas.Bool.{cases_lt}
use Rattle.sha1.specs.Sha1.{word_at}
use Rattle.hash_lanes.specs.Sha1Lanes.{eight}
use Rattle.hash_lanes.proofs.Sha1Windows.{windows_first, word_in_block}
use Rattle.hash_lanes.proofs.sha1_block.first_words.Goals as goal

pub first-preserved : goal.first-preserved
first-preserved c =
    let w = c.first.w in
    let k = c.first.k in
    let x = c.load.result in (
      length-set w k x ∙ c.first.invariant.0,
      λ j lt. elim (cases_lt j k)
          as (λ _. slice_index_or (slice_set w k x) j [] ≡ eight (λ i. word_at c.args.text.now (c.args.at + 4 * j + i * c.args.stride))) [
            | inl less ↦ get_or-set_other w k j x [] (omega arith) ∙ c.first.invariant.1 j less
            | inr last ↦
                let e : k ≡ j = omega arith in
                rw (← e) (get_or-set_same w k x [] (omega (arith, c.first.invariant.0)) ∙ c.load.ensures)
          ],
    )

pub returns : goal.returns
returns c =
    let text = c.args.text.now in
    let at = c.args.at in
    let stride = c.args.stride in
    windows_first (λ i. take 64 (drop (at + i * stride) text)) c.first.w c.first.invariant.0
    (λ k lt. c.first.invariant.1 k (omega arith)
    ∙ (λ t. eight (λ i. word_in_block text (at + i * stride) (4 * k) (at + 4 * k + i * stride) (omega arith) (omega arith) t)))
