use Rattle.std.proofs.Common.{rules, ◌≡◌, ℕ, List, [], slice_index, arith, ap, sym, ◌∙◌}
use Rattle.std.specs.Prelude.{slice_index_or}
use Rattle.std.specs.Int.{w32, to_be_bytes}
use Rattle.std.proofs.lemmas.List.{take_all}
use Rattle.std.proofs.lemmas.Slice.{overwrites}
use Rattle.sha1.specs.Sha1.{digest_bytes}
use Rattle.sha1.proofs.Absorbing.{digest_more}
use Rattle.hash_lanes.proofs.Sha1Parts.{eight_at, five_at}
use Rattle.hash_lanes.proofs.sha1_message.digest.Goals as goal

pub words-init : goal.words-init
unfolding digest_bytes
words-init c = search rules

pub words-preserved : goal.words-preserved
words-preserved c = (
  search (rules, overwrites),
  λ H e.
      let k = c.words.k in
      let lane = c.args.lane in
      let vector = ap (λ (l : List (List ℕ)). slice_index_or l k []) e ∙ five_at H k (omega arith) in
      let word : slice_index (slice_index_or c.args.hashes.now k []) lane ≡ slice_index (H lane) k =
      ap (λ (v : List ℕ). slice_index v lane) vector ∙ eight_at (λ i. slice_index (H i) k) lane c.requires in
      digest_more c.words.out (H lane) _ k _ (c.words.invariant.1 H e) (omega arith)
      (c.copy_from_slice.ensures.after ∙ c.to_be_bytes.ensures ∙ ap (to_be_bytes w32) word),
)

pub returns : goal.returns
returns c = λ H e.
    let done : c.words.k ≡ 5 = omega arith in
    sym (take_all 20 c.words.out (omega arith)) ∙ rw done at (c.words.invariant.1 H e)
