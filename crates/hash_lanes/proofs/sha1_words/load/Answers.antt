use Rattle.std.proofs.Common.{◌≡◌, ◌+◌, ◌*◌, [], ◌∷◌, ap, ◌∙◌, arith}
use Rattle.sha1.specs.Sha1.{word_at}
use Rattle.hash_lanes.proofs.sha1_words.load.Goals as goal

pub returns : goal.returns
returns c =
    let text = c.args.text.now in
    let at = c.args.at in
    let stride = c.args.stride in
    let first : at ≡ at + 0 * stride = omega arith in
    let second : at + stride ≡ at + 1 * stride = omega arith in
    λ t. (c.word.ensures ∙ ap (word_at text) first) t ∷ (c.word-2.ensures ∙ ap (word_at text) second) t ∷ c.word-3.ensures t
    ∷ c.word-4.ensures t ∷ c.word-5.ensures t ∷ c.word-6.ensures t ∷ c.word-7.ensures t ∷ c.word-8.ensures t ∷ []
