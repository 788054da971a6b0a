use Rattle.std.proofs.Common.{◌≡◌, ◌≤◌, ℕ, List, length, take, arith, ap, sym, ◌∙◌}
use Rattle.page_codec.specs.Page.{FileKeys, begun, cipher_start}
use Rattle.page_codec.proofs.Parts.{begun_kept}
use Rattle.page_codec.proofs.codec.Codec.put_head.Goals as goal

pub returns-clause-value : goal.returns-clause-value
returns-clause-value c =
    let file = c.args.self.now in
    let plain = c.args.plain.now in
    let start = cipher_start file.profile c.args.n in
    let copied : List ℕ = c.copy_from_slice.new.self in
    let salt : c.self.inside.salt ≡ file.salt = ap (λ (f : FileKeys). f.salt) c.self.view_is in
    let salt_long : length file.salt ≡ 16 = ap length (sym salt) ∙ c.begin_with.ensures.size in
    let long : length copied ≡ start = c.copy_from_slice.ensures.len ∙ c.requires.head_size in
    let is : copied ≡ take start plain = c.copy_from_slice.ensures.after ∙ ap (λ (n : ℕ). take n plain) c.cipher_start-start.ensures.value in
    let within : start ≤ start = omega arith in
    c.begin_with.ensures.value
    ∙ (λ k. take (long k) (begun (salt k) (is k)))
    ∙ begun_kept file.salt start start plain salt_long within
