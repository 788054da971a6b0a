use Rattle.std.proofs.Common.{◌≡◌, ◌≤◌, ◌++◌, ℕ, List, length, take, drop, arith, ap, refl, ◌∙◌}
use Rattle.cbc_mode.specs.Cbc.{cbc_decrypted}
use Rattle.page_codec.specs.Page.{FileKeys, begun, cipher_start, magic, plain_head}
use Rattle.page_codec.proofs.Parts.{begun_kept}
use Rattle.page_codec.proofs.codec.Codec.decipher_content.Goals as goal

pub returns : goal.returns
returns c =
    let file = c.args.self.now in
    let content = c.args.content.now in
    let start = cipher_start file.profile c.args.n in
    let front : List ℕ = c.split_at_mut-head.result.0.now in
    let at : c.cipher_start-start.result ≡ start = c.cipher_start-start.ensures.value in
    let long : length front ≡ start = c.split_at_mut-head.ensures.front_len ∙ at in
    let is : front ≡ take start content = c.split_at_mut-head.ensures.front ∙ ap (λ (n : ℕ). take n content) at in
    let within : start ≤ start = omega arith in
    let head : c.begin_with.new.head ≡ plain_head file.profile c.args.n content =
    c.begin_with.ensures.value ∙ (λ k. take (long k) (begun magic (is k))) ∙ begun_kept magic start start content refl within in
    let key : c.self.inside.cipher ≡ file.keys.enc = c.self.invariant.ciphers ∙ ap (λ (f : FileKeys). f.keys.enc) c.self.view_is in
    let behind : c.split_at_mut-head.result.1.now ≡ drop start content = c.split_at_mut-head.ensures.back ∙ ap (λ (n : ℕ). drop n content) at in
    let text : c.cbc_decrypt.new.text ≡ cbc_decrypted file.keys.enc c.args.iv.now (drop start content) =
    c.cbc_decrypt.ensures.value ∙ (λ k. cbc_decrypted (key k) c.args.iv.now (behind k)) in
    λ k. head k ++ text k
