use Rattle.std.proofs.Common.{◌≡◌, ◌+◌, ◌++◌, List, ℕ, length, take, drop, arith, ap, ◌∙◌, subst, sym, refl}
use Rattle.std.proofs.lemmas.List.{length-append}
use Rattle.std.proofs.lemmas.Grind.{common_steps}
use Rattle.cipher_profile.specs.Profile.{IsLaidOut, usable}
use Rattle.cbc_mode.specs.Cbc.{cbc_decrypted}
use Rattle.page_codec.specs.Page.{FileKeys, ciphertext, cipher_start, deciphered, plain_head, stored_head, stored_iv}
use Rattle.page_codec.proofs.Parts.{head_opens, part_after, part_between}
use Rattle.page_codec.proofs.codec.Codec.encipher.Goals as goal

pub returns-clause-opens_to : goal.returns-clause-opens_to
unfolding deciphered
returns-clause-opens_to c =
    let file = c.args.self.now in
    let n = c.args.n in
    let head : List ℕ = c.put_head.new.head in
    let text : List ℕ = c.cbc_encrypt.new.text in
    let reserve : List ℕ = c.copy_from_slice-3.new.self in
    let page : List ℕ = head ++ text ++ reserve in
    let start = cipher_start file.profile n in
    let layout : c.self.inside.profile ≡ file.profile = ap (λ (f : FileKeys). f.profile) c.self.view_is in
    let laid_out : IsLaidOut file.profile = subst IsLaidOut layout c.usable-usable.ensures.laid_out in
    let at : c.usable-usable.result ≡ usable file.profile = c.usable-usable.ensures.value ∙ ap usable layout in
    let key : c.self.inside.keys.enc ≡ file.keys.enc = ap (λ (f : FileKeys). f.keys.enc) c.self.view_is in
    let head_long : length head ≡ start =
    omega (arith, c.put_head.auto.head, c.split_at_mut-head.ensures.front_len, c.cipher_start-start.ensures.value) in
    let salt_long : length file.salt ≡ 16 = c.put_head.ensures.salt in
    let head_is : head ≡ stored_head file n c.args.plain.now = c.put_head.ensures.value in
    let heads : plain_head file.profile n page ≡ plain_head file.profile n c.args.plain.now =
    ap (λ (first : List ℕ). plain_head file.profile n (first ++ text ++ reserve)) head_is
    ∙ head_opens file n c.args.plain.now text reserve salt_long (ap length (sym head_is) ∙ head_long) in
    let text_long : length head + length text ≡ usable file.profile = omega (arith, head_long, at) in
    let body : ciphertext file.profile n page ≡ text =
    part_between head text reserve start (usable file.profile) head_long text_long in
    let iv : stored_iv file.profile page ≡ take 16 c.args.draw.now =
    part_after (head ++ text) reserve (usable file.profile) (usable file.profile + 16) 16
    (length-append head text ∙ text_long) refl
    ∙ ap (take 16) c.copy_from_slice-3.ensures.after in
    let plain : cbc_decrypted file.keys.enc (take 16 c.args.draw.now) text ≡ drop start c.args.plain.now =
    grind (arith, common_steps, key) in
    ap (λ (first : List ℕ). plain_head file.profile n page ++ cbc_decrypted file.keys.enc first (ciphertext file.profile n page)) iv
    ∙ ap (λ (rest : List ℕ). plain_head file.profile n page ++ cbc_decrypted file.keys.enc (take 16 c.args.draw.now) rest) body
    ∙ ap (λ (rest : List ℕ). plain_head file.profile n page ++ rest) plain
    ∙ ap (λ (first : List ℕ). first ++ drop start c.args.plain.now) heads
