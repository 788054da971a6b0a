use Rattle.std.proofs.Common.{◌≡◌, ◌+◌, ◌-◌, ◌∙◌, ℕ, List, take, drop, ap, subst, arith}
use Rattle.std.proofs.lemmas.List.{take_at}
use Rattle.cipher_profile.specs.Profile.{IsLaidOut, usable}
use Rattle.page_codec.specs.Page.{FileKeys, stored_iv}
use Rattle.page_codec.proofs.Parts.{head_short, opened_of}
use Rattle.page_codec.proofs.codec.Codec.decipher_in_place.Goals as goal

pub returns-clause-opened : goal.returns-clause-opened
returns-clause-opened c =
    let file = c.args.self.now in
    let page : List ℕ = c.args.page.now in
    let content : List ℕ = c.decipher_content.new.content in
    let reserve : List ℕ = c.split_at_mut-content.result.1.now in
    let laid_out : IsLaidOut file.profile = subst IsLaidOut (ap (λ (f : FileKeys). f.profile) c.self.view_is) c.usable.ensures.laid_out in
    let at : c.usable.result ≡ usable file.profile =
    c.usable.ensures.value ∙ ap (λ (f : FileKeys). usable f.profile) c.self.view_is in
    let long : 16 ≡ usable file.profile + 16 - usable file.profile = omega arith in
    let iv : c.copy_from_slice.new.self ≡ stored_iv file.profile page =
    c.copy_from_slice.ensures.after
    ∙ ap (take 16) (c.split_at_mut-content.ensures.back ∙ ap (λ (u : ℕ). drop u page) at)
    ∙ ap (λ (k : ℕ). take k (drop (usable file.profile) page)) long in
    take_at content reserve (usable file.profile)
    (omega (arith, at, c.decipher_content.auto.content, c.split_at_mut-content.ensures.front_len))
    ∙ c.decipher_content.ensures
    ∙ opened_of file c.args.n page c.copy_from_slice.new.self c.split_at_mut-content.result.0.now
    (omega (arith, head_short file.profile c.args.n laid_out, laid_out.content))
    iv
    (c.split_at_mut-content.ensures.front ∙ ap (λ (u : ℕ). take u page) at)
