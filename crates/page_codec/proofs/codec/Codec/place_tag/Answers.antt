use Rattle.std.proofs.Common.{◌≡◌, List, ℕ, length, arith, ap, ◌∙◌, subst, sym, IsTrue}
use Rattle.std.proofs.lemmas.Grind.{common_steps}
use Rattle.std.proofs.lemmas.List.{length-take-le}
use Rattle.cipher_profile.specs.Profile.{IsLaidOut}
use Rattle.page_codec.specs.Page.{FileKeys, accepts, deciphered, tag}
use Rattle.page_codec.proofs.Parts.{head_short}
use Rattle.page_codec.proofs.TagPlace.{accepts-with_tag, length-digest, deciphered-with_tag}
use Rattle.page_codec.proofs.codec.Codec.place_tag.Goals as goal

pub returns-clause-value : goal.returns-clause-value
returns-clause-value c = grind (arith, common_steps)

pub returns-clause-accepted : goal.returns-clause-accepted
returns-clause-accepted c =
    let file = c.args.self.now in
    let n = c.args.n in
    let stored : List ℕ = c.args.stored.now in
    let laid_out : IsLaidOut file.profile =
    subst IsLaidOut (ap (λ (f : FileKeys). f.profile) c.self.view_is) c.usable-tag_at.ensures.laid_out in
    let long : length (tag file n stored) ≡ file.profile.tag_len =
    ap length (sym c.requires.tag)
    ∙ length-take-le file.profile.tag_len c.args.mac.now (omega (arith, laid_out, length-digest file.profile.hash, c.requires.mac_size)) in
    subst (λ (page : List ℕ). IsTrue (accepts file n page)) (sym (returns-clause-value c))
    (accepts-with_tag file n stored (omega (arith, laid_out.room c.requires.ciphered, c.requires.size)) long)

pub returns-clause-opens_as_before : goal.returns-clause-opens_as_before
returns-clause-opens_as_before c =
    let file = c.args.self.now in
    let n = c.args.n in
    let stored : List ℕ = c.args.stored.now in
    let laid_out : IsLaidOut file.profile =
    subst IsLaidOut (ap (λ (f : FileKeys). f.profile) c.self.view_is) c.usable-tag_at.ensures.laid_out in
    ap (deciphered file n) (returns-clause-value c)
    ∙ deciphered-with_tag file n (tag file n stored) stored (omega (arith, head_short file.profile n laid_out, laid_out.content)) (omega (arith, laid_out.room c.requires.ciphered, c.requires.size))
