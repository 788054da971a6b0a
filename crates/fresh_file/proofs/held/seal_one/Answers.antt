use Rattle.std.proofs.Common.{◌≡◌, ◌∙◌, ℕ, List, take, drop, ap, subst, rules}
use Rattle.cipher_profile.specs.Profile.{IsListed, usable}
use Rattle.page_codec.specs.Page.{sealed}
use Rattle.fresh_file.proofs.HeldLaws.{sealed_as}
use Rattle.fresh_file.proofs.held.seal_one.Goals as goal

pub returns-clause-sealed : goal.returns-clause-sealed
returns-clause-sealed c =
    let keys = c.args.codec.now in
    let page : List ℕ = c.args.page.now in
    let u : ℕ = usable keys.profile in
    let at : c.usable.result ≡ u = c.usable.ensures.value ∙ ap usable c.profile.ensures.value in
    let front : c.split_at.result.0.now ≡ take u page = c.split_at.ensures.front ∙ ap (λ (k : ℕ). take k page) at in
    let back : c.split_at.result.1.now ≡ drop u page = c.split_at.ensures.back ∙ ap (λ (k : ℕ). drop k page) at in
    sealed_as keys c.args.n page c.seal_page.new.stored (subst IsListed c.profile.ensures.value c.profile.ensures.listed) c.requires.number c.requires.page (search rules)
    (c.seal_page.ensures.value ∙ (λ i. sealed keys c.args.n (front i) (back i))) c.seal_page.ensures.accepted (c.seal_page.ensures.opens_to ∙ front)
