use Rattle.std.proofs.Common.{◌≡◌, true, ap, sym, subst, ◌∙◌}
use Rattle.cipher_profile.specs.declared.profile.Profile.{Profile}
use Rattle.cipher_profile.specs.Profile.{IsListed, is_plain}
use Rattle.cipher_profile.proofs.Layouts.{IsListed-laid_out}
use Rattle.page_codec.specs.Page.{FileKeys}
use Rattle.page_codec.proofs.TagPlace.{accepts-no_tag, plain_untagged}
use Rattle.page_codec.proofs.codec.Codec.seal_page.Goals as goal

pub returns-then-is_plain-clause-accepted : goal.returns-then-is_plain-clause-accepted
returns-then-is_plain-clause-accepted c =
    let file = c.args.self.now in
    let same : c.self.inside.profile ≡ file.profile = ap (λ (f : FileKeys). f.profile) c.self.view_is in
    let listed : IsListed file.profile = subst (λ (p : Profile). IsListed p) same c.self.invariant.listed in
    let plain : is_plain file.profile ≡ true = sym (ap is_plain same) ∙ sym c.is_plain.ensures ∙ c.if-is_plain.true in
    accepts-no_tag file c.args.n c.copy_from_slice.new.self (plain_untagged file.profile (IsListed-laid_out file.profile listed) plain)
