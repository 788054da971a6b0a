use Rattle.std.proofs.Common.{◌≡◌, true, arith, ap, sym, subst, ◌∙◌}
use Rattle.cipher_profile.specs.declared.profile.Profile.{Profile}
use Rattle.cipher_profile.specs.Profile.{IsListed, is_plain}
use Rattle.cipher_profile.proofs.Layouts.{IsListed-laid_out}
use Rattle.page_codec.specs.Page.{FileKeys}
use Rattle.page_codec.proofs.Parts.{opened_whole}
use Rattle.page_codec.proofs.codec.Codec.open_accepted.Goals as goal

pub returns-else-not-is_plain-clause-opened : goal.returns-else-not-is_plain-clause-opened
returns-else-not-is_plain-clause-opened c =
    let file = c.args.self.now in
    let same : c.self.inside.profile ≡ file.profile = ap (λ (f : FileKeys). f.profile) c.self.view_is in
    let listed : IsListed file.profile = subst (λ (p : Profile). IsListed p) same c.self.invariant.listed in
    let plain : is_plain file.profile ≡ true = sym (ap is_plain same) ∙ sym c.is_plain.ensures ∙ c.if-not-is_plain.false in
    let laid_out = IsListed-laid_out file.profile listed in
    opened_whole file c.args.n c.args.page.now plain (omega (arith, c.requires.size, laid_out.unreserved plain))
