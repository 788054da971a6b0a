use Rattle.std.proofs.Common.{◌≡◌, ◌+◌, ◌∙◌, ℕ, List, take, ap, subst, arith}
use Rattle.std.specs.Prelude.{slice_range}
use Rattle.cipher_profile.specs.Profile.{IsLaidOut, usable}
use Rattle.page_codec.specs.Page.{FileKeys}
use Rattle.page_codec.proofs.Parts.{head_short, opened_of}
use Rattle.page_codec.proofs.codec.Codec.decipher.Goals as goal

pub returns : goal.returns
returns c =
    let file = c.args.self.now in
    let stored : List ℕ = c.args.stored.now in
    let laid_out : IsLaidOut file.profile = subst IsLaidOut (ap (λ (f : FileKeys). f.profile) c.self.view_is) c.usable-usable.ensures.laid_out in
    let at : c.usable-usable.result ≡ usable file.profile =
    c.usable-usable.ensures.value ∙ ap (λ (f : FileKeys). usable f.profile) c.self.view_is in
    c.decipher_content.ensures
    ∙ opened_of file c.args.n stored c.copy_from_slice.new.self c.copy_from_slice-2.new.self
    (omega (arith, head_short file.profile c.args.n laid_out, laid_out.content))
    (c.copy_from_slice.ensures.after ∙ ap (λ (u : ℕ). slice_range stored u (u + 16)) at)
    (c.copy_from_slice-2.ensures.after ∙ ap (λ (u : ℕ). take u stored) at)
