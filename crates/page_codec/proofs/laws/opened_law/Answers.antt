use Rattle.std.proofs.Common.{ap, subst}
use Rattle.aes_block.specs.Aes.{IsKey}
use Rattle.cipher_profile.specs.Profile.{IsLaidOut}
use Rattle.page_codec.specs.Page.{FileKeys}
use Rattle.page_codec.proofs.PlainPages.{opened_plain}
use Rattle.page_codec.proofs.laws.opened_law.Goals as goal

pub returns : goal.returns
returns c =
    let laid_out : IsLaidOut c.args.codec.now.profile =
    subst IsLaidOut (ap (λ (f : FileKeys). f.profile) c.codec.view_is) c.usable-usable.ensures.laid_out in
    let key : IsKey c.args.codec.now.keys.enc =
    subst IsKey (ap (λ (f : FileKeys). f.keys.enc) c.codec.view_is) c.key_law.ensures in
    λ n stored size bytes.
    opened_plain c.args.codec.now n stored laid_out key size bytes c.cbc_round_trip_law.ensures
