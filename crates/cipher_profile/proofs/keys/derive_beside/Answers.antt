use Rattle.std.proofs.Common.{◌∙◌, sym}
use Rattle.cipher_profile.proofs.Beside.{keys_alike}
use Rattle.cipher_profile.proofs.keys.derive_beside.Goals as goal

pub returns-then-stretch_alike : goal.returns-then-stretch_alike
returns-then-stretch_alike c =
    let alike = c.stretch_alike.ensures.0 c.if-stretch_alike.true in
    c.requires.known ∙ sym (keys_alike c.args.profile.now c.args.known.now c.args.secret.now c.args.salt.now alike.0 alike.1)
