use Rattle.std.proofs.Common.{◌≡◌, arith, ap}
use Rattle.page_codec.specs.Page.{FileKeys}
use Rattle.page_codec.proofs.TagPlace.{accepts-no_tag}
use Rattle.page_codec.proofs.codec.Codec.put_tag.Goals as goal

pub returns-else-self-gt0-clause-accepted : goal.returns-else-self-gt0-clause-accepted
returns-else-self-gt0-clause-accepted c =
    let tag_len : c.self.inside.profile.tag_len ≡ c.args.self.now.profile.tag_len =
    ap (λ (file : FileKeys). file.profile.tag_len) c.self.view_is in
    accepts-no_tag c.args.self.now c.args.n c.args.stored.now (omega (arith, tag_len))
