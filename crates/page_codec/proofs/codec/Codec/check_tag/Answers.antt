use Rattle.std.proofs.Common.{arith, refl, ap, sym, ◌∙◌, ◌≡◌, IsTrue}
use Rattle.page_codec.specs.Page.{FileKeys, accepts}
use Rattle.page_codec.proofs.TagPlace.{accepts-no_tag}
use Rattle.page_codec.proofs.codec.Codec.check_tag.Goals as goal
use Rattle.page_codec.proofs.codec.Codec.check_tag.Goals.{else-self-gt0-via-then-self-gt0+else-not-tag_holds, else-self-gt0-via-else-self-gt0}

pub returns-clause-accepted : goal.returns-clause-accepted
returns-clause-accepted c =
    let tag_len : c.self.inside.profile.tag_len ≡ c.args.self.now.profile.tag_len =
    ap (λ (file : FileKeys). file.profile.tag_len) c.self.view_is in
    let holds : IsTrue (accepts c.args.self.now c.args.n c.args.stored.now) =
    elim c.else-self-gt0.branch [
      | else-self-gt0-via-then-self-gt0+else-not-tag_holds w ↦ sym w.tag_holds.ensures ∙ w.if-not-tag_holds.false
      | else-self-gt0-via-else-self-gt0 w ↦
          accepts-no_tag c.args.self.now c.args.n c.args.stored.now (omega (arith, tag_len, w.if-self-gt0.false))
    ] in
    ((λ _. holds), (λ _. refl))
