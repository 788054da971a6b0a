use Rattle.std.proofs.Common.{◌≡◌, ◌++◌, List, ℕ, drop, ap, ◌∙◌}
use Rattle.page_codec.specs.Page.{cipher_start, enciphered, plain_head, tag, with_tag}
use Rattle.page_codec.proofs.Parts.{magic_first}
use Rattle.page_codec.proofs.codec.Codec.encipher_page.Goals as goal

pub returns-clause-value : goal.returns-clause-value
unfolding enciphered
returns-clause-value c =
    let file = c.args.self.now in
    c.put_tag.ensures.value
    ∙ ap (λ (page : List ℕ). with_tag file.profile (tag file c.args.n page) page) c.encipher.ensures.value

pub returns-clause-opens_to : goal.returns-clause-opens_to
returns-clause-opens_to c =
    let profile = c.args.self.now.profile in
    let plain : List ℕ = c.args.plain.now in
    let whole : plain_head profile c.args.n plain ++ drop (cipher_start profile c.args.n) plain ≡ plain = magic_first profile c.args.n plain c.requires.magic in
    c.put_tag.ensures.opens_as_before ∙ c.encipher.ensures.opens_to ∙ whole
