use Rattle.std.proofs.Common.{◌≡◌, ◌≤◌, List, ℕ, length, arith, ap, ◌∙◌}
use Rattle.std.proofs.lemmas.List.{length-take-le}
use Rattle.cipher_profile.proofs.Layouts.{IsListed-laid_out}
use Rattle.page_codec.specs.Page.{FileKeys, keys_of, fits}
use Rattle.edge_model.specs.Files.{main_of}
use Rattle.pager.proofs.FirstPage.{keys_from_page, page_is}
use Rattle.pager.proofs.opening.codec_of.Goals as goal

pub returns-clause-codec : goal.returns-clause-codec
returns-clause-codec g c = λ told.
    let profile = c.args.profile in
    let secret = c.args.secret.now in
    let main = main_of (g.D.Disk.reads c.args.disk.now) in
    let page = c.read_page.new.page in
    let laid_out = IsListed-laid_out profile c.requires.listed in
    let long : length page ≡ profile.page_size = c.read_page.auto.page ∙ length-take-le profile.page_size _ (omega (arith, laid_out.most)) in
    let listed : 16 ≤ profile.page_size = omega (arith, laid_out.least) in
    c.of_file-codec.ensures
    ∙ ap (λ (p : List ℕ). keys_of profile secret p) (page_is profile.page_size page main long (c.requires.some told) (c.in_ok-read_page.ensures.told told))
    ∙ keys_from_page profile secret main listed (c.requires.some told)

pub returns-clause-fits : goal.returns-clause-fits
returns-clause-fits g c = λ told.
    let profile = c.args.profile in
    let main = main_of (g.D.Disk.reads c.args.disk.now) in
    let page = c.read_page.new.page in
    let laid_out = IsListed-laid_out profile c.requires.listed in
    let long : length page ≡ profile.page_size = c.read_page.auto.page ∙ length-take-le profile.page_size _ (omega (arith, laid_out.most)) in
    let listed : 16 ≤ profile.page_size = omega (arith, laid_out.least) in
    let paged = page_is profile.page_size page main long (c.requires.some told) (c.in_ok-read_page.ensures.told told) in
    c.key_fits-fits.ensures
    ∙ ap (λ (keys : FileKeys). fits keys page)
    (c.of_file-codec.ensures ∙ ap (λ (p : List ℕ). keys_of profile c.args.secret.now p) paged ∙ keys_from_page profile c.args.secret.now main listed (c.requires.some told))
    ∙ ap (λ (p : List ℕ). fits (keys_of profile c.args.secret.now main) p) paged
