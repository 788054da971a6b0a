use Rattle.std.proofs.Common.{◌≡◌, ◌≤◌, ◌*◌, List, ℕ, length, arith, ap, subst, ◌∙◌}
use Rattle.edge_model.specs.Files.{Files, main_of}
use Rattle.page_codec.specs.Page.{stored_page}
use Rattle.pager.proofs.FirstPage.{page_is}
use Rattle.pager.proofs.opening.read_first.Goals as goal

pub returns-in-Ok-clause-read : goal.returns-in-Ok-clause-read
returns-in-Ok-clause-read g c = λ told.
    let main = main_of (g.D.Disk.reads c.args.disk.now) in
    let page = c.read_page.new.page in
    let size = c.args.profile.now.page_size in
    let same : main_of (g.D.Disk.reads c.served_length.new.disk) ≡ main = ap (λ (files : Files). main_of files) (c.served_length.ensures.only_read told).stays in
    let long : length page ≡ size = c.read_page.auto.page ∙ c.requires.size in
    let whole : size ≤ length main = omega (arith, c.in_ok-len.ensures.page, c.in_ok-len.ensures.told told) in
    page_is size page main long whole
    (subst (λ (l : List ℕ). 1 * length page ≤ length l → page ≡ stored_page (length page) 1 l) same (c.in-Ok.ensures.told told))
