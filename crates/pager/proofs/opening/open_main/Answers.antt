use Rattle.std.proofs.Common.{◌≡◌, ◌≤◌, List, ℕ, inr, length, arith, ap, sym, ◌∙◌}
use Rattle.cipher_profile.proofs.Layouts.{IsListed-laid_out}
use Rattle.edge_model.specs.Files.{main_of}
use Rattle.page_codec.specs.Page.{FileKeys, keys_of}
use Rattle.pager.specs.Opening.{first_opened}
use Rattle.pager.proofs.FirstPage.{keys_from_page}
use Rattle.pager.proofs.OpeningLemmas.{opened_by}
use Rattle.pager.proofs.opening.open_main.Goals as goal

pub returns-in-Ok-clause-opens : goal.returns-in-Ok-clause-opens
returns-in-Ok-clause-opens g c = λ told.
    let profile = c.args.profile in
    let secret = c.args.secret.now in
    let main = main_of (g.D.Disk.reads c.args.disk.now) in
    let keys = keys_of profile secret main in
    let page = c.read_first.new.page in
    let read = c.in_ok-len.ensures in
    let long : profile.page_size ≤ length main = omega (arith, read.page, read.told told) in
    let listed : 16 ≤ profile.page_size = omega (arith, (IsListed-laid_out profile c.requires).least) in
    let codec : c.of_file-codec.result ≡ keys =
    c.of_file-codec.ensures ∙ ap (λ (p : List ℕ). keys_of profile secret p) (read.read told) ∙ keys_from_page profile secret main listed long in
    opened_by keys main page c.in_ok-len.len (read.passed told) (read.read told) (read.told told)
    ∙ ap (λ (k : FileKeys). first_opened k page c.in_ok-len.len) (sym codec) ∙ c.in-Ok.ensures.opens

pub returns-in-Ok-clause-codec : goal.returns-in-Ok-clause-codec
returns-in-Ok-clause-codec g c = λ told.
    let profile = c.args.profile in
    let secret = c.args.secret.now in
    let main = main_of (g.D.Disk.reads c.args.disk.now) in
    let read = c.in_ok-len.ensures in
    let long : profile.page_size ≤ length main = omega (arith, read.page, read.told told) in
    let listed : 16 ≤ profile.page_size = omega (arith, (IsListed-laid_out profile c.requires).least) in
    c.of_file-codec.ensures ∙ ap (λ (p : List ℕ). keys_of profile secret p) (read.read told) ∙ keys_from_page profile secret main listed long

pub returns-in-Err-clause-refused : goal.returns-in-Err-clause-refused
returns-in-Err-clause-refused g c = λ told.
    let profile = c.args.profile in
    let secret = c.args.secret.now in
    let main = main_of (g.D.Disk.reads c.args.disk.now) in
    let keys = keys_of profile secret main in
    let page = c.read_first.new.page in
    let read = c.in_ok-len.ensures in
    let long : profile.page_size ≤ length main = omega (arith, read.page, read.told told) in
    let listed : 16 ≤ profile.page_size = omega (arith, (IsListed-laid_out profile c.requires).least) in
    let codec : c.of_file-codec.result ≡ keys =
    c.of_file-codec.ensures ∙ ap (λ (p : List ℕ). keys_of profile secret p) (read.read told) ∙ keys_from_page profile secret main listed long in
    inr (opened_by keys main page c.in_ok-len.len (read.passed told) (read.read told) (read.told told)
    ∙ ap (λ (k : FileKeys). first_opened k page c.in_ok-len.len) (sym codec) ∙ c.in-Err.ensures.refused)
