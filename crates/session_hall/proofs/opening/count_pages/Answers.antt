use Rattle.std.proofs.Common.{◌≡◌, ◌∙◌, ◌<◌, ◌≤◌, ℕ, length, Some, sym, ap, subst, arith}
use Rattle.edge_model.specs.Files.{Files, main_of}
use Rattle.page_codec.specs.Page.{FileKeys}
use Rattle.pager.specs.Opening.{IsRefusedBy, file_opened}
use Rattle.pager.specs.Reads.{then_read}
use Rattle.session_hall.specs.Key.{codec_of}
use Rattle.session_hall.specs.Machine.{counted_pages}
use Rattle.session_hall.proofs.opening.count_pages.Goals as goal

pub read-requires-clause-recovered : goal.read-requires-clause-recovered
read-requires-clause-recovered g c = λ told byte image now.
    let run = then_read (c.served_length.ensures.only_read told) (c.codec_of_main.ensures.only_read told) in
    c.requires.recovered told (subst (λ (f : Files). 0 < length (main_of f)) run.stays byte) image (run.same_images.no_more image now)

pub returns-in-Ok-read-clause-opens : goal.returns-in-Ok-read-clause-opens
returns-in-Ok-read-clause-opens g c = λ told.
    let d = g.D.Disk in
    let x = c.args.session.now in
    let file = main_of (d.reads c.args.disk.now) in
    let run = then_read (c.served_length.ensures.only_read told) (c.codec_of_main.ensures.only_read told) in
    let first = (c.served_length.ensures.only_read told).stays in
    let long : 16 ≤ length (main_of (d.reads c.served_length.new.disk)) =
    omega (arith, c.in_ok-served_length.ensures.told told, c.in_ok-served_length.ensures.page, c.usable-usable.ensures.laid_out.least, ap (λ (f : Files). length (main_of f)) first) in
    let codec_is : c.in-Ok.codec ≡ codec_of x.access file = c.in-Ok.ensures.codec told long ∙ ap (λ (f : Files). codec_of x.access (main_of f)) first in
    ap (λ (k : FileKeys). counted_pages (file_opened k file)) (sym codec_is)
    ∙ ap (λ (f : Files). counted_pages (file_opened c.in-Ok.codec (main_of f))) (sym run.stays)
    ∙ ap counted_pages (c.in-Ok-read.ensures.opens told)
    ∙ ap (λ (n : ℕ). Some n) (sym c.pages.ensures.count)

pub returns-in-Err-clause-refused : goal.returns-in-Err-clause-refused
returns-in-Err-clause-refused g c = λ told.
    let d = g.D.Disk in
    let x = c.args.session.now in
    let file = main_of (d.reads c.args.disk.now) in
    let run = then_read (c.served_length.ensures.only_read told) (c.codec_of_main.ensures.only_read told) in
    let first = (c.served_length.ensures.only_read told).stays in
    let long : 16 ≤ length (main_of (d.reads c.served_length.new.disk)) =
    omega (arith, c.in_ok-served_length.ensures.told told, c.in_ok-served_length.ensures.page, c.usable-usable.ensures.laid_out.least, ap (λ (f : Files). length (main_of f)) first) in
    let codec_is : c.in-Ok.codec ≡ codec_of x.access file = c.in-Ok.ensures.codec told long ∙ ap (λ (f : Files). codec_of x.access (main_of f)) first in
    subst (λ (k : FileKeys). IsRefusedBy (file_opened k file) c.in-Err.error) codec_is
    (subst (λ (f : Files). IsRefusedBy (file_opened c.in-Ok.codec (main_of f)) c.in-Err.error) run.stays (c.in-Err.ensures.refused told))
