use Rattle.std.proofs.Common.{◌≡◌, ◌-◌, ◌+◌, ◌*◌, ◌≤◌, ℕ, length, take, drop, ◌∙◌, ap, arith}
use Rattle.edge_model.specs.Files.{Files, written, main_of}
use Rattle.edge_model.specs.Moments.{then_from}
use Rattle.log_format.specs.Logs.{frame_bytes_at}
use Rattle.rollback_journal.specs.Laying.{page_start}
use Rattle.log_recovery.specs.Laying.{log_of}
use Rattle.log_recovery.proofs.Kept.{keeps_joins}
use Rattle.log_recovery.proofs.MainSteps.{only_read}
use Rattle.log_recovery.proofs.FrameSteps.{did_lay}
use Rattle.log_recovery.proofs.laying.lay_frame.Goals as goal

pub returns-in_err-lay_page-clause-any_moment : goal.returns-in_err-lay_page-clause-any_moment
returns-in_err-lay_page-clause-any_moment g c told =
    then_from g.met.D.Disk.counts_now (keeps_joins c.args.reading.now.page_size)
    (only_read g.D.Disk.images c.args.reading.now.page_size (c.read_full.ensures.any_moment told)) (c.lay_page.ensures.any_moment told)

pub returns-clause-any_moment : goal.returns-clause-any_moment
returns-clause-any_moment g c told =
    then_from g.met.D.Disk.counts_now (keeps_joins c.args.reading.now.page_size)
    (only_read g.D.Disk.images c.args.reading.now.page_size (c.read_full.ensures.any_moment told)) (c.lay_page.ensures.any_moment told)

pub returns-clause-did : goal.returns-clause-did
returns-clause-did g c told =
    let size = c.args.reading.now.page_size in
    let now = g.D.Disk.reads c.args.disk.now in
    let log = log_of now in
    let fits : 32 + c.args.k * (size + 24) + length c.args.buffer.now ≤ length log =
    omega (arith, c.requires.fits, c.requires.buffer, (c.requires.read told).len) in
    let frame : c.read_full.new.buffer ≡ frame_bytes_at size log c.args.k =
    c.in_ok-read_full.ensures.filled told (c.requires.there told) fits
    ∙ ap (λ (n : ℕ). take n (drop (32 + c.args.k * (size + 24)) log)) c.requires.buffer in
    c.in_ok-lay_page.ensures.laid told
    ∙ ap (λ (x : Files). written (page_start size c.u32_at-page.result) (take (24 + size - 24) (drop 24 c.read_full.new.buffer)) (main_of x))
    (c.read_full.ensures.same told)
    ∙ did_lay size c.args.reading.now.pages c.args.k c.u32_at-page.result log c.read_full.new.buffer (main_of now) frame
    (omega (arith, fits, c.requires.buffer)) c.u32_at-page.ensures (omega (arith, c.if-page-lt1.false)) (omega (arith, c.if-page-reading.false))
