use Rattle.std.proofs.Common.{◌≡◌, arith, refl, ap, sym, subst, ◌∙◌}
use Rattle.db_format.specs.Pages.{Pages}
use Rattle.edge_model.specs.Files.{Files}
use Rattle.pager.specs.Reads.{then_read}
use Rattle.salvage_scan.specs.Salvage.{file_pages, salvage_lines}
use Rattle.salvage_scan.specs.Scan.{IsPutLine, IsPutPart, ScanState}
use Rattle.salvage_scan.specs.Text.{counts_shown}
use Rattle.salvage_scan.proofs.AnswerSteps.{cause_key, cause_stop, disk_key, disk_stop, end_key, end_reported, lines_reported, none_reported}
use Rattle.salvage_scan.proofs.salvaging.salvage_pages.Goals as goal

pub returns-in-Err-clause-on : goal.returns-in-Err-clause-on
returns-in-Err-clause-on g c told = none_reported g.K.Sink.tells (file_pages c.args.codec.now (g.D.Disk.reads c.args.disk.now)) (g.K.Sink.taken c.args.out.now)

pub returns-in-Err-has_accepted-clause-on : goal.returns-in-Err-has_accepted-clause-on
returns-in-Err-has_accepted-clause-on g c told = none_reported g.K.Sink.tells (file_pages c.args.codec.now (g.D.Disk.reads c.args.disk.now)) (g.K.Sink.taken c.args.out.now)

pub returns-in-Err-has_accepted-clause-key : goal.returns-in-Err-has_accepted-clause-key
returns-in-Err-has_accepted-clause-key g c told =
    disk_key c.args.codec.now.profile.tag_len (file_pages c.args.codec.now (g.D.Disk.reads c.args.disk.now)) (g.D.Disk.faults c.args.disk.now) (g.D.Disk.faults c.has_accepted.new.disk)
    c.in-Err-has_accepted.error c.in-Err-has_accepted.ensures.cause

pub returns-in-Err-has_accepted-clause-stop : goal.returns-in-Err-has_accepted-clause-stop
returns-in-Err-has_accepted-clause-stop g c =
    disk_stop c.args.codec.now.profile.tag_len (g.D.Disk.faults c.args.disk.now) (g.D.Disk.faults c.has_accepted.new.disk) (g.K.Sink.faults c.args.out.now) (g.K.Sink.faults c.args.out.now)
    (c.args.out.now ≡ c.args.out.now) c.in-Err-has_accepted.error c.in-Err-has_accepted.ensures.cause

pub returns-in-Ok-false-clause-on : goal.returns-in-Ok-false-clause-on
returns-in-Ok-false-clause-on g c told = none_reported g.K.Sink.tells (file_pages c.args.codec.now (g.D.Disk.reads c.args.disk.now)) (g.K.Sink.taken c.args.out.now)

pub returns-in-Ok-false-clause-key : goal.returns-in-Ok-false-clause-key
returns-in-Ok-false-clause-key g c told = (c.in-Ok-false.ensures.tagged c.in-Ok-false.field-0-test, c.in-Ok-false.ensures.none c.in-Ok-false.field-0-test told)

pub returns-in-Ok-false-clause-stop : goal.returns-in-Ok-false-clause-stop
returns-in-Ok-false-clause-stop g c = (c.in-Ok-false.ensures.tagged c.in-Ok-false.field-0-test, refl)

pub put_pages-requires-clause-pages : goal.put_pages-requires-clause-pages
put_pages-requires-clause-pages g c told =
    let same : g.D.Disk.reads c.has_accepted.new.disk ≡ g.D.Disk.reads c.args.disk.now = (c.in-Ok-true.ensures.only_read told).stays in
    c.in-Ok.ensures.pages ∙ c.requires.pages told ∙ ap (λ (files : Files). (file_pages c.args.codec.now files).count) (sym same)

pub returns-in-Err-put_pages-clause-on : goal.returns-in-Err-put_pages-clause-on
returns-in-Err-put_pages-clause-on g c told =
    let pages : Pages = file_pages c.args.codec.now (g.D.Disk.reads c.args.disk.now) in
    let same : g.D.Disk.reads c.has_accepted.new.disk ≡ g.D.Disk.reads c.args.disk.now = (c.in-Ok-true.ensures.only_read told).stays in
    let s : ScanState = record { taken = g.K.Sink.taken c.args.out.now; waits = c.in-Ok.scan.line; counts = counts_shown c.in-Ok.scan.counts } in
    let u : ScanState = record { taken = g.K.Sink.taken c.put_pages.new.out; waits = c.put_pages.new.scan.line; counts = counts_shown c.put_pages.new.scan.counts } in
    lines_reported g.K.Sink.tells pages s c.in-Ok.ensures.nothing c.in-Ok.ensures.none u
    (subst (λ (files : Files). IsPutPart g.K.Sink.tells (salvage_lines (file_pages c.args.codec.now files)) s u) same (c.in-Err-put_pages.ensures.on told))

pub returns-in-Err-put_pages-clause-key : goal.returns-in-Err-put_pages-clause-key
returns-in-Err-put_pages-clause-key g c told =
    cause_key c.args.codec.now.profile.tag_len (file_pages c.args.codec.now (g.D.Disk.reads c.args.disk.now)) (g.D.Disk.faults c.has_accepted.new.disk) (g.D.Disk.faults c.put_pages.new.disk)
    (g.K.Sink.faults c.args.out.now) (g.K.Sink.faults c.put_pages.new.out) c.in-Err-put_pages.error c.in-Err-put_pages.ensures.cause

pub returns-in-Err-put_pages-clause-stop : goal.returns-in-Err-put_pages-clause-stop
returns-in-Err-put_pages-clause-stop g c =
    cause_stop c.args.codec.now.profile.tag_len (g.D.Disk.faults c.args.disk.now) (g.D.Disk.faults c.put_pages.new.disk) (g.K.Sink.faults c.args.out.now) (g.K.Sink.faults c.put_pages.new.out)
    (c.put_pages.new.out ≡ c.args.out.now) (g.D.Disk.faults c.has_accepted.new.disk) (g.K.Sink.faults c.args.out.now) c.in-Err-put_pages.error
    c.in-Ok-true.ensures.later (omega arith) c.in-Err-put_pages.ensures.cause

pub returns-clause-on : goal.returns-clause-on
returns-clause-on g c told =
    let pages : Pages = file_pages c.args.codec.now (g.D.Disk.reads c.args.disk.now) in
    let same : g.D.Disk.reads c.has_accepted.new.disk ≡ g.D.Disk.reads c.args.disk.now = (c.in-Ok-true.ensures.only_read told).stays in
    let s : ScanState = record { taken = g.K.Sink.taken c.args.out.now; waits = c.in-Ok.scan.line; counts = counts_shown c.in-Ok.scan.counts } in
    let t : ScanState = record { taken = g.K.Sink.taken c.put_pages.new.out; waits = c.put_pages.new.scan.line; counts = counts_shown c.put_pages.new.scan.counts } in
    end_reported g.K.Sink.tells pages s c.in-Ok.ensures.nothing c.in-Ok.ensures.none t
    (subst (λ (files : Files). IsPutLine g.K.Sink.tells (salvage_lines (file_pages c.args.codec.now files)) s t) same (c.in-Ok-put_pages.ensures.on told))
    (g.K.Sink.taken c.put_end.new.out) c.put_pages.new.scan.counts c.put_end.result refl c.put_end.ensures.text c.put_end.ensures.part c.put_end.ensures.counts

pub returns-clause-only_read : goal.returns-clause-only_read
returns-clause-only_read g c told = then_read (c.in-Ok-true.ensures.only_read told) (c.in-Ok-put_pages.ensures.only_read told)

pub returns-clause-key : goal.returns-clause-key
returns-clause-key g c told =
    end_key c.args.codec.now.profile.tag_len (file_pages c.args.codec.now (g.D.Disk.reads c.args.disk.now)) (g.K.Sink.faults c.put_pages.new.out) (g.K.Sink.faults c.put_end.new.out)
    c.put_end.result (c.in-Ok-true.ensures.some c.in-Ok-true.field-0-test told) c.put_end.ensures.cause

pub returns-in-Err-put_pages-clause-only_read : goal.returns-in-Err-put_pages-clause-only_read
returns-in-Err-put_pages-clause-only_read g c told = then_read (c.in-Ok-true.ensures.only_read told) (c.in-Err-put_pages.ensures.only_read told)
