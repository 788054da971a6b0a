use Rattle.std.proofs.Common.{◌≡◌, ◌+◌, ◌-◌, List, arith, refl, ap, sym, subst, ◌∙◌}
use Rattle.std.specs.List.{flat_map, range_with_len}
use Rattle.db_format.specs.Pages.{Pages}
use Rattle.edge_model.specs.Files.{Files}
use Rattle.pager.specs.Reads.{not_read, then_read}
use Rattle.salvage_scan.specs.Salvage.{Line, file_pages, page_lines, salvage_lines}
use Rattle.salvage_scan.specs.Scan.{IsPutLine, IsPutPart, IsScanSoFar, ScanState}
use Rattle.salvage_scan.specs.Text.{counts_shown}
use Rattle.salvage_scan.proofs.PageSteps.{first_pages, next_page, no_page}
use Rattle.salvage_scan.proofs.ScanSteps.{at_start, cause_later, ends, goes_on, stops}
use Rattle.salvage_scan.proofs.salvaging.put_pages.Goals as goal

pub loop-done-init : goal.loop-done-init
loop-done-init g c =
    record {
      rooms = c.requires.rooms;
      pages = refl;
      later = omega arith;
      out_later = omega arith;
      only_read = λ told. not_read c.args.disk.now;
      on = λ told.
          let pages : Pages = file_pages c.args.codec.now (g.D.Disk.reads c.args.disk.now) in
          let s : ScanState = record { taken = g.K.Sink.taken c.args.out.now; waits = c.args.scan.now.line; counts = counts_shown c.args.scan.now.counts } in
          subst (λ (more : List Line). IsScanSoFar g.K.Sink.tells (salvage_lines pages) more s s) (first_pages (page_lines pages) pages.count)
          (at_start g.K.Sink.tells (salvage_lines pages) s);
    }

pub put_page-requires-clause-pages : goal.put_page-requires-clause-pages
put_page-requires-clause-pages g c told =
    let same : g.D.Disk.reads c.loop-done.disk ≡ g.D.Disk.reads c.args.disk.now = (c.loop-done.invariant.only_read told).stays in
    c.loop-done.invariant.pages ∙ c.requires.pages told ∙ ap (λ (files : Files). (file_pages c.args.codec.now files).count) (sym same)

pub returns-in-Err-clause-on : goal.returns-in-Err-clause-on
returns-in-Err-clause-on g c told =
    let pages : Pages = file_pages c.args.codec.now (g.D.Disk.reads c.args.disk.now) in
    let same : g.D.Disk.reads c.loop-done.disk ≡ g.D.Disk.reads c.args.disk.now = (c.loop-done.invariant.only_read told).stays in
    let less = c.loop-done-test.true in
    let all = c.requires.pages told in
    let next = next_page (page_lines pages) pages.count c.loop-done.done (omega (arith, less, all)) in
    stops (record { taken = g.K.Sink.taken c.put_page.new.out; waits = c.put_page.new.scan.line; counts = counts_shown c.put_page.new.scan.counts })
    (page_lines pages (c.loop-done.done + 1)) (flat_map (page_lines pages) (range_with_len (c.loop-done.done + 1 + 1) (pages.count - (c.loop-done.done + 1))))
    (subst (λ (more : List Line). IsScanSoFar g.K.Sink.tells (salvage_lines pages) more
    (record { taken = g.K.Sink.taken c.args.out.now; waits = c.args.scan.now.line; counts = counts_shown c.args.scan.now.counts })
    (record { taken = g.K.Sink.taken c.loop-done.out; waits = c.loop-done.scan.line; counts = counts_shown c.loop-done.scan.counts })) next (c.loop-done.invariant.on told))
    (subst (λ (files : Files). IsPutPart g.K.Sink.tells (page_lines (file_pages c.args.codec.now files) (c.loop-done.done + 1))
    (record { taken = g.K.Sink.taken c.loop-done.out; waits = c.loop-done.scan.line; counts = counts_shown c.loop-done.scan.counts })
    (record { taken = g.K.Sink.taken c.put_page.new.out; waits = c.put_page.new.scan.line; counts = counts_shown c.put_page.new.scan.counts })) same (c.in-Err.ensures.on told))

pub returns-in-Err-clause-cause : goal.returns-in-Err-clause-cause
returns-in-Err-clause-cause g c =
    cause_later (g.D.Disk.faults c.args.disk.now) (g.D.Disk.faults c.loop-done.disk) (g.D.Disk.faults c.put_page.new.disk)
    (g.K.Sink.faults c.args.out.now) (g.K.Sink.faults c.loop-done.out) (g.K.Sink.faults c.put_page.new.out) c.in-Err.error
    c.loop-done.invariant.later c.loop-done.invariant.out_later c.in-Err.ensures.cause

pub returns-in-Err-clause-only_read : goal.returns-in-Err-clause-only_read
returns-in-Err-clause-only_read g c told = then_read (c.loop-done.invariant.only_read told) (c.in-Err.ensures.only_read told)

pub loop-done-preserved : goal.loop-done-preserved
loop-done-preserved g c =
    record {
      rooms = c.in-Ok.ensures.rooms;
      pages = c.in-Ok.ensures.pages ∙ c.loop-done.invariant.pages;
      later = let before = c.loop-done.invariant.later in let more = c.in-Ok.ensures.later in omega (arith, before, more);
      out_later = let before = c.loop-done.invariant.out_later in let more = c.in-Ok.ensures.out_later in omega (arith, before, more);
      only_read = λ told. then_read (c.loop-done.invariant.only_read told) (c.in-Ok.ensures.only_read told);
      on = λ told.
          let pages : Pages = file_pages c.args.codec.now (g.D.Disk.reads c.args.disk.now) in
          let same : g.D.Disk.reads c.loop-done.disk ≡ g.D.Disk.reads c.args.disk.now = (c.loop-done.invariant.only_read told).stays in
          let less = c.loop-done-test.true in
          let all = c.requires.pages told in
          let next = next_page (page_lines pages) pages.count c.loop-done.done (omega (arith, less, all)) in
          goes_on (page_lines pages (c.loop-done.done + 1)) (flat_map (page_lines pages) (range_with_len (c.loop-done.done + 1 + 1) (pages.count - (c.loop-done.done + 1))))
          (subst (λ (more : List Line). IsScanSoFar g.K.Sink.tells (salvage_lines pages) more
          (record { taken = g.K.Sink.taken c.args.out.now; waits = c.args.scan.now.line; counts = counts_shown c.args.scan.now.counts })
          (record { taken = g.K.Sink.taken c.loop-done.out; waits = c.loop-done.scan.line; counts = counts_shown c.loop-done.scan.counts })) next (c.loop-done.invariant.on told))
          (subst (λ (files : Files). IsPutLine g.K.Sink.tells (page_lines (file_pages c.args.codec.now files) (c.loop-done.done + 1))
          (record { taken = g.K.Sink.taken c.loop-done.out; waits = c.loop-done.scan.line; counts = counts_shown c.loop-done.scan.counts })
          (record { taken = g.K.Sink.taken c.put_page.new.out; waits = c.put_page.new.scan.line; counts = counts_shown c.put_page.new.scan.counts })) same (c.in-Ok.ensures.on told));
    }

pub returns-clause-on : goal.returns-clause-on
returns-clause-on g c told =
    let pages : Pages = file_pages c.args.codec.now (g.D.Disk.reads c.args.disk.now) in
    let past = c.loop-done-test.false in
    let all = c.requires.pages told in
    ends
    (subst (λ (more : List Line). IsScanSoFar g.K.Sink.tells (salvage_lines pages) more
    (record { taken = g.K.Sink.taken c.args.out.now; waits = c.args.scan.now.line; counts = counts_shown c.args.scan.now.counts })
    (record { taken = g.K.Sink.taken c.loop-done.out; waits = c.loop-done.scan.line; counts = counts_shown c.loop-done.scan.counts }))
    (no_page (page_lines pages) pages.count c.loop-done.done (omega (arith, past, all))) (c.loop-done.invariant.on told))
