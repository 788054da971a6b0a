use Rattle.std.proofs.Common.{◌≡◌, ◌+◌, List, drop, arith, refl, ap, sym, subst, ◌∙◌}
use Rattle.std.specs.List.{flat_map}
use Rattle.btree_page.specs.Shown.{cell_shown}
use Rattle.edge_model.specs.Files.{Files}
use Rattle.pager.specs.Reads.{not_read, then_read}
use Rattle.salvage_scan.specs.Salvage.{Line, cell_lines, file_pages}
use Rattle.salvage_scan.specs.Scan.{IsPutLine, IsPutPart, IsScanSoFar}
use Rattle.salvage_scan.specs.Text.{counts_shown}
use Rattle.salvage_scan.proofs.PageSteps.{next_cell, no_cell}
use Rattle.salvage_scan.proofs.ScanSteps.{at_start, cause_later, ends, goes_on, stops}
use Rattle.salvage_scan.proofs.page.put_cells.Goals as goal

pub loop-index-init : goal.loop-index-init
loop-index-init g c =
    record {
      rooms = c.requires.rooms;
      pages = refl;
      later = omega arith;
      out_later = omega arith;
      only_read = λ told. not_read c.args.disk.now;
      on = λ told. at_start g.K.Sink.tells (flat_map (cell_lines (file_pages c.args.codec.now (g.D.Disk.reads c.args.disk.now)) c.args.n) c.args.page.now.cells)
          (record { taken = g.K.Sink.taken c.args.out.now; waits = c.args.scan.now.line; counts = counts_shown c.args.scan.now.counts });
    }

pub put_cell-requires-clause-pages : goal.put_cell-requires-clause-pages
put_cell-requires-clause-pages g c told =
    let same : g.D.Disk.reads c.loop-index.disk ≡ g.D.Disk.reads c.args.disk.now = (c.loop-index.invariant.only_read told).stays in
    c.loop-index.invariant.pages ∙ c.requires.pages told ∙ ap (λ (files : Files). (file_pages c.args.codec.now files).count) (sym same)

pub returns-in-Err-clause-on : goal.returns-in-Err-clause-on
returns-in-Err-clause-on g c told =
    let same : g.D.Disk.reads c.loop-index.disk ≡ g.D.Disk.reads c.args.disk.now = (c.loop-index.invariant.only_read told).stays in
    let lines = cell_lines (file_pages c.args.codec.now (g.D.Disk.reads c.args.disk.now)) c.args.n in
    let next = next_cell lines c.args.page.now.cells c.loop-index.index (cell_shown c.cell-cell.result) c.cell-cell.ensures.cell in
    stops (record { taken = g.K.Sink.taken c.put_cell.new.out; waits = c.put_cell.new.scan.line; counts = counts_shown c.put_cell.new.scan.counts })
    (lines (cell_shown c.cell-cell.result)) (flat_map lines (drop (c.loop-index.index + 1) c.args.page.now.cells))
    (subst (λ (more : List Line). IsScanSoFar g.K.Sink.tells (flat_map lines c.args.page.now.cells) more
    (record { taken = g.K.Sink.taken c.args.out.now; waits = c.args.scan.now.line; counts = counts_shown c.args.scan.now.counts })
    (record { taken = g.K.Sink.taken c.loop-index.out; waits = c.loop-index.scan.line; counts = counts_shown c.loop-index.scan.counts })) next (c.loop-index.invariant.on told))
    (subst (λ (files : Files). IsPutPart g.K.Sink.tells (cell_lines (file_pages c.args.codec.now files) c.args.n (cell_shown c.cell-cell.result))
    (record { taken = g.K.Sink.taken c.loop-index.out; waits = c.loop-index.scan.line; counts = counts_shown c.loop-index.scan.counts })
    (record { taken = g.K.Sink.taken c.put_cell.new.out; waits = c.put_cell.new.scan.line; counts = counts_shown c.put_cell.new.scan.counts })) same (c.in-Err.ensures.on told))

pub returns-in-Err-clause-cause : goal.returns-in-Err-clause-cause
returns-in-Err-clause-cause g c =
    cause_later (g.D.Disk.faults c.args.disk.now) (g.D.Disk.faults c.loop-index.disk) (g.D.Disk.faults c.put_cell.new.disk)
    (g.K.Sink.faults c.args.out.now) (g.K.Sink.faults c.loop-index.out) (g.K.Sink.faults c.put_cell.new.out) c.in-Err.error
    c.loop-index.invariant.later c.loop-index.invariant.out_later c.in-Err.ensures.cause

pub returns-in-Err-clause-only_read : goal.returns-in-Err-clause-only_read
returns-in-Err-clause-only_read g c told = then_read (c.loop-index.invariant.only_read told) (c.in-Err.ensures.only_read told)

pub loop-index-preserved : goal.loop-index-preserved
loop-index-preserved g c =
    record {
      rooms = c.in-Ok.ensures.rooms;
      pages = c.in-Ok.ensures.pages ∙ c.loop-index.invariant.pages;
      later = let before = c.loop-index.invariant.later in let more = c.in-Ok.ensures.later in omega (arith, before, more);
      out_later = let before = c.loop-index.invariant.out_later in let more = c.in-Ok.ensures.out_later in omega (arith, before, more);
      only_read = λ told. then_read (c.loop-index.invariant.only_read told) (c.in-Ok.ensures.only_read told);
      on = λ told.
          let same : g.D.Disk.reads c.loop-index.disk ≡ g.D.Disk.reads c.args.disk.now = (c.loop-index.invariant.only_read told).stays in
          let lines = cell_lines (file_pages c.args.codec.now (g.D.Disk.reads c.args.disk.now)) c.args.n in
          let next = next_cell lines c.args.page.now.cells c.loop-index.index (cell_shown c.cell-cell.result) c.cell-cell.ensures.cell in
          goes_on (lines (cell_shown c.cell-cell.result)) (flat_map lines (drop (c.loop-index.index + 1) c.args.page.now.cells))
          (subst (λ (more : List Line). IsScanSoFar g.K.Sink.tells (flat_map lines c.args.page.now.cells) more
          (record { taken = g.K.Sink.taken c.args.out.now; waits = c.args.scan.now.line; counts = counts_shown c.args.scan.now.counts })
          (record { taken = g.K.Sink.taken c.loop-index.out; waits = c.loop-index.scan.line; counts = counts_shown c.loop-index.scan.counts })) next (c.loop-index.invariant.on told))
          (subst (λ (files : Files). IsPutLine g.K.Sink.tells (cell_lines (file_pages c.args.codec.now files) c.args.n (cell_shown c.cell-cell.result))
          (record { taken = g.K.Sink.taken c.loop-index.out; waits = c.loop-index.scan.line; counts = counts_shown c.loop-index.scan.counts })
          (record { taken = g.K.Sink.taken c.put_cell.new.out; waits = c.put_cell.new.scan.line; counts = counts_shown c.put_cell.new.scan.counts })) same (c.in-Ok.ensures.on told));
    }

pub returns-clause-on : goal.returns-clause-on
returns-clause-on g c told =
    let lines = cell_lines (file_pages c.args.codec.now (g.D.Disk.reads c.args.disk.now)) c.args.n in
    let past = c.loop-index-test.false in
    let all = c.count-index-end.ensures in
    ends
    (subst (λ (more : List Line). IsScanSoFar g.K.Sink.tells (flat_map lines c.args.page.now.cells) more
    (record { taken = g.K.Sink.taken c.args.out.now; waits = c.args.scan.now.line; counts = counts_shown c.args.scan.now.counts })
    (record { taken = g.K.Sink.taken c.loop-index.out; waits = c.loop-index.scan.line; counts = counts_shown c.loop-index.scan.counts }))
    (no_cell lines c.args.page.now.cells c.loop-index.index (omega (arith, past, all))) (c.loop-index.invariant.on told))
