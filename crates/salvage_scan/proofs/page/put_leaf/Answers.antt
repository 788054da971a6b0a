use Rattle.std.proofs.Common.{List, ap, sym, subst, ◌∙◌}
use Rattle.salvage_scan.specs.Salvage.{Line, file_pages, is_table_leaf}
use Rattle.salvage_scan.specs.Scan.{IsPutLine, IsSalvaged}
use Rattle.salvage_scan.specs.Text.{counts_shown}
use Rattle.salvage_scan.proofs.PageSteps.{leaf_faulty, leaf_read, no_leaf}
use Rattle.salvage_scan.proofs.ScanSteps.{nothing_put, out_causes}
use Rattle.salvage_scan.proofs.page.put_leaf.Goals as goal

pub returns-then-not-is_table_leaf-clause-on : goal.returns-then-not-is_table_leaf-clause-on
returns-then-not-is_table_leaf-clause-on g c told =
    let other = ap is_table_leaf (sym c.page_kind.ensures) ∙ sym c.if-not-is_table_leaf.ensures in
    subst (λ (lines : List Line). IsPutLine g.K.Sink.tells lines
    (record { taken = g.K.Sink.taken c.args.out.now; waits = c.args.scan.now.line; counts = counts_shown c.args.scan.now.counts })
    (record { taken = g.K.Sink.taken c.args.out.now; waits = c.args.scan.now.line; counts = counts_shown c.args.scan.now.counts }))
    (sym (no_leaf (file_pages c.args.codec.now (g.D.Disk.reads c.args.disk.now)) c.args.n c.args.bytes.now other))
    (nothing_put g.K.Sink.tells (record { taken = g.K.Sink.taken c.args.out.now; waits = c.args.scan.now.line; counts = counts_shown c.args.scan.now.counts }))

pub returns-in-Err-clause-on : goal.returns-in-Err-clause-on
returns-in-Err-clause-on g c told =
    let leaf = ap is_table_leaf (sym c.page_kind.ensures) ∙ sym c.if-not-is_table_leaf.ensures in
    subst (λ (lines : List Line). IsSalvaged g.K.Sink.tells lines
    (record { taken = g.K.Sink.taken c.args.out.now; waits = c.args.scan.now.line; counts = counts_shown c.args.scan.now.counts })
    (record { taken = g.K.Sink.taken c.put_fault.new.out; waits = c.put_fault.new.scan.line; counts = counts_shown c.put_fault.new.scan.counts }) c.put_fault.result)
    (leaf_faulty (file_pages c.args.codec.now (g.D.Disk.reads c.args.disk.now)) c.args.n c.args.bytes.now c.in-Err.fault leaf (sym c.read.ensures ∙ c.in-Err.is))
    c.put_fault.ensures.on

pub returns-in-Err-clause-cause : goal.returns-in-Err-clause-cause
returns-in-Err-clause-cause g c =
    out_causes (g.D.Disk.faults c.args.disk.now) (g.D.Disk.faults c.args.disk.now) (g.K.Sink.faults c.args.out.now) (g.K.Sink.faults c.put_fault.new.out) c.put_fault.result c.put_fault.ensures.cause

pub returns-in-Ok-clause-on : goal.returns-in-Ok-clause-on
returns-in-Ok-clause-on g c told =
    let leaf = ap is_table_leaf (sym c.page_kind.ensures) ∙ sym c.if-not-is_table_leaf.ensures in
    subst (λ (lines : List Line). IsSalvaged g.K.Sink.tells lines
    (record { taken = g.K.Sink.taken c.args.out.now; waits = c.args.scan.now.line; counts = counts_shown c.args.scan.now.counts })
    (record { taken = g.K.Sink.taken c.put_cells.new.out; waits = c.put_cells.new.scan.line; counts = counts_shown c.put_cells.new.scan.counts }) c.put_cells.result)
    (leaf_read (file_pages c.args.codec.now (g.D.Disk.reads c.args.disk.now)) c.args.n c.args.bytes.now c.in-Ok.page leaf (sym c.read.ensures ∙ c.in-Ok.is))
    (c.put_cells.ensures.on told)
